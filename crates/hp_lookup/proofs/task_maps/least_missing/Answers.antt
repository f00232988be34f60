use Rattle.std.proofs.lemmas.Grind.{common_steps}
use Rattle.std.proofs.Common.{◌≡◌, ◌-◌, ◌+◌, ◌/◌, ◌<◌, ℕ, List, length, get_or, false, arith, refl, sym, ◌∙◌}
use Rattle.hp_lookup.proofs.Rising.{from_on, next_free, next_used, up_to}
use Rattle.hp_lookup.proofs.task_maps.least_missing.Goals as goal

pub loop-low-preserved-then-key-mid : goal.loop-low-preserved-then-key-mid
loop-low-preserved-then-key-mid c =
    let xs : List ℕ = c.args.maps.now in
    let mid : ℕ = c.loop-low.low + (c.loop-low.high - c.loop-low.low) / 2 in
    let l : mid < length xs = omega arith in
    let is : get_or xs mid 0 ≡ mid + 1 = grind (arith, common_steps) in
    (omega arith, omega arith, up_to xs c.requires.rise c.requires.from mid (mid + 1) refl l is, c.loop-low.invariant.3)

pub loop-low-preserved : goal.loop-low-preserved
loop-low-preserved c =
    let xs : List ℕ = c.args.maps.now in
    let mid : ℕ = c.loop-low.low + (c.loop-low.high - c.loop-low.low) / 2 in
    let key : get_or xs mid 0 ≡ c.key.result.now = grind (arith, common_steps) in
    (omega arith, omega arith, c.loop-low.invariant.2, from_on xs c.requires.rise c.requires.from mid (λ is. c.if-key-mid.false (sym key ∙ is)))

pub returns-clause-used : goal.returns-clause-used
returns-clause-used c =
    next_used c.args.maps.now c.requires.rise c.requires.from c.loop-low.low (omega arith) c.loop-low.invariant.2
    (λ i le l. c.loop-low.invariant.3 i (omega (arith, le)) l)

pub returns-clause-free : goal.returns-clause-free
returns-clause-free c =
    next_free c.args.maps.now c.requires.rise c.requires.from c.loop-low.low (omega arith) c.loop-low.invariant.2
    (λ i le l. c.loop-low.invariant.3 i (omega (arith, le)) l)
