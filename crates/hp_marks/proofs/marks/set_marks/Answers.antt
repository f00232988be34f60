use Rattle.std.proofs.Common.{ℕ, ◌≡◌, ◌+◌, refl, arith, ◌/◌, ◌-◌, ◌*◌, ◌<◌, ◌≤◌, ◌^◌, length}
use Rattle.std.proofs.lemmas.List.{length-set}
use Rattle.hp_marks.specs.Marks.{marked}
use Rattle.hp_marks.proofs.Range.{set_all, set_first, set_done, set_full, set_rest}
use Rattle.hp_marks.proofs.marks.set_marks.Goals as goal

pub returns-then-first-last : goal.returns-then-first-last
returns-then-first-last c =
    let old = c.args.words.now in
    let first = c.args.a / 64 in
    let small : c.bits_within.result < 2 ^ 64 = omega arith in
    let within : first < length old = omega arith in
    set_all _ old c.args.a c.args.b (first + 1) (omega arith)
    (set_first old c.args.a c.args.b c.bits_within.result within small c.bits_within.ensures)
    (set_rest old old first _ within (λ k from. refl))

pub loop-at-init : goal.loop-at-init
loop-at-init c =
    let old = c.args.words.now in
    let first = c.args.a / 64 in
    let small : c.bits_within.result < 2 ^ 64 = omega arith in
    let within : first < length old = omega arith in
    record {
      from = omega arith;
      done = set_first old c.args.a c.args.b c.bits_within.result within small c.bits_within.ensures;
      rest = set_rest old old first _ within (λ k from. refl);
    }

pub loop-at-preserved : goal.loop-at-preserved
loop-at-preserved c =
    let words = c.loop-at.words in
    let at = c.loop-at.at in
    let within : at < length words = omega (arith, length-set {A = ℕ}) in
    record {
      from = omega arith;
      done = set_full words c.args.words.now c.args.a c.args.b at _ within (omega arith) (omega arith) (omega arith) c.loop-at.invariant.done;
      rest = set_rest words c.args.words.now at _ within c.loop-at.invariant.rest;
    }

pub returns : goal.returns
returns c =
    let words = c.loop-at.words in
    let old = c.args.words.now in
    let last = (c.args.b - 1) / 64 in
    let bits = c.bits_within-2.result in
    let small : bits < 2 ^ 64 = omega arith in
    let within : last < length words = omega (arith, length-set {A = ℕ}) in
    let rest : (k : ℕ) → 64 * last ≤ k → marked words k ≡ marked old k = λ k from. c.loop-at.invariant.rest k (omega (arith, from)) in
    set_all _ old c.args.a c.args.b (last + 1) (omega arith)
    (set_done words old c.args.a c.args.b last bits within small c.bits_within-2.ensures (λ k below. c.loop-at.invariant.done k (omega (arith, below))) rest)
    (set_rest words old last _ within rest)
