use Rattle.std.proofs.Common.{◌≡◌, ℕ, ◌+◌, ◌*◌, ◌-◌, ◌^◌, get_or, ap, ◌∙◌, arith}
use Rattle.std.specs.Int.{IsInRange}
use Rattle.hp_wire_lines.specs.Words.{number_after, pieces_from}
use Rattle.hp_wire_lines.proofs.Fronts.{at_start, next_digit, one_more}
use Rattle.hp_wire_lines.proofs.words.front_number.Goals as goal

pub loop-at-init : goal.loop-at-init
loop-at-init c =
    let line = c.args.line.now in
    let from = c.args.from in
    let one : from + 1 - from ≡ 1 = omega arith in
    record {
      behind = omega arith;
      within = omega arith;
      small = omega (arith, c.requires.digit, c.from-value.ensures, ap (λ k. 10 ^ k) one);
      so_far = ap (λ k. number_after c.from-value.result k (pieces_from (from + 1) line)) one
          ∙ next_digit line 0 0 from c.from-value.result c.requires.from c.requires.digit (omega (arith, c.from-value.ensures)) ∙ at_start (pieces_from from line);
    }

pub overflow_mul-value : goal.overflow_mul-value
overflow_mul-value c =
    let n : ℕ = c.loop-at.at - c.args.from in
    omega (arith, (one_more c.loop-at.value n 0 c.loop-at.invariant.small (omega arith) (omega arith)).1)

pub overflow_add-value : goal.overflow_add-value
overflow_add-value c =
    let n : ℕ = c.loop-at.at - c.args.from in
    let digit : IsInRange 48 57 (get_or c.args.line.now c.loop-at.at 0) = c.if-is_ascii_digit.ensures.cases in
    omega (arith, (one_more c.loop-at.value n c.from.result c.loop-at.invariant.small (omega arith) (omega arith)).1)

pub loop-at-preserved : goal.loop-at-preserved
loop-at-preserved c =
    let line = c.args.line.now in
    let at = c.loop-at.at in
    let n : ℕ = at - c.args.from in
    let value = c.loop-at.value in
    let more : ℕ = value * 10 + c.from.result in
    let digit : IsInRange 48 57 (get_or line at 0) = c.if-is_ascii_digit.ensures.cases in
    let places : at + 1 - c.args.from ≡ n + 1 = omega arith in
    record {
      behind = omega arith;
      within = omega arith;
      small = rw places ((one_more value n c.from.result c.loop-at.invariant.small (omega arith) (omega arith)).0);
      so_far = ap (λ k. number_after more k (pieces_from (at + 1) line)) places
          ∙ next_digit line value n at more (omega arith) digit (ap (λ d. value * 10 + d) c.from.ensures) ∙ c.loop-at.invariant.so_far;
    }
