use Rattle.std.proofs.Common.{◌≡◌, ◌-◌, ◌%◌, ◌<◌, ◌∙◌, ap, arith, drop, length, sym, take}
use Rattle.std.proofs.lemmas.Bool.Decides.{nat_tests}
use Rattle.std.proofs.lemmas.List.{take_rest}
use Rattle.hp_model.proofs.Words.{bytes_of_hex}
use Rattle.hp_wire_lines.proofs.LastHex.{empty_read, good_read, last_from, last_past, not_read, odd_read}
use Rattle.hp_wire_lines.proofs.words.Words.last_hex.Goals.{then-is_empty-via-then-is_empty, then-is_empty-via-else-is_empty+then-digits-ne0}
use Rattle.hp_wire_lines.proofs.words.Words.last_hex.Goals as goal

pub returns-then-self : goal.returns-then-self
returns-then-self c = last_past c.self.inside.line.now c.self.inside.at c.args.self.now (omega arith) c.self.view_is

pub returns-then-is_empty : goal.returns-then-is_empty
returns-then-is_empty c =
    let line = c.self.inside.line.now in
    let at = c.self.inside.at in
    let all : length (take (length line - at) (drop at line)) ≡ length (drop at line) = ap length (take_rest line at) in
    last_from line at c.args.self.now (omega arith) c.self.view_is ∙ elim c.then-is_empty.branch [
      | then-is_empty-via-then-is_empty w ↦
          let none : length (take (length line - at) (drop at line)) ≡ 0 = grind (arith, nat_tests, c.is_empty.ensures, w.if-is_empty.true) in
          empty_read (drop at line) (sym all ∙ none)
      | then-is_empty-via-else-is_empty+then-digits-ne0 w ↦
          let odd : length (take (length line - at) (drop at line)) % 2 ≡ 1 = omega (arith, w.if-digits-ne0.true) in
          odd_read (drop at line) (ap (λ n. n % 2) (sym all) ∙ odd)
    ]

pub returns : goal.returns
returns c =
    let line = c.self.inside.line.now in
    let at = c.self.inside.at in
    let all = take_rest line at in
    let some : 0 < length (take (length line - at) (drop at line)) = grind (arith, nat_tests, c.is_empty.ensures, c.if-is_empty.false) in
    last_from line at c.args.self.now (omega arith) c.self.view_is ∙ sym (ap bytes_of_hex all)
    ∙ good_read (take (length line - at) (drop at line)) c.decode.new.out c.decode.result some (omega (arith, c.if-digits-ne0.false)) c.if-not-decode.false c.decode.ensures

pub returns-then-not-decode : goal.returns-then-not-decode
returns-then-not-decode c =
    let line = c.self.inside.line.now in
    let at = c.self.inside.at in
    last_from line at c.args.self.now (omega arith) c.self.view_is ∙ sym (ap bytes_of_hex (take_rest line at))
    ∙ not_read (take (length line - at) (drop at line)) c.decode.new.out c.decode.result c.if-not-decode.true c.decode.ensures
