use Rattle.std.proofs.Common.{◌≡◌, ◌∷◌, [], ◌+◌, ◌-◌, arith, sym, ap, ◌∙◌, length-drop, length-take, drop}
use Rattle.std.proofs.lemmas.Bool.Decides.{nat_tests}
use Rattle.hp_model.proofs.Words.{word_at}
use Rattle.hp_wire_lines.proofs.WordEnds.{ends_at_end, ends_at_space, word_bad, word_ends, word_none, word_not_here}
use Rattle.hp_wire_lines.specs.Words.{between, pieces_from}
use Rattle.hp_wire_lines.proofs.words.Words.word.Goals.{then-from-line-via-then-from-line, then-from-line-via-else-from-line+then-not-is_word_byte}
use Rattle.hp_wire_lines.proofs.words.Words.word.Goals.{else-end-line-via-then-end-line+else-line-end-ne32, else-end-line-via-else-end-line}
use Rattle.hp_wire_lines.proofs.words.Words.word.Goals as goal

pub returns-then-from-line : goal.returns-then-from-line
returns-then-from-line c =
    let line = c.self.inside.line.now in
    let at = c.self.inside.at in
    ap word_at (sym c.self.view_is) ∙ elim c.then-from-line.branch [
      | then-from-line-via-then-from-line w ↦ word_none line at (omega arith)
      | then-from-line-via-else-from-line+then-not-is_word_byte w ↦ word_not_here line at (omega arith) (sym w.is_word_byte.ensures ∙ w.if-not-is_word_byte.true)
    ]

pub returns-then-line-end-ne32 : goal.returns-then-line-end-ne32
returns-then-line-end-ne32 c =
    let end = c.end_of_word-end in
    ap word_at (sym c.self.view_is)
    ∙ word_bad c.self.inside.line.now c.self.inside.at end.result (omega arith) (grind (arith, nat_tests, c.if-line-end-ne32.true)) (end.ensures.stops (omega arith)) end.ensures.front

pub returns : goal.returns
returns c =
    let line = c.self.inside.line.now in
    let at = c.self.inside.at in
    let end = c.end_of_word-end in
    let ended : pieces_from end.result line ≡ [] ∷ pieces_from (end.result + 1) line = elim c.else-end-line.branch [
      | else-end-line-via-then-end-line+else-line-end-ne32 w ↦ ends_at_space line end.result (omega arith) w.if-line-end-ne32.false
      | else-end-line-via-else-end-line w ↦ ends_at_end line end.result (omega arith)
    ] in
    ap word_at (sym c.self.view_is)
    ∙ word_ends (between at end.result line) (pieces_from at line) (pieces_from end.result line) (pieces_from (end.result + 1) line) end.ensures.front ended
    (omega (arith, length-take (end.result - at) (drop at line), length-drop at line)) end.ensures.printed
