use Rattle.std.proofs.Common.{◌≡◌, ◌+◌, get_or, true, arith, sym, ap, ◌∙◌}
use Rattle.std.proofs.lemmas.List.{get_or-drop, take_rest}
use Rattle.hp_model.proofs.Words.{is_word_byte}
use Rattle.hp_wire_lines.proofs.WordEnds.{word_more}
use Rattle.hp_wire_lines.proofs.words.end_of_word.Goals as goal

pub loop-n-preserved : goal.loop-n-preserved
loop-n-preserved c =
    let l = c.loop-n in
    let line = c.args.line.now in
    let from = c.args.from in
    let next : from + (l.n + 1) ≡ from + l.n + 1 = omega arith in
    let printed : is_word_byte (get_or line (from + l.n) 0) ≡ true =
    sym (ap (λ xs. is_word_byte (get_or xs l.n 0)) (take_rest line from) ∙ ap is_word_byte (get_or-drop from line l.n 0))
    ∙ sym c.is_word_byte.ensures ∙ c.if-is_word_byte.true in
    let more = word_more line from (from + l.n) (omega arith) (omega arith) printed l.invariant.printed l.invariant.front in
    record { some = omega arith; within = omega arith; printed = rw next more.0; front = rw next more.1 }
