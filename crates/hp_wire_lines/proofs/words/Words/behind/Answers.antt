use Rattle.std.proofs.Common.{◌≡◌, ◌++◌, ◌∷◌, ℕ, List, true, length, take, get_or, arith, ap, ◌∙◌, length-append}
use Rattle.std.proofs.Math.Seq.{get_or-append_seam, take-append_seam}
use Rattle.std.proofs.lemmas.Slice.Eq.{bytes_eq-Decides}
use Rattle.std.specs.Str.{bytes_eq}
use Rattle.hp_wire_lines.proofs.WordEnds.{known_word, not_so}
use Rattle.hp_wire_lines.proofs.words.Words.behind.Goals.{then-line-end-via-then-line-end, then-line-end-via-else-line-end+then-line-end-ne32}
use Rattle.hp_wire_lines.proofs.words.Words.behind.Goals.{then-line-end-via-else-line-end+else-line-end-ne32+then-not-is_known}
use Rattle.hp_wire_lines.proofs.words.Words.behind.Goals as goal

pub returns-clause-some : goal.returns-clause-some
returns-clause-some c =
    let line = c.args.line.now in
    let word = c.args.word.now in
    let same : bytes_eq (take (length word) line) word ≡ true = cc in
    known_word line word (omega arith) c.if-line-end-ne32.false c.requires.printed same

pub returns-then-line-end-clause-none : goal.returns-then-line-end-clause-none
returns-then-line-end-clause-none c words h =
    let line = c.args.line.now in
    let word = c.args.word.now in
    not_so line word words (λ (back : List ℕ) (is : line ≡ word ++ 32 ∷ back).
    elim c.then-line-end.branch [
      | then-line-end-via-then-line-end w ↦ omega (arith, w.if-line-end.true, ap length is, length-append word (32 ∷ back))
      | then-line-end-via-else-line-end+then-line-end-ne32 w ↦
          w.if-line-end-ne32.true (ap (λ (l : List ℕ). get_or l (length word) 0) is ∙ get_or-append_seam word 32 back 0)
      | then-line-end-via-else-line-end+else-line-end-ne32+then-not-is_known w ↦
          let front : take (length word) line ≡ word = ap (take (length word)) is ∙ take-append_seam word (32 ∷ back) in
          let same : bytes_eq (take (length word) line) word ≡ true = (bytes_eq-Decides (take (length word) line) word).1 front in
          cc
    ]) h
