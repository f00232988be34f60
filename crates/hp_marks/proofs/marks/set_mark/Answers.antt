use Rattle.std.proofs.Common.{sym, ◌∙◌, ◌%◌, arith}
use Rattle.std.specs.Int.{w64}
use Rattle.std.proofs.lemmas.Nat.Bits.{bit_at_set_same, bit_at_set_other, bit_at_clear_same, bit_at_clear_other}
use Rattle.hp_marks.proofs.Words.{marked_here, unmarked_here, marked_other}
use Rattle.hp_marks.proofs.marks.set_mark.Goals as goal

pub returns-then-on-clause-here : goal.returns-then-on-clause-here
returns-then-on-clause-here c = marked_here c.args.words.now c.args.k _ (omega arith) (bit_at_set_same w64 _ (c.args.k % 64) (omega arith)) ∙ sym c.if-on.true

pub returns-then-on-clause-others : goal.returns-then-on-clause-others
returns-then-on-clause-others c j differs = marked_other c.args.words.now c.args.k _ j (omega arith) (λ i lt other. bit_at_set_other w64 _ (c.args.k % 64) (omega arith) i other) differs

pub returns-clause-here : goal.returns-clause-here
returns-clause-here c = unmarked_here c.args.words.now c.args.k _ (omega arith) (bit_at_clear_same w64 _ (c.args.k % 64) (omega arith)) ∙ sym c.if-on.false

pub returns-clause-others : goal.returns-clause-others
returns-clause-others c j differs = marked_other c.args.words.now c.args.k _ j (omega arith) (λ i lt other. bit_at_clear_other w64 _ (c.args.k % 64) (omega arith) i lt other) differs
