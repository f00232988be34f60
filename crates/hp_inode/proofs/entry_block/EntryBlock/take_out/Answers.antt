use Rattle.std.proofs.Common.{rules, ap, ◌∙◌, ◌≡◌, ℕ, true, false, not, eqb, length, arith}
use Rattle.std.proofs.lemmas.Bool.Decides.{nat_tests}
use Rattle.hp_marks.specs.Marks.{marked}
use Rattle.hp_inode.proofs.Alone.{one_gone, put_out}
use Rattle.hp_inode.proofs.Tables.{written_back}
use Rattle.hp_inode.proofs.entry_block.EntryBlock.take_out.Goals as goal

zero_of : (n : ℕ) → not (eqb n 0) ≡ false → n ≡ 0
zero_of n off = grind (arith, nat_tests)

pub invariant_of-self : goal.invariant_of-self
invariant_of-self c =
    let words = c.self.inside.words.items in
    let marks = c.self.inside.marks.items in
    let new = c.set_mark.new.words in
    let news = c.change_mark.new.words.items in
    let i = c.args.i in
    let on : marked words i ≡ true = rw c.self.view_is c.requires in
    let long : length new ≡ length words = search rules in
    let others : (k : ℕ) → (k ≡ i → ⊥) → marked new k ≡ marked words k = λ k other. c.set_mark.ensures.others k other ∙ ap (λ ws. marked ws k) c.as_mut_slice-words.ensures.value in
    rw (written_back words new long)
    (one_gone words marks new news i c.self.invariant on c.set_mark.ensures.here others _ (λ off. zero_of _ off) long c.change_mark.ensures.len c.change_mark.ensures.here c.change_mark.ensures.others)

pub returns : goal.returns
returns c =
    let words = c.self.inside.words.items in
    let new = c.set_mark.new.words in
    let long : length new ≡ length words = search rules in
    rw (written_back words new long, ← c.self.view_is)
    (put_out (marked words) (marked new) c.args.i (λ k other. c.set_mark.ensures.others k other ∙ ap (λ ws. marked ws k) c.as_mut_slice-words.ensures.value) c.set_mark.ensures.here)
