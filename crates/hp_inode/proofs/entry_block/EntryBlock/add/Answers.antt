use Rattle.std.proofs.Common.{rules, ap, ◌∙◌, ◌≡◌, ◌≤◌, ◌*◌, ◌||◌, ◌/◌, ◌%◌, ◌+◌, min, ℕ, length}
use Rattle.hp_model.proofs.Words.{within}
use Rattle.hp_marks.specs.Marks.{marked}
use Rattle.hp_inode.proofs.Spread.{spread_entries}
use Rattle.hp_inode.proofs.Tables.{written_back}
use Rattle.hp_inode.proofs.entry_block.EntryBlock.add.Goals as goal

pub invariant_of-self : goal.invariant_of-self
invariant_of-self c =
    let words = c.self.inside.words.items in
    let marks = c.self.inside.marks.items in
    let a = c.args.a in
    let b = c.args.b in
    let enough : b ≤ 64 * length words = rw c.self.view_is (c.requires c.if-a-b.false) in
    let long : length c.set_marks.new.words ≡ length words = search rules in
    let longs : length c.set_marks-2.new.words ≡ length marks = search rules in
    let here : (k : ℕ) → marked c.set_marks.new.words k ≡ (marked words k || within a b k) = λ k. c.set_marks.ensures k ∙ ap (λ ws. marked ws k || within a b k) c.as_mut_slice.ensures.value in
    let above : (k : ℕ) → marked c.set_marks-2.new.words k ≡ (marked marks k || within (a / 64) (b / 64 + min 1 (b % 64)) k) =
    λ k. c.set_marks-2.ensures k ∙ ap (λ ws. marked ws k || within (a / 64) c.div_ceil.result k) c.as_mut_slice-2.ensures.value ∙ ap (λ n. marked marks k || within (a / 64) n k) c.div_ceil.ensures in
    rw (written_back words c.set_marks.new.words long, written_back marks c.set_marks-2.new.words longs)
    (spread_entries words marks c.set_marks.new.words c.set_marks-2.new.words a b c.self.invariant enough long longs here above)

pub returns : goal.returns
returns c k =
    let words = c.self.inside.words.items in
    let long : length c.set_marks.new.words ≡ length words = search rules in
    rw (written_back words c.set_marks.new.words long)
    (c.set_marks.ensures k ∙ ap (λ ws. marked ws k || within c.args.a c.args.b k) (c.as_mut_slice.ensures.value ∙ c.self.view_is))
