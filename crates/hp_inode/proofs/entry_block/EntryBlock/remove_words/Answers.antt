use Rattle.std.proofs.Common.{rules, ap, ◌∙◌, ◌≡◌, ◌&&◌, not, ◌*◌, ℕ, length}
use Rattle.hp_model.proofs.Words.{within}
use Rattle.hp_inode.specs.EntryBlock.{IsRemoved}
use Rattle.hp_marks.specs.Marks.{marked}
use Rattle.hp_inode.proofs.Removed.{removed_entries}
use Rattle.hp_inode.proofs.Tables.{written_back}
use Rattle.hp_inode.proofs.entry_block.EntryBlock.remove_words.Goals as goal

pub invariant_of-self : goal.invariant_of-self
invariant_of-self c =
    let words = c.self.inside.words.items in
    let marks = c.self.inside.marks.items in
    let long : length c.clear_words-count.new.words ≡ length words = search rules in
    let longs : length c.clear_marks.new.words ≡ length marks = search rules in
    let here : IsRemoved (64 * c.args.from) (64 * c.args.end) words c.clear_words-count.new.words c.clear_words-count.result = rw c.as_mut_slice.ensures.value at c.clear_words-count.ensures in
    let above : (j : ℕ) → marked c.clear_marks.new.words j ≡ (marked marks j && not (within c.args.from c.args.end j)) =
    λ j. c.clear_marks.ensures j ∙ ap (λ ws. marked ws j && not (within c.args.from c.args.end j)) c.as_mut_slice-2.ensures.value in
    rw (written_back words c.clear_words-count.new.words long, written_back marks c.clear_marks.new.words longs)
    (removed_entries words marks c.clear_words-count.new.words c.clear_marks.new.words c.args.from c.args.end c.clear_words-count.result c.self.invariant long longs here above)
