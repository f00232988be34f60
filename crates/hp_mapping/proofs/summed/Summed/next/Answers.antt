use Rattle.std.proofs.Common.{ℕ, ◌≡◌, ◌+◌, ◌*◌, ◌/◌, ◌<◌, ◌≤◌, false}
use Rattle.hp_marks.specs.Marks.{marked, IsFirstFrom}
use Rattle.hp_mapping.proofs.SummedWords.{found_above}
use Rattle.hp_mapping.proofs.summed.Summed.next.Goals as goal

pub returns : goal.returns
returns c =
    let s = c.self.inside in
    let from = c.args.from in
    let at = c.in_ok-word.word in
    let none : (k : ℕ) → from ≤ k → k < 64 * (from / 64) + 64 → marked s.words.items k ≡ false = rw (← c.as_slice-words.ensures) c.in_default.ensures in
    let word : IsFirstFrom s.above.items (from / 64 + 1) at = rw (← c.as_slice.ensures) c.in_ok-word.ensures in
    let first : IsFirstFrom s.words.items (64 * at) c.lowest_in.result = rw (← c.as_slice-words.ensures) c.lowest_in.ensures in
    rw (← c.self.view_is) (found_above s.words.items s.above.items from c.self.invariant none at c.lowest_in.result word first)
