use Rattle.std.proofs.lemmas.Grind.{common_steps}
-- How many indices of one block have a page.
use Rattle.std.proofs.Common.{◌≡◌, ℕ, Bool, true, not, ◌+◌, ◌/◌, ◌%◌, ◌<◌, ◌≤◌, [], get_or, ap, arith, count_by, is_some}
use Rattle.std.specs.List.{range_with_len}
use Rattle.std.proofs.lemmas.List.FromFn.{length-range_with_len}
use Rattle.hp_model.proofs.Counting.{count_not, count_outside}
use Rattle.hp_inode.specs.Blocks.{RowBlocks, page_at}
use Rattle.hp_inode.specs.Rows.{Rows, page_in}
use Rattle.hp_inode.proofs.Blocks.{count_moved}

-- where each is counted
pub counted_whole : (p : ℕ → Bool) (a n : ℕ) → ((k : ℕ) → a ≤ k → k < a + n → p k ≡ true) → n ≡ count_by p (range_with_len a n)
counted_whole p a n all =
    omega (arith, count_not p (range_with_len a n), count_outside (λ k. not (p k)) a n (λ k low high. ap not (all k low high)), length-range_with_len a n)

module _ (rows : RowBlocks) (a n : ℕ) (fits : a % 65536 + n ≤ 65536) where
  -- by the indices of their block
  pub counted_in_block : (block : Rows) → get_or rows (a / 65536) [] ≡ block →
      count_by (λ k. is_some (page_in block k)) (range_with_len (a % 65536) n) ≡ count_by (λ k. is_some (page_at rows k)) (range_with_len a n)
  counted_in_block block is = grind (arith, common_steps, count_moved)

  -- in a block that was not made none has one
  pub none_in_block : get_or rows (a / 65536) [] ≡ [] → 0 ≡ count_by (λ k. is_some (page_at rows k)) (range_with_len a n)
  none_in_block is = grind (arith, common_steps, count_outside)
