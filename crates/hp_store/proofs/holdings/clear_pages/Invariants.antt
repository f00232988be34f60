use Rattle.std.proofs.Common.{◌≡◌, ℕ, slice_index_or, None, vec_capacity}
use Rattle.hp_store.proofs.holdings.clear_pages.Given as goal

abbrev pub invariant-loop-slot : goal.invariant-loop-slot
invariant-loop-slot g l = record {
  empty : (n : ℕ) → slice_index_or l.pages.items n None ≡ None;
  capacity : vec_capacity l.pages ≡ vec_capacity l.initial.pages;
}

abbrev pub decreases-loop-slot : goal.decreases-loop-slot
decreases-loop-slot g l = goal.left-loop-slot g l
