use Rattle.std.proofs.Common.{◌≡◌, ◌+◌, vec_capacity}
use Rattle.hp_store.specs.Kept.{page_count}
use Rattle.hp_store.proofs.holdings.spend_pages.Given as goal

abbrev pub invariant-loop-slot : goal.invariant-loop-slot
invariant-loop-slot g l = record {
  spent : l.tally + page_count l.pages.items ≡ l.initial.tally + page_count l.initial.pages.items;
  capacity : vec_capacity l.pages ≡ vec_capacity l.initial.pages;
}

abbrev pub decreases-loop-slot : goal.decreases-loop-slot
decreases-loop-slot g l = goal.left-loop-slot g l
