use Rattle.std.proofs.Common.{◌≡◌, ℕ, ◌+◌, ◌-◌, ◌≤◌, length, sum_by}
use Rattle.hp_lookup.proofs.Words.{IsSharing, in_lists, joined, list_copies, more_in}
use Rattle.hp_file.specs.ForkLists.{AreFit, spread}
use Rattle.hp_file.proofs.fork_lists.join_all.Given as goal

abbrev pub invariant-loop-file : goal.invariant-loop-file
invariant-loop-file g l = record {
  fit : AreFit 0 l.files.files l.lists.items;
  files : joined l.files.files (spread l.lists.items) ≡ joined l.initial.files.files (spread l.initial.lists.items);
  sharing : IsSharing (λ n. in_lists n (spread l.initial.lists.items) - in_lists n (spread l.lists.items)) l.initial.pages.store l.pages.store;
  less : (n : ℕ) → in_lists n (spread l.lists.items) ≤ in_lists n (spread l.initial.lists.items);
  counted : l.pages.more ≡ more_in l.pages.store.pages;
  more : l.pages.more + sum_by list_copies (spread l.lists.items) ≡ l.initial.pages.more + sum_by list_copies (spread l.initial.lists.items);
}

abbrev pub decreases-loop-file : goal.decreases-loop-file
decreases-loop-file g l = length l.lists.items
