use Rattle.std.proofs.Common.{◌≡◌, ◌+◌, length}
use Rattle.hp_store.proofs.batch.spend_drafts.Given as goal

abbrev pub invariant-loop-page : goal.invariant-loop-page
invariant-loop-page g l = l.tally + length l.pages.items ≡ length l.initial.pages.items + 1

abbrev pub decreases-loop-page : goal.decreases-loop-page
decreases-loop-page g l = goal.left-loop-page g l
