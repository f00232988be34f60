-- What blocks end as, where a `&mut` to one of them is returned.
use Rattle.std.specs.Prelude.{ℕ, List, Option, Some}
use Rattle.std.specs.List.{slice_set}
use Rattle.std.specs.Borrow.{Lends, Fml, RattleType, MutBor}
use Rattle.hp_inode.specs.declared.block.Block.{Ghosts}
use Rattle.hp_inode.specs.contracts.block_list.BlockList.{the_row}

-- with the last value written through r in the place of the block
abbrev pub lends_block : (B : RattleType) → Ghosts B.Denot → MutBor (List (Option B.Denot)) → ℕ → MutBor B.Denot → Fml
lends_block B block s at r = Lends (the_row B block) B s r (λ w. slice_set s.now at (Some w))
