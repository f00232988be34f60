use Rattle.std.proofs.Common.{ℕ, ◌≡◌, ◌-◌, ◌<◌, ◌≤◌}
use Rattle.hp_inode.specs.Chunks.{slot_count}
use Rattle.hp_inode.proofs.chunk_list.ChunkList.made_to.Given as goal

abbrev pub invariant-loop-at : goal.invariant-loop-at
invariant-loop-at l = record {
  from : l.from ≤ l.at;
  to : l.at ≤ l.end;
  made : (j : ℕ) → l.from ≤ j → j < l.at → slot_count l.self j ≡ 64;
}

abbrev pub decreases-loop-at : goal.decreases-loop-at
decreases-loop-at l = l.end - l.at
