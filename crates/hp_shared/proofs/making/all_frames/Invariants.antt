use Rattle.std.proofs.Common.{◌≡◌, ◌≤◌, ◌*◌, take, sum}
use Rattle.hp_shared.proofs.making.all_frames.Given as goal

abbrev pub invariant-loop-count : goal.invariant-loop-count
invariant-loop-count l = record {
  all : l.all ≡ sum (take l.count-index l.frames);
  few : l.all ≤ l.count-index * 65536;
}
