use Rattle.std.proofs.Common.{◌≡◌, length, ◌-◌, ◌≤◌, take}
use Rattle.std.specs.Io.KnownBytes.{Appends}
use Rattle.hp_wire.proofs.ends.write_whole.Given as goal

abbrev pub invariant-loop-at : goal.invariant-loop-at
invariant-loop-at g l = record {
  sent : Appends (g.W.Write.contents l.initial.writer) (g.W.Write.contents l.writer) (take l.at l.bytes);
  within : l.at ≤ length l.bytes;
  sure : g.W.Sink.is_sure l.fn.writer → g.W.Sink.is_sure l.writer;
  lent : g.W.Sink.lent l.writer ≡ g.W.Sink.lent l.fn.writer;
  connection : g.W.Sink.connection l.writer ≡ g.W.Sink.connection l.fn.writer;
}

abbrev pub decreases-loop-at : goal.decreases-loop-at
decreases-loop-at g l = length l.bytes - l.at
