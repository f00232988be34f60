use Rattle.std.proofs.Common.{◌∙◌}
use Rattle.hp_wire.proofs.Known.{appends_rest, within_rest}
use Rattle.hp_wire.proofs.ends.write_whole.Goals as goal

pub loop-at-preserved : goal.loop-at-preserved
loop-at-preserved g c = record {
  sent = appends_rest (g.W.Write.contents c.args.writer.now) (g.W.Write.contents c.loop-at.writer) (g.W.Write.contents c.write_some.new.self)
      c.loop-at.at c.in-Ok.n c.args.bytes.now c.loop-at.invariant.sent c.in-Ok.ensures.bytes;
  within = within_rest c.loop-at.at c.in-Ok.n c.args.bytes.now c.loop-at.invariant.within c.in-Ok.ensures.bound;
  sure = λ s. c.write_some.ensures.stays (c.loop-at.invariant.sure s);
  lent = c.write_some.ensures.lent ∙ c.loop-at.invariant.lent;
  connection = c.write_some.ensures.connection ∙ c.loop-at.invariant.connection;
}
