use Rattle.std.proofs.Common.{◌++◌}
use Rattle.hp_serving.proofs.Printed.{says_of}
use Rattle.hp_program.specs.Program.{named}
use Rattle.hp_program.proofs.run.name.Goals as goal

pub returns : goal.returns
returns g c =
    says_of (g.E.Sink.is_sure c.args.faults.now) (g.E.Write.contents c.args.faults.now) (g.E.Write.contents c.write_line.new.faults) (named (c.args.what.now ++ c.args.of.now)) c.write_line.result
    c.write_line.ensures.sent c.write_line.ensures.cut c.write_line.ensures.sure
