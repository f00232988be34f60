use Rattle.std.proofs.Common.{◌≡◌, rules}
use Rattle.hp_serving.specs.Ended.{line_of_fault}
use Rattle.hp_serving.proofs.Printed.{says_of}
use Rattle.hp_serving.proofs.sessions.name.Goals as goal

pub returns : goal.returns
returns g c =
    let line : c.as_bytes.result.now ≡ line_of_fault c.args.fault = search rules in
    says_of (g.E.Sink.is_sure c.args.faults.now) (g.E.Write.contents c.args.faults.now) (g.E.Write.contents c.write_whole.new.writer) (line_of_fault c.args.fault) c.write_whole.result
    (rw line at c.write_whole.ensures.sent) (rw line at c.write_whole.ensures.cut) c.write_whole.ensures.sure
