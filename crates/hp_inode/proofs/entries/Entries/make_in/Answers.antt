use Rattle.std.proofs.lemmas.Grind.{common_steps}
use Rattle.std.proofs.Common.{arith}
use Rattle.std.proofs.lemmas.Result.{on_ok_weaker}
use Rattle.hp_marks.specs.Marks.{marked}
use Rattle.hp_inode.proofs.Blocks.{others_stay_there, seen_there}
use Rattle.hp_inode.proofs.Later.{here_now}
use Rattle.hp_inode.proofs.entries.Entries.make_in.Goals as goal

pub returns-clause-ok : goal.returns-clause-ok
returns-clause-ok c = grind (arith, common_steps, on_ok_weaker, here_now)

pub returns-clause-same : goal.returns-clause-same
returns-clause-same c k =
    rw (← c.self.view_is) (seen_there c.self.inside.blocks c.make.new.self c.make.ensures.same c.args.at c.at_mut.result.now c.make_room.new.self c.at_mut.ensures.value
    (λ block. marked block k) (c.make_room.ensures.same k))

pub returns-clause-others : goal.returns-clause-others
returns-clause-others c = grind (arith, common_steps, others_stay_there)
