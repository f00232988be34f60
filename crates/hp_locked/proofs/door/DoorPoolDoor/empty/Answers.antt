use Rattle.std.proofs.Common.{◌==◌, refl}
use Rattle.hp_subpool.specs.Subpool.{committed_of}
use Rattle.hp_locked.proofs.Doors.{door_gave}
use Rattle.hp_locked.proofs.door.DoorPoolDoor.empty.Goals as goal

pub returns-clause-given : goal.returns-clause-given
returns-clause-given g c =
    door_gave (g.row.K == 1) c.self.inside.mine.me.0 c.empty-asked.new.mine.me.0 c.args.self.now c.self.view_is c.args.going.now.going (committed_of c.args.share.now) _ _
    c.gather-parcel.result (committed_of c.args.share.now) c.empty-asked.result c.gather-parcel.ensures.claims refl c.empty-asked.ensures.given c.empty-asked.ensures.entered
