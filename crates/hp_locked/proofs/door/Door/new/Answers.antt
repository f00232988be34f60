use Rattle.std.proofs.Common.{◌==◌}
use Rattle.hp_locked.proofs.Doors.{door_fresh}
use Rattle.hp_locked.proofs.door.Door.new.Goals as goal

pub invariant_of-result : goal.invariant_of-result
invariant_of-result g c = (
  door_fresh g.N.Places.history (g.row.K == 1) g.S.Notes.keeps c.args.mine.table_id c.args.mine.me _ c.requires.fits c.requires.named c.requires.free c.requires.alone
      c.new.ensures.entered c.new.ensures.section,
  c.requires.turn,
)
