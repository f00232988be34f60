use Rattle.std.proofs.Common.{refl}
use Rattle.hp_marks.specs.Marks.{marked}
use Rattle.hp_inode.proofs.Blocks.{all_there}
use Rattle.hp_inode.proofs.entries.Entries.make_room.Goals as goal

pub returns-then-b-le-BLOCK-clause-same : goal.returns-then-b-le-BLOCK-clause-same
returns-then-b-le-BLOCK-clause-same c =
    let blocks = c.self.inside.blocks in
    rw (← c.self.view_is) (all_there marked blocks blocks (λ j. refl) 0 c.first_mut.result.now c.make_room.new.self c.first_mut.ensures.value c.make_room.ensures.same)
