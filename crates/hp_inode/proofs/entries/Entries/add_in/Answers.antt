use Rattle.std.proofs.Common.{◌||◌, refl}
use Rattle.hp_model.proofs.Words.{within}
use Rattle.hp_marks.specs.Marks.{marked}
use Rattle.hp_inode.proofs.Blocks.{changed_there, others_stay_there}
use Rattle.hp_inode.proofs.entries.Entries.add_in.Goals as goal

pub returns-clause-here : goal.returns-clause-here
returns-clause-here c k =
    let blocks = c.self.inside.blocks in
    rw (← c.self.view_is) (changed_there blocks blocks (λ j. refl) c.args.at c.at_mut.result.now c.add.new.self c.at_mut.ensures.value
    (λ block. marked block k) (λ t. t || within c.args.from c.args.to k) (c.add.ensures k))

pub returns-clause-others : goal.returns-clause-others
returns-clause-others c =
    let blocks = c.self.inside.blocks in
    rw (← c.self.view_is) (others_stay_there blocks blocks (λ j. refl) c.args.at c.at_mut.result.now c.add.new.self c.at_mut.ensures.value)
