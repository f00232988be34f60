use Rattle.std.proofs.lemmas.Grind.{common_steps}
use Rattle.std.proofs.Common.{◌&&◌, not, refl, arith}
use Rattle.hp_model.proofs.Words.{within}
use Rattle.hp_marks.specs.Marks.{marked}
use Rattle.hp_inode.proofs.Blocks.{changed_there, none_counted, others_stay_there, was_there}
use Rattle.hp_inode.proofs.Later.{none_there}
use Rattle.hp_inode.proofs.entries.Entries.remove_in.Goals as goal

pub returns-then-not-has-clause-count : goal.returns-then-not-has-clause-count
returns-then-not-has-clause-count c = grind (arith, common_steps, none_counted, none_there)

pub returns-clause-count : goal.returns-clause-count
returns-clause-count c = grind (arith, common_steps, was_there)

pub returns-clause-here : goal.returns-clause-here
returns-clause-here c k =
    let blocks = c.self.inside.blocks in
    rw (← c.self.view_is) (changed_there blocks blocks (λ j. refl) c.args.at c.at_mut.result.now c.remove.new.self c.at_mut.ensures.value
    (λ block. marked block k) (λ t. t && not (within c.args.from c.args.to k)) (c.remove.ensures.left k))

pub returns-clause-others : goal.returns-clause-others
returns-clause-others c =
    let blocks = c.self.inside.blocks in
    rw (← c.self.view_is) (others_stay_there blocks blocks (λ j. refl) c.args.at c.at_mut.result.now c.remove.new.self c.at_mut.ensures.value)
