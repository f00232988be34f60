use Rattle.std.proofs.Common.{[], set, Some, refl, arith}
use Rattle.hp_inode.specs.Later.{contents}
use Rattle.hp_inode.specs.Rows.{has_slot}
use Rattle.hp_inode.proofs.Blocks.{all_there, few_there, length_there, others_stay_there, table_after, was_there}
use Rattle.hp_inode.proofs.Later.{all_now, here_now}
use Rattle.hp_inode.proofs.table.PageTable.take_in.Goals as goal

pub invariant_of-self : goal.invariant_of-self
invariant_of-self c =
    let s = c.self.inside in
    let blocks = s.blocks in
    let at = c.args.at in
    let was = c.at_mut.result.now in
    let new = c.take_first.new.self in
    let is = c.at_mut.ensures.value in
    table_after (contents [] blocks) (contents [] (set blocks at (Some new))) s.bare_from s.bare_to at c.args.from c.args.to c.take_first.result
    (rw (was_there blocks blocks (λ j. refl) at was new is, here_now [] blocks at was new is) c.take_first.ensures.taken)
    (λ none. all_now [] blocks at was new is (c.take_first.ensures.none none))
    (omega (arith, few_there blocks c.self.invariant.blocks.few, length_there blocks blocks (λ j. refl) at was new is))
    (others_stay_there blocks blocks (λ j. refl) at was new is) c.self.invariant

pub returns-clause-taken : goal.returns-clause-taken
returns-clause-taken c =
    let blocks = c.self.inside.blocks in
    let was = c.at_mut.result.now in
    let new = c.take_first.new.self in
    let is = c.at_mut.ensures.value in
    rw (← c.self.view_is, was_there blocks blocks (λ j. refl) c.args.at was new is, here_now [] blocks c.args.at was new is) c.take_first.ensures.taken

pub returns-clause-slots : goal.returns-clause-slots
returns-clause-slots c =
    let blocks = c.self.inside.blocks in
    rw (← c.self.view_is) (all_there has_slot blocks blocks (λ j. refl) c.args.at c.at_mut.result.now c.take_first.new.self c.at_mut.ensures.value c.take_first.ensures.slots)

pub returns-clause-others : goal.returns-clause-others
returns-clause-others c =
    let blocks = c.self.inside.blocks in
    rw (← c.self.view_is) (others_stay_there blocks blocks (λ j. refl) c.args.at c.at_mut.result.now c.take_first.new.self c.at_mut.ensures.value)
