use Rattle.std.proofs.Common.{◌/◌, ◌%◌, Some, refl, arith}
use Rattle.hp_inode.specs.Rows.{has_slot}
use Rattle.hp_inode.proofs.Blocks.{all_there, blocks_set, others_set, page_set}
use Rattle.hp_inode.proofs.table.PageTable.fill.Goals as goal

pub invariant_of-self : goal.invariant_of-self
invariant_of-self c =
    let s = c.self.inside in
    blocks_set s.blocks 0 c.first_mut.result.now c.replace.new.self c.first_mut.ensures.value c.args.i c.args.i
    (omega (arith, c.if-i-lt-BLOCK.true)) (omega (arith, c.if-i-lt-BLOCK.true)) c.replace.ensures.others
    s.bare_from s.bare_to c.min-self-inside.result c.min-self-inside.ensures c.self.invariant

pub returns-then-i-lt-BLOCK-clause-others : goal.returns-then-i-lt-BLOCK-clause-others
returns-then-i-lt-BLOCK-clause-others c =
    rw (← c.self.view_is) (others_set c.self.inside.blocks 0 c.first_mut.result.now c.replace.new.self c.first_mut.ensures.value c.args.i c.args.i
    (omega (arith, c.if-i-lt-BLOCK.true)) (omega (arith, c.if-i-lt-BLOCK.true)) c.replace.ensures.others)

pub returns-then-i-lt-BLOCK-clause-slots : goal.returns-then-i-lt-BLOCK-clause-slots
returns-then-i-lt-BLOCK-clause-slots c =
    let blocks = c.self.inside.blocks in
    rw (← c.self.view_is) (all_there has_slot blocks blocks (λ j. refl) 0 c.first_mut.result.now c.replace.new.self c.first_mut.ensures.value c.replace.ensures.slots)

pub invariant_of-self-2 : goal.invariant_of-self-2
invariant_of-self-2 c =
    let s = c.self.inside in
    blocks_set s.blocks (c.args.i / 65536) c.at_mut-block.result.now c.replace-2.new.self c.at_mut-block.ensures.value c.args.i (c.args.i % 65536)
    refl refl c.replace-2.ensures.others
    s.bare_from s.bare_to c.min-self-inside.result c.min-self-inside.ensures c.self.invariant

pub returns-clause-here : goal.returns-clause-here
returns-clause-here c =
    page_set c.self.inside.blocks (c.args.i / 65536) c.at_mut-block.result.now c.replace-2.new.self c.at_mut-block.ensures.value c.args.i (c.args.i % 65536)
    refl refl c.replace-2.ensures.others
    (Some c.args.page) c.replace-2.ensures.here

pub returns-clause-others : goal.returns-clause-others
returns-clause-others c =
    rw (← c.self.view_is) (others_set c.self.inside.blocks (c.args.i / 65536) c.at_mut-block.result.now c.replace-2.new.self c.at_mut-block.ensures.value c.args.i (c.args.i % 65536)
    refl refl c.replace-2.ensures.others)

pub returns-clause-slots : goal.returns-clause-slots
returns-clause-slots c =
    let blocks = c.self.inside.blocks in
    rw (← c.self.view_is) (all_there has_slot blocks blocks (λ j. refl) (c.args.i / 65536) c.at_mut-block.result.now c.replace-2.new.self c.at_mut-block.ensures.value c.replace-2.ensures.slots)
