use Rattle.std.proofs.Common.{◌+◌, ◌/◌, ◌%◌, ◌&&◌, not, [], set, Some, refl, arith}
use Rattle.std.proofs.Math.Bool.{and-true}
use Rattle.hp_model.proofs.Words.{within}
use Rattle.hp_inode.specs.Later.{contents}
use Rattle.hp_marks.specs.Marks.{marked}
use Rattle.hp_inode.proofs.Blocks.{changed_there, near_changed, others_stay_there, part_out}
use Rattle.hp_inode.proofs.entries.Entries.take_out.Goals as goal

pub returns-then-i-lt-BLOCK : goal.returns-then-i-lt-BLOCK
returns-then-i-lt-BLOCK c =
    let blocks = c.self.inside.blocks in
    let old = c.first_mut.result.now in
    let new = c.take_out.new.self in
    let is = c.first_mut.ensures.value in
    rw (← c.self.view_is) (near_changed (λ t out. t && not out) and-true (contents [] blocks) (contents [] (set blocks 0 (Some new))) c.args.i (c.args.i + 1) (omega (arith, c.if-i-lt-BLOCK.true))
    (others_stay_there blocks blocks (λ j. refl) 0 old new is)
    (λ k. changed_there blocks blocks (λ j. refl) 0 old new is (λ block. marked block k) (λ t. t && not (within c.args.i (c.args.i + 1) k)) (c.take_out.ensures k)))

pub returns : goal.returns
returns c =
    let blocks = c.self.inside.blocks in
    let at = c.args.i / 65536 in
    let old = c.at_mut.result.now in
    let new = c.take_out-2.new.self in
    let is = c.at_mut.ensures.value in
    rw (← c.self.view_is) (part_out (contents [] blocks) (contents [] (set blocks at (Some new))) c.args.i 1 (omega arith) (others_stay_there blocks blocks (λ j. refl) at old new is)
    (λ k. changed_there blocks blocks (λ j. refl) at old new is (λ block. marked block k) (λ t. t && not (within (c.args.i % 65536) (c.args.i % 65536 + 1) k)) (c.take_out-2.ensures k)))
