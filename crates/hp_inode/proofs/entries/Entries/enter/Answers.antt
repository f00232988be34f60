use Rattle.std.proofs.Common.{◌+◌, ◌/◌, ◌%◌, ◌||◌, [], set, Some, refl, arith}
use Rattle.std.proofs.Math.Bool.{or-false}
use Rattle.std.proofs.lemmas.Result.{on_ok_weaker}
use Rattle.hp_model.proofs.Words.{within}
use Rattle.hp_inode.specs.Later.{contents}
use Rattle.hp_marks.specs.Marks.{marked}
use Rattle.hp_inode.proofs.Blocks.{changed_there, near_changed, others_stay_there, part_added}
use Rattle.hp_inode.proofs.entries.Entries.enter.Goals as goal

pub returns-then-i-lt-BLOCK-clause-ok : goal.returns-then-i-lt-BLOCK-clause-ok
returns-then-i-lt-BLOCK-clause-ok c =
    let blocks = c.self.inside.blocks in
    let old = c.first_mut.result.now in
    let new = c.enter.new.self in
    let is = c.first_mut.ensures.value in
    rw (← c.self.view_is) (on_ok_weaker c.enter.result (λ here. near_changed ◌||◌ or-false (contents [] blocks) (contents [] (set blocks 0 (Some new)))
    c.args.i (c.args.i + 1) (omega (arith, c.if-i-lt-BLOCK.true)) (others_stay_there blocks blocks (λ j. refl) 0 old new is)
    (λ k. changed_there blocks blocks (λ j. refl) 0 old new is (λ block. marked block k) (λ t. t || within c.args.i (c.args.i + 1) k) (here k))) c.enter.ensures.ok)

pub returns-clause-ok : goal.returns-clause-ok
returns-clause-ok c =
    let blocks = c.self.inside.blocks in
    let kept = c.make.new.self in
    let same = c.make.ensures.same in
    let at = c.args.i / 65536 in
    let old = c.at_mut.result.now in
    let new = c.enter-2.new.self in
    let is = c.at_mut.ensures.value in
    rw (← c.self.view_is) (on_ok_weaker c.enter-2.result (λ here. part_added (contents [] blocks) (contents [] (set kept at (Some new))) c.args.i 1 (omega arith)
    (others_stay_there blocks kept same at old new is)
    (λ k. changed_there blocks kept same at old new is (λ block. marked block k) (λ t. t || within (c.args.i % 65536) (c.args.i % 65536 + 1) k) (here k))) c.enter-2.ensures.ok)
