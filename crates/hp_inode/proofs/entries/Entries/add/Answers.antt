use Rattle.std.proofs.Common.{◌≡◌, ◌+◌, ◌-◌, ◌*◌, ◌/◌, ◌%◌, ◌<◌, ◌≤◌, ◌||◌, true, [], set, Some, length, ltb, refl, ap, ◌∙◌, arith}
use Rattle.std.proofs.Math.Bool.{or-false}
use Rattle.hp_model.proofs.Words.{within}
use Rattle.hp_inode.specs.Blocks.{has_word_for}
use Rattle.hp_inode.specs.Later.{contents}
use Rattle.hp_marks.specs.Marks.{marked}
use Rattle.hp_inode.proofs.Blocks.{room_for, added, changed_there, near_changed, near_room, others_stay_there}
use Rattle.hp_inode.proofs.Later.{block_there}
use Rattle.hp_inode.proofs.entries.Entries.add.Goals as goal

pub add-requires : goal.add-requires
add-requires c less =
    let blocks = c.self.inside.blocks in
    let has : has_word_for (contents [] blocks) (c.args.b - 1) ≡ true = rw c.self.view_is (c.requires (c.args.b - 1) (omega (arith, less)) (omega (arith, less))) in
    omega (arith, near_room (contents [] blocks) c.args.b (omega (arith, less)) c.if-b-le-BLOCK.true has, ap length (block_there [] blocks 0 c.first_mut.result.now c.first_mut.ensures.value))

pub returns-then-b-le-BLOCK : goal.returns-then-b-le-BLOCK
returns-then-b-le-BLOCK c =
    let blocks = c.self.inside.blocks in
    let old = c.first_mut.result.now in
    let new = c.add.new.self in
    let is = c.first_mut.ensures.value in
    rw (← c.self.view_is) (near_changed ◌||◌ or-false (contents [] blocks) (contents [] (set blocks 0 (Some new))) c.args.a c.args.b c.if-b-le-BLOCK.true
    (others_stay_there blocks blocks (λ j. refl) 0 old new is)
    (λ k. changed_there blocks blocks (λ j. refl) 0 old new is (λ block. marked block k) (λ t. t || within c.args.a c.args.b k) (c.add.ensures k)))

pub add_in-requires-clause-room : goal.add_in-requires-clause-room
add_in-requires-clause-room c =
    let at = c.loop-at.at in
    let count = c.within_block-count.result in
    let fits : at % 65536 + count ≤ 65536 = omega (arith, c.within_block-count.ensures) in
    let some : 0 < count = omega (arith, c.within_block-count.ensures, c.loop-at-test.true) in
    room_for c.loop-at.self at count fits some (c.loop-at.invariant.room (at + count - 1) (omega (arith, some)) (omega (arith, some, c.within_block-count.ensures, c.loop-at-test.true)))

pub loop-at-preserved : goal.loop-at-preserved
loop-at-preserved c =
    let at = c.loop-at.at in
    let count = c.within_block-count.result in
    let held = c.loop-at.invariant in
    let fits : at % 65536 + count ≤ 65536 = omega (arith, c.within_block-count.ensures) in
    record {
      from = omega (arith, held.from);
      to = omega (arith, c.within_block-count.ensures, c.loop-at-test.true, held.from);
      done = added c.loop-at.self c.add_in.new.self at count fits c.add_in.ensures.others c.args.self.now c.args.a held.from c.add_in.ensures.here held.done;
      room = λ k low high.
          ap (λ words. ltb (k % 65536) (64 * length words)) (c.add_in.ensures.others (k / 65536) (λ here. absurd (omega (arith, here, low, high, c.within_block-count.ensures, c.loop-at-test.true))))
          ∙ held.room k (omega (arith, low)) high;
    }
