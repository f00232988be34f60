use Rattle.std.proofs.Common.{◌+◌, ◌/◌, ◌%◌, ◌≤◌, [], set, Some, refl, sym, ap, ◌∙◌, arith}
use Rattle.hp_inode.specs.Later.{contents}
use Rattle.hp_inode.specs.Rows.{has_slot, page_in}
use Rattle.hp_inode.proofs.Blocks.{all_there, as_before, few_there, near_below, others_stay_there, seen_there, slots_below, slots_made, slots_stay, table_there}
use Rattle.hp_inode.proofs.Later.{block_there, here_now}
use Rattle.hp_inode.proofs.table.PageTable.make_slots.Goals as goal

pub invariant_of-self : goal.invariant_of-self
invariant_of-self c =
    let s = c.self.inside in
    let was = c.first_mut.result.now in
    let is = c.first_mut.ensures.value in
    table_there s.blocks s.blocks (λ j. refl) 0 was c.make_slots.new.self is c.make_slots.ensures.pages
    (few_there s.blocks c.self.invariant.blocks.few) s.bare_from s.bare_to c.self.invariant

pub returns-then-b-le-BLOCK-clause-pages : goal.returns-then-b-le-BLOCK-clause-pages
returns-then-b-le-BLOCK-clause-pages c =
    let blocks = c.self.inside.blocks in
    rw (← c.self.view_is) (all_there page_in blocks blocks (λ j. refl) 0 c.first_mut.result.now c.make_slots.new.self c.first_mut.ensures.value c.make_slots.ensures.pages)

pub returns-then-b-le-BLOCK-clause-kept : goal.returns-then-b-le-BLOCK-clause-kept
returns-then-b-le-BLOCK-clause-kept c =
    let blocks = c.self.inside.blocks in
    let was = c.first_mut.result.now in
    let now = c.make_slots.new.self in
    let is = c.first_mut.ensures.value in
    let old = contents [] blocks in
    rw (← c.self.view_is) (slots_stay old old (contents [] (set blocks 0 (Some now))) 0 0 0 (omega arith) (omega arith) (others_stay_there blocks blocks (λ j. refl) 0 was now is)
    (λ k has. ap (λ block. has_slot block k) (here_now [] blocks 0 was now is)
    ∙ c.make_slots.ensures.kept k (ap (λ block. has_slot block k) (sym (block_there [] blocks 0 was is)) ∙ has)))

pub returns-then-b-le-BLOCK-clause-below : goal.returns-then-b-le-BLOCK-clause-below
returns-then-b-le-BLOCK-clause-below c =
    let blocks = c.self.inside.blocks in
    let was = c.first_mut.result.now in
    let now = c.make_slots.new.self in
    let is = c.first_mut.ensures.value in
    rw (← c.self.view_is) (near_below (contents [] blocks) (contents [] (set blocks 0 (Some now))) c.args.a (others_stay_there blocks blocks (λ j. refl) 0 was now is)
    (λ k below. seen_there blocks blocks (λ j. refl) 0 was now is (λ block. has_slot block k) (c.make_slots.ensures.below k below)))

pub loop-at-preserved : goal.loop-at-preserved
loop-at-preserved c =
    let at = c.loop-at.at in
    let count = c.within_block-count.result in
    let held = c.loop-at.invariant in
    let start = c.args.self.now in
    let old = c.loop-at.self in
    let new = c.make_in.new.self in
    let others = c.make_in.ensures.others in
    let fits : at % 65536 + count ≤ 65536 = omega (arith, c.within_block-count.ensures) in
    record {
      from = omega (arith, held.from);
      to = omega (arith, c.within_block-count.ensures, c.loop-at-test.true, held.from);
      pages = λ k. as_before page_in old new (at / 65536) others c.make_in.ensures.pages k ∙ held.pages k;
      kept = λ k has. slots_stay start old new c.args.a at count held.from fits others c.make_in.ensures.kept k (held.kept k has);
      made = slots_made start old new c.args.a at count held.from fits others c.make_in.ensures.kept c.in_ok-make_in.ensures.made held.made;
      below = slots_below start old new c.args.a at count held.from fits others c.make_in.ensures.below held.below;
    }
