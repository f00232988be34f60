use Rattle.std.proofs.lemmas.Grind.{common_steps}
use Rattle.std.proofs.Common.{◌≡◌, ◌/◌, ◌%◌, true, [], set, Some, OnOk, subst, refl, sym, ap, ◌∙◌, arith}
use Rattle.hp_inode.specs.Later.{contents}
use Rattle.hp_inode.specs.Rows.{Rows, has_slot, page_in}
use Rattle.hp_inode.proofs.Blocks.{all_there, few_there, others_stay_there, slots_stay, table_there, was_there}
use Rattle.hp_inode.proofs.Later.{here_now}
use Rattle.hp_inode.proofs.table.PageTable.make_slot.Goals as goal

pub invariant_of-self : goal.invariant_of-self
invariant_of-self c =
    let s = c.self.inside in
    table_there s.blocks s.blocks (λ j. refl) 0 c.first_mut.result.now c.make_slot.new.self c.first_mut.ensures.value c.make_slot.ensures.pages
    (few_there s.blocks c.self.invariant.blocks.few) s.bare_from s.bare_to c.self.invariant

pub returns-then-i-lt-BLOCK : goal.returns-then-i-lt-BLOCK
returns-then-i-lt-BLOCK c =
    let blocks = c.self.inside.blocks in
    let old = c.first_mut.result.now in
    let new = c.make_slot.new.self in
    let is = c.first_mut.ensures.value in
    record {
      pages = rw (← c.self.view_is) (all_there page_in blocks blocks (λ j. refl) 0 old new is c.make_slot.ensures.pages);
      kept = rw (← c.self.view_is) (slots_stay (contents [] blocks) (contents [] blocks) (contents [] (set blocks 0 (Some new))) 0 0 0 (omega arith) (omega arith)
          (others_stay_there blocks blocks (λ j. refl) 0 old new is)
          (λ k has. ap (λ block. has_slot block k) (here_now [] blocks 0 old new is)
          ∙ c.make_slot.ensures.kept k (ap (λ block. has_slot block k) (sym (was_there blocks blocks (λ j. refl) 0 old new is)) ∙ has)));
      made = grind (arith, common_steps);
    }

pub invariant_of-self-2 : goal.invariant_of-self-2
invariant_of-self-2 c =
    let s = c.self.inside in
    table_there s.blocks c.make.new.self c.make.ensures.same (c.args.i / 65536) c.at_mut.result.now c.make_slot-2.new.self c.at_mut.ensures.value c.make_slot-2.ensures.pages
    c.make.ensures.few s.bare_from s.bare_to c.self.invariant

pub returns : goal.returns
returns c =
    let blocks = c.self.inside.blocks in
    let there = c.make.new.self in
    let i = c.args.i in
    let at = i / 65536 in
    let old = c.at_mut.result.now in
    let new = c.make_slot-2.new.self in
    let is = c.at_mut.ensures.value in
    record {
      pages = rw (← c.self.view_is) (all_there page_in blocks there c.make.ensures.same at old new is c.make_slot-2.ensures.pages);
      kept = rw (← c.self.view_is) (slots_stay (contents [] blocks) (contents [] blocks) (contents [] (set there at (Some new))) i i 1 (omega arith) (omega arith)
          (others_stay_there blocks there c.make.ensures.same at old new is)
          (λ k has. ap (λ block. has_slot block k) (here_now [] there at old new is)
          ∙ c.make_slot-2.ensures.kept k (ap (λ block. has_slot block k) (sym (was_there blocks there c.make.ensures.same at old new is)) ∙ has)));
      made = subst (λ (block : Rows). OnOk c.make_slot-2.result (has_slot block (i % 65536) ≡ true)) (sym (here_now [] there at old new is)) c.make_slot-2.ensures.made;
    }
