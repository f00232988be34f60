use Rattle.std.proofs.Common.{ℕ, ◌≡◌, ◌<◌, ◌≤◌, true, [], OnOk, subst, sym, ap, ◌∙◌}
use Rattle.hp_inode.specs.Rows.{Rows, page_in, has_slot}
use Rattle.hp_inode.proofs.Blocks.{others_stay_there, seen_there, table_there, was_there}
use Rattle.hp_inode.proofs.Later.{here_now}
use Rattle.hp_inode.proofs.table.PageTable.make_in.Goals as goal

pub invariant_of-self-2 : goal.invariant_of-self-2
invariant_of-self-2 c =
    let s = c.self.inside in
    table_there s.blocks c.make.new.self c.make.ensures.same c.args.at c.at_mut.result.now c.make_slots.new.self c.at_mut.ensures.value c.make_slots.ensures.pages
    c.make.ensures.few s.bare_from s.bare_to c.self.invariant

pub returns-clause-pages : goal.returns-clause-pages
returns-clause-pages c k =
    rw (← c.self.view_is) (seen_there c.self.inside.blocks c.make.new.self c.make.ensures.same c.args.at c.at_mut.result.now c.make_slots.new.self c.at_mut.ensures.value
    (λ block. page_in block k) (c.make_slots.ensures.pages k))

pub returns-clause-kept : goal.returns-clause-kept
returns-clause-kept c =
    let kept = c.make.new.self in
    let at = c.args.at in
    let old = c.at_mut.result.now in
    let new = c.make_slots.new.self in
    let is = c.at_mut.ensures.value in
    rw (← c.self.view_is) (λ k has. ap (λ block. has_slot block k) (here_now [] kept at old new is)
    ∙ c.make_slots.ensures.kept k (ap (λ block. has_slot block k) (sym (was_there c.self.inside.blocks kept c.make.ensures.same at old new is)) ∙ has))

pub returns-clause-made : goal.returns-clause-made
returns-clause-made c =
    subst (λ (block : Rows). OnOk c.make_slots.result ((k : ℕ) → c.args.from ≤ k → k < c.args.to → has_slot block k ≡ true))
    (sym (here_now [] c.make.new.self c.args.at c.at_mut.result.now c.make_slots.new.self c.at_mut.ensures.value)) c.make_slots.ensures.made

pub returns-clause-below : goal.returns-clause-below
returns-clause-below c =
    rw (← c.self.view_is) (λ k below. seen_there c.self.inside.blocks c.make.new.self c.make.ensures.same c.args.at c.at_mut.result.now c.make_slots.new.self c.at_mut.ensures.value
    (λ block. has_slot block k) (c.make_slots.ensures.below k below))

pub returns-clause-others : goal.returns-clause-others
returns-clause-others c =
    rw (← c.self.view_is) (others_stay_there c.self.inside.blocks c.make.new.self c.make.ensures.same c.args.at c.at_mut.result.now c.make_slots.new.self c.at_mut.ensures.value)
