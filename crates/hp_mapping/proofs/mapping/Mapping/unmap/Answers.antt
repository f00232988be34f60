use Rattle.std.proofs.lemmas.Grind.{common_steps}
use Rattle.std.proofs.Common.{length, sym, ap, arith, ◌∙◌, count_by}
use Rattle.hp_model.specs.declared.place.Place.TheVariants.{Gone}
use Rattle.hp_model.proofs.Words.{is_unconsumed}
use Rattle.hp_model.proofs.Editing.{length-edit_range}
use Rattle.hp_mapping.specs.Mapped.{owned_reserves}
use Rattle.hp_mapping.proofs.Ranges.{clear_places, freed_range, freed_reserves}
use Rattle.hp_mapping.proofs.mapping.Mapping.unmap.Goals as goal

pub leave_range-freed-requires-clause-clear : goal.leave_range-freed-requires-clause-clear
leave_range-freed-requires-clause-clear c =
    clear_places c.args.a c.args.b c.offset-from.result c.offset-to.result c.args.self.now c.self.inside.places
    (ap (λ s. s.places) (sym c.self.view_is)) c.requires.clear c.offset-from.ensures c.offset-to.ensures

pub overflow_sub-self : goal.overflow_sub-self
overflow_sub-self c =
    let s = c.self.inside in
    let whole = c.self.invariant.1 ∙ ap (λ o. owned_reserves o s.places) (sym c.if-not-is_owner.ensures) in
    let parts = freed_range c.offset-from.result c.offset-to.result s.places in
    omega (arith, whole, parts, c.leave_range-freed.ensures.freed)

pub invariant_of-self-2 : goal.invariant_of-self-2
invariant_of-self-2 c =
    let s = c.self.inside in
    let new = c.leave_range-freed.new.self in
    let owned = ap (λ o. owned_reserves o new) (sym c.if-not-is_owner.ensures) in
    let whole = c.self.invariant.1 ∙ ap (λ o. owned_reserves o s.places) (sym c.if-not-is_owner.ensures) in
    let parts = freed_range c.offset-from.result c.offset-to.result s.places in
    let left = ap (count_by is_unconsumed) c.leave_range-freed.ensures.left in
    let long = ap length c.leave_range-freed.ensures.left ∙ length-edit_range (λ p. Gone) c.offset-from.result c.offset-to.result s.places in
    let few = c.self.invariant.0 in
    (omega (arith, long, few), omega (arith, owned, whole, parts, left, c.leave_range-freed.ensures.freed))

pub returns-clause-freed : goal.returns-clause-freed
returns-clause-freed c = grind (arith, common_steps, freed_reserves)
