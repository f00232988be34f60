use Rattle.std.proofs.Common.{◌≡◌, ℕ, ◌≤◌, ◌<◌, inl, inr, slice_index_or, ap, arith, count_by}
use Rattle.std.proofs.lemmas.Bool.{cases_lt}
use Rattle.hp_model.specs.declared.place.Place.TheVariants.{Gone}
use Rattle.hp_model.proofs.Words.{is_unconsumed}
use Rattle.hp_mapping.proofs.Ranges.{left_range, freed_range}
use Rattle.hp_mapping.proofs.places.Places.leave_range.Goals as goal

pub returns-clause-left : goal.returns-clause-left
returns-clause-left c =
    let i = c.loop-live.invariant in
    let gone : (k : ℕ) → c.args.from ≤ k → k < c.args.to → slice_index_or c.loop-live.self k Gone ≡ Gone =
    λ k le less. elim (cases_lt k c.loop-live.at) as (λ _. slice_index_or c.loop-live.self k Gone ≡ Gone) [ inl past ↦ i.gone k le past | inr here ↦ c.in_default.ensures.none k here less ] in
    left_range c.args.from c.args.to c.args.self.now c.loop-live.self c.requires.order i.len i.below gone (λ k le. i.rest k (omega arith))

pub returns-clause-freed : goal.returns-clause-freed
returns-clause-freed c =
    let left = returns-clause-left c in
    omega (arith, ap (count_by is_unconsumed) left, freed_range c.args.from c.args.to c.args.self.now, c.loop-live.invariant.freed)
