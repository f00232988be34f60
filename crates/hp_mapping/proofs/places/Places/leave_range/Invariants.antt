use Rattle.std.proofs.Common.{◌≡◌, ℕ, ◌+◌, ◌-◌, ◌<◌, ◌≤◌, length, slice_index_or, count_by}
use Rattle.hp_model.specs.declared.place.Place.TheVariants.{Gone}
use Rattle.hp_model.proofs.Words.{is_unconsumed}
use Rattle.hp_mapping.proofs.places.Places.leave_range.Given as goal

abbrev pub invariant-loop-live : goal.invariant-loop-live
invariant-loop-live l = record {
  after : l.from ≤ l.at;
  up_to : l.at ≤ l.to;
  len : length l.self ≡ length l.initial.self;
  below : (k : ℕ) → k < l.from → slice_index_or l.self k Gone ≡ slice_index_or l.initial.self k Gone;
  gone : (k : ℕ) → l.from ≤ k → k < l.at → slice_index_or l.self k Gone ≡ Gone;
  rest : (k : ℕ) → l.at ≤ k → slice_index_or l.self k Gone ≡ slice_index_or l.initial.self k Gone;
  freed : l.freed + count_by is_unconsumed l.self ≡ count_by is_unconsumed l.initial.self;
  few : l.freed ≤ l.at;
}

abbrev pub decreases-loop-live : goal.decreases-loop-live
decreases-loop-live l = l.to - l.at
