-- Numbered slots after what stands in one of them may have changed.
use Rattle.std.proofs.Common.{◌≡◌, ℕ, Bool, true, false, is_some, IsTrue, List, slice_index_or, None, refl, sym, ◌∙◌, ap, arith, option_map}
use Rattle.std.proofs.lemmas.List.{length-set}
use Rattle.hp_store.specs.Store.{Holding, at_slot, held_count}
use Rattle.hp_store.specs.Kept.{IsNumbered, Used, with_free}
use Rattle.hp_store.proofs.Free.{free_changed, held_changed}
use Rattle.hp_store.proofs.Room.{held_free, same}

module _ (used : Used) (free : List ℕ) (capacity frames : ℕ) (change : Holding → Holding) (at : ℕ) (listed : IsNumbered used free capacity frames)
    (some : is_some (slice_index_or (with_free used.room used.slots) at None) ≡ true) where
  here : is_some (slice_index_or used.slots at None) ≡ true
  here = ap is_some (sym (same used.room used.slots at)) ∙ some

  numbered : IsNumbered (record used { slots = at_slot change at used.slots }) free capacity frames
  numbered = record {
    listed = free_changed change used.slots free at listed.listed here;
    within = omega (arith, length-set used.slots at (option_map change (slice_index_or used.slots at None)), listed.within);
    free_room = listed.free_room;
    free_few = listed.free_few;
    few = listed.few;
  }

  held : held_count (with_free used.room (at_slot change at used.slots)) ≡ held_count (with_free used.room used.slots)
  held = held_free used.room (at_slot change at used.slots) ∙ held_changed change used.slots at here ∙ sym (held_free used.room used.slots)

  pub numbered_either : (new : Used) (changes : Bool) → (IsTrue changes → new ≡ record used { slots = at_slot change at used.slots }) → (changes ≡ false → new ≡ used) →
      IsNumbered new free capacity frames
  numbered_either new true went stayed = rw (went refl) numbered
  numbered_either new false went stayed = rw (stayed refl) listed

  pub held_either : (new : Used) (changes : Bool) → (IsTrue changes → new ≡ record used { slots = at_slot change at used.slots }) →
      (changes ≡ false → new ≡ used) → held_count (with_free new.room new.slots) ≡ held_count (with_free used.room used.slots)
  held_either new true went stayed = rw (went refl) held
  held_either new false went stayed = rw (stayed refl)
