-- What comes next in a list of lists, read or not there.
use Rattle.std.proofs.lemmas.Grind.{common_steps}
use Rattle.std.proofs.Common.{◌≡◌, ℕ, ◌<◌, ◌≤◌, Option, None, Some, List, [], length, sym, ap, ◌∙◌, arith, slice_get, slice_index_or, option_and_then, option_map}
use Rattle.std.specs.Global.{Vec}
use Rattle.hp_laws.proofs.Variants.{AtSlot, Part, SlotEntry}
use Rattle.hp_model.proofs.Words.{InSlot, Trails, slot_trail}
use Rattle.hp_trail.specs.Tellers.{asked_section}
use Rattle.hp_trail.specs.Walk.{Cursors, Walking, cursor_at, lists, next_section}
use Rattle.hp_trail.proofs.Indexing.{get_there, lists_read, read_at}

module _ {X : Type 0} (vs : List (Vec X)) (s i : ℕ) where
  -- no such list
  pub none_at : length vs ≤ s → (x : X) → slice_get (slice_index_or (lists vs) s []) i ≡ Some x → ⊥
  none_at past x is = grind (arith, common_steps)

  module _ (v : Vec X) (xs : List X) (n : ℕ) (below : s < length vs) (read : v ≡ slice_index_or vs s v) (items : xs ≡ v.items) (place : n ≡ i) where
    -- none left in it
    pub none_after : length xs ≤ n → (x : X) → slice_get (slice_index_or (lists vs) s []) i ≡ Some x → ⊥
    none_after past x is = grind (arith, common_steps, get_there, lists_read)

    pub one_there : (x : X) → n < length xs → x ≡ slice_index_or xs n x → slice_get (slice_index_or (lists vs) s []) i ≡ Some x
    one_there x within is = ap (slice_get (slice_index_or (lists vs) s [])) (sym place) ∙ read_at vs s n v xs x below read items within is

none_is : {X : Type 0} (o : Option X) → ((x : X) → o ≡ Some x → ⊥) → o ≡ None
none_is o none = grind (arith, common_steps)

-- ---- the section of an entry

module _ (w now : Walking) (p : Part) (k : ℕ) (same : w ≡ now) (part : p ≡ AtSlot k) where
  section_of : (o : Option SlotEntry) → slice_get (slot_trail w.trails k) (cursor_at w.cursors.slots k) ≡ o
      → next_section now.trails now.cursors p ≡ option_and_then asked_section (option_map (InSlot k) o)
  section_of o is = grind (arith, common_steps)

  pub section_none : ((e : SlotEntry) → slice_get (slot_trail w.trails k) (cursor_at w.cursors.slots k) ≡ Some e → ⊥) → next_section now.trails now.cursors p ≡ None
  section_none none = section_of None (none_is (slice_get (slot_trail w.trails k) (cursor_at w.cursors.slots k)) none)

  pub section_some : (e : SlotEntry) → slice_get (slot_trail w.trails k) (cursor_at w.cursors.slots k) ≡ Some e → next_section now.trails now.cursors p ≡ e.asked
  section_some e is = section_of (Some e) is

module _ (t : Trails) (c : Cursors) where
  -- only a slot's entry has one
  pub section_elsewhere : (p : Part) → ((k : ℕ) → p ≡ AtSlot k → ⊥) → next_section t c p ≡ None
  section_elsewhere p other = grind (arith, common_steps)
