-- What a truncate changes: past the file's old end there are no copies to lose.
use Rattle.std.proofs.Common.{arith, ◌≡◌, subst, ℕ, ◌+◌, ◌<◌, ◌≤◌, None, Option, Some, Ok, List, [], ◌∷◌, length, map, nat_le, nat_lt, refl, sym, ap, ◌∙◌, if◌then◌else◌, slice_index_or}
use Rattle.std.proofs.lemmas.Bool.{ltb-true}
use Rattle.hp_laws.proofs.Variants.{Answer, Cell, Gone, Hole, OutOfRange, NoSuchFile, Done, Place, Slot as OnSlot}
use Rattle.hp_model.specs.declared.event.SlotEvent.TheVariants as slot
use Rattle.hp_model.specs.declared.step.Step.TheVariants as step
use Rattle.hp_model.proofs.Words.{Choice, Copy, File, IsEvent, IsSettledState, IsSound, IsSoundFile, IsSoundMap, Map, Mount, Page, Slot, State, cell_punched, cells_to, copy_of, edited}
use Rattle.hp_model.proofs.Words.{file_named, gives, has_name}
use Rattle.hp_model.proofs.Words.{is_in, map_in, map_punched, most_file_pages, no_map, new_file, place_at, slot_at, slot_event, truncate, truncated, without_copy}
use Rattle.hp_laws.proofs.accesses.SlotShows.{always_gives, always_unless, always_value}
use Rattle.hp_laws.proofs.counts.FilesSound.{length-cells_to}
use Rattle.hp_laws.proofs.counts.MountMoves.{file_at}
use Rattle.hp_laws.proofs.sections.PoolTied.{left_sound}
use Rattle.hp_laws.proofs.steps.Outcomes.{Always}
use Rattle.hp_model.specs.machine.Footprint.{Changes, There, at_each, cut_from, with_edit, with_places}
use Rattle.hp_laws.proofs.footprint.Landings.{Comes, Edited, edits}
use Rattle.hp_laws.proofs.footprint.Ranges.{at_each_none, at_each_same, map_at, places_in}

-- ---- the cells

below : (n i : ℕ) (c : Cell Page) → i < n → (if nat_le n i then cell_punched c else c) ≡ c
below n i c l = grind (arith, l)

cells_left : (n : ℕ) (cells : List (Cell Page)) → at_each (λ i c. if nat_le n i then cell_punched c else c) 0 (cells_to n cells) ≡ cells_to n cells
cells_left n cells =
    at_each_same (λ i c. if nat_le n i then cell_punched c else c) (λ i c. c) Hole 0 (cells_to n cells)
    (λ i j e l. below n j (slice_index_or (cells_to n cells) i Hole) (omega (arith, e, l, length-cells_to n cells)))
    ∙ at_each_none 0 (cells_to n cells)

-- ---- the places

bare : (p : Place Copy) → copy_of p ≡ None → without_copy p ≡ p
bare p e = grind arith

pub at_index : (m : Map) (i n : ℕ) → n ≡ m.start + i → place_at m n ≡ slice_index_or m.places i Gone
at_index m i n e = grind (arith, e)

past : (pages : ℕ) (m : Map) → IsSoundMap pages m → (i n : ℕ) → n ≡ m.start + i → pages ≤ n → copy_of (slice_index_or m.places i Gone) ≡ None
past pages m sound i n e l = by_copy (copy_of (slice_index_or m.places i Gone)) refl
  where
    by_copy : (o : Option Copy) → copy_of (slice_index_or m.places i Gone) ≡ o → copy_of (slice_index_or m.places i Gone) ≡ None
    by_copy None is = is
    by_copy (Some copy) is =
        let place = sound n copy (ap copy_of (at_index m i n e) ∙ is) in
        let low : n < pages = place.below in
        absurd (omega (arith, low, l))

cut_alike : (n pages j : ℕ) (p : Place Copy) → (pages ≤ j → copy_of p ≡ None) → (if is_in n (n + pages) j then without_copy p else p) ≡ (if nat_le n j then without_copy p else p)
cut_alike n pages j p h = grind (arith, bare)

map_cut : (n pages : ℕ) (m : Map) → IsSoundMap pages m → map_punched n (n + pages) m ≡ with_places (λ i p. if nat_le n i then without_copy p else p) m
map_cut n pages m sound =
    places_in without_copy n (n + pages) m
    ∙ ap (λ ps. record m { places = ps })
    (at_each_same (λ i p. if is_in n (n + pages) i then without_copy p else p) (λ i p. if nat_le n i then without_copy p else p) Gone m.start m.places
    (λ i j e l. cut_alike n pages j (slice_index_or m.places i Gone) (λ far. past pages m sound i j e far)))

truncated_is : (n : ℕ) (f : File) → IsSoundFile f → truncated n f ≡ cut_from n f
truncated_is n f sound =
    ap (λ cells. record f { cells = cells; maps = map (map_punched n (n + length f.cells)) f.maps }) (sym (cells_left n f.cells))
    ∙ ap (λ maps. record f { cells = at_each (λ i c. if nat_le n i then cell_punched c else c) 0 (cells_to n f.cells); maps = maps })
    (map_at (map_punched n (n + length f.cells)) (with_places (λ i p. if nat_le n i then without_copy p else p)) no_map f.maps
    (λ l low. map_cut n (length f.cells) (map_in f l) (sound.maps l no_map low)))

-- ---- the step

abbrev cut_at : ℕ → Mount → ℕ × File → Mount
cut_at n m f = with_edit m f.0 (cut_from n f.1)

pub truncate_changes : (s : State) → IsSettledState s → (k : ℕ) (name : List ℕ) (n : ℕ) (a : Answer) (t : State) → IsEvent s (OnSlot k (slot.Truncate name n)) (Ok a) t
    → Changes s (step.Truncate k name n) a t
truncate_changes s st k name n a t is =
    edits s k (slot.Truncate name n) a t is name (cut_at n) (λ c. all c (slot_at s k) (left_sound s k (ltb-true k (length s.slots) is.1.0) st))
  where
    there : (m : Mount) (q : ℕ × File) (o : Option (ℕ × File)) → o ≡ Some q → (new : Slot) → new ≡ Some (cut_at n m q) → There o (λ f. new ≡ Some (cut_at n m f))
    there m q o found new e = subst (λ o. There o (λ f. new ≡ Some (cut_at n m f))) (sym found) e

    all : (c : Choice) (old : Slot) → IsSound old → Always (Comes (Edited old name (cut_at n))) (slot_event s.page_size k c old (slot.Truncate name n))
    all c None sound = tt
    all c (Some m) sound =
        let P = Comes (Edited (Some m) name (cut_at n)) in
        always_value P (λ r. tt) (file_named m name) NoSuchFile (truncate m n)
        (λ q named. always_unless P (λ r. tt) ((nat_lt most_file_pages n, OutOfRange) ∷ []) (gives Done (Some m) (edited m q.0 (truncated n q.1)))
        (always_gives P Done (Some m) (edited m q.0 (truncated n q.1))
        (there m q (file_named m name) named (edited m q.0 (truncated n q.1))
        (ap (λ f. edited m q.0 f) (truncated_is n q.1 (let at = file_at m (has_name name) q named in subst IsSoundFile (at.is (new_file None)) (sound.files q.0 (new_file None) at.within)))))))
