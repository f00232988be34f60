-- What a map and an anonymous map make.
use Rattle.std.proofs.Common.{◌≡◌, ℕ, ◌+◌, ◌&&◌, Bool, true, false, None, Some, Ok, List, [], ◌∷◌, ◌++◌, refl, ap, if◌then◌else◌}
use Rattle.hp_laws.proofs.Variants.{Answer, MapNo, NoSuchFile, Reserving, Sharing, Slot as OnSlot}
use Rattle.hp_model.specs.declared.event.SlotEvent.TheVariants as slot
use Rattle.hp_model.specs.declared.step.Step.TheVariants as step
use Rattle.hp_model.proofs.Words.{Answered, Choice, File, IsEvent, Map, Mount, Outcome, Slot, State, anon_tests, asked, at_least, edit_range, entered, file_named, grant, is_shared, map_file}
use Rattle.hp_model.proofs.Words.{map_tests}
use Rattle.hp_model.proofs.Words.{mapped, new_file, next_number, reserves, slot_at, slot_event, with_file, with_new}
use Rattle.hp_laws.proofs.accesses.SlotShows.{always_grant, always_unless, always_value}
use Rattle.hp_laws.proofs.making.FilesMade.{number_is_new}
use Rattle.hp_laws.proofs.steps.Outcomes.{Always}
use Rattle.hp_model.specs.machine.Footprint.{Changes, IsNewNumber, LeavesMount, There, entered_to, map_made, with_map_made}
use Rattle.hp_laws.proofs.footprint.Landings.{Comes, always_here, comes, leaves, there_at, there_weaker}
use Rattle.hp_laws.proofs.footprint.Ranges.{cells_in}

mapped_is : (task number a n : ℕ) (sharing : Sharing) (reserving : Reserving) (f : File) → mapped task number a n sharing reserving f ≡ with_map_made task number a n sharing reserving f
mapped_is task number a n sharing reserving f = by_entries (is_shared sharing && reserves reserving) (f.maps ++ map_made task number a n sharing reserving ∷ [])
  where
    by_entries : (b : Bool) (maps : List Map) → record f { cells = if b then edit_range entered a (a + n) (at_least (a + n) f.cells) else at_least (a + n) f.cells; maps = maps }
        ≡ record (if b then entered_to a (a + n) f else record f { cells = at_least (a + n) f.cells }) { maps = maps }
    by_entries true maps = ap (λ cells. record f { cells = cells; maps = maps }) (cells_in entered a (a + n) (at_least (a + n) f.cells))
    by_entries false maps = refl

numbered_weaker : (m : Mount) (task : ℕ) (P Q : ℕ → Type 0) → ((n : ℕ) → P n → Q n) → (a : Answer) → IsNewNumber m task a P → IsNewNumber m task a Q
numbered_weaker m task P Q h (MapNo n) is = (is.0, h n is.1)
numbered_weaker m task P Q h other is = is

module _ (s : State) (k task home a n : ℕ) (sharing : Sharing) (reserving : Reserving) where
  -- ---- a map of a file

  abbrev with_mapped : Mount → ℕ × File → ℕ → Mount
  with_mapped m f number = with_file m f.0 (with_map_made task number a n sharing reserving f.1)

  abbrev Maps : List ℕ → Slot → Answer → Slot → Type 0
  Maps name old answer new = There old (λ m. There (file_named m name) (λ f. IsNewNumber m task answer (λ number. new ≡ Some (with_mapped m f number))))

  map_all : (size : ℕ) (c : Choice) (name : List ℕ) (old : Slot) → Always (Comes (Maps name old)) (slot_event size k c old (slot.Map task home name a n sharing reserving))
  map_all size c name None = tt
  map_all size c name (Some m) =
      let P = Comes (Maps name (Some m)) in
      let number : ℕ = next_number task m in
      let done : ℕ × File → Outcome = λ f. Answered (MapNo number) (Some (with_file m f.0 (mapped task number a n sharing reserving f.1))) in
      always_value P (λ r. tt) (file_named m name) NoSuchFile (map_file c m task home a n sharing reserving)
      (λ f named. always_unless P (λ r. tt) (map_tests m task a n) (grant c m home (asked sharing reserving a n f.1) (done f))
      (always_grant P (λ r. tt) c m home (asked sharing reserving a n f.1) (done f)
      (there_at (λ g. IsNewNumber m task (MapNo number) (λ i. Some (with_file m f.0 (mapped task number a n sharing reserving f.1)) ≡ Some (with_mapped m g i))) (file_named m name) f named
      (number_is_new m task, ap (λ g. Some (with_file m f.0 g)) (mapped_is task number a n sharing reserving f.1)))))

  pub map_changes : (name : List ℕ) (answer : Answer) (t : State) → IsEvent s (OnSlot k (slot.Map task home name a n sharing reserving)) (Ok answer) t
      → Changes s (step.Map task k name a n sharing reserving) answer t
  map_changes name answer t is =
      let R = Maps name (slot_at s k) in
      let l = comes R s k answer t (slot.Map task home name a n sharing reserving) (λ c fresh. always_here s (Comes R) _ (map_all s.page_size c name (slot_at s k))) is in
      there_weaker (λ m. There (file_named m name) (λ f. IsNewNumber m task answer (λ number. l.0 ≡ Some (with_mapped m f number))))
      (λ m. There (file_named m name) (λ f. IsNewNumber m task answer (λ number. LeavesMount s k (with_mapped m f number) t))) (slot_at s k)
      (λ m there h. there_weaker (λ f. IsNewNumber m task answer (λ number. l.0 ≡ Some (with_mapped m f number)))
      (λ f. IsNewNumber m task answer (λ number. LeavesMount s k (with_mapped m f number) t))
      (file_named m name)
      (λ f found q. numbered_weaker m task (λ number. l.0 ≡ Some (with_mapped m f number)) (λ number. LeavesMount s k (with_mapped m f number) t)
      (λ number e. leaves s k t l.0 (with_mapped m f number) e l.1.1) answer q) h) l.1.0

-- ---- an anonymous map

module _ (s : State) (task home n : ℕ) (sharing : Sharing) (reserving : Reserving) where
  abbrev with_anon : Mount → ℕ → Mount
  with_anon m number = record m { files = m.files ++ with_map_made task number 0 n sharing reserving (record { name = None; cells = []; maps = [] }) ∷ [] }

  abbrev Anons : Slot → Answer → Slot → Type 0
  Anons old answer new = There old (λ m. IsNewNumber m task answer (λ number. new ≡ Some (with_anon m number)))

  anon_all : (size k : ℕ) (c : Choice) (old : Slot) → Always (Comes (Anons old)) (slot_event size k c old (slot.Anon task home n sharing reserving))
  anon_all size k c None = tt
  anon_all size k c (Some m) =
      let P = Comes (Anons (Some m)) in
      let number : ℕ = next_number task m in
      let wanted : ℕ = asked sharing reserving 0 n (new_file None) in
      let done : Outcome = Answered (MapNo number) (Some (with_new m (mapped task number 0 n sharing reserving (new_file None)))) in
      always_unless P (λ r. tt) (anon_tests m task n) (grant c m home wanted done)
      (always_grant P (λ r. tt) c m home wanted done
      (number_is_new m task, ap (λ g. Some (with_new m g)) (mapped_is task number 0 n sharing reserving (new_file None))))

  pub anon_changes : (answer : Answer) (t : State) → IsEvent s (OnSlot 0 (slot.Anon task home n sharing reserving)) (Ok answer) t → Changes s (step.Anon task n sharing reserving) answer t
  anon_changes answer t is =
      let R = Anons (slot_at s 0) in
      let l = comes R s 0 answer t (slot.Anon task home n sharing reserving) (λ c fresh. always_here s (Comes R) _ (anon_all s.page_size 0 c (slot_at s 0))) is in
      there_weaker (λ m. IsNewNumber m task answer (λ number. l.0 ≡ Some (with_anon m number))) (λ m. IsNewNumber m task answer (λ number. LeavesMount s 0 (with_anon m number) t)) (slot_at s 0)
      (λ m there h. numbered_weaker m task (λ number. l.0 ≡ Some (with_anon m number)) (λ number. LeavesMount s 0 (with_anon m number) t)
      (λ number e. leaves s 0 t l.0 (with_anon m number) e l.1.1) answer h) l.1.0
