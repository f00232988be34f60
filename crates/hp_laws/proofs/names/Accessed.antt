-- What an access leaves: the mount as it was, or with its file in another form that has the same name and maps of the same numbers.
use Rattle.std.proofs.lemmas.Grind.{common_steps}
use Rattle.std.proofs.Common.{◌≡◌, ℕ, ◌<◌, Bool, map, suc, zero, arith, get_or, List, [], ◌∷◌, length, refl, sym, ap, ◌∙◌, slice_index_or, slice_set}
use Rattle.std.proofs.lemmas.List.{length-set}
use Rattle.hp_laws.proofs.Variants.{Cell, Intent, Place}
use Rattle.hp_model.proofs.Words.{Choice, Copy, File, Map, Mount, Page, Spot, access, byte_access, copied, copy_write, edit_at, new_copy, private_access, robbed, shared_access}
use Rattle.hp_model.proofs.Words.{uncopied_access, with_file, with_map}
use Rattle.hp_laws.specs.Follows.{shape_of}
use Rattle.hp_laws.proofs.counts.FileMoves.{IsMapAt}
use Rattle.hp_laws.proofs.names.Keys.{file_key, keys}
use Rattle.hp_laws.proofs.counts.MountMoves.{IsSpot}
use Rattle.hp_laws.proofs.steps.Outcomes.{Always, always_if, outcome_if}
use Rattle.hp_laws.proofs.accesses.Shown.{On, on_grant_page, on_reserved_page}
use Rattle.hp_laws.proofs.accesses.SlotShows.{always_unless}

-- ---- the same keys

pub key_set : {X K : Type 0} (key : X → K) (xs : List X) (k : ℕ) (y : X) → key y ≡ key (get_or xs k y) → map key (slice_set xs k y) ≡ map key xs
key_set key [] k y same = refl
key_set key (x ∷ xs) zero y same = ap (λ z. z ∷ map key xs) same
key_set key (x ∷ xs) (suc k) y same = ap (λ zs. key x ∷ zs) (key_set key xs k y same)

pub key_edit : {X K : Type 0} (key : X → K) (f : X → X) → ((x : X) → key (f x) ≡ key x) → (xs : List X) (k : ℕ) → map key (edit_at f xs k) ≡ map key xs
key_edit key f same [] k = refl
key_edit key f same (x ∷ xs) zero = ap (λ z. z ∷ map key xs) (same x)
key_edit key f same (x ∷ xs) (suc k) = ap (λ zs. key x ∷ zs) (key_edit key f same xs k)

pub key_map : {X K : Type 0} (key : X → K) (f : X → X) → ((x : X) → key (f x) ≡ key x) → (xs : List X) → map key (map f xs) ≡ map key xs
key_map key f same [] = refl
key_map key f same (x ∷ xs) = rw (same x, key_map key f same xs) refl

-- other places, and as many
pub pages_same : (x : Map) (mark : Bool) (ps : List (Place Copy)) → length ps ≡ length x.places → shape_of (record x { unmapped = mark; places = ps }) ≡ shape_of x
pages_same x mark ps long = ap (λ n. record { task = x.task; number = x.number; start = x.start; pages = n; sharing = x.sharing; owner = x.owner }) long

robbed_key : (stamp : ℕ) (x : Map) → shape_of (robbed stamp x) ≡ shape_of x
robbed_key stamp x = grind (arith, common_steps)

-- a file in the place of another of the same name and numbers
pub file_put : (m : Mount) (k : ℕ) (g f : File) → ((d : File) → slice_index_or m.files k d ≡ g) → file_key f ≡ file_key g → keys (with_file m k f) ≡ keys m
file_put m k g f there same = key_set file_key m.files k f (same ∙ sym (ap file_key (there f)))

-- a map in the place of another of the same number
map_put : (f : File) (k : ℕ) (x y : Map) → IsMapAt f k x → shape_of y ≡ shape_of x → file_key (with_map f k y) ≡ file_key f
map_put f k x y at same = ap (λ ks. (f.name, ks)) (key_set shape_of f.maps k y (same ∙ sym (ap shape_of (at.is y))))

-- an element of the list that a function was put over
pub get_mapped : {X : Type 0} (f : X → X) (xs : List X) (k : ℕ) (d : X) → k < length xs → get_or (map f xs) k d ≡ f (get_or xs k d)
get_mapped f xs k d l = grind (arith, common_steps)

back_put : (f : File) (k stamp : ℕ) (x : Map) → IsMapAt f k x → file_key (with_map (record f { maps = map (robbed stamp) f.maps }) k x) ≡ file_key f
back_put f k stamp x at = grind (arith, key_set, get_mapped, robbed_key, key_map)

-- ---- accesses

module _ (c : Choice) (m : Mount) (Q : Mount → Type 0) (own : Q m) (s : Spot) (at : IsSpot m s) (put : (f : File) → file_key f ≡ file_key s.file → Q (with_file m s.file_no f)) (size home i : ℕ) where
  shared_on : (cell : Cell Page) → Always (On Q) (shared_access c size m s home i cell)
  shared_on cell = grind arith

  -- the map with a copy there
  copied_on : (consumed : Bool) (copy : Copy) → On Q (copied m s i consumed copy)
  copied_on consumed copy = grind (arith, common_steps, map_put, pages_same, length-set)

  new_on : (consumed : Bool) → Always (On Q) (new_copy c size m s home i consumed)
  new_on consumed = grind (arith, always_if, On, on_reserved_page, copied_on, on_grant_page)

  uncopied_on : (consumed : Bool) (intent : Intent) → Always (On Q) (uncopied_access c size m s home i consumed intent)
  uncopied_on consumed intent = grind (arith, new_on, always_if, On)

  write_on : (consumed : Bool) (copy : Copy) → Always (On Q) (copy_write c m s home i consumed copy)
  write_on consumed copy = grind (arith, On, back_put, always_if, outcome_if, copied_on, on_grant_page)

  private_on : (p : Place Copy) (intent : Intent) → Always (On Q) (private_access c size m s home i p intent)
  private_on p intent = grind (arith, write_on, always_if, On, uncopied_on)

  pub access_on : (intent : Intent) → Always (On Q) (access c size m s home i intent)
  access_on intent = grind (arith, always_if, On, shared_on, private_on)

  pub bytes_on : (offset count : ℕ) (intent : Intent) → Always (On Q) (byte_access c size m home i offset count intent s)
  bytes_on offset count intent = grind (arith, always_unless, On, access_on)
