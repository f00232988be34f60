-- Where a name and a map's number are found depends on the names and numbers alone.
use Rattle.std.proofs.Common.{arith, ◌≡◌, ℕ, ◌&&◌, ◌||◌, ◌==◌, Bool, true, false, None, Option, Some, List, [], ◌∷◌, map, option_map, refl, sym, ap, ◌∙◌, if◌then◌else◌}
use Rattle.std.specs.List.{list_any}
use Rattle.std.specs.Str.{bytes_eq}
use Rattle.hp_model.proofs.Words.{File, Map, Mount, Spot, file_named, found, is_map, one_on, spot}
use Rattle.hp_laws.specs.Follows.{Shape, shape_of}
use Rattle.hp_laws.proofs.making.FilesMade.{in_file, spot_in_file}

-- ---- keys

-- a file's name, and the shapes of its maps
abbrev pub FileKey : Type 0
FileKey = Option (List ℕ) × List Shape

abbrev pub file_key : File → FileKey
file_key f = (f.name, map shape_of f.maps)

abbrev pub keys : Mount → List FileKey
keys m = map file_key m.files

abbrev pub is_key : (task number : ℕ) → Shape → Bool
is_key task number k = (k.task == task) && (k.number == number)

abbrev pub is_named : List ℕ → FileKey → Bool
is_named name k = elim k.0 [ None ↦ false | Some n ↦ bytes_eq n name ]

abbrev pub has_key : (Shape → Bool) → FileKey → Bool
has_key t k = list_any t k.1

-- ---- what is found, by its key

abbrev pub keyed : {X K : Type 0} → (X → K) → ℕ × X → ℕ × K
keyed key q = (q.0, key q.1)

pub found_mapped : {X K : Type 0} (t : K → Bool) (key : X → K) (xs : List X) → found t (map key xs) ≡ option_map (keyed key) (found (λ x. t (key x)) xs)
found_mapped t key [] = refl
found_mapped {X = X} t key (x ∷ xs) = by_head (t (key x)) (found (λ x. t (key x)) xs) (found_mapped t key xs)
  where
    by_head : (b : Bool) (r : Option (ℕ × X)) → found t (map key xs) ≡ option_map (keyed key) r
        → (if b then Some (0, key x) else option_map one_on (found t (map key xs))) ≡ option_map (keyed key) (if b then Some (0, x) else option_map one_on r)
    by_head true r e = refl
    by_head b r e = grind arith

pub found_same : {X : Type 0} (t u : X → Bool) → ((x : X) → t x ≡ u x) → (xs : List X) → found t xs ≡ found u xs
found_same t u h xs = grind arith

pub any_mapped : (t : Shape → Bool) (ms : List Map) → list_any (λ m. t (shape_of m)) ms ≡ list_any t (map shape_of ms)
any_mapped t [] = refl
any_mapped t (m ∷ ms) = ap (λ b. t (shape_of m) || b) (any_mapped t ms)

-- the place of the file of a name
pub name_place : (m : Mount) (name : List ℕ) → found (is_named name) (keys m) ≡ option_map (keyed file_key) (file_named m name)
name_place m name = found_mapped (is_named name) file_key m.files

-- the places of a map, and its shape
abbrev pub Where : Type 0
Where = ℕ × ℕ × Shape

abbrev pub places : Spot → Where
places s = (s.file_no, s.map_no, shape_of s.map)

abbrev pub in_key : (Shape → Bool) → Option (ℕ × FileKey) → Option Where
in_key t None = None
in_key t (Some k) = option_map (λ q. (k.0, q.0, q.1)) (found t k.1.1)

abbrev pub key_places : (Shape → Bool) → List FileKey → Option Where
key_places t ks = in_key t (found (has_key t) ks)

number_in : (task number : ℕ) (o : Option (ℕ × File)) → option_map places (in_file (is_map task number) o) ≡ in_key (is_key task number) (option_map (keyed file_key) o)
number_in task number o = grind (arith, found_mapped)

pub number_places : (m : Mount) (task number : ℕ) → option_map places (spot m (is_map task number)) ≡ key_places (is_key task number) (keys m)
number_places m task number =
    ap (option_map places) (spot_in_file m (is_map task number))
    ∙ number_in task number (found (λ (f : File). list_any (is_map task number) f.maps) m.files)
    ∙ ap (λ o. in_key (is_key task number) (option_map (keyed file_key) o))
    (found_same (λ (f : File). list_any (is_map task number) f.maps) (λ (f : File). has_key (is_key task number) (file_key f)) (λ f. any_mapped (is_key task number) f.maps) m.files)
    ∙ sym (ap (in_key (is_key task number)) (found_mapped (has_key (is_key task number)) file_key m.files))
