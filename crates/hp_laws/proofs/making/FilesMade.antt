-- The number of a new map is new, and a file that lacks no page of a range is long enough.
use Rattle.std.proofs.lemmas.Grind.{common_steps}
use Rattle.std.proofs.Common.{◌≡◌, ℕ, ◌<◌, ◌||◌, Bool, true, false, None, Option, Some, List, nat_le, nat_lt, ◌≤◌, ⊎_elim, arith, ◌-◌, [], ◌∷◌, ◌++◌, length, is_some}
use Rattle.std.proofs.Common.{option_map, refl, sym, ap, ◌∙◌, if◌then◌else◌, flat_map}
use Rattle.std.specs.List.{list_any}
use Rattle.std.proofs.lemmas.Bool.{cases_lt, leb-false, or_parts}
use Rattle.std.proofs.lemmas.List.{get_or_past}
use Rattle.hp_laws.proofs.Variants.{Hole}
use Rattle.hp_model.proofs.Words.{File, Map, Mount, Spot}
use Rattle.hp_model.proofs.Words.{at_least, cell_at, file_named, found, has_page, is_bad_range, is_map, lacking}
use Rattle.hp_model.proofs.Words.{maps_of, most_file_pages, next_number, numbers_of, one_on}
use Rattle.hp_model.proofs.Words.{spot, spot_in}
use Rattle.hp_laws.proofs.making.NewNumbers.{found_not, least_is_unused, number_used}
use Rattle.hp_laws.proofs.lists.Fills.{all_there}
use Rattle.hp_laws.proofs.counts.Filled.{length-longer, same_longer}

-- ---- a map's number is not used before

pub any_append : {X : Type 0} (t : X → Bool) (xs ys : List X) → list_any t (xs ++ ys) ≡ (list_any t xs || list_any t ys)
any_append t xs ys = grind (arith, common_steps)

pub any_in_files : (t : Map → Bool) (fs : List File) → list_any t (flat_map (λ f. f.maps) fs) ≡ list_any (λ (f : File). list_any t f.maps) fs
any_in_files t [] = refl
any_in_files t (f ∷ fs) = any_append t f.maps (flat_map (λ f. f.maps) fs) ∙ ap (λ b. list_any t f.maps || b) (any_in_files t fs)

-- a map is found where its file is found, and it in there
abbrev pub in_file : (Map → Bool) → Option (ℕ × File) → Option Spot
in_file test None = None
in_file test (Some f) = option_map (spot_in f) (found test f.1.maps)

pub spot_in_file : (m : Mount) (test : Map → Bool) → spot m test ≡ in_file test (found (λ (f : File). list_any test f.maps) m.files)
spot_in_file m test = grind arith

pub spot_none : (m : Mount) (test : Map → Bool) → found (λ (f : File). list_any test f.maps) m.files ≡ None → spot m test ≡ None
spot_none m test e = spot_in_file m test ∙ ap (in_file test) e

module _ (m : Mount) (task : ℕ) where
  abbrev number : ℕ
  number = next_number task m

  abbrev has_it : File → Bool
  has_it f = list_any (is_map task number) f.maps

  pub number_unused : list_any (is_map task number) (maps_of m) ≡ false
  number_unused = number_used task number (maps_of m) ∙ least_is_unused (numbers_of task (maps_of m))

  unused : list_any has_it m.files ≡ false
  unused = sym (any_in_files (is_map task number) m.files) ∙ number_unused

  pub number_is_new : spot m (is_map task number) ≡ None
  number_is_new = spot_none m (is_map task number) (found_not has_it m.files unused)

module _ (m : Mount) (name : List ℕ) (a b : ℕ) (q : ℕ × File) (is : file_named m name ≡ Some q) (good : is_bad_range a b ≡ false) where
  some_range : a < b
  some_range = leb-false b a (or_parts (nat_le b a) (nat_lt most_file_pages b) good).0

  -- where nothing lacks a page each index of the range has one
  there_all : lacking a b q.1 ≡ 0 → (i : ℕ) → a ≤ i → i < b → has_page (cell_at q.1 i) ≡ true
  there_all none i low high =
      sym (ap has_page (same_longer 0 a b [] q.1 i)) ∙ all_there a b (at_least b q.1.cells) none i low high (omega (arith, high, length-longer 0 a b [] q.1))

  -- so the file is long enough
  pub long_enough : lacking a b q.1 ≡ 0 → b ≤ length q.1.cells
  long_enough none =
      ⊎_elim (λ (l : length q.1.cells < b). (let last = there_all none (b - 1) (omega (arith, some_range)) (omega (arith, some_range)) in
      let past = ap has_page (get_or_past q.1.cells (b - 1) Hole (omega (arith, l))) in absurd (let no : true ≡ false = sym last ∙ past in cc)))
      (λ (l : b ≤ length q.1.cells). l) (cases_lt (length q.1.cells) b)

-- a file of the name is not there, and is found once it is made
pub named_none : {X : Type 0} (o : Option X) → is_some o ≡ false → o ≡ None
named_none o e = grind arith

pub found_none : {X : Type 0} (t : X → Bool) (xs : List X) → found t xs ≡ None → list_any t xs ≡ false
found_none t [] e = refl
found_none {X = X} t (x ∷ xs) e = by_head (t x) refl (found t xs) refl e (found_none t xs)
  where
    by_head : (b : Bool) → t x ≡ b → (r : Option (ℕ × X)) → found t xs ≡ r → (if b then Some (0, x) else option_map one_on r) ≡ None →
        (found t xs ≡ None → list_any t xs ≡ false) → list_any t (x ∷ xs) ≡ false
    by_head true is r was e rest = cc
    by_head b is r was e rest = grind arith
