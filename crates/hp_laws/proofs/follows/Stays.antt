-- What stays of one slot: its mount with its limits, and files that somebody has.
use Rattle.std.proofs.Common.{◌≡◌, ℕ, zero, suc, ◌<◌, Bool, true, false, None, Some, List, [], ◌∷◌, ◌++◌, length, map, refl}
use Rattle.std.proofs.Common.{arith, slice_set, is_some}
use Rattle.std.proofs.Common.{filter, nat_lt}
use Rattle.std.specs.List.{list_all}
use Rattle.std.proofs.lemmas.Bool.{and_parts, lt-ltb, or_right}
use Rattle.hp_model.proofs.Words.{File, Map, Mount, Slot, is_kept}
use Rattle.hp_model.proofs.Words.{with_file}
use Rattle.hp_laws.specs.Follows.{SameLimits, are_held}
use Rattle.hp_model.specs.machine.Footprint.{with_edit}
use Rattle.hp_model.specs.machine.Footprint.{with_maps}

-- ---- lists

all_filter : {X : Type 0} (t : X → Bool) (xs : List X) → list_all t (filter t xs) ≡ true
all_filter t [] = refl
all_filter t (x ∷ xs) = grind (arith, all_filter t xs)

all_set : {X : Type 0} (t : X → Bool) (xs : List X) (k : ℕ) (y : X) → t y ≡ true → list_all t xs ≡ true → list_all t (slice_set xs k y) ≡ true
all_set t [] k y on e = e
all_set t (x ∷ xs) zero y on e = rw (on, (and_parts (t x) (list_all t xs) e).1) refl
all_set t (x ∷ xs) (suc k) y on e = (let parts = and_parts (t x) (list_all t xs) e in rw (parts.0, all_set t xs k y on parts.1) refl)

all_more : {X : Type 0} (t : X → Bool) (xs : List X) (y : X) → t y ≡ true → list_all t xs ≡ true → list_all t (xs ++ y ∷ []) ≡ true
all_more t [] y on e = rw on refl
all_more t (x ∷ xs) y on e = (let parts = and_parts (t x) (list_all t xs) e in rw (parts.0, all_more t xs y on parts.1) refl)

pub some_maps : (f : File) → 0 < length f.maps → is_kept f ≡ true
some_maps f l = or_right (is_some f.name) (nat_lt 0 (length f.maps)) (lt-ltb 0 (length f.maps) l)

pub one_more : (xs : List Map) (y : Map) → 0 < length (xs ++ y ∷ [])
one_more [] y = omega arith
one_more (x ∷ xs) y = omega arith

-- ---- one slot

-- its limits stay, but where the step ends them; each file is somebody's still; and all stays where the step is not on the slot
abbrev pub Stays : (relimited on : Bool) → Slot → Slot → Type 0
Stays relimited on old new = (relimited ≡ false → SameLimits old new) × (are_held old ≡ true → are_held new ≡ true) × (on ≡ false → new ≡ old)

pub never : {X : Type 0} (x y : X) (c : Bool) → c ≡ true → c ≡ false → x ≡ y
never x y c on off = cc

pub stays_same : (b c : Bool) (x : Slot) → Stays b c x x
stays_same b c None = (λ e. tt, λ e. refl, λ e. refl)
stays_same b c (Some m) = (λ e. refl, λ e. e, λ e. refl)

module _ (b c : Bool) (on : c ≡ true) (m : Mount) where
  swept_stays : (files : List File) → Stays b c (Some m) (Some (record m { files = filter is_kept files }))
  swept_stays files = (λ e. refl, λ e. all_filter is_kept files, never _ _ c on)

  pub edited_stays : (k : ℕ) (f : File) → Stays b c (Some m) (Some (with_edit m k f))
  edited_stays k f = swept_stays (with_file m k f).files

  pub maps_stay : (g : List Map → List Map) → Stays b c (Some m) (Some (with_maps g m))
  maps_stay g = swept_stays (map (λ (x : File). record x { maps = g x.maps }) m.files)

  pub put_stays : (k : ℕ) (f : File) → is_kept f ≡ true → Stays b c (Some m) (Some (with_file m k f))
  put_stays k f kept = (λ e. refl, λ e. all_set is_kept m.files k f kept e, never _ _ c on)

  pub more_stays : (f : File) → is_kept f ≡ true → Stays b c (Some m) (Some (record m { files = m.files ++ f ∷ [] }))
  more_stays f kept = (λ e. refl, λ e. all_more is_kept m.files f kept e, never _ _ c on)
