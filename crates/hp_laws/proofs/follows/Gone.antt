-- What a step ends is gone, by the footprint.
use Rattle.std.proofs.Common.{◌≡◌, ⊎_elim, subst, ℕ, zero, suc, ◌<◌, ◌≤◌, ◌||◌, Bool, true, false, not, None, Some, Ok, List, [], ◌∷◌, length, map, option_map, refl, sym, ap, ◌∙◌, arith}
use Rattle.std.proofs.Common.{filter, get_or, slice_set, if◌then◌else◌, count_by}
use Rattle.std.specs.List.{list_any}
use Rattle.std.proofs.lemmas.Bool.{cases_lt, false_from_ne_true, or_cases}
use Rattle.std.proofs.lemmas.List.{get_or_past}
use Rattle.std.proofs.lemmas.List.Sums.{sum_by-set}
use Rattle.hp_laws.proofs.Variants.{Answer, Gone as GonePlace}
use Rattle.hp_model.specs.declared.step.Step.{Step}
use Rattle.hp_model.specs.declared.step.Step.TheVariants as step
use Rattle.hp_model.proofs.Words.{File, IsSettledState, IsSound, IsSoundMount, Map, Mount, Slot, Spot, State, file_named, has_maps_of, has_name, is_in, is_kept, is_map, is_mapped, is_of}
use Rattle.hp_model.proofs.Words.{named_on, new_file, no_map}
use Rattle.hp_model.proofs.Words.{slot_at, spot, spot_on, with_file}
use Rattle.hp_laws.specs.Follows.{IsGone}
use Rattle.hp_model.specs.machine.Footprint.{Changes, of_others, unmapped, with_edit, with_maps, with_places}
use Rattle.hp_laws.proofs.counts.MountMoves.{spot_is}
use Rattle.hp_laws.proofs.ending.Unmaps.{spot_passes}
use Rattle.hp_laws.proofs.follows.Slots.{mapped_at, there_all}
use Rattle.hp_laws.proofs.lists.AtMostOne.{bit, some_counted}
use Rattle.hp_laws.proofs.lists.Places.{any_filter, found_place}
use Rattle.hp_laws.proofs.making.FilesMade.{any_in_files, spot_none}
use Rattle.hp_laws.proofs.making.NewNumbers.{found_not}
use Rattle.hp_laws.proofs.sections.PoolTied.{left_sound}

-- ---- lists

put_here : {X : Type 0} (Q : X → Type 0) (xs : List X) (k : ℕ) (x d : X) → Q x → Q d → Q (get_or (slice_set xs k x) k d)
put_here Q [] k x d here none = none
put_here Q (y ∷ ys) zero x d here none = here
put_here Q (y ∷ ys) (suc k) x d here none = put_here Q ys k x d here none

any_there : {X : Type 0} (t : X → Bool) (d : X) (xs : List X) → list_any t xs ≡ true → (k : ℕ) × (k < length xs) × (t (get_or xs k d) ≡ true)
any_there t d [] e = cc
any_there t d (x ∷ xs) e =
    ⊎_elim (λ here. (0, omega arith, here)) (λ later. (let there = any_there t d xs later in (suc there.0, omega (arith, there.1), there.2))) (or_cases (t x) (list_any t xs) e)

-- what is in a filtered list passes, and what holds of each element of a list holds of it
filtered : {X : Type 0} (P : X → Type 0) (t : X → Bool) (xs : List X) → ((x : X) → t x ≡ true → P x) → (d : X) (k : ℕ) → k < length (filter t xs) → P (get_or (filter t xs) k d)
filtered P t [] h d k l = absurd (omega (arith, l))
filtered {X = X} P t (x ∷ xs) h d k l = by_test (t x) refl (λ j. filtered P t xs h d j) k l
  where
    by_test : (b : Bool) → t x ≡ b → ((j : ℕ) → j < length (filter t xs) → P (get_or (filter t xs) j d))
        → (j : ℕ) → j < length (if b then x ∷ filter t xs else filter t xs) → P (get_or (if b then x ∷ filter t xs else filter t xs) j d)
    by_test true is rest zero l = h x is
    by_test true is rest (suc j) l = rest j (omega (arith, l))
    by_test false is rest j l = rest j l

mapped_all : {X Y : Type 0} (P : Y → Type 0) (f : X → Y) (t : Y → Bool) (d : Y) → ((x : X) → P (f x)) → (xs : List X) (k : ℕ) → k < length (filter t (map f xs)) → P (get_or (filter t (map f xs)) k d)
mapped_all P f t d h [] k l = absurd (omega (arith, l))
mapped_all {X = X} {Y = Y} P f t d h (x ∷ xs) k l = by_test (t (f x)) (λ j. mapped_all P f t d h xs j) k l
  where
    by_test : (b : Bool) → ((j : ℕ) → j < length (filter t (map f xs)) → P (get_or (filter t (map f xs)) j d))
        → (j : ℕ) → j < length (if b then f x ∷ filter t (map f xs) else filter t (map f xs)) → P (get_or (if b then f x ∷ filter t (map f xs) else filter t (map f xs)) j d)
    by_test true rest zero l = h x
    by_test true rest (suc j) l = rest j (omega (arith, l))
    by_test false rest j l = rest j l

-- ---- a task's maps

none_left : (task : ℕ) (xs : List Map) → list_any (is_of task) (of_others task xs) ≡ false
none_left task [] = refl
none_left task (x ∷ xs) = grind (arith, none_left task xs)

none_in_files : (task : ℕ) (fs : List File) → list_any (λ (f : File). list_any (is_of task) f.maps) (map (λ (f : File). record f { maps = of_others task f.maps }) fs) ≡ false
none_in_files task [] = refl
none_in_files task (f ∷ fs) =
    ap (λ b. b || list_any (λ (g : File). list_any (is_of task) g.maps) (map (λ (g : File). record g { maps = of_others task g.maps }) fs)) (none_left task f.maps) ∙ none_in_files task fs

-- fewer pass
none_weaker : (task number : ℕ) (xs : List Map) → list_any (is_of task) xs ≡ false → list_any (is_map task number) xs ≡ false
none_weaker task number [] none = refl
none_weaker task number (x ∷ xs) none = grind (arith, none_weaker task number xs)

no_map_of : (task number : ℕ) (x : Slot) → has_maps_of task x ≡ false → spot_on x task number ≡ None
no_map_of task number x none = grind (arith, spot_none, found_not, any_in_files, none_weaker)

others_only : (task : ℕ) (m : Mount) → has_maps_of task (Some (with_maps (of_others task) m)) ≡ false
others_only task m =
    let changed : List File = map (λ (f : File). record f { maps = of_others task f.maps }) m.files in
    let has : File → Bool = λ f. list_any (is_of task) f.maps in
    any_in_files (is_of task) (filter is_kept changed)
    ∙ false_from_ne_true (list_any has (filter is_kept changed))
    (λ some. (let before = any_filter has is_kept changed some in let never : true ≡ false = sym before ∙ none_in_files task m.files in cc))

-- ---- a file's name

module _ (name : List ℕ) where
  uncounted : (fs : List File) → count_by (has_name name) fs ≤ 0 → list_any (has_name name) fs ≡ false
  uncounted fs none =
      false_from_ne_true (list_any (has_name name) fs)
      (λ some. (let there = any_there (has_name name) (new_file None) fs some in
      let one = some_counted (has_name name) (new_file None) fs there.0 there.1 there.2 in absurd (omega (arith, one, none))))

  -- the only file of the name has none
  name_ends : (m : Mount) → IsSoundMount m → (q : ℕ × File) → file_named m name ≡ Some q → file_named (with_edit m q.0 (record q.1 { name = None })) name ≡ None
  name_ends m sound q e =
      let at = found_place (has_name name) m.files q e in
      let left : Mount = with_file m q.0 (record q.1 { name = None }) in
      let here = sum_by-set (λ x. bit (has_name name x)) m.files q.0 (record q.1 { name = None }) q.1 at.within in
      let was = ap (λ x. bit (has_name name x)) (at.is q.1) in
      let one = ap bit at.passes in
      let few = sound.names name in
      let none = uncounted left.files (omega (arith, here, was, one, few)) in
      found_not (has_name name) (filter is_kept left.files)
      (false_from_ne_true (list_any (has_name name) (filter is_kept left.files)) (λ some. (let before = any_filter (has_name name) is_kept left.files some in cc)))

-- ---- a map's last index

module _ (task number a b : ℕ) where
  -- it is mapped, or it is not the map of the number
  abbrev Left : Map → Type 0
  Left y = is_map task number y ≡ true → is_mapped y ≡ true

  left_map : (y : Map) → (is_mapped y || not (is_map task number y)) ≡ true → Left y
  left_map y e on = grind arith

  all_left : (maps : List Map) (k : ℕ) → k < length (unmapped task number a b maps) → Left (get_or (unmapped task number a b maps) k no_map)
  all_left maps k l =
      filtered Left (λ y. is_mapped y || not (is_map task number y))
      (map (λ y. if is_map task number y then with_places (λ i p. if is_in a b i then GonePlace else p) y else y) maps) left_map no_map k l

  number_left : (m : Mount) (q : Spot) → spot (with_maps (unmapped task number a b) m) (is_map task number) ≡ Some q → is_mapped q.map ≡ true
  number_left m q e =
      let at = spot_is (with_maps (unmapped task number a b) m) (is_map task number) q e in
      let each = mapped_all (λ (f : File). (k : ℕ) → k < length f.maps → Left (get_or f.maps k no_map)) (λ (f : File). record f { maps = unmapped task number a b f.maps }) is_kept (new_file None)
      (λ f. all_left f.maps) m.files q.file_no at.file.within in
      subst Left (at.map.is no_map) (subst (λ (f : File). (k : ℕ) → k < length f.maps → Left (get_or f.maps k no_map)) (at.file.is (new_file None)) each q.map_no at.map.within)
      (spot_passes (with_maps (unmapped task number a b) m) (is_map task number) q e)

-- ---- a step

pub in_range : (s : State) (k : ℕ) (m : Mount) → slot_at s k ≡ Some m → k < length s.slots
in_range s k m is = ⊎_elim (λ l. l) (λ past. (let none : None ≡ Some m = sym (get_or_past s.slots k None past) ∙ is in cc)) (cases_lt k (length s.slots))

module _ (s t : State) where
  pub step_gone : IsSettledState s → (x : Step) (a : Answer) → Changes s x a t → IsGone x (Ok a) t
  step_gone st (step.Umount k) a is = subst (λ (xs : List Slot). get_or xs k None ≡ None) (sym (ap (λ u. u.slots) is.0)) (put_here (λ x. x ≡ None) s.slots k None None refl refl)
  step_gone st (step.Exit task) a is = λ j number.
      subst (λ (xs : List Slot). spot_on (get_or xs j None) task number ≡ None) (sym (ap (λ u. u.slots) is.0))
      (mapped_at (λ x. spot_on x task number ≡ None) change None refl s.slots j (by_slot number (slot_at s j)))
    where
      change : Slot → Slot
      change slot = if has_maps_of task slot then option_map (with_maps (of_others task)) slot else slot

      by_slot : (number : ℕ) (o : Slot) → spot_on (change o) task number ≡ None
      by_slot number None = refl
      by_slot number (Some m) = by_test (has_maps_of task (Some m)) refl
        where
          by_test : (c : Bool) → has_maps_of task (Some m) ≡ c → spot_on (if c then Some (with_maps (of_others task) m) else Some m) task number ≡ None
          by_test true is = no_map_of task number (Some (with_maps (of_others task) m)) (others_only task m)
          by_test false is = no_map_of task number (Some m) is
  step_gone st (step.Unlink k name) a is =
      there_all _ (slot_at s k) is (λ m at there. there_all _ (file_named m name) there (λ f named left.
      subst (λ (xs : List Slot). named_on (get_or xs k None) name ≡ None) (sym (ap (λ u. u.slots) left.0))
      (put_here (λ x. named_on x name ≡ None) s.slots k (Some (with_edit m f.0 (record f.1 { name = None }))) None
      (name_ends name m (subst IsSound at (left_sound s k (in_range s k m at) st)) f named) refl)))
  step_gone st (step.Unmap task k number a b) x is =
      there_all _ (slot_at s k) is (λ m at left.
      subst (λ (xs : List Slot). (q : Spot) → spot_on (get_or xs k None) task number ≡ Some q → is_mapped q.map ≡ true) (sym (ap (λ u. u.slots) left.0))
      (put_here (λ x. (q : Spot) → spot_on x task number ≡ Some q → is_mapped q.map ≡ true) s.slots k (Some (with_maps (unmapped task number a b) m)) None
      (number_left task number a b m) (λ q e. cc)))
  step_gone st x a is = grind arith
