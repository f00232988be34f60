-- What names and numbers mean after a range of a map is unmapped, and where maps of a task go or are made for a child.
use Rattle.std.proofs.Common.{arith, ◌≡◌, inl, subst, ℕ, ◌&&◌, ◌==◌, Bool, true, false, not, Option, None, Some, List, [], ◌∷◌, map, refl, sym, ap, ◌∙◌, if◌then◌else◌}
use Rattle.std.proofs.lemmas.Grind.{common_steps}
use Rattle.std.proofs.lemmas.Bool.{and_parts, eq-eqb, eqb-false, eqb-true, false_from_ne_true, or_left, or_right}
use Rattle.hp_laws.proofs.Variants.{Gone}
use Rattle.hp_model.proofs.Words.{File, Map, Mount, Spot, file_in, file_unmapped, found, is_in, is_left, is_map, is_mapped, map_in, map_unmapped}
use Rattle.hp_model.proofs.Words.{new_file, no_map, place_at, spot, swept, unmapped_from, value, without_range, Slot, cell_at, shown, spot_on}
use Rattle.hp_laws.specs.Follows.{is_at, map_on, seen_on, shape_of, shown_on, stays_mapped, SameFiles}
use Rattle.hp_laws.proofs.names.Accessed.{get_mapped, key_map}
use Rattle.hp_laws.proofs.names.ByPlace.{PlaceKeeps, by_place}
use Rattle.hp_laws.proofs.names.Changes.{SlotKeeps, Effect, IsIdle, Losses, Never}
use Rattle.hp_laws.proofs.ending.Cuts.{place_ranged}
use Rattle.hp_laws.proofs.names.Follows.{FilesFollow, edit_follows, follow, is_not_of, some_file, sweep_follows, thin, thin_follows}
use Rattle.hp_laws.proofs.names.Keys.{Where, file_key, keys}
use Rattle.hp_laws.proofs.lists.Looks.{get_map}
use Rattle.hp_laws.proofs.making.FilesMade.{spot_in_file}
use Rattle.hp_laws.proofs.counts.MountMoves.{spot_is}
use Rattle.hp_laws.proofs.names.Named.{map_shown}
use Rattle.hp_laws.proofs.names.Placed.{lead_same, placed}
use Rattle.hp_laws.proofs.lists.Places.{found_place}
use Rattle.hp_laws.proofs.accesses.Shown as shows

-- a map that is found passes
pub spot_passes : (m : Mount) (test : Map → Bool) (s : Spot) → spot m test ≡ Some s → test s.map ≡ true
spot_passes m test s e = grind (arith, some_file, spot_in_file, found_place)

not_not : (c : Bool) → not c ≡ false → c ≡ true
not_not c e = grind arith

-- files without a name and without maps go, which nothing means
pub swept_keeps : (size : ℕ) (x : Slot) (e : Effect) (n : Mount) → SlotKeeps size x e (Some n) Never → SlotKeeps size x e (Some (swept n)) Never
swept_keeps size x e n keeps = follow size x e n (swept n) (λ y. true) (sweep_follows n) keeps (λ t u q goes_on found. refl)

twice : {X : Type 0} (f g : X → X) (xs : List X) → map g (map f xs) ≡ map (λ x. g (f x)) xs
twice f g [] = refl
twice f g (x ∷ xs) = ap (λ ys. g (f x) ∷ ys) (twice f g xs)

module _ (size : ℕ) (m : Mount) (task number a b : ℕ) (e : Effect)
    (ends : (t u : ℕ) → e.ends_number t u ≡ ((task == t) && ((number == u) && not (stays_mapped (spot m (is_map t u)) a b))))
    (stores : (j x : ℕ) (old : List ℕ) → old ≡ e.stored j x old)
    (sees : (j l x : ℕ) (old : List ℕ) → (if is_at (spot m (is_map task number)) j l && is_in a b x then shown_on size (Some m) j x else old) ≡ e.seen j l x old) where
  abbrev test : Map → Bool
  test y = is_map task number y

  abbrev cut : Map → Map
  cut y = map_unmapped (is_map task number) a b y

  abbrev cut_file : File → File
  cut_file f = record f { maps = map (map_unmapped (is_map task number) a b) f.maps }

  -- the range is gone, and maps without an index are there still
  abbrev middle : Mount
  middle = record m { files = map cut_file m.files }

  cut_shape : (y : Map) → shape_of (cut y) ≡ shape_of y
  cut_shape y = grind (arith, common_steps)

  same_keys : keys middle ≡ keys m
  same_keys = key_map file_key cut_file (λ f. ap (λ ks. (f.name, ks)) (key_map shape_of cut cut_shape f.maps)) m.files

  file_now : (j : ℕ) → file_in middle j ≡ cut_file (file_in m j)
  file_now j = get_map cut_file (new_file None) refl m.files j

  -- of a map that is found
  module _ (t u : ℕ) (p : Spot) (found : spot m (is_map t u) ≡ Some p) where
    map_now : map_on (Some middle) p.file_no p.map_no ≡ cut p.map
    map_now =
        let at = spot_is m (is_map t u) p found in
        ap (λ f. map_in f p.map_no) (file_now p.file_no ∙ ap cut_file (at.file.is (new_file None))) ∙ get_mapped cut p.file.maps p.map_no no_map at.map.within ∙ ap cut (at.map.is no_map)

    -- it is the one of the event's number where it passes the event's test
    same_number : test p.map ≡ true → spot m (is_map task number) ≡ Some p
    same_number on = grind (arith, and_parts, spot_passes, eqb-true)

    agrees : is_at (spot m (is_map task number)) p.file_no p.map_no ≡ test p.map
    agrees = by_test (test p.map) refl
      where
        not_at : test p.map ≡ false → (o : Option Spot) → spot m (is_map task number) ≡ o → is_at o p.file_no p.map_no ≡ false
        not_at off None w = refl
        not_at off (Some s) w =
            false_from_ne_true ((s.file_no == p.file_no) && (s.map_no == p.map_no))
            (λ both. (let parts = and_parts (s.file_no == p.file_no) (s.map_no == p.map_no) both in
            let same : s.map ≡ p.map =
            sym (map_shown (Some m) task number s w) ∙ ap (λ j. map_on (Some m) j s.map_no) (eqb-true s.file_no p.file_no parts.0)
            ∙ ap (map_on (Some m) p.file_no) (eqb-true s.map_no p.map_no parts.1) ∙ map_shown (Some m) t u p found in
            let on : test p.map ≡ true = ap (λ y. is_map task number y) (sym same) ∙ spot_passes m (is_map task number) s w in
            cc))

        by_test : (c : Bool) → test p.map ≡ c → is_at (spot m (is_map task number)) p.file_no p.map_no ≡ c
        by_test true on = ap (λ o. is_at o p.file_no p.map_no) (same_number on) ∙ ap (λ c. c && (p.map_no == p.map_no)) (eq-eqb p.file_no p.file_no refl) ∙ eq-eqb p.map_no p.map_no refl
        by_test false off = not_at off (spot m (is_map task number)) refl

    -- what it shows
    seen_now : (x : ℕ) → seen_on size (Some middle) p.file_no p.map_no x
        ≡ (if is_at (spot m (is_map task number)) p.file_no p.map_no && is_in a b x then shown_on size (Some m) p.file_no x else seen_on size (Some m) p.file_no p.map_no x)
    seen_now x =
        let at = spot_is m (is_map t u) p found in
        let old : seen_on size (Some m) p.file_no p.map_no x ≡ value size (file_in m p.file_no) p.map x = ap (λ y. value size (file_in m p.file_no) y x) (map_shown (Some m) t u p found) in
        ap (λ y. value size (file_in middle p.file_no) y x) map_now
        ∙ ap (λ f. value size f (cut p.map) x) (file_now p.file_no)
        ∙ by_test (test p.map) refl
        ∙ ap (λ v. if test p.map && is_in a b x then shown_on size (Some m) p.file_no x else v) (sym old)
        ∙ ap (λ c. if c && is_in a b x then shown_on size (Some m) p.file_no x else seen_on size (Some m) p.file_no p.map_no x) (sym agrees)
      where
        gone : (c : Bool) → shows.by_place size (if c then Gone else place_at p.map x) (shown_on size (Some m) p.file_no x)
            ≡ (if c then shown_on size (Some m) p.file_no x else value size (file_in m p.file_no) p.map x)
        gone true = refl
        gone false = refl

        by_test : (c : Bool) → test p.map ≡ c → shows.by_place size (place_at (if c then without_range a b p.map else p.map) x) (shown_on size (Some m) p.file_no x)
            ≡ (if c && is_in a b x then shown_on size (Some m) p.file_no x else value size (file_in m p.file_no) p.map x)
        by_test true on = ap (λ q. shows.by_place size q (shown_on size (Some m) p.file_no x)) (place_ranged (λ q. Gone) refl a b p.map x) ∙ gone (is_in a b x)
        by_test false off = refl

  cut_keeps : PlaceKeeps size m e middle Never
  cut_keeps =
      let stays = placed m middle (lead_same (keys m) (keys middle) same_keys) in
      record {
        names = λ name f goes_on e. stays.names name f e;
        numbers = λ t u p goes_on e. stays.numbers t u p e;
        cells = λ j x. ap (shows.look size x) (file_now j) ∙ stores j x (shown_on size (Some m) j x);
        maps = λ t u x p q e there same. inl (seen_now t u p e x ∙ sees p.file_no p.map_no x (seen_on size (Some m) p.file_no p.map_no x));
        marks = λ t u p e marked.
            ap (λ (y : Map). y.unmapped) (map_now t u p e) ∙ still_marked (test p.map) p.map ∙ ap (λ (y : Map). y.unmapped) (sym (map_shown (Some m) t u p e)) ∙ marked;
      }
    where
      still_marked : (c : Bool) (y : Map) → (if c then without_range a b y else y).unmapped ≡ y.unmapped
      still_marked true y = refl
      still_marked false y = refl

  -- a number that does not end has a map that stays
  number_left : (t u : ℕ) (q : Spot) → e.ends_number t u ≡ false → spot middle (is_map t u) ≡ Some q → is_left (is_map task number) q.map ≡ true
  number_left t u q goes_on there =
      let back = (placed middle m (lead_same (keys middle) (keys m) (sym same_keys))).numbers t u q there in
      let p = back.0 in
      let now : cut p.map ≡ q.map = sym (map_now t u p back.1) ∙ ap (λ (x : Where). map_on (Some middle) x.0 x.1) back.2 ∙ map_shown (Some middle) t u q there in
      subst (λ y. is_left (is_map task number) y ≡ true) now (by_test p back.1 (test p.map) refl)
    where
      by_test : (p : Spot) → spot m (is_map t u) ≡ Some p → (c : Bool) → test p.map ≡ c → is_left (is_map task number) (if c then without_range a b p.map else p.map) ≡ true
      by_test p found false off = or_right (is_mapped p.map) (not (test p.map)) (ap not off)
      by_test p found true on =
          let here = and_parts (p.map.task == task) (p.map.number == number) on in
          let mine = and_parts (p.map.task == t) (p.map.number == u) (spot_passes m (is_map t u) p found) in
          let tasks : (task == t) ≡ true = eq-eqb task t (sym (eqb-true p.map.task task here.0) ∙ eqb-true p.map.task t mine.0) in
          let numbers : (number == u) ≡ true = eq-eqb number u (sym (eqb-true p.map.number number here.1) ∙ eqb-true p.map.number u mine.1) in
          let stays : not (stays_mapped (spot m (is_map t u)) a b) ≡ false =
          ap (λ c. c && not (stays_mapped (spot m (is_map t u)) a b)) (sym numbers)
          ∙ ap (λ c. c && ((number == u) && not (stays_mapped (spot m (is_map t u)) a b))) (sym tasks) ∙ sym (ends t u) ∙ goes_on in
          or_left (is_mapped (without_range a b p.map)) (not (test (without_range a b p.map)))
          (ap (λ o. stays_mapped o a b) (sym found) ∙ not_not (stays_mapped (spot m (is_map t u)) a b) stays)

  pub unmap_keeps : SlotKeeps size (Some m) e (Some (unmapped_from task number a b m)) Never
  unmap_keeps =
      let keep : Map → Bool = is_left (is_map task number) in
      let thinned : Mount = record middle { files = map (thin keep) middle.files } in
      let first : SlotKeeps size (Some m) e (Some middle) Never = by_place size m middle e Never cut_keeps in
      let second : SlotKeeps size (Some m) e (Some thinned) Never = follow size (Some m) e middle thinned keep (edit_follows middle (thin keep) keep (thin_follows keep)) first number_left in
      let left : Mount = record m { files = map (file_unmapped (is_map task number) a b) m.files } in
      let same : thinned.files ≡ left.files = twice cut_file (thin keep) m.files in
      swept_keeps size (Some m) e left (subst (λ fs. SlotKeeps size (Some m) e (Some (record m { files = fs })) Never) same second)

-- ---- where nothing changes that is seen

module _ (size : ℕ) (x : Slot) (e : Effect) (idle : IsIdle e) (Lost : Losses) where
  pub same_keeps : SlotKeeps size x e x Lost
  same_keeps = record {
    names = λ name i f goes_on named. (f, named, idle.stored f.0 i (shown size (cell_at f.1 i)));
    numbers = λ task number i p goes_on found.
        (p, found, record { shape = refl; file = λ name kept named. named; marked = λ marked. marked; shows = inl (idle.seen p.file_no p.map_no i (value size p.file p.map i)) });
    together = λ a b p o first second found_a found_b.
        subst (λ y. SameFiles (p.file_no == o.file_no) y (spot_on x b.0 b.1)) (sym found_a) (subst (λ y. SameFiles (p.file_no == o.file_no) (Some p) y) (sym found_b) refl);
  }

-- but for the maps of a task, of which the numbers end
pub task_keeps : (size : ℕ) (m : Mount) (e : Effect) → IsIdle e → (gone : ℕ) → ((t u : ℕ) → e.ends_number t u ≡ (gone == t)) → (h : File → File) → FilesFollow h (is_not_of gone)
    → SlotKeeps size (Some m) e (Some (swept (record m { files = map h m.files }))) Never
task_keeps size m e idle gone ends h each =
    swept_keeps size (Some m) e (record m { files = map h m.files })
    (follow size (Some m) e m (record m { files = map h m.files }) (is_not_of gone) (edit_follows m h (is_not_of gone) each) (same_keeps size (Some m) e idle Never) not_gone)
  where
    not_gone : (t u : ℕ) (q : Spot) → e.ends_number t u ≡ false → spot m (is_map t u) ≡ Some q → is_not_of gone q.map ≡ true
    not_gone t u q goes_on found = grind (arith, eqb-true, and_parts, spot_passes, false_from_ne_true, eqb-false, ends)
