-- A mount stays sound where a place gets a copy whose stamp no other place holds: a new one, or one that is written.
use Rattle.std.proofs.lemmas.Grind.{common_steps}
use Rattle.std.proofs.Common.{◌≡◌, ⊎_elim, inl, inr, ◌⊎◌, ℕ, ◌<◌, ◌≤◌, Bool, true, false, ◌==◌, Option, None, Some, List, length, map, get_or, set, arith, refl, sym, ap, ◌∙◌, subst, count_by}
use Rattle.std.specs.List.{list_any}
use Rattle.std.proofs.lemmas.Bool.{and_from, and_parts, both_ways, cases_eq, cond_both, eq-eqb, eqb-true}
use Rattle.std.proofs.lemmas.List.{get_or-map, get_or-set_other, get_or-set_same, length-map, length-set}
use Rattle.std.proofs.lemmas.List.Elements.{All-set}
use Rattle.std.proofs.lemmas.List.Folds.{list_any_at}
use Rattle.std.proofs.lemmas.List.Sums.{get_or-le-sum_by, sum_by-set}
use Rattle.hp_laws.proofs.Variants.{Live, Place}
use Rattle.hp_model.proofs.Words.{Copy, File, HasCopy, IsCopyPlace, IsSoundFile, IsSoundMap, IsSoundMount, Map, Mount, Spot, copy_of, drop_stamp, file_has, file_in, has_name, holds, is_held_once}
use Rattle.hp_model.proofs.Words.{is_map, is_shared, is_stamp, is_unconsumed, map_has, map_in, new_file, no_map, owns_stamp, place_at, robbed, stamps_of, with_file, with_map, with_place}
use Rattle.hp_laws.proofs.counts.Copies.{file_copy, file_has_stamp, file_there, has_stamp, live_of, map_copy, map_there}
use Rattle.hp_laws.proofs.counts.FileMoves.{held_in, live_at, maps_count}
use Rattle.hp_laws.proofs.counts.FilesSound.{back_keeps}
use Rattle.hp_laws.proofs.lists.Looks.{get_map}
use Rattle.hp_laws.proofs.counts.MountMoves.{IsSpot}
use Rattle.hp_laws.proofs.counts.MountsSound.{put_sound, set_count}
use Rattle.hp_laws.proofs.lists.Places.{sum_by-map_same}
use Rattle.hp_laws.proofs.accesses.Shown.{place_other, place_put}
use Rattle.hp_laws.proofs.lists.AtMostOne.{bit, few, single}

-- the copy at a place of the mount
abbrev pub HasAt : Mount → (j k i : ℕ) → Copy → Type 0
HasAt m j k i a = HasCopy (map_in (file_in m j) k) i a

-- no other place holds the stamp
abbrev pub IsAlone : Mount → (j k i stamp : ℕ) → Type 0
IsAlone m j k i stamp = (h l z : ℕ) (a : Copy) → HasAt m h l z a → a.stamp ≡ stamp → (h ≡ j) × (l ≡ k) × (z ≡ i)

-- the place has a copy, and its stamp alone
pub record IsSole (m : Mount) (j k i : ℕ) : Type 0 where
  pub copy : Copy
  pub has : HasAt m j k i copy
  pub alone : IsAlone m j k i copy.stamp

spot_file : (m : Mount) (s : Spot) → IsSpot m s → file_in m s.file_no ≡ s.file
spot_file m s at = at.file.is (new_file None)

spot_map : (m : Mount) (s : Spot) → IsSpot m s → map_in s.file s.map_no ≡ s.map
spot_map m s at = at.map.is no_map

-- a stamp is in one file
same_file : (m : Mount) → IsSoundMount m → (h l z j k i : ℕ) (a b : Copy) → HasAt m h l z a → HasAt m j k i b → a.stamp ≡ b.stamp → h ≡ j
same_file m sound h l z j k i a b x y same =
    single (file_has (is_stamp b.stamp)) (new_file None) m.files (sound.stamps b.stamp) h j (file_there m h l z a x) (file_there m j k i b y)
    (file_has_stamp (is_stamp b.stamp) (file_in m h) l z a x (eq-eqb a.stamp b.stamp same)) (file_has_stamp (is_stamp b.stamp) (file_in m j) k i b y (eq-eqb b.stamp b.stamp refl))

-- and at one index of it
pub same_index : (m : Mount) → IsSoundMount m → (j l z k i : ℕ) (a b : Copy) → HasAt m j l z a → HasAt m j k i b → a.stamp ≡ b.stamp → (z ≡ i) × (a ≡ b)
same_index m sound j l z k i a b x y same = (sound.files j (new_file None) (file_there m j l z a x)).copies z i a b (l, x) (k, y) same

-- ---- a copy is put

module _ (m : Mount) (s : Spot) (at : IsSpot m s) (i : ℕ) (c : Bool) (o : Option Copy) (is : place_at s.map i ≡ Live c o) (d : Bool) (copy : Copy) where
  abbrev put : Map
  put = with_place s.map i (Live d (Some copy))

  abbrev new : File
  new = with_map s.file s.map_no put

  abbrev after : Mount
  after = with_file m s.file_no new

  map_here : map_in new s.map_no ≡ put
  map_here = get_or-set_same s.file.maps s.map_no put no_map at.map.within

  file_here : file_in after s.file_no ≡ new
  file_here = get_or-set_same m.files s.file_no new (new_file None) at.file.within

  place_here : place_at put i ≡ Live d (Some copy)
  place_here = place_put s.map i c o is (Live d (Some copy))

  pub put_has : HasAt after s.file_no s.map_no i copy
  put_has = ap (λ f. copy_of (place_at (map_in f s.map_no) i)) file_here ∙ ap (λ x. copy_of (place_at x i)) map_here ∙ ap copy_of place_here

  record IsPut (h l z : ℕ) (a : Copy) : Type 0 where
    pub file : h ≡ s.file_no
    pub map : l ≡ s.map_no
    pub index : z ≡ i
    pub same : a ≡ copy

  -- a copy there before, and not at the place
  record IsOld (h l z : ℕ) (a : Copy) : Type 0 where
    pub has : HasAt m h l z a
    pub other : (h ≡ s.file_no) × (l ≡ s.map_no) × (z ≡ i) → ⊥

  put_cases : (h l z : ℕ) (a : Copy) → HasAt after h l z a → IsPut h l z a ⊎ IsOld h l z a
  put_cases h l z a has = grind (arith, cases_eq, get_or-set_other, file_here, spot_file, place_here, spot_map, place_other, map_here)

  module _ (alone : IsAlone m s.file_no s.map_no i copy.stamp) where
    pub put_alone : IsAlone after s.file_no s.map_no i copy.stamp
    put_alone h l z a has e = ⊎_elim (λ p. (p.file, p.map, p.index)) (λ q. absurd (q.other (alone h l z a q.has e))) (put_cases h l z a has)

    -- two places that hold one stamp
    put_pair : (h l z h' l' z' : ℕ) (a b : Copy) → HasAt after h l z a → HasAt after h' l' z' b → a.stamp ≡ b.stamp
        → (IsPut h l z a × IsPut h' l' z' b) ⊎ (HasAt m h l z a × HasAt m h' l' z' b)
    put_pair h l z h' l' z' a b x y same =
        ⊎_elim
        (λ p. ⊎_elim (λ q. inl (p, q)) (λ q. absurd (q.other (alone h' l' z' b q.has (sym same ∙ ap (λ c. c.stamp) p.same)))) (put_cases h' l' z' b y))
        (λ p. ⊎_elim (λ q. absurd (p.other (alone h l z a p.has (same ∙ ap (λ c. c.stamp) q.same)))) (λ q. inr (p.has, q.has)) (put_cases h' l' z' b y))
        (put_cases h l z a x)

    module _ (sound : IsSoundMount m) (apart : is_shared s.map.sharing ≡ false) (below : i < length s.file.cells) (consumed : s.map.owner ≡ true → d ≡ true) where
      was : IsSoundFile s.file
      was = subst IsSoundFile (at.file.is s.file) (sound.files s.file_no s.file at.file.within)

      live_consumed : (b : Bool) → b ≡ true → is_unconsumed (Live b (Some copy)) ≡ false
      live_consumed b e = grind arith

      map_sound : IsSoundMap (length s.file.cells) put
      map_sound z a has =
          elim (cases_eq z i) as (λ _. IsCopyPlace (length s.file.cells) put z) [
            | inl here ↦ record {
              private = apart;
              below = subst (λ x. x < length s.file.cells) (sym here) below;
              consumed = λ own. ap (λ x. is_unconsumed (place_at put x)) here ∙ ap is_unconsumed place_here ∙ live_consumed d (consumed own);
            }
            | inr other ↦ (let same = place_other s.map i c o is (Live d (Some copy)) z other in
                let old = subst (IsSoundMap (length s.file.cells)) (at.map.is s.map) (was.maps s.map_no s.map at.map.within) z a (sym (ap copy_of same) ∙ has) in
                record { private = old.private; below = old.below; consumed = λ own. ap is_unconsumed same ∙ old.consumed own })
          ]

      -- in the file of the place
      in_new : (l z : ℕ) (a : Copy) → HasCopy (map_in new l) z a → HasAt after s.file_no l z a
      in_new l z a has = subst (λ f. HasCopy (map_in f l) z a) (sym file_here) has

      in_was : (l z : ℕ) (a : Copy) → HasAt m s.file_no l z a → HasCopy (map_in s.file l) z a
      in_was l z a has = subst (λ f. HasCopy (map_in f l) z a) (spot_file m s at) has

      owner_same : (l : ℕ) → (map_in new l).owner ≡ (map_in s.file l).owner
      owner_same l = grind (arith, common_steps)

      one_owner : (stamp j k : ℕ) → owns_stamp stamp (map_in new j) ≡ true → owns_stamp stamp (map_in new k) ≡ true → j ≡ k
      one_owner stamp j k a b =
          let t : ℕ → ℕ → Bool = is_stamp stamp in
          let first = and_parts (map_in new j).owner (map_has t (map_in new j)) a in
          let second = and_parts (map_in new k).owner (map_has t (map_in new k)) b in
          let x = map_copy t (map_in new j) first.1 in
          let y = map_copy t (map_in new k) second.1 in
          let same : x.1.stamp ≡ y.1.stamp = eqb-true x.1.stamp stamp x.3 ∙ sym (eqb-true y.1.stamp stamp y.3) in
          ⊎_elim (λ put. put.0.map ∙ sym put.1.map)
          (λ old. (let here = in_was j x.0 x.1 old.0 in
          let there = in_was k y.0 y.1 old.1 in
          single (owns_stamp stamp) no_map s.file.maps (was.owners stamp) j k (map_there s.file j x.0 x.1 here) (map_there s.file k y.0 y.1 there)
          (and_from (map_in s.file j).owner (map_has t (map_in s.file j)) (sym (owner_same j) ∙ first.0) (has_stamp t (map_in s.file j) x.0 x.1 here x.3))
          (and_from (map_in s.file k).owner (map_has t (map_in s.file k)) (sym (owner_same k) ∙ second.0) (has_stamp t (map_in s.file k) y.0 y.1 there y.3))))
          (put_pair s.file_no j x.0 s.file_no k y.0 x.1 y.1 (in_new j x.0 x.1 x.2) (in_new k y.0 y.1 y.2) same)

      file_sound : IsSoundFile new
      file_sound = record {
        maps = All-set (IsSoundMap (length s.file.cells)) s.file.maps s.map_no put map_sound was.maps;
        copies = λ z x a b p q same.
            ⊎_elim (λ put. (put.0.index ∙ sym put.1.index, put.0.same ∙ sym put.1.same))
            (λ old. was.copies z x a b (p.0, in_was p.0 z a old.0) (q.0, in_was q.0 x b old.1) same)
            (put_pair s.file_no p.0 z s.file_no q.0 x a b (in_new p.0 z a p.1) (in_new q.0 x b q.1) same);
        owners = λ stamp. few (owns_stamp stamp) no_map new.maps (λ j k lj lk. one_owner stamp j k);
      }

      one_file : (stamp j k : ℕ) → file_has (is_stamp stamp) (file_in after j) ≡ true → file_has (is_stamp stamp) (file_in after k) ≡ true → j ≡ k
      one_file stamp j k a b =
          let x = file_copy (is_stamp stamp) (file_in after j) a in
          let y = file_copy (is_stamp stamp) (file_in after k) b in
          let same : x.copy.stamp ≡ y.copy.stamp = eqb-true x.copy.stamp stamp x.passes ∙ sym (eqb-true y.copy.stamp stamp y.passes) in
          ⊎_elim (λ put. put.0.file ∙ sym put.1.file)
          (λ old. same_file m sound j x.map x.index k y.map y.index x.copy y.copy old.0 old.1 same)
          (put_pair j x.map x.index k y.map y.index x.copy y.copy x.has y.has same)

      pub put_keeps : IsSoundMount after
      put_keeps = record {
        files = All-set IsSoundFile m.files s.file_no new file_sound sound.files;
        stamps = λ stamp. few (file_has (is_stamp stamp)) (new_file None) after.files (λ j k lj lk. one_file stamp j k);
        numbers = λ task number.
            (let p : Map → Bool = is_map task number in
            let whole = set_count p m s.file_no s.file new at.file in
            let maps = sum_by-set (λ x. bit (p x)) s.file.maps s.map_no put s.map at.map.within in
            let same = ap (λ x. bit (p x)) (at.map.is s.map) in
            let one = sound.numbers task number in
            omega (arith, whole, maps, same, one));
        names = λ name.
            (let here = sum_by-set (λ x. bit (has_name name x)) m.files s.file_no new s.file at.file.within in
            let was = ap (λ x. bit (has_name name x)) (at.file.is s.file) in
            let one = sound.names name in
            omega (arith, here, was, one));
      }

-- ---- an owner takes its copy back

module _ (stamp : ℕ) where
  robbed_place : (p : Place Copy) (a : Copy) → copy_of (drop_stamp stamp p) ≡ Some a → a.stamp ≡ stamp → ⊥
  robbed_place p a = grind arith

  held : (p : Place Copy) (a : Copy) → copy_of p ≡ Some a → a.stamp ≡ stamp → holds stamp p ≡ true
  held p a e same = ap (λ o. elim o [ None ↦ false | Some copy ↦ copy.stamp == stamp ]) e ∙ eq-eqb a.stamp stamp same

  robbed_none : (x : Map) (z : ℕ) (a : Copy) → HasCopy (robbed stamp x) z a → a.stamp ≡ stamp → ⊥
  robbed_none x z a = grind (arith, cond_both, robbed_place, get_map, live_of, live_at, both_ways, list_any_at, held)

module _ (m : Mount) (s : Spot) (at : IsSpot m s) (i : ℕ) (copy : Copy) (has : HasCopy s.map i copy) (sound : IsSoundMount m) where
  abbrev left : File
  left = with_map (record s.file { maps = map (robbed copy.stamp) s.file.maps }) s.map_no s.map

  abbrev back : Mount
  back = with_file m s.file_no left

  here_at : HasAt m s.file_no s.map_no i copy
  here_at = subst (λ f. HasCopy (map_in f s.map_no) i copy) (sym (spot_file m s at)) (subst (λ x. HasCopy x i copy) (sym (spot_map m s at)) has)

  long : length (map (robbed copy.stamp) s.file.maps) ≡ length s.file.maps
  long = length-map s.file.maps (robbed copy.stamp)

  map_kept : map_in left s.map_no ≡ s.map
  map_kept = (let there = at.map.within in get_or-set_same (map (robbed copy.stamp) s.file.maps) s.map_no s.map no_map (omega (arith, long, there)))

  file_left : file_in back s.file_no ≡ left
  file_left = get_or-set_same m.files s.file_no left (new_file None) at.file.within

  pub back_sound : IsSoundMount back
  back_sound =
      put_sound m s.file_no s.file left at.file (back_keeps s.file s.map_no copy.stamp s.map at.map) (λ name. omega arith)
      (λ task number. (let p : Map → Bool = is_map task number in
      let there = at.map.within in
      let all : List Map = map (robbed copy.stamp) s.file.maps in
      let set = sum_by-set (λ x. bit (p x)) all s.map_no s.map s.map (omega (arith, long, there)) in
      let here = ap (λ x. bit (p x)) (get_or-map (robbed copy.stamp) s.file.maps s.map_no s.map s.map there ∙ ap (robbed copy.stamp) (at.map.is s.map)) in
      let robbed_is = number_kept p (λ x. refl) s.map in
      let same = sum_by-map_same (λ x. bit (p x)) (robbed copy.stamp) (number_kept p (λ x. refl)) s.file.maps in
      omega (arith, set, here, robbed_is, same))) sound
    where
      number_kept : (p : Map → Bool) → ((x : Map) → p (record x { unmapped = true; places = map (drop_stamp copy.stamp) x.places }) ≡ p x) → (x : Map) → bit (p (robbed copy.stamp x)) ≡ bit (p x)
      number_kept p same x =
          cond_both (list_any (holds copy.stamp) x.places) (record x { unmapped = true; places = map (drop_stamp copy.stamp) x.places }) x
          (λ y. bit (p y) ≡ bit (p x)) (λ e. ap bit (same x)) (λ e. refl)

  pub back_sole : IsSole back s.file_no s.map_no i
  back_sole = record {
    copy = copy;
    has = subst (λ f. HasCopy (map_in f s.map_no) i copy) (sym file_left) (subst (λ x. HasCopy x i copy) (sym map_kept) has);
    alone = alone;
  }
    where
      in_map : (l z : ℕ) (a : Copy) → HasCopy (map_in left l) z a → a.stamp ≡ copy.stamp → (l ≡ s.map_no) × (z ≡ i)
      in_map l z a held same =
          elim (cases_eq l s.map_no) as (λ _. (l ≡ s.map_no) × (z ≡ i)) [
            | inl here ↦ (
              here,
              (same_index m sound s.file_no s.map_no z s.map_no i a copy
                  (subst (λ f. HasCopy (map_in f s.map_no) z a) (sym (spot_file m s at))
                  (subst (λ x. HasCopy x z a) (ap (map_in left) here ∙ map_kept ∙ sym (spot_map m s at)) held))
                  here_at same).0,
            )
            | inr other ↦ absurd
                (robbed_none copy.stamp (map_in s.file l) z a
                (subst (λ x. HasCopy x z a) (get_or-set_other (map (robbed copy.stamp) s.file.maps) s.map_no l s.map no_map other ∙ robbed_in l z a held) held) same)
          ]
        where
          robbed_in : (l z : ℕ) (a : Copy) → HasCopy (map_in left l) z a → get_or (map (robbed copy.stamp) s.file.maps) l no_map ≡ robbed copy.stamp (map_in s.file l)
          robbed_in l z a held =
              (let there = map_there left l z a held in
              let set = length-set (map (robbed copy.stamp) s.file.maps) s.map_no s.map in
              get_or-map (robbed copy.stamp) s.file.maps l no_map no_map (omega (arith, there, set, long)))

      alone : IsAlone back s.file_no s.map_no i copy.stamp
      alone h l z a held same = grind (arith, cases_eq, in_map, file_left, same_file, get_or-set_other, here_at)

  -- ---- a copy that one map holds

  count_held : (f : File) (k z : ℕ) (a : Copy) → HasCopy (map_in f k) z a → a.stamp ≡ copy.stamp → 1 ≤ held_in copy.stamp (map_in f k)
  count_held f k z a held same = grind (arith, common_steps)

  pub held_once : is_held_once s.file copy.stamp ≡ true → IsAlone m s.file_no s.map_no i copy.stamp
  held_once once h l z a held same =
      let file = same_file m sound h l z s.file_no s.map_no i a copy held here_at same in
      let there : HasCopy (map_in s.file l) z a = subst (λ f. HasCopy (map_in f l) z a) (ap (file_in m) file ∙ spot_file m s at) held in
      let index = (same_index m sound s.file_no l z s.map_no i a copy (subst (λ x. HasAt m x l z a) file held) here_at same).0 in
      elim (cases_eq l s.map_no) as (λ _. (h ≡ s.file_no) × (l ≡ s.map_no) × (z ≡ i)) [
        | inl here ↦ (file, here, index)
        | inr other ↦ absurd
            (let q : ℕ = copy.stamp in
            let maps : List Map = s.file.maps in
            let mine = count_held s.file s.map_no i copy (subst (λ x. HasCopy x i copy) (sym (spot_map m s at)) has) refl in
            let theirs = count_held s.file l z a there same in
            let total = maps_count q maps in
            let one = eqb-true (count_by (λ n. n == q) (stamps_of s.file)) 1 once in
            let rest = sum_by-set (held_in q) maps s.map_no no_map no_map at.map.within in
            let more = get_or-le-sum_by (held_in q) (set maps s.map_no no_map) l no_map
            (let within = map_there s.file l z a there in let same_long = length-set maps s.map_no no_map in omega (arith, within, same_long)) in
            let is = ap (held_in q) (get_or-set_other maps s.map_no l no_map no_map other) in
            omega (arith, mine, theirs, total, one, rest, more, is))
      ]
