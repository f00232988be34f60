-- What files and maps show after an access: by the footprint.
use Rattle.std.proofs.Common.{if◌then◌else◌, ◌&&◌, ◌-◌, ◌<◌, ◌==◌, ◌∙◌, ◌≡◌, ◌⊎◌, Bool, List, None, Option, Some, ap, arith, false, get_or, inl, inr, is_some, length, map, not, refl, slice_set}
use Rattle.std.proofs.Common.{subst, sym, true, ℕ, ⊎_elim}
use Rattle.std.proofs.lemmas.Bool.{cond_both, eq-eqb, eqb-false, eqb-true}
use Rattle.std.proofs.lemmas.List.{get_or-set_other, get_or-set_same, length-map, length-set}
use Rattle.hp_laws.proofs.Variants.{Cell, Gone, Hole, Live, Place, Present}
use Rattle.hp_model.proofs.Words.{Copy, File, Map, Mount, Page, Spot, copy_of, file_in, holds, is_live, is_map, is_shared, map_in, new_file, no_map, place_at, shown, spot, value, with_cell}
use Rattle.hp_model.proofs.Words.{with_file, without_copy, with_map}
use Rattle.hp_model.specs.machine.Footprint.{IsFileAccess, is_spent, losing, with_bytes, with_copy_there, with_own, with_places}
use Rattle.hp_laws.proofs.accesses.Shown.{by_place, look, marked, place_other, place_put, seen}
use Rattle.hp_laws.proofs.counts.MountMoves.{IsSpot, spot_is}
use Rattle.hp_laws.proofs.footprint.Ranges.{length-each, placed_each}
use Rattle.hp_laws.proofs.lists.Looks.{get_map}
use Rattle.hp_laws.proofs.names.Accessed.{file_put, get_mapped, key_map, key_set, pages_same}
use Rattle.hp_laws.proofs.names.ByPlace as ByPlace
use Rattle.hp_laws.proofs.names.ByPlace.{map_there}
use Rattle.hp_laws.proofs.names.Changes.{Effect, Losses, SlotKeeps}
use Rattle.hp_laws.proofs.names.Keys.{file_key, places}
use Rattle.hp_laws.proofs.names.Meanings.{placed_same}
use Rattle.hp_laws.proofs.names.Named.{map_shown}
use Rattle.hp_laws.proofs.names.Placed.{Placed}
use Rattle.hp_laws.specs.Follows.{IsLost, IsLostTo, is_same_copy, is_shared_of, map_on, reaches, shape_of}

-- ---- words

live_is : (q : Place Copy) → is_live q ≡ true → (consumed : Bool) × (o : Option Copy) × (q ≡ Live consumed o)
live_is (Live consumed o) e = (consumed, o, refl)
live_is Gone e = cc

test_off : {X : Type 0} (a : Bool) (u v : X) → v ≡ (if a && false then u else v)
test_off a u v = grind arith

-- what a page of the file's makes of a map that may have a copy
pick : (w : List ℕ → List ℕ) (a : Bool) (o : Option Copy) (v : List ℕ)
    → (elim o [ None ↦ (if a && true then w v else v) | Some copy ↦ copy.page.bytes ])
    ≡ (if a && not (is_some o) then w (elim o [ None ↦ v | Some copy ↦ copy.page.bytes ]) else (elim o [ None ↦ v | Some copy ↦ copy.page.bytes ]))
pick w a o v = grind arith

pub file_bytes : (size : ℕ) (c : Cell Page) (w : List ℕ → List ℕ) (page : Page) → IsFileAccess size c w page → page.bytes ≡ w (shown size c)
file_bytes size c w page is = grind arith

-- a map that may lose its copy of a stamp: it shows what it showed, or had the copy and has none now
abbrev Loses : (size stamp i : ℕ) (old new : Map) (x : ℕ) (v : List ℕ) → Type 0
Loses size stamp i old new x v = (by_place size (place_at new x) v ≡ by_place size (place_at old x) v)
    ⊎ ((x ≡ i) × (holds stamp (place_at old x) ≡ true) × (copy_of (place_at new x) ≡ None) × (new.unmapped ≡ true))

losing_place : (i : ℕ) (y : Map) (x : ℕ) → place_at (with_places (λ j q. if j == i then without_copy q else q) y) x ≡ (if x == i then without_copy (place_at y x) else place_at y x)
losing_place i y x = placed_each (λ j q. if j == i then without_copy q else q) (λ n. cond_both (n == i) Gone Gone (λ p. p ≡ Gone) (λ e. refl) (λ e. refl)) y x

none_left : (q : Place Copy) → copy_of (without_copy q) ≡ None
none_left q = grind arith

loses : (size stamp i : ℕ) (y : Map) (x : ℕ) (v : List ℕ) → Loses size stamp i y (losing stamp i y) x v
loses size stamp i y x v = by_holds (holds stamp (place_at y i)) refl (x == i) refl
  where
    by_holds : (b : Bool) → holds stamp (place_at y i) ≡ b → (c : Bool) → (x == i) ≡ c
        → Loses size stamp i y (if b then record (with_places (λ j q. if j == i then without_copy q else q) y) { unmapped = true } else y) x v
    by_holds false e c f = inl refl
    by_holds true e false f = inl (ap (λ q. by_place size q v) (losing_place i y x ∙ ap (λ b. if b then without_copy (place_at y x) else place_at y x) f))
    by_holds true e true f =
        let same = eqb-true x i f in
        inr (
          same,
          ap (λ j. holds stamp (place_at y j)) same ∙ e,
          ap (λ q. copy_of q) (losing_place i y x ∙ ap (λ b. if b then without_copy (place_at y x) else place_at y x) f) ∙ none_left (place_at y x),
          refl,
        )

-- ---- the file of a private map that has a copy there

module _ (m : Mount) (p : Spot) (at : IsSpot m p) (i : ℕ) where
  place_shape : (c : Copy) → shape_of (with_copy_there p i c) ≡ shape_of p.map
  place_shape c = pages_same p.map p.map.unmapped _ (length-set p.map.places (i - p.map.start) _)

  pub own_key : (c : Copy) → file_key (with_map p.file p.map_no (with_copy_there p i c)) ≡ file_key p.file
  own_key c = ap (λ ks. (p.file.name, ks)) (key_set shape_of p.file.maps p.map_no (with_copy_there p i c) (place_shape c ∙ sym (ap shape_of (at.map.is (with_copy_there p i c)))))

  -- taken back from all others
  module _ (w : List ℕ → List ℕ) (c : Copy) where
    abbrev pub y : Map
    y = with_copy_there p i (with_bytes w c)

    abbrev pub robbed : List Map
    robbed = map (losing c.stamp i) p.file.maps

    abbrev pub back : File
    back = record p.file { maps = slice_set robbed p.map_no y }

    losing_shape : (z : Map) → shape_of (losing c.stamp i z) ≡ shape_of z
    losing_shape z = grind (arith, length-each)

    pub still_marked : (z : Map) → z.unmapped ≡ true → (losing c.stamp i z).unmapped ≡ true
    still_marked z on = grind arith

    none_lost : losing c.stamp i no_map ≡ no_map
    none_lost = grind arith

    within : p.map_no < length robbed
    within = subst (λ n. p.map_no < n) (sym (length-map p.file.maps (losing c.stamp i))) at.map.within

    robbed_own : get_or robbed p.map_no y ≡ losing c.stamp i p.map
    robbed_own = get_mapped (losing c.stamp i) p.file.maps p.map_no y at.map.within ∙ ap (losing c.stamp i) (at.map.is y)

    pub back_key : file_key back ≡ file_key p.file
    back_key =
        ap (λ ks. (p.file.name, ks))
        (key_set shape_of robbed p.map_no y (place_shape (with_bytes w c) ∙ sym (losing_shape p.map) ∙ sym (ap shape_of robbed_own)) ∙ key_map shape_of (losing c.stamp i) losing_shape p.file.maps)

    pub own_back : map_in back p.map_no ≡ y
    own_back = get_or-set_same robbed p.map_no y no_map within

    pub beside : (l : ℕ) → (l ≡ p.map_no → ⊥) → map_in back l ≡ losing c.stamp i (map_in p.file l)
    beside l other = get_or-set_other robbed p.map_no l y no_map other ∙ get_map (losing c.stamp i) no_map none_lost p.file.maps l

-- ---- on a mount

module _ (size : ℕ) (k task number i : ℕ) (w : List ℕ → List ℕ) (m : Mount) (p : Spot) (found : spot m (is_map task number) ≡ Some p) (e : Effect) (Lost : Losses)
    (stores : (j x : ℕ) (old : List ℕ) → (if (i == x) && is_shared_of (Some p) j then w old else old) ≡ e.stored j x old)
    (sees : (j l x : ℕ) (old : List ℕ) → (if (i == x) && reaches (Some p) (map_on (Some m) j l) j l x then w old else old) ≡ e.seen j l x old) where
  pub at : IsSpot m p
  at = spot_is m (is_map task number) p found

  file_was : file_in m p.file_no ≡ p.file
  file_was = at.file.is (new_file None)

  module _ (shared : Bool) (kind : is_shared p.map.sharing ≡ shared) (f : File) (key : file_key f ≡ file_key p.file)
      (taken : Bool) (lost : taken ≡ true → (r q : Spot) (x : ℕ) → IsLostTo (Some p) (spot (with_file m p.file_no f) (is_map task number)) i r q x → Lost r q x) where
    abbrev n : Mount
    n = with_file m p.file_no f

    file_now : file_in n p.file_no ≡ f
    file_now = get_or-set_same m.files p.file_no f (new_file None) at.file.within

    file_other : (j : ℕ) → (p.file_no == j) ≡ false → file_in n j ≡ file_in m j
    file_other j apart = get_or-set_other m.files p.file_no j f (new_file None) (λ same. eqb-false p.file_no j apart (sym same))

    stays : Placed m n
    stays = placed_same m n (file_put m p.file_no p.file f at.file.is key)

    abbrev Shown : (j x : ℕ) → (b : Bool) → Type 0
    Shown j x b = look size x (file_in n j) ≡ (if (i == x) && (shared && b) then w (look size x (file_in m j)) else look size x (file_in m j))

    abbrev Reached : (j l x : ℕ) → (b : Bool) → List ℕ → List ℕ
    Reached j l x b old = if (i == x) && (b && (if shared then not (is_some (copy_of (place_at (map_in (file_in m j) l) x))) else (p.map_no == l))) then w old else old

    -- the map there had a copy that the owner has taken back
    abbrev LostIn : (l x : ℕ) → Type 0
    LostIn l x = (taken ≡ true) × IsLost p.map (map_in f p.map_no) i (map_in p.file l) (map_in f l) x × (l ≡ p.map_no → ⊥)

    module _ (cells : (x : ℕ) → look size x f ≡ (if (i == x) && shared then w (look size x p.file) else look size x p.file))
        (maps : (l x : ℕ) → (seen size l x f
        ≡ (if (i == x) && (if shared then not (is_some (copy_of (place_at (map_in p.file l) x))) else (p.map_no == l)) then w (seen size l x p.file) else seen size l x p.file)) ⊎ LostIn l x)
        (marks : (l : ℕ) → marked l p.file ≡ true → marked l f ≡ true) where
      cells_at : (j x : ℕ) (b : Bool) → (p.file_no == j) ≡ b → Shown j x b
      cells_at j x true here = subst (λ o. Shown o x true) (eqb-true p.file_no j here) (by_shared shared (cells x))
        where
          by_shared : (c : Bool) → look size x f ≡ (if (i == x) && c then w (look size x p.file) else look size x p.file)
              → look size x (file_in n p.file_no) ≡ (if (i == x) && (c && true) then w (look size x (file_in m p.file_no)) else look size x (file_in m p.file_no))
          by_shared true e = ap (look size x) file_now ∙ e ∙ ap (λ g. if (i == x) && true then w (look size x g) else look size x g) (sym file_was)
          by_shared false e = ap (look size x) file_now ∙ e ∙ ap (λ g. if (i == x) && false then w (look size x g) else look size x g) (sym file_was)
      cells_at j x false there = ap (look size x) (file_other j there) ∙ off shared (look size x (file_in m j))
        where
          off : (c : Bool) (v : List ℕ) → v ≡ (if (i == x) && (c && false) then w v else v)
          off true v = test_off (i == x) (w v) v
          off false v = test_off (i == x) (w v) v

      maps_at : (t u x : ℕ) (r q : Spot) → spot m (is_map t u) ≡ Some r → spot n (is_map t u) ≡ Some q → places q ≡ places r → (b : Bool) → (p.file_no == r.file_no) ≡ b
          → (seen size r.map_no x (file_in n r.file_no) ≡ Reached r.file_no r.map_no x b (seen size r.map_no x (file_in m r.file_no))) ⊎ Lost r q x
      maps_at t u x r q was now same false there =
          inl (ap (seen size r.map_no x) (file_other r.file_no there) ∙ test_off (i == x) (w (seen size r.map_no x (file_in m r.file_no))) (seen size r.map_no x (file_in m r.file_no)))
      maps_at t u x r q was now same true here =
          let no = eqb-true p.file_no r.file_no here in
          ⊎_elim
          (λ shows. inl (subst (λ o. seen size r.map_no x (file_in n o) ≡ Reached o r.map_no x true (seen size r.map_no x (file_in m o))) no
          (ap (seen size r.map_no x) file_now
          ∙ subst (λ g. seen size r.map_no x f ≡ (if (i == x) && (if shared then not (is_some (copy_of (place_at (map_in g r.map_no) x))) else (p.map_no == r.map_no)) then w (seen size r.map_no x g)
          else seen size r.map_no x g)) (sym file_was) shows)))
          (λ gone. inr (lost gone.0 r q x
          (let own = stays.numbers task number p found in
          let after : map_in f p.map_no ≡ own.0.map = ap (λ g. map_in g p.map_no) (sym file_now) ∙ map_there size m n task number p own.0 own.1 own.2 in
          let old : map_in p.file r.map_no ≡ r.map = ap (λ g. map_in g r.map_no) (sym file_was) ∙ ap (λ o. map_in (file_in m o) r.map_no) no ∙ map_shown (Some m) t u r was in
          let new : map_in f r.map_no ≡ q.map = ap (λ g. map_in g r.map_no) (sym file_now) ∙ ap (λ o. map_in (file_in n o) r.map_no) no ∙ map_there size m n t u r q now same in
          subst (λ o. IsLostTo (Some p) o i r q x) (sym own.1) (
            no,
            subst (λ y. IsLost p.map own.0.map i y q.map x) old (subst (λ y. IsLost p.map own.0.map i (map_in p.file r.map_no) y x) new
                (subst (λ y. IsLost p.map y i (map_in p.file r.map_no) (map_in f r.map_no) x) after gone.1)),
            gone.2,
          ))))
          (maps r.map_no x)

      marks_at : (j l : ℕ) (b : Bool) → (p.file_no == j) ≡ b → marked l (file_in m j) ≡ true → marked l (file_in n j) ≡ true
      marks_at j l true here on = subst (λ o. marked l (file_in m o) ≡ true → marked l (file_in n o) ≡ true) (eqb-true p.file_no j here)
          (λ on. ap (marked l) file_now ∙ marks l (sym (ap (marked l) file_was) ∙ on)) on
      marks_at j l false there on = ap (marked l) (file_other j there) ∙ on

      pub put_keeps : SlotKeeps size (Some m) e (Some n) Lost
      put_keeps = ByPlace.by_place size m n e Lost (record {
        names = λ name g goes_on named. stays.names name g named;
        numbers = λ t u r goes_on was. stays.numbers t u r was;
        cells = λ j x. cells_at j x (p.file_no == j) refl
            ∙ ap (λ b. if (i == x) && (b && (p.file_no == j)) then w (look size x (file_in m j)) else look size x (file_in m j)) (sym kind) ∙ stores j x (look size x (file_in m j));
        maps = λ t u x r q was now same.
            ⊎_elim
            (λ shows. inl (shows
            ∙ ap (λ b. if (i == x) && ((p.file_no == r.file_no) && (if b then not (is_some (copy_of (place_at (map_in (file_in m r.file_no) r.map_no) x))) else (p.map_no == r.map_no)))
            then w (seen size r.map_no x (file_in m r.file_no)) else seen size r.map_no x (file_in m r.file_no)) (sym kind)
            ∙ sees r.file_no r.map_no x (seen size r.map_no x (file_in m r.file_no))))
            (λ gone. inr gone) (maps_at t u x r q was now same (p.file_no == r.file_no) refl);
        marks = λ t u r was on. marks_at r.file_no r.map_no (p.file_no == r.file_no) refl on;
      })

  -- ---- the ways

  module _ (live : is_live (place_at p.map i) ≡ true) (low : i < length p.file.cells) where
    pub shared_keeps : is_shared p.map.sharing ≡ true → (page : Page) → page.bytes ≡ w (look size i p.file)
        → SlotKeeps size (Some m) e (Some (with_file m p.file_no (with_cell p.file i (Present page)))) Lost
    shared_keeps kind page bytes =
        put_keeps true kind (with_cell p.file i (Present page)) refl false (λ e. cc) (λ x. shows x (i == x) refl)
        (λ l x. inl (ap (by_place size (place_at (map_in p.file l) x)) (shows x (i == x) refl) ∙ pick w (i == x) (copy_of (place_at (map_in p.file l) x)) (look size x p.file))) (λ l on. on)
      where
        shows : (x : ℕ) (b : Bool) → (i == x) ≡ b
            → look size x (with_cell p.file i (Present page)) ≡ (if (i == x) && true then w (look size x p.file) else look size x p.file)
        shows x true same =
            subst (λ o. look size o (with_cell p.file i (Present page)) ≡ w (look size o p.file)) (eqb-true i x same)
            (ap (shown size) (get_or-set_same p.file.cells i (Present page) Hole low) ∙ bytes) ∙ ap (λ b. if b && true then w (look size x p.file) else look size x p.file) (sym same)
        shows x false apart =
            ap (shown size) (get_or-set_other p.file.cells i x (Present page) Hole (λ same. eqb-false i x apart (sym same)))
            ∙ ap (λ b. if b && true then w (look size x p.file) else look size x p.file) (sym apart)

    -- the map has this copy there, and each other map of the file is as it was, or has lost its own
    module _ (kind : is_shared p.map.sharing ≡ false) (c : Copy) (bytes : c.page.bytes ≡ w (value size p.file p.map i)) (ms : List Map) (taken : Bool)
        (here : map_in (record p.file { maps = ms }) p.map_no ≡ with_copy_there p i c) (key : file_key (record p.file { maps = ms }) ≡ file_key p.file)
        (rest : (l x : ℕ) → (l ≡ p.map_no → ⊥) → (by_place size (place_at (map_in (record p.file { maps = ms }) l) x) (look size x p.file) ≡ seen size l x p.file)
        ⊎ ((taken ≡ true) × IsLost p.map (map_in (record p.file { maps = ms }) p.map_no) i (map_in p.file l) (map_in (record p.file { maps = ms }) l) x))
        (others : (l : ℕ) → (l ≡ p.map_no → ⊥) → marked l p.file ≡ true → marked l (record p.file { maps = ms }) ≡ true) where
      abbrev f : File
      f = record p.file { maps = ms }

      own_seen : (x : ℕ) → seen size p.map_no x f ≡ (if (i == x) && true then w (seen size p.map_no x p.file) else seen size p.map_no x p.file)
      own_seen x =
          let was = live_is (place_at p.map i) live in
          let mine : seen size p.map_no x p.file ≡ value size p.file p.map x = ap (λ y. value size p.file y x) (at.map.is no_map) in
          ap (λ y. value size f y x) here ∙ by_index was.0 was.1 was.2 (i == x) refl ∙ ap (λ v. if (i == x) && true then w v else v) (sym mine)
        where
          by_index : (spent : Bool) (o : Option Copy) → place_at p.map i ≡ Live spent o → (b : Bool) → (i == x) ≡ b
              → value size f (with_copy_there p i c) x ≡ (if (i == x) && true then w (value size p.file p.map x) else value size p.file p.map x)
          by_index spent o was true same =
              subst (λ z. value size f (with_copy_there p i c) z ≡ w (value size p.file p.map z)) (eqb-true i x same)
              (ap (λ q. by_place size q (look size i p.file)) (place_put p.map i spent o was (Live (is_spent p.map (place_at p.map i)) (Some c))) ∙ bytes)
              ∙ ap (λ b. if b && true then w (value size p.file p.map x) else value size p.file p.map x) (sym same)
          by_index spent o was false apart =
              ap (λ q. by_place size q (look size x p.file))
              (place_other p.map i spent o was (Live (is_spent p.map (place_at p.map i)) (Some c)) x (λ same. eqb-false i x apart (sym same)))
              ∙ ap (λ b. if b && true then w (value size p.file p.map x) else value size p.file p.map x) (sym apart)

      pub copied_keeps : (taken ≡ true → (r q : Spot) (x : ℕ) → IsLostTo (Some p) (spot (with_file m p.file_no f) (is_map task number)) i r q x → Lost r q x)
          → SlotKeeps size (Some m) e (Some (with_file m p.file_no f)) Lost
      copied_keeps lost =
          put_keeps false kind f key taken lost (λ x. test_off (i == x) (w (look size x p.file)) (look size x p.file)) (λ l x. maps l x (p.map_no == l) refl)
          (λ l. marks l (p.map_no == l) refl)
        where
          maps : (l x : ℕ) (b : Bool) → (p.map_no == l) ≡ b
              → (seen size l x f ≡ (if (i == x) && (p.map_no == l) then w (seen size l x p.file) else seen size l x p.file))
              ⊎ ((taken ≡ true) × IsLost p.map (map_in f p.map_no) i (map_in p.file l) (map_in f l) x × (l ≡ p.map_no → ⊥))
          maps l x true same =
              inl (subst (λ o. seen size o x f ≡ (if (i == x) && true then w (seen size o x p.file) else seen size o x p.file)) (eqb-true p.map_no l same) (own_seen x)
              ∙ ap (λ b. if (i == x) && b then w (seen size l x p.file) else seen size l x p.file) (sym same))
          maps l x false apart =
              let other : l ≡ p.map_no → ⊥ = λ same. eqb-false p.map_no l apart (sym same) in
              ⊎_elim
              (λ shows. inl (shows ∙ test_off (i == x) (w (seen size l x p.file)) (seen size l x p.file)
              ∙ ap (λ b. if (i == x) && b then w (seen size l x p.file) else seen size l x p.file) (sym apart)))
              (λ gone. inr (gone.0, gone.1, other)) (rest l x other)

          marks : (l : ℕ) (b : Bool) → (p.map_no == l) ≡ b → marked l p.file ≡ true → marked l f ≡ true
          marks l true same on =
              subst (λ o. marked o p.file ≡ true → marked o f ≡ true) (eqb-true p.map_no l same)
              (λ on. ap (λ y. y.unmapped) here ∙ ap (λ y. y.unmapped) (sym (at.map.is no_map)) ∙ on) on
          marks l false apart on = others l (λ same. eqb-false p.map_no l apart (sym same)) on

    pub own_keeps : is_shared p.map.sharing ≡ false → (c : Copy) → c.page.bytes ≡ w (value size p.file p.map i) → SlotKeeps size (Some m) e (Some (with_own m p i c)) Lost
    own_keeps kind c bytes =
        copied_keeps kind c bytes (slice_set p.file.maps p.map_no (with_copy_there p i c)) false
        (get_or-set_same p.file.maps p.map_no (with_copy_there p i c) no_map at.map.within)
        (own_key m p at i c)
        (λ l x other. inl (ap (λ y. value size p.file y x) (get_or-set_other p.file.maps p.map_no l (with_copy_there p i c) no_map other)))
        (λ l other on. ap (λ y. y.unmapped) (get_or-set_other p.file.maps p.map_no l (with_copy_there p i c) no_map other) ∙ on) (λ e. cc)

    module _ (c : Copy) where
      abbrev pub left : File
      left = back m p at i w c

      pub back_keeps : is_shared p.map.sharing ≡ false → copy_of (place_at p.map i) ≡ Some c → p.map.owner ≡ true
          → ((r q : Spot) (x : ℕ) → IsLostTo (Some p) (spot (with_file m p.file_no left) (is_map task number)) i r q x → Lost r q x)
          → SlotKeeps size (Some m) e (Some (with_file m p.file_no left)) Lost
      back_keeps kind held owner lost =
          copied_keeps kind (with_bytes w c) (ap (λ (o : Option Copy). w (elim o [ None ↦ look size i p.file | Some copy ↦ copy.page.bytes ])) (sym held))
          (slice_set (robbed m p at i w c) p.map_no (y m p at i w c)) true (own_back m p at i w c)
          (back_key m p at i w c) (λ l x other. rest l x other (loses size c.stamp i (map_in p.file l) x (look size x p.file)))
          (λ l other on. ap (λ z. z.unmapped) (beside m p at i w c l other) ∙ still_marked m p at i w c (map_in p.file l) on) (λ e. lost)
        where
          kept : is_same_copy (place_at p.map i) (place_at (map_in left p.map_no) i) ≡ true
          kept =
              let was = live_is (place_at p.map i) live in
              ap (λ (o : Option Copy). elim o [ None ↦ false | Some copy ↦ holds copy.stamp (place_at (map_in left p.map_no) i) ]) held
              ∙ ap (λ z. holds c.stamp (place_at z i)) (own_back m p at i w c) ∙ ap (holds c.stamp) (place_put p.map i was.0 was.1 was.2 _) ∙ eq-eqb c.stamp c.stamp refl

          rest : (l x : ℕ) → (l ≡ p.map_no → ⊥) → Loses size c.stamp i (map_in p.file l) (losing c.stamp i (map_in p.file l)) x (look size x p.file)
              → (by_place size (place_at (map_in left l) x) (look size x p.file) ≡ seen size l x p.file)
              ⊎ ((true ≡ true) × IsLost p.map (map_in left p.map_no) i (map_in p.file l) (map_in left l) x)
          rest l x other (inl shows) = inl (ap (λ z. by_place size (place_at z x) (look size x p.file)) (beside m p at i w c l other) ∙ shows)
          rest l x other (inr gone) =
              inr (
                refl,
                record {
                  index = gone.0;
                  private = kind;
                  owner = owner;
                  held = ap (λ (o : Option Copy). elim o [ None ↦ false | Some copy ↦ holds copy.stamp (place_at (map_in p.file l) x) ]) held ∙ gone.1;
                  kept = kept;
                  lost = ap (λ z. copy_of (place_at z x)) (beside m p at i w c l other) ∙ gone.2;
                  marked = ap (λ z. z.unmapped) (beside m p at i w c l other) ∙ gone.3;
                },
              )
