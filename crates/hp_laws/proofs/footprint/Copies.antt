-- An access through a private map: what its outcome is, by what the map has there.
use Rattle.std.proofs.Common.{arith, ◌≡◌, ◌⊎◌, inl, inr, subst, ℕ, ◌-◌, ◌&&◌, ◌||◌, not, Bool, true, false, None, Option, Some, List, map, nat_lt, refl, sym, ap, ◌∙◌, if◌then◌else◌, MatchBool}
use Rattle.std.proofs.Common.{slice_index_or, slice_set}
use Rattle.std.proofs.lemmas.Bool.{cond_both}
use Rattle.std.proofs.lemmas.List.{set-get_or}
use Rattle.hp_laws.proofs.Variants.{Done, GrantPage, Gone, Intent, Live, Place, PoolAnswer, Read, TakenByOwner, Write}
use Rattle.hp_model.proofs.Words.{Answered, Ask, Choice, Copy, Finish, IsFresh, IsSoundFile, Map, Mount, Outcome, Plan, Pool, Refused, Slot, Spot, State, can_grant, can_have_page, cell_at}
use Rattle.hp_model.proofs.Words.{copied, copy_of}
use Rattle.hp_model.proofs.Words.{copy_write, granted, granted_at, grant_page, has_page, is_among, is_full, is_held_once, map_in, new_copy, no_map, no_pages, owner_write, page_taken, place_at}
use Rattle.hp_model.proofs.Words.{pool_of, private_access, refuse, reserved_page}
use Rattle.hp_model.proofs.Words.{rise, robbed, shown, slot_at, stamps_in, take_node, taken_back, uncopied_access, value, with_file, with_map, with_place, with_slot}
use Rattle.hp_laws.proofs.counts.MountMoves.{IsSpot}
use Rattle.hp_model.specs.machine.Footprint.{IsButNodes, IsCopyAccess, is_spent, losing, with_bytes}
use Rattle.hp_laws.proofs.footprint.Landings.{Either, either_granted, either_if, either_reserved, with_itself}
use Rattle.hp_laws.proofs.footprint.Ranges.{file_itself, put_all}
use Rattle.hp_laws.proofs.footprint.TakenBack.{all_robbed}

module _ (s : State) (k : ℕ) (m : Mount) (p : Spot) (i : ℕ) where
  -- ---- what it may leave

  -- the map with this copy there, where it had that place
  abbrev pub put : Place Copy → Copy → Map
  put place c = with_place p.map i (Live (is_spent p.map place) (Some c))

  abbrev pub with_own : Place Copy → Copy → Mount
  with_own place c = with_file m p.file_no (with_map p.file p.map_no (put place c))

  abbrev pub with_back : Place Copy → ℕ → Copy → Mount
  with_back place stamp c = with_file m p.file_no (record p.file { maps = slice_set (map (losing stamp i) p.file.maps) p.map_no (put place c) })

  abbrev pub seen : Place Copy → List ℕ
  seen place = elim (copy_of place) [ None ↦ shown s.page_size (cell_at p.file i) | Some copy ↦ copy.page.bytes ]

  -- a new copy
  abbrev pub Taken : (List ℕ → List ℕ) → Place Copy → Slot → Type 0
  Taken w place new = (c : Copy) × (is_among c.stamp (stamps_in (Some m)) ≡ false) × (c.page.bytes ≡ w (seen place)) × (new ≡ Some (with_own place c))

  abbrev pub Newly : Intent → (List ℕ → List ℕ) → Place Copy → Option Copy → Slot → Type 0
  Newly Read w place (Some c) new = ⊥
  Newly Read w place None new = (has_page (cell_at p.file i) ≡ false) × Taken w place new
  Newly Write w place None new = Taken w place new
  Newly Write w place (Some c) new = (is_held_once p.file c.stamp ≡ false) × Taken w place new

  -- its own copy, or the one that it takes back
  abbrev pub Back : (List ℕ → List ℕ) → Place Copy → Copy → Slot → Type 0
  Back w place c new =
      (is_held_once p.file c.stamp ≡ false) × (p.map.owner ≡ true) × (can_have_page (pool_of s) (Some m) ≡ false) × (new ≡ Some (with_back place c.stamp (with_bytes w c)))

  abbrev pub Exactly : Intent → (List ℕ → List ℕ) → Place Copy → Option Copy → Slot → Type 0
  Exactly Read w place (Some c) new = new ≡ Some m
  Exactly Read w place None new = (has_page (cell_at p.file i) ≡ true) × (new ≡ Some m)
  Exactly Write w place None new = ⊥
  Exactly Write w place (Some c) new = ((is_held_once p.file c.stamp ≡ true) × (new ≡ Some (with_own place (with_bytes w c)))) ⊎ Back w place c new

  -- ---- that is what it changes

  by_true : {P : Type 0} (Q : Type 0) (b : Bool) → b ≡ true → P → MatchBool b P Q
  by_true Q b e h = grind arith

  by_false : (P : Type 0) {Q : Type 0} (b : Bool) → b ≡ false → Q → MatchBool b P Q
  by_false P b e h = grind arith

  module _ (there : slot_at s k ≡ Some m) (w : List ℕ → List ℕ) (t : State) (new : Slot) where
    same : new ≡ Some m → t ≡ with_slot s k new → t ≡ s
    same e left = left ∙ ap (λ x. with_slot s k x) (e ∙ sym there) ∙ with_itself s k

    pub exact_copies : (intent : Intent) (o : Option Copy) → Exactly intent w (place_at p.map i) o new → t ≡ with_slot s k new → IsCopyAccess s k m p i intent w o t
    exact_copies Read (Some c) h left = same h left
    exact_copies Read None h left = by_true _ (has_page (cell_at p.file i)) h.0 (same h.1 left)
    exact_copies Write None h left = absurd h
    exact_copies Write (Some c) (inl h) left = by_true _ (is_held_once p.file c.stamp) h.0 (left ∙ ap (λ x. with_slot s k x) h.1)
    exact_copies Write (Some c) (inr h) left =
        by_false _ (is_held_once p.file c.stamp) h.0
        (inr (
          h.1,
          h.2,
          left ∙ ap (λ x. with_slot s k x) h.3
              ∙ ap (λ maps. with_slot s k (Some (with_file m p.file_no (record p.file { maps = maps })))) (put_all (losing c.stamp i) (put (place_at p.map i) (with_bytes w c)) p.map_no p.file.maps),
        ))

    takes : Taken w (place_at p.map i) new → IsButNodes (with_slot s k new) t
        → (c : Copy) × (is_among c.stamp (stamps_in (Some m)) ≡ false) × (c.page.bytes ≡ w (value s.page_size p.file p.map i)) × IsButNodes (with_slot s k (Some (with_own (place_at p.map i) c))) t
    takes h left = (h.0, h.1, h.2, subst (λ x. IsButNodes (with_slot s k x) t) h.3 left)

    pub new_copies : (intent : Intent) (o : Option Copy) → Newly intent w (place_at p.map i) o new → IsButNodes (with_slot s k new) t → IsCopyAccess s k m p i intent w o t
    new_copies Read (Some c) h left = absurd h
    new_copies Read None h left = by_false _ (has_page (cell_at p.file i)) h.0 (takes h.1 left)
    new_copies Write None h left = takes h left
    new_copies Write (Some c) h left = by_false _ (is_held_once p.file c.stamp) h.0 (inl (takes h.1 left))

  -- ---- a place set to itself

  put_itself : (consumed : Bool) (c : Copy) → place_at p.map i ≡ Live consumed (Some c) → put (Live consumed (Some c)) c ≡ p.map
  put_itself consumed c e = by_start (nat_lt i p.map.start) refl
    where
      by_start : (b : Bool) → nat_lt i p.map.start ≡ b → put (Live consumed (Some c)) c ≡ p.map
      by_start true is = (let never : Gone ≡ Live consumed (Some c) = sym (ap (λ b. if b then Gone else slice_index_or p.map.places (i - p.map.start) Gone) is) ∙ e in cc)
      by_start false is =
          let here : slice_index_or p.map.places (i - p.map.start) Gone ≡ Live consumed (Some c) = sym (ap (λ b. if b then Gone else slice_index_or p.map.places (i - p.map.start) Gone) is) ∙ e in
          ap (λ places. record p.map { places = places }) (ap (λ x. slice_set p.map.places (i - p.map.start) x) (sym here) ∙ set-get_or p.map.places (i - p.map.start) Gone)

  module _ (at : IsSpot m p) where
    map_itself : with_map p.file p.map_no p.map ≡ p.file
    map_itself =
        let is : slice_index_or p.file.maps p.map_no no_map ≡ p.map = at.map.is no_map in
        ap (λ maps. record p.file { maps = maps }) (ap (λ x. slice_set p.file.maps p.map_no x) (sym is) ∙ set-get_or p.file.maps p.map_no no_map)

    own_itself : (consumed : Bool) (c : Copy) → place_at p.map i ≡ Live consumed (Some c) → m ≡ with_own (Live consumed (Some c)) c
    own_itself consumed c e =
        sym (ap (λ x. with_file m p.file_no (with_map p.file p.map_no x)) (put_itself consumed c e) ∙ ap (λ f. with_file m p.file_no f) map_itself ∙ file_itself m p.file_no p.file at.file)

    back_is : (sound : IsSoundFile p.file) (consumed : Bool) (c : Copy) → place_at p.map i ≡ Live consumed (Some c)
        → with_file m p.file_no (with_map (record p.file { maps = map (robbed c.stamp) p.file.maps }) p.map_no p.map) ≡ with_back (Live consumed (Some c)) c.stamp c
    back_is sound consumed c e =
        let here : copy_of (place_at (map_in p.file p.map_no) i) ≡ Some c = ap (λ x. copy_of (place_at x i)) (at.map.is no_map) ∙ ap copy_of e in
        ap (λ maps. with_file m p.file_no (record p.file { maps = slice_set maps p.map_no p.map })) (all_robbed p.file sound i c p.map_no here)
        ∙ ap (λ x. with_file m p.file_no (record p.file { maps = slice_set (map (losing c.stamp i) p.file.maps) p.map_no x })) (sym (put_itself consumed c e))

    -- ---- the plan

    module _ (sound : IsSoundFile p.file) (c : Choice) (fresh : IsFresh c (Some m)) (home : ℕ) where
      abbrev none : List ℕ → List ℕ
      none old = old

      abbrev F : Intent → Place Copy → Outcome → Type 0
      F intent place (Refused r) = Unit {0}
      F intent place (Answered a new) = Exactly intent none place (copy_of place) new

      abbrev A : Intent → Place Copy → Outcome → Type 0
      A intent place (Refused r) = Unit {0}
      A intent place (Answered a new) = Newly intent none place (copy_of place) new

      unused : is_among c.stamp (stamps_in (Some m)) ≡ false
      unused = grind (arith, fresh)

      abbrev Goes : Intent → Place Copy → Plan → Type 0
      Goes intent place x = Either s (F intent place) (A intent place) x

      goes_if : (intent : Intent) (place : Place Copy) (b : Bool) (x y : Plan) → (b ≡ true → Goes intent place x) → (b ≡ false → Goes intent place y) → Goes intent place (if b then x else y)
      goes_if intent place b x y h g = either_if s (F intent place) (A intent place) b x y h g

      takes_reserved : (intent : Intent) (place : Place Copy) (f : ℕ → Outcome) → ((node : ℕ) → A intent place (f node)) → Goes intent place (reserved_page home f)
      takes_reserved intent place f h = either_reserved s (F intent place) (A intent place) home f h

      takes_granted : (intent : Intent) (place : Place Copy) (f : ℕ → Outcome) → ((node : ℕ) → A intent place (f node)) → Goes intent place (grant_page c m home f)
      takes_granted intent place f h = either_granted s (F intent place) (A intent place) (λ r. tt) (λ r. tt) c m home f h

      spent : (o d : Bool) → (o && not d) ≡ true → true ≡ (o || d)
      spent o d e = grind arith

      unspent : (o d : Bool) → (o && not d) ≡ false → d ≡ (o || d)
      unspent o d e = grind arith

      abbrev fresh_copy : List ℕ → ℕ → Copy
      fresh_copy bytes node = record { stamp = c.stamp; page = record { node = node; bytes = bytes } }

      abbrev with_live : Bool → Copy → Slot
      with_live consumed x = Some (with_file m p.file_no (with_map p.file p.map_no (with_place p.map i (Live consumed (Some x)))))

      -- a first copy
      first_copy : (intent : Intent) (consumed : Bool) (e : place_at p.map i ≡ Live consumed None)
          → ((new : Slot) → Taken none (Live consumed None) new → Newly intent none (Live consumed None) None new)
          → Goes intent (Live consumed None) (new_copy c s.page_size m p home i consumed)
      first_copy intent consumed e h =
          let shows : List ℕ = value s.page_size p.file p.map i in
          let same : shows ≡ shown s.page_size (cell_at p.file i) = ap (λ (place : Place Copy). elim (copy_of place) [ None ↦ shown s.page_size (cell_at p.file i) | Some copy ↦ copy.page.bytes ]) e in
          goes_if intent (Live consumed None) (p.map.owner && not consumed) (reserved_page home (λ node. copied m p i true (fresh_copy shows node)))
          (grant_page c m home (λ node. copied m p i consumed (fresh_copy shows node)))
          (λ own. takes_reserved intent (Live consumed None) (λ node. copied m p i true (fresh_copy shows node))
          (λ node. h (with_live true (fresh_copy shows node)) (fresh_copy shows node, unused, same, ap (λ b. with_live b (fresh_copy shows node)) (spent p.map.owner consumed own))))
          (λ other. takes_granted intent (Live consumed None) (λ node. copied m p i consumed (fresh_copy shows node))
          (λ node. h (with_live consumed (fresh_copy shows node)) (fresh_copy shows node, unused, same, ap (λ b. with_live b (fresh_copy shows node)) (unspent p.map.owner consumed other))))

      -- a write into a copy that others hold
      others_copy : (consumed : Bool) (copy : Copy) → is_held_once p.file copy.stamp ≡ false → (node : ℕ)
          → A Write (Live consumed (Some copy)) (copied m p i consumed (fresh_copy copy.page.bytes node))
      others_copy consumed copy others node = (others, (fresh_copy copy.page.bytes node, unused, refl, refl))

      taken : (consumed : Bool) (copy : Copy) → place_at p.map i ≡ Live consumed (Some copy) → is_held_once p.file copy.stamp ≡ false → p.map.owner ≡ true
          → can_have_page (pool_of s) (Some m) ≡ false → F Write (Live consumed (Some copy)) (taken_back m p copy.stamp)
      taken consumed copy e others own no_page = inr (others, own, no_page, ap Some (back_is sound consumed copy e))

      abbrev IsOwners : Bool → Copy → (PoolAnswer → Outcome) → PoolAnswer × Pool → Type 0
      IsOwners consumed copy f q = A Write (Live consumed (Some copy)) (f q.0) ⊎ ((q.1 ≡ pool_of s) × F Write (Live consumed (Some copy)) (f q.0))

      no_room : (b d : Bool) → b ≡ true → (not b && d) ≡ false
      no_room b d e = grind arith

      no_grant : (b d : Bool) → d ≡ false → (not b && d) ≡ false
      no_grant b d e = grind arith

      owners_copy : (consumed : Bool) (copy : Copy) → place_at p.map i ≡ Live consumed (Some copy) → is_held_once p.file copy.stamp ≡ false → p.map.owner ≡ true
          → Goes Write (Live consumed (Some copy)) (owner_write m p home copy.stamp (λ node. copied m p i consumed (fresh_copy copy.page.bytes node)))
      owners_copy consumed copy e others own =
          let made : ℕ → Outcome = λ node. copied m p i consumed (fresh_copy copy.page.bytes node) in
          let f : PoolAnswer → Outcome = λ a. if a.granted then made a.node else taken_back m p copy.stamp in
          let d : ℕ = rise m 1 in
          let q : Pool = pool_of s in
          goes_if Write (Live consumed (Some copy)) (is_full m 1) (Finish (taken_back m p copy.stamp)) (Ask (λ nr. GrantPage home (rise m 1)) f)
          (λ full. taken consumed copy e others own (no_room (is_full m 1) (can_grant d q) full))
          (λ room. cond_both (can_grant d q) (granted_at (take_node home (granted home d q)), page_taken home (granted home d q)) (no_pages, q) (IsOwners consumed copy f)
          (λ can. inl (others_copy consumed copy others (take_node home (granted home d q))))
          (λ cannot. inr (refl, taken consumed copy e others own (no_grant (is_full m 1) (can_grant d q) cannot))))

      shared_copy : (consumed : Bool) (copy : Copy) → place_at p.map i ≡ Live consumed (Some copy) → Goes Write (Live consumed (Some copy)) (copy_write c m p home i consumed copy)
      shared_copy consumed copy e =
          let made : ℕ → Outcome = λ node. copied m p i consumed (fresh_copy copy.page.bytes node) in
          goes_if Write (Live consumed (Some copy)) (is_held_once p.file copy.stamp) (Finish (Answered Done (Some m)))
          (if p.map.owner then owner_write m p home copy.stamp made else grant_page c m home made)
          (λ once. inl (once, ap Some (own_itself consumed copy e)))
          (λ others. goes_if Write (Live consumed (Some copy)) p.map.owner (owner_write m p home copy.stamp made) (grant_page c m home made)
          (λ own. owners_copy consumed copy e others own)
          (λ other. takes_granted Write (Live consumed (Some copy)) made (others_copy consumed copy others)))

      pub copies_go : (intent : Intent) (place : Place Copy) → place_at p.map i ≡ place → Goes intent place (private_access c s.page_size m p home i place intent)
      copies_go intent Gone e = tt
      copies_go Read (Live consumed (Some copy)) e = refl
      copies_go Write (Live consumed (Some copy)) e = shared_copy consumed copy e
      copies_go Read (Live consumed None) e =
          goes_if Read (Live consumed None) p.map.unmapped (refuse TakenByOwner) (uncopied_access c s.page_size m p home i consumed Read) (λ cut. tt)
          (λ on. goes_if Read (Live consumed None) (has_page (cell_at p.file i)) (Finish (Answered Done (Some m))) (new_copy c s.page_size m p home i consumed)
          (λ has. (has, refl)) (λ has. first_copy Read consumed e (λ new taken. (has, taken))))
      copies_go Write (Live consumed None) e =
          goes_if Write (Live consumed None) p.map.unmapped (refuse TakenByOwner) (new_copy c s.page_size m p home i consumed) (λ cut. tt)
          (λ on. first_copy Write consumed e (λ new taken. taken))
