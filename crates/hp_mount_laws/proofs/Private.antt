use Rattle.std.proofs.lemmas.Grind.{common_steps}
-- An access through a private map, by what code did.
use Rattle.std.proofs.Common.{◌≡◌, ℕ, ◌<◌, ◌&&◌, not, Bool, true, false, cond, Some, None, Ok, Err, List, length, map, refl, sym, ap, subst, ◌∙◌, arith, rules, flat_map}
use Rattle.std.proofs.lemmas.List.{get_or-set_same, length-map, length-set}
use Rattle.hp_mount_door.specs.Door.{IsDoorRefusal}
use Rattle.hp_laws.proofs.Variants.{Done, GrantPage, Intent, Live, Place, PoolAnswer, Read, Refusal, Section, TakePage, Write}
use Rattle.hp_model.specs.declared.refusal.Refusal.TheVariants as r
use Rattle.hp_model.proofs.Words.{Answered, Ask, Choice, Copy, File, Finish, Gives, IsFresh, Map, Mount, Outcome, Page, Plan, Reply, Slot, Spot, ThroughDoor, access, cell_at, copied, copy_of}
use Rattle.hp_model.proofs.Words.{copy_write, file_in, grant_page, granted_at, is_among, is_full, is_held_once, is_shared, is_unconsumed, new_copy, no_pages, owner_write, place_at, private_access}
use Rattle.hp_model.proofs.Words.{refuse, reserved_page, rise, robbed, shown, stamps_of, taken_back, uncopied_access, value, with_file, with_map}
use Rattle.hp_mount_laws.specs.Done.{Enters, MayEnter, Through, Tried}
use Rattle.hp_mount_laws.specs.Reach.{IsFileTouched, NeedsCopy, has_reserve, shows_page, spot_at, with_place_at}
use Rattle.hp_mount_laws.proofs.Ways.{fresh_choice, is_fresh, page_asks, page_denied, page_full, page_granted, page_reserved, page_without_memory}

-- a choice of this stamp
abbrev pub stamped : ℕ → Choice
stamped stamp = record { stamp = stamp; refused = false; after_grant = false }

pub stamped_fresh : (stamp : ℕ) (fs : List File) (m : Mount) → m.files ≡ fs → is_among stamp (flat_map stamps_of fs) ≡ false → IsFresh (stamped stamp) (Some m)
stamped_fresh stamp fs m files e = (let none : is_among stamp (flat_map stamps_of m.files) ≡ false = ap (λ xs. is_among stamp (flat_map stamps_of xs)) files ∙ e in rw none refl)

unconsumed : (b : Bool) → is_unconsumed {C = Copy} (Live b None) ≡ not b
unconsumed true = refl
unconsumed false = refl

-- a map with a copy shows it
pub copy_value : (size : ℕ) (f : File) (y : Map) (i : ℕ) (copy : Copy) → copy_of (place_at y i) ≡ Some copy → value size f y i ≡ copy.page.bytes
copy_value size f y i copy e = ap (λ o. elim o [ None ↦ shown size (cell_at f i) | Some copy ↦ copy.page.bytes ]) e

-- a section as the mount counts it
module _ {X : Type 0} (took : X → Section → PoolAnswer → X → Type 0) (home : ℕ) (door left : X) {a b : ℕ} (rises : a ≡ b) where
  pub granted_as : {node given : ℕ} → node ≡ given → took door (GrantPage home a) (granted_at node) left → took door (GrantPage home b) (granted_at given) left
  granted_as {node} {given} same t = subst (λ n. took door (GrantPage home n) (granted_at given) left) rises (subst (λ n. took door (GrantPage home a) (granted_at n) left) same t)

  pub denied_as : (e : Refusal) (other : Type 0) → IsDoorRefusal e (took door (GrantPage home a) no_pages left) other → IsDoorRefusal e (took door (GrantPage home b) no_pages left) other
  denied_as e other t = subst (λ n. IsDoorRefusal e (took door (GrantPage home n) no_pages left) other) rises t

module _ {X : Type 0} (took : X → Section → PoolAnswer → X → Type 0) (full : X → Type 0) (size : ℕ) (m : Mount) (home k j i : ℕ) (intent : Intent) (door : X) where
  abbrev s : Spot
  s = spot_at m k j

  abbrev plan : Choice → Plan
  plan c = access c size m s home i intent

  -- the plan goes so, with this choice
  goes_so : (c : Choice) (reply : Reply) (new : Slot) (left : X) → IsFresh c (Some m) → (p : Plan) → p ≡ plan c →
      ThroughDoor took p (Some m) door reply new left → Through took plan (Some m) door reply new left
  goes_so c reply new left fresh p e h = (c, fresh, subst (λ x. ThroughDoor took x (Some m) door reply new left) e h)

  enters_so : (c : Choice) → IsFresh c (Some m) → (p : Plan) → p ≡ plan c → Enters p → MayEnter plan (Some m)
  enters_so c fresh p e h = (c, fresh, subst Enters e h)

  module _ (private : is_shared s.map.sharing ≡ false) where
    place_plan : (p : Place Copy) → place_at s.map i ≡ p → (c : Choice) → private_access c size m s home i p intent ≡ plan c
    place_plan p e c = grind (arith, common_steps)

    -- nothing is asked
    pub nothing_asked : (p : Place Copy) → place_at s.map i ≡ p → ((c : Choice) →
        private_access c size m s home i p intent ≡ Finish (Answered Done (Some m))) → Through took plan (Some m) door (Ok Done) (Some m) door
    nothing_asked p e is =
        let c : Choice = fresh_choice false (Some m) in
        goes_so c (Ok Done) (Some m) door (is_fresh false (Some m)) (private_access c size m s home i p intent) (place_plan p e c)
        (subst (λ x. ThroughDoor took x (Some m) door (Ok Done) (Some m) door) (sym (is c)) ((refl, refl), refl))

    pub copy_read : (consumed : Bool) (copy : Copy) → place_at s.map i ≡ Live consumed (Some copy) → intent ≡ Read → Through took plan (Some m) door (Ok Done) (Some m) door
    copy_read consumed copy e read = nothing_asked (Live consumed (Some copy)) e (λ c. ap (private_access c size m s home i (Live consumed (Some copy))) read)

    write_plan : (c : Choice) (consumed : Bool) (copy : Copy) → place_at s.map i ≡ Live consumed (Some copy) → intent ≡ Write → copy_write c m s home i consumed copy ≡ plan c
    write_plan c consumed copy e write = ap (private_access c size m s home i (Live consumed (Some copy))) (sym write) ∙ place_plan (Live consumed (Some copy)) e c

    pub once_written : (consumed : Bool) (copy : Copy) → place_at s.map i ≡ Live consumed (Some copy) → is_held_once s.file copy.stamp ≡ true → Through took plan (Some m) door (Ok Done) (Some m) door
    once_written consumed copy e once = by intent refl
      where
        by : (x : Intent) → intent ≡ x → Through took plan (Some m) door (Ok Done) (Some m) door
        by Read is = copy_read consumed copy e is
        by Write is = nothing_asked (Live consumed (Some copy)) e (λ c. ap (private_access c size m s home i (Live consumed (Some copy))) is ∙ either c (is_held_once s.file copy.stamp) once)
          where
            either : (c : Choice) (b : Bool) → b ≡ true → cond b (Finish (Answered Done (Some m)))
                (cond s.map.owner (owner_write m s home copy.stamp (λ node. copied m s i consumed
                (record { stamp = c.stamp; page = record { node = node; bytes = copy.page.bytes } })))
                (grant_page c m home (λ node. copied m s i consumed (record { stamp = c.stamp; page = record { node = node; bytes = copy.page.bytes } })))) ≡ Finish (Answered Done (Some m))
            either c true e = refl
            either c false e = cc

    -- a marked map has no copy there
    pub cut_off : (consumed : Bool) → place_at s.map i ≡ Live consumed None → s.map.unmapped ≡ true → Through took plan (Some m) door (Err r.TakenByOwner) (Some m) door
    cut_off consumed e marked =
        let c : Choice = fresh_choice false (Some m) in
        goes_so c (Err r.TakenByOwner) (Some m) door (is_fresh false (Some m)) (refuse r.TakenByOwner)
        (ap (λ b. cond b (refuse r.TakenByOwner) (uncopied_access c size m s home i consumed intent)) (sym marked) ∙ place_plan (Live consumed None) e c) ((refl, refl), refl)

    -- a reader finds a page of the file
    pub page_read : (consumed : Bool) → place_at s.map i ≡ Live consumed None → s.map.unmapped ≡ false → shows_page intent (cell_at s.file i) ≡ true →
        Through took plan (Some m) door (Ok Done) (Some m) door
    page_read consumed e kept shows = by intent refl shows
      where
        by : (x : Intent) → intent ≡ x → shows_page x (cell_at s.file i) ≡ true → Through took plan (Some m) door (Ok Done) (Some m) door
        by Write read there = cc
        by Read read there = nothing_asked (Live consumed None) e
            (λ c. ap (λ b. cond b (refuse r.TakenByOwner) (uncopied_access c size m s home i consumed intent)) kept ∙ ap (uncopied_access c size m s home i consumed) read
            ∙ ap (λ b. cond b (Finish (Answered Done (Some m))) (new_copy c size m s home i consumed)) there)

  -- ---- a first copy

  module _ (need : NeedsCopy intent i s) where
    abbrev fresh_copy : Choice → ℕ → Copy
    fresh_copy c node = record { stamp = c.stamp; page = record { node = node; bytes = value size s.file s.map i } }

    asks_copy : (c : Choice) (x : Intent) → intent ≡ x → new_copy c size m s home i need.consumed ≡ uncopied_access c size m s home i need.consumed x
    asks_copy c Read is = ap (λ b. cond b (Finish (Answered Done (Some m))) (new_copy c size m s home i need.consumed)) (sym (ap (λ x. shows_page x (cell_at s.file i)) (sym is) ∙ need.asks))
    asks_copy c Write is = refl

    new_plan : (c : Choice) → new_copy c size m s home i need.consumed ≡ plan c
    new_plan c = grind (arith, common_steps, asks_copy, place_plan)

    -- what is left: a copy with this stamp, of what the map shows
    given_copy : (stamp : ℕ) (consumed : Bool) (page : Page) (n : Mount) → page.bytes ≡ value size s.file s.map i →
        n ≡ with_place_at m k j i (Live consumed (Some (record { stamp = stamp; page = page })))
        → Gives (copied m s i consumed (fresh_copy (stamped stamp) page.node)) (Some m) (Ok Done) (Some n)
    given_copy stamp consumed page n bytes n_is = search (rules)

    -- by the owner's reservation
    pub copy_reserved : (stamp : ℕ) (left : X) (page : Page) (n : Mount) → has_reserve s.map i ≡ true → IsFresh (stamped stamp) (Some m) →
        took door (TakePage home) (granted_at page.node) left → page.bytes ≡ value size s.file s.map i
        → n ≡ with_place_at m k j i (Live true (Some (record { stamp = stamp; page = page }))) → Through took plan (Some m) door (Ok Done) (Some n) left
    copy_reserved stamp left page n reserved fresh t bytes n_is =
        let c : Choice = stamped stamp in
        let owns : (s.map.owner && not need.consumed) ≡ true = ap (λ b. s.map.owner && b) (sym (unconsumed need.consumed)) ∙ ap (λ p. s.map.owner && is_unconsumed p) (sym need.place) ∙ reserved in
        goes_so c (Ok Done) (Some n) left fresh (reserved_page home (λ node. copied m s i true (fresh_copy c node)))
        (ap (λ b. cond b (reserved_page home (λ node. copied m s i true (fresh_copy c node))) (grant_page c m home (λ node. copied m s i need.consumed (fresh_copy c node)))) (sym owns) ∙ new_plan c)
        (page_reserved took m c home (λ node. copied m s i true (fresh_copy c node)) door left page.node (Ok Done) (Some n) t (given_copy stamp true page n bytes n_is))

    -- refused by the door, as TraceFull alone
    pub reserved_full : (left : X) (n : Mount) (x : Refusal) → has_reserve s.map i ≡ true → IsDoorRefusal x ⊥ ((left ≡ door) × full left) → n ≡ m →
        Tried took full plan (Some m) door (Err x) (Some n) left
    reserved_full left n r.TraceFull reserved t same =
        let c : Choice = fresh_choice false (Some m) in
        let owns : (s.map.owner && not need.consumed) ≡ true = ap (λ b. s.map.owner && b) (sym (unconsumed need.consumed)) ∙ ap (λ p. s.map.owner && is_unconsumed p) (sym need.place) ∙ reserved in (
          ap Some same,
          t,
          enters_so c (is_fresh false (Some m)) (reserved_page home (λ node. copied m s i true (fresh_copy c node)))
              (ap (λ b. cond b (reserved_page home (λ node. copied m s i true (fresh_copy c node)))
              (grant_page c m home (λ node. copied m s i need.consumed (fresh_copy c node)))) (sym owns) ∙ new_plan c) tt,
        )
    reserved_full left n other reserved t same = absurd t

    -- by a grant
    module _ (unreserved : has_reserve s.map i ≡ false) where
      abbrev put_copy : Choice → ℕ → Outcome
      put_copy c node = copied m s i need.consumed (fresh_copy c node)

      grant_plan : (c : Choice) → grant_page c m home (put_copy c) ≡ plan c
      grant_plan c = grind (arith, common_steps, unconsumed, new_plan)

      pub copy_full : is_full m 1 ≡ true → Through took plan (Some m) door (Err r.MountFull) (Some m) door
      copy_full e = (let c : Choice = fresh_choice false (Some m) in goes_so c (Err r.MountFull) (Some m) door (is_fresh false (Some m))
          (grant_page c m home (put_copy c)) (grant_plan c) (page_full took m c home (put_copy c) door e))

      pub copy_without_memory : (n : Mount) → is_full m 1 ≡ false → n ≡ m → Through took plan (Some m) door (Err r.OutOfMemory) (Some n) door
      copy_without_memory n e same = subst (λ x. Through took plan (Some m) door (Err r.OutOfMemory) (Some x) door) (sym same)
          (let c : Choice = fresh_choice true (Some m) in goes_so c (Err r.OutOfMemory) (Some m) door (is_fresh true (Some m))
          (grant_page c m home (put_copy c)) (grant_plan c) (page_without_memory took m c home (put_copy c) door e refl))

      pub copy_granted : (stamp : ℕ) (left : X) (page : Page) (n : Mount) → is_full m 1 ≡ false → IsFresh (stamped stamp) (Some m) →
          took door (GrantPage home (rise m 1)) (granted_at page.node) left → page.bytes ≡ value size s.file s.map i
          → n ≡ with_place_at m k j i (Live need.consumed (Some (record { stamp = stamp; page = page }))) → Through took plan (Some m) door (Ok Done) (Some n) left
      copy_granted stamp left page n e fresh t bytes n_is =
          let c : Choice = stamped stamp in
          goes_so c (Ok Done) (Some n) left fresh (grant_page c m home (put_copy c)) (grant_plan c)
          (page_granted took m c home (put_copy c) door left page.node (Ok Done) (Some n) e refl t (given_copy stamp need.consumed page n bytes n_is))

      pub copy_denied : (left : X) (n : Mount) (x : Refusal) → is_full m 1 ≡ false →
          IsDoorRefusal x (took door (GrantPage home (rise m 1)) no_pages left) ((left ≡ door) × full left) → n ≡ m →
          Tried took full plan (Some m) door (Err x) (Some n) left
      copy_denied left n r.NoPages e t same = subst (λ y. Through took plan (Some m) door (Err r.NoPages) (Some y) left) (sym same)
          (let c : Choice = fresh_choice false (Some m) in goes_so c (Err r.NoPages) (Some m) left (is_fresh false (Some m))
          (grant_page c m home (put_copy c)) (grant_plan c) (page_denied took m c home (put_copy c) door left e refl t))
      copy_denied left n r.TraceFull e t same = (
        ap Some same,
        t,
        (let c : Choice = fresh_choice false (Some m) in enters_so c (is_fresh false (Some m)) (grant_page c m home (put_copy c)) (grant_plan c) (page_asks took m c home (put_copy c) door e refl)),
      )
      copy_denied left n other e t same = absurd t

  -- ---- a copy that several maps hold

  module _ (private : is_shared s.map.sharing ≡ false) (consumed : Bool) (copy : Copy) (place : place_at s.map i ≡ Live consumed (Some copy))
      (write : intent ≡ Write) (several : is_held_once s.file copy.stamp ≡ false) where
    abbrev own : Choice → ℕ → Outcome
    own c node = copied m s i consumed (record { stamp = c.stamp; page = record { node = node; bytes = copy.page.bytes } })

    several_plan : (c : Choice) → cond s.map.owner (owner_write m s home copy.stamp (own c)) (grant_page c m home (own c)) ≡ plan c
    several_plan c = ap (λ b. cond b (Finish (Answered Done (Some m))) (cond s.map.owner (owner_write m s home copy.stamp (own c))
        (grant_page c m home (own c)))) (sym several) ∙ write_plan private c consumed copy place write

    given_own : (stamp : ℕ) (page : Page) (n : Mount) → page.bytes ≡ copy.page.bytes →
        n ≡ with_place_at m k j i (Live consumed (Some (record { stamp = stamp; page = page }))) →
        Gives (own (stamped stamp) page.node) (Some m) (Ok Done) (Some n)
    given_own stamp page n bytes n_is = (refl, ap Some (n_is ∙ ap (λ b. with_place_at m k j i (Live consumed (Some (record { stamp = stamp; page = record { node = page.node; bytes = b } })))) bytes))

    abbrev asks_owner : Choice → Plan
    asks_owner c = Ask (λ nr. GrantPage home (rise m 1)) (λ a. cond a.granted (own c a.node) (taken_back m s copy.stamp))

    module _ (owner : s.map.owner ≡ true) where
      owner_plan : (c : Choice) (b : Bool) → is_full m 1 ≡ b → cond b (Finish (taken_back m s copy.stamp)) (asks_owner c) ≡ plan c
      owner_plan c b e = grind (arith, common_steps, several_plan)

      abbrev back : Mount
      back = with_file m k (with_map (record s.file { maps = map (robbed copy.stamp) s.file.maps }) j s.map)

      pub owner_full : (n : Mount) → is_full m 1 ≡ true → n ≡ back → Through took plan (Some m) door (Ok Done) (Some n) door
      owner_full n e n_is = (let c : Choice = fresh_choice false (Some m) in goes_so c (Ok Done) (Some n) door (is_fresh false (Some m))
          (Finish (taken_back m s copy.stamp)) (owner_plan c true e) ((refl, ap Some n_is), refl))

      pub owner_denied : (left : X) (n : Mount) → is_full m 1 ≡ false → took door (GrantPage home (rise m 1)) no_pages left → n ≡ back → Through took plan (Some m) door (Ok Done) (Some n) left
      owner_denied left n e t n_is = (let c : Choice = fresh_choice false (Some m) in
          goes_so c (Ok Done) (Some n) left (is_fresh false (Some m)) (asks_owner c) (owner_plan c false e) (no_pages, t, (refl, ap Some n_is)))

    pub other_full : s.map.owner ≡ false → is_full m 1 ≡ true → Through took plan (Some m) door (Err r.MountFull) (Some m) door
    other_full other e =
        let c : Choice = fresh_choice false (Some m) in
        goes_so c (Err r.MountFull) (Some m) door (is_fresh false (Some m)) (grant_page c m home (own c))
        (ap (λ b. cond b (owner_write m s home copy.stamp (own c)) (grant_page c m home (own c))) (sym other) ∙ several_plan c) (page_full took m c home (own c) door e)

    own_enters : is_full m 1 ≡ false → (b : Bool) → s.map.owner ≡ b → MayEnter plan (Some m)
    own_enters e true owner = (let c : Choice = fresh_choice false (Some m) in enters_so c (is_fresh false (Some m)) (asks_owner c) (owner_plan owner c false e) tt)
    own_enters e false other =
        let c : Choice = fresh_choice false (Some m) in
        enters_so c (is_fresh false (Some m)) (grant_page c m home (own c))
        (ap (λ b. cond b (owner_write m s home copy.stamp (own c)) (grant_page c m home (own c))) (sym other) ∙ several_plan c) (page_asks took m c home (own c) door e refl)

    -- refused by the door: an owner is so as TraceFull alone
    pub own_denied : (left : X) (n : Mount) (x : Refusal) → is_full m 1 ≡ false → (x ≡ r.NoPages → s.map.owner ≡ false) →
        IsDoorRefusal x (took door (GrantPage home (rise m 1)) no_pages left) ((left ≡ door) × full left) → n ≡ m →
        Tried took full plan (Some m) door (Err x) (Some n) left
    own_denied left n r.NoPages e other t same = subst (λ y. Through took plan (Some m) door (Err r.NoPages) (Some y) left) (sym same)
        (let c : Choice = fresh_choice false (Some m) in goes_so c (Err r.NoPages) (Some m) left (is_fresh false (Some m)) (grant_page c m home (own c))
        (ap (λ b. cond b (owner_write m s home copy.stamp (own c)) (grant_page c m home (own c))) (sym (other refl)) ∙ several_plan c) (page_denied took m c home (own c) door left e refl t))
    own_denied left n r.TraceFull e other t same = (ap Some same, t, own_enters e s.map.owner refl)
    own_denied left n x e other t same = absurd t

    pub own_granted : (stamp : ℕ) (left : X) (page : Page) (n : Mount) → is_full m 1 ≡ false → IsFresh (stamped stamp) (Some m) →
        took door (GrantPage home (rise m 1)) (granted_at page.node) left → page.bytes ≡ copy.page.bytes
        → n ≡ with_place_at m k j i (Live consumed (Some (record { stamp = stamp; page = page }))) → Through took plan (Some m) door (Ok Done) (Some n) left
    own_granted stamp left page n e fresh t bytes n_is = either s.map.owner refl
      where
        c : Choice
        c = stamped stamp

        either : (b : Bool) → s.map.owner ≡ b → Through took plan (Some m) door (Ok Done) (Some n) left
        either true owner = goes_so (stamped stamp) (Ok Done) (Some n) left fresh (asks_owner (stamped stamp))
            (owner_plan owner (stamped stamp) false e) (granted_at page.node, t, given_own stamp page n bytes n_is)
        either false other = goes_so (stamped stamp) (Ok Done) (Some n) left fresh (grant_page (stamped stamp) m home (own (stamped stamp)))
            (ap (λ b. cond b (owner_write m s home copy.stamp (own (stamped stamp))) (grant_page (stamped stamp) m home (own (stamped stamp)))) (sym other) ∙ several_plan (stamped stamp))
            (page_granted took m (stamped stamp) home (own (stamped stamp)) door left page.node (Ok Done) (Some n) e refl t (given_own stamp page n bytes n_is))

-- ---- as many indices and maps as before

pub place_touched : (m n : Mount) (k j i : ℕ) (p : Place Copy) → k < length m.files → n ≡ with_place_at m k j i p → IsFileTouched m n k
place_touched m n k j i p l e = grind (arith, common_steps, get_or-set_same, length-set)

pub back_touched : (m n : Mount) (k j stamp : ℕ) (y : Map) → k < length m.files →
    n ≡ with_file m k (with_map (record (file_in m k) { maps = map (robbed stamp) (file_in m k).maps }) j y) → IsFileTouched m n k
back_touched m n k j stamp y l e = grind (arith, common_steps, get_or-set_same, length-set, length-map)
