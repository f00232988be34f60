use Rattle.std.proofs.lemmas.Grind.{common_steps}
-- A range of a file that is filled, by what code did.
use Rattle.std.proofs.Common.{◌≡◌, ℕ, ◌+◌, ◌-◌, ◌<◌, ◌≤◌, ◌==◌, Bool, true, false, cond, List, [], Option, None, Some, Ok, Err, length, max, refl, sym, ap, subst, ◌∙◌, arith, nat_lt, slice_set}
use Rattle.std.proofs.lemmas.Bool.Decides.{nat_tests}
use Rattle.std.proofs.lemmas.List.{get_or_default, length-set}
use Rattle.hp_laws.proofs.Variants.{Done, FillPages, PoolAnswer, Refusal, Section}
use Rattle.hp_model.specs.declared.event.SlotEvent.TheVariants.{Preallocate}
use Rattle.hp_model.specs.declared.refusal.Refusal.TheVariants as r
use Rattle.hp_model.proofs.Words.{Answered, Ask, Choice, File, Finish, Mount, Plan, Reply, Slot, ThroughDoor, file_in, file_named, fill, filled_by, is_bad_range, is_full, lacking, most_map_pages}
use Rattle.hp_model.proofs.Words.{new_file, no_pages, preallocate, preallocate_tests, preallocated, range_filled, refuse, rise, rising_nodes, slot_event, unentered, unless, with_file, with_value}
use Rattle.hp_laws.proofs.counts.Filled.{filled_fills}
use Rattle.hp_laws.proofs.counts.MountMoves.{MountFills, file_fills}
use Rattle.hp_laws.proofs.lists.NodesOf.{length-nodes_of}
use Rattle.hp_mount_door.specs.Filling.{with_filled}
use Rattle.hp_lookup.proofs.Words.{Files, file_at}
use Rattle.hp_file.specs.Filling.{IsTaking, pages_put}
use Rattle.hp_mount_laws.specs.Done.{Enters, Through, Tried}
use Rattle.hp_mount_laws.specs.Reach.{first_of}
use Rattle.hp_mount_laws.specs.Kept.{IsKept, mount_from}
use Rattle.hp_mount_laws.proofs.Trying.{tests_fail, tests_pass, tried_as}
use Rattle.hp_mount_laws.proofs.Keeping.{mount_left}
use Rattle.hp_mount_laws.proofs.Ways.{fresh_choice, is_fresh, refused_at}
use Rattle.hp_subpool.specs.Subpool as share
use Rattle.hp_subpool.specs.Subpool.{Subpool, used}

-- ---- the share and the files that are left

module _ (s : Subpool) (v : Files) (inodes : Option ℕ) (c : IsKept s v (mount_from s inodes v.files)) (k : ℕ) (l : k < length v.files)
    (size a b more count : ℕ) (more_is : more ≡ unentered a b (file_at v.files k)) (count_is : count ≡ lacking a b (file_at v.files k)) where
  abbrev m : Mount
  m = mount_from s inodes v.files

  module _ (takes : List ℕ) where
    abbrev g : File
    g = range_filled size a b (rising_nodes count takes) (file_at v.files k)

    long : length (rising_nodes count takes) ≡ count
    long = length-nodes_of count takes

    fills : MountFills m (with_file m k g) (rising_nodes count takes) (unentered a b (file_at v.files k))
    fills = file_fills m k (file_at v.files k) g (rising_nodes count takes) (unentered a b (file_at v.files k))
        (record { within = l; is = λ d. get_or_default v.files k d (new_file None) l }) (filled_fills size a b (rising_nodes count takes) (file_at v.files k) (long ∙ count_is))

  -- those with entries have reservations
  pub enough_held : count ≤ s.held + more
  enough_held =
      let all = fills [] in
      let pages = all.pages in
      let usage = all.usage in
      let wide = long [] in
      let had = c.pages in
      let was = c.used in
      omega (arith, pages, usage, wide, had, was, more_is)

  module _ (takes : List ℕ) (new : Subpool) (w : Files) (new_is : new ≡ with_filled more count s)
      (w_is : w ≡ pages_put size k a b (rising_nodes count takes) (max v.room (s.held + more) - count) v) where
    pub filled_left : mount_from new inodes w.files ≡ with_file m k (g takes)
    filled_left = mount_left s new inodes (slice_set v.files k (g takes)) w.files
        (ap (λ (x : Subpool). x.max) new_is) (ap (λ (x : Subpool). x.min) new_is) (ap (λ (x : Files). x.files) w_is)

    pub filled_kept : IsKept new w (mount_from new inodes w.files)
    filled_kept = grind (arith, common_steps, fills, long, enough_held, length-set, filled_left)

-- ---- the section

module _ {X : Type 0} (took : X → Section → PoolAnswer → X → Type 0) (full : X → Type 0) (size : ℕ) (m : Mount) (k a b : ℕ) (door : X) where
  abbrev f : File
  f = file_in m k

  abbrev plan : Choice → Plan
  plan c = fill c size m a b (k, f)

  abbrev asks : Plan
  asks = Ask (λ nr. FillPages (rise m (unentered a b f)) (lacking a b f)) (preallocated size m a b (k, f))

  tests : (c : Choice) (is refused : Bool) → is_full m (unentered a b f) ≡ is → c.refused ≡ refused → (reply : Reply) (new : Slot) (left : X)
      → ThroughDoor took (cond is (refuse r.MountFull) (cond refused (refuse r.OutOfMemory) asks)) (Some m) door reply new left → ThroughDoor took (plan c) (Some m) door reply new left
  tests c is refused e z reply new left h = grind (arith, common_steps)

  pub fill_full : is_full m (unentered a b f) ≡ true → Tried took full plan (Some m) door (Err r.MountFull) (Some m) door
  fill_full e = (let c : Choice = fresh_choice false (Some m) in (c, is_fresh false (Some m), tests c true false e refl (Err r.MountFull) (Some m) door (refused_at took m r.MountFull door)))

  module _ (room : is_full m (unentered a b f) ≡ false) (s : Subpool) (more count : ℕ) (more_is : more ≡ unentered a b f) (count_is : count ≡ lacking a b f)
      (rise_is : share.rise s more ≡ rise m more) where
    section_is : FillPages (share.rise s more) count ≡ FillPages (rise m (unentered a b f)) (lacking a b f)
    section_is = ap (λ d. FillPages d count) (rise_is ∙ ap (rise m) more_is) ∙ ap (FillPages (rise m (unentered a b f))) count_is

    pub fill_given : (takes : List ℕ) (new : Subpool) (left : X) (n : Mount) → IsTaking took full more count s door (Ok tt) takes new left →
        n ≡ with_file m k (range_filled size a b (rising_nodes count takes) f) → Tried took full plan (Some m) door (Ok Done) (Some n) left
    fill_given takes new left n given n_is =
        let c : Choice = fresh_choice false (Some m) in (
          c,
          is_fresh false (Some m),
          tests c false false room refl (Ok Done) (Some n) left (
            filled_by takes,
            subst (λ e. took door e (filled_by takes) left) section_is given.section,
            (refl, ap Some (n_is ∙ ap (λ q. with_file m k (range_filled size a b (rising_nodes q takes) f)) count_is)),
          ),
        )

    asks_pages : Enters (plan (fresh_choice false (Some m)))
    asks_pages = subst (λ b. Enters (cond b (refuse r.MountFull) asks)) (sym room) tt

    pub fill_denied : (e : Refusal) (new : Subpool) (left : X) (after : Mount) → IsTaking took full more count s door (Err e) [] new left → after ≡ m
        → Tried took full plan (Some m) door (Err e) (Some after) left
    fill_denied r.OutOfMemory new left after none same =
        let c : Choice = fresh_choice true (Some m) in
        (c, is_fresh true (Some m), tests c false true room refl (Err r.OutOfMemory) (Some after) left ((refl, ap Some same), none.door))
    fill_denied r.NoPages new left after denied same =
        let c : Choice = fresh_choice false (Some m) in
        (c, is_fresh false (Some m), tests c false false room refl (Err r.NoPages) (Some after) left (no_pages, subst (λ e. took door e no_pages left) section_is denied.why, (refl, ap Some same)))
    fill_denied r.TraceFull new left after denied same = (ap Some same, denied.why, (fresh_choice false (Some m), is_fresh false (Some m), asks_pages))
    fill_denied other new left after denied same = absurd denied.why

-- refused, the share is as it was
pub taken_share : {X : Type 0} (took : X → Section → PoolAnswer → X → Type 0) (full : X → Type 0) (more count : ℕ) (s : Subpool) (door : X) (e : Refusal)
    (new : Subpool) (left : X) → IsTaking took full more count s door (Err e) [] new left → new ≡ s
taken_share took full more count s door r.OutOfMemory new left taken = taken.share
taken_share took full more count s door other new left taken = taken.share

-- ---- the event

never_fill : (x y : Bool) → cond x (Some r.OutOfRange) (cond y (Some r.TooMany) None) ≡ Some r.TraceFull → ⊥
never_fill true y e = cc
never_fill false true e = cc
never_fill false false e = cc

module _ {X : Type 0} (took : X → Section → PoolAnswer → X → Type 0) (full : X → Type 0) (m : Mount) (size slot a b : ℕ) (name : List ℕ) (door : X) where
  abbrev event : Choice → Plan
  event c = slot_event size slot c (Some m) (Preallocate name a b)

  pub fill_nowhere : file_named m name ≡ None → Tried took full event (Some m) door (Err r.NoSuchFile) (Some m) door
  fill_nowhere e = (
    fresh_choice false (Some m),
    is_fresh false (Some m),
    subst (λ o. ThroughDoor took (with_value o r.NoSuchFile (preallocate (fresh_choice false (Some m)) size m a b)) (Some m) door
        (Err r.NoSuchFile) (Some m) door) (sym e) (refused_at took m r.NoSuchFile door),
  )

  module _ (k : ℕ) (named : file_named m name ≡ Some (k, file_in m k)) where
    abbrev after : Choice → Plan
    after c = cond (lacking a b (file_in m k) == 0) (Finish (Answered Done (Some m))) (fill c size m a b (k, file_in m k))

    of_file : (c : Choice) → event c ≡ unless (preallocate_tests a b) (after c)
    of_file c = ap (λ o. with_value o r.NoSuchFile (preallocate c size m a b)) named

    refused_by : (e : Refusal) → first_of (preallocate_tests a b) ≡ Some e → Through took event (Some m) door (Err e) (Some m) door
    refused_by e h =
        let c : Choice = fresh_choice false (Some m) in (
          c,
          is_fresh false (Some m),
          subst (λ p. ThroughDoor took p (Some m) door (Err e) (Some m) door)
              (sym (of_file c ∙ tests_fail (preallocate_tests a b) (after c) e h)) (refused_at took m e door),
        )

    pub fill_refused : (e : Refusal) → first_of (preallocate_tests a b) ≡ Some e → Tried took full event (Some m) door (Err e) (Some m) door
    fill_refused r.TraceFull h = absurd (never_fill (is_bad_range a b) (nat_lt most_map_pages (b - a)) h)
    fill_refused other h = refused_by other h

    module _ (pass : first_of (preallocate_tests a b) ≡ None) where
      -- each index has its page
      pub fill_nothing : lacking a b (file_in m k) ≡ 0 → Tried took full event (Some m) door (Ok Done) (Some m) door
      fill_nothing none =
          let c : Choice = fresh_choice false (Some m) in
          let zero : (lacking a b (file_in m k) == 0) ≡ true = grind (arith, nat_tests, none) in (
            c,
            is_fresh false (Some m),
            subst (λ p. ThroughDoor took p (Some m) door (Ok Done) (Some m) door)
                (sym (of_file c ∙ tests_pass (preallocate_tests a b) (after c) pass
                ∙ ap (λ t. cond t (Finish (Answered Done (Some m))) (fill c size m a b (k, file_in m k))) zero)) ((refl, refl), refl),
          )

      pub fill_went : 0 < lacking a b (file_in m k) → (reply : Reply) (new : Slot) (left : X) →
          Tried took full (λ c. fill c size m a b (k, file_in m k)) (Some m) door reply new left → Tried took full event (Some m) door reply new left
      fill_went some reply new left h = grind (arith, common_steps, nat_tests, tried_as, tests_pass, of_file)
