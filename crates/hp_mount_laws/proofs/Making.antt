use Rattle.std.proofs.lemmas.Grind.{common_steps}
-- Files and maps that are made, by what code did.
use Rattle.std.proofs.Common.{◌≡◌, ℕ, ◌+◌, ◌<◌, ◌==◌, Bool, true, false, cond, List, [], ◌∷◌, Option, Some, None, Ok, Err, length, refl, sym, ap, subst, ◌∙◌, arith, ◌||◌, nat_le, nat_lt}
use Rattle.std.proofs.lemmas.Bool.Decides.{nat_tests}
use Rattle.hp_laws.proofs.Variants.{Answer, Done, Grant, MapNo, PoolAnswer, Refusal, Reserving, Section, Sharing, Usage as UsageAnswer}
use Rattle.hp_model.specs.declared.event.SlotEvent.TheVariants.{Anon, Create, Df, Map as MapEvent}
use Rattle.hp_model.specs.declared.refusal.Refusal.TheVariants as r
use Rattle.hp_model.proofs.Words.{Answered, Ask, Choice, Finish, Mount, Outcome, Plan, Refused, Reply, Slot, ThroughDoor, anon_tests, are_too_many_maps, asked, file_in, file_named, grant, granted_at}
use Rattle.hp_model.proofs.Words.{is_full, is_over, map_file, mapped, most_file_pages, most_files, most_map_pages, new_file, next_number, no_pages, refuse, rise, slot_event, unless, usage_of}
use Rattle.hp_model.proofs.Words.{when_granted, with_file, with_new, with_value}
use Rattle.hp_lookup.proofs.Words.{Files, IsAsked, IsGranted}
use Rattle.hp_mount_laws.specs.Alone.{IsDoneAlone}
use Rattle.hp_mount_laws.specs.Done.{Enters, Through, Tried}
use Rattle.hp_mount_laws.specs.Reach.{first_of}
use Rattle.hp_mount_laws.specs.Kept.{IsKept, mount_from}
use Rattle.hp_mount_laws.specs.Making.{create_tests, file_tests, map_tests}
use Rattle.hp_mount_laws.proofs.Trying.{tests_fail, tests_pass, tried_as}
use Rattle.hp_mount_laws.proofs.Ways.{fresh_choice, is_fresh, refused_at}
use Rattle.hp_subpool.specs.Subpool as share
use Rattle.hp_subpool.specs.Subpool.{Subpool}

-- ---- what asks nothing of the pool

pub usage_alone : (s : Subpool) (v : Files) (inodes : Option ℕ) → IsKept s v (mount_from s inodes v.files) → (max ino : Option ℕ) (min used n : ℕ) →
    max ≡ s.max → min ≡ s.min → used ≡ share.used s → ino ≡ inodes → n ≡ length v.files
    → (size k : ℕ) → IsDoneAlone size k (Some (mount_from s inodes v.files)) Df (Ok (UsageAnswer max min used ino n)) (Some (mount_from s inodes v.files))
usage_alone s v inodes kept max ino min used n max_is min_is used_is ino_is n_is size k =
    let m : Mount = mount_from s inodes v.files in
    record {
      choice = fresh_choice false (Some m);
      fresh = is_fresh false (Some m);
      outcome = Answered (UsageAnswer max min used ino n) (Some m);
      ends = sym (ap (λ x. Finish (Answered (UsageAnswer x min used ino n) (Some m))) max_is ∙ ap (λ x. Finish (Answered (UsageAnswer s.max x used ino n) (Some m))) min_is
          ∙ ap (λ x. Finish (Answered (UsageAnswer s.max s.min x ino n) (Some m))) (used_is ∙ kept.used) ∙ ap (λ x. Finish (Answered (UsageAnswer s.max s.min (usage_of m) x n) (Some m))) ino_is
          ∙ ap (λ x. Finish (Answered (UsageAnswer s.max s.min (usage_of m) inodes x) (Some m))) n_is);
      gives = (refl, refl);
    }

module _ (m : Mount) (name : List ℕ) (size k : ℕ) where
  pub create_refused : (e : Refusal) → first_of (create_tests m name) ≡ Some e → IsDoneAlone size k (Some m) (Create name) (Err e) (Some m)
  create_refused e h = record {
    choice = fresh_choice false (Some m);
    fresh = is_fresh false (Some m);
    outcome = Refused e;
    ends = tests_fail (create_tests m name) (unless ((false, r.OutOfMemory) ∷ []) (Finish (Answered Done (Some (with_new m (new_file (Some name))))))) e h;
    gives = (refl, refl);
  }

  pub create_without_memory : (n : Mount) → first_of (create_tests m name) ≡ None → n ≡ m → IsDoneAlone size k (Some m) (Create name) (Err r.OutOfMemory) (Some n)
  create_without_memory n pass same = record {
    choice = fresh_choice true (Some m);
    fresh = is_fresh true (Some m);
    outcome = Refused r.OutOfMemory;
    ends = tests_pass (create_tests m name) (unless ((true, r.OutOfMemory) ∷ []) (Finish (Answered Done (Some (with_new m (new_file (Some name))))))) pass;
    gives = (refl, ap Some same);
  }

  pub create_done : (n : Mount) → first_of (create_tests m name) ≡ None → n ≡ with_new m (new_file (Some name)) → IsDoneAlone size k (Some m) (Create name) (Ok Done) (Some n)
  create_done n pass is = record {
    choice = fresh_choice false (Some m);
    fresh = is_fresh false (Some m);
    outcome = Answered Done (Some (with_new m (new_file (Some name))));
    ends = tests_pass (create_tests m name) (unless ((false, r.OutOfMemory) ∷ []) (Finish (Answered Done (Some (with_new m (new_file (Some name))))))) pass;
    gives = (refl, ap Some is);
  }

-- ---- a grant

module _ {X : Type 0} (took : X → Section → PoolAnswer → X → Type 0) (full : X → Type 0) (m : Mount) (home k : ℕ) (a : Answer) (n : Mount) (door : X) where
  abbrev outcome : Outcome
  outcome = Answered a (Some n)

  abbrev plan : Choice → Plan
  plan c = grant c m home k outcome

  -- once memory is there
  abbrev goes : Bool → Plan
  goes none = cond none (Finish outcome) (Ask (λ nr. Grant home (rise m k)) (when_granted outcome))

  tests : (c : Choice) (is refused : Bool) → is_full m k ≡ is → c.refused ≡ refused → (reply : Reply) (new : Slot) (left : X)
      → ThroughDoor took (cond is (refuse r.MountFull) (cond refused (refuse r.OutOfMemory) (goes (rise m k == 0)))) (Some m) door reply new left →
      ThroughDoor took (plan c) (Some m) door reply new left
  tests c is refused e z reply new left h = grind (arith, common_steps)

  pub grant_full : is_full m k ≡ true → Tried took full plan (Some m) door (Err r.MountFull) (Some m) door
  grant_full e = (let c : Choice = fresh_choice false (Some m) in (c, is_fresh false (Some m), tests c true false e refl (Err r.MountFull) (Some m) door (refused_at took m r.MountFull door)))

  some_rise : 0 < rise m k → (rise m k == 0) ≡ false
  some_rise l = grind (arith, nat_tests, l)

  module _ (room : is_full m k ≡ false) (s : Subpool) (rise_is : share.rise s k ≡ rise m k) where
    pub grant_given : (new : Subpool) (left : X) → IsGranted took full home k s door new left → Tried took full plan (Some m) door (Ok a) (Some n) left
    grant_given new left given =
        let c : Choice = fresh_choice false (Some m) in
        (c, is_fresh false (Some m), tests c false false room refl (Ok a) (Some n) left (either (rise m k == 0) refl))
      where
        either : (b : Bool) → (rise m k == 0) ≡ b → ThroughDoor took (goes (rise m k == 0)) (Some m) door (Ok a) (Some n) left
        either true e = (let none : rise m k ≡ 0 = grind (arith, nat_tests, e) in
            subst (λ b. ThroughDoor took (goes b) (Some m) door (Ok a) (Some n) left) (sym e) ((refl, refl), given.none (rise_is ∙ none)))
        either false e =
            let some : 0 < rise m k = grind (arith, nat_tests, e) in
            let section = subst (λ d. took door (Grant home d) (granted_at 0) left) rise_is (given.some (subst (λ d. 0 < d) (sym rise_is) some)) in
            subst (λ b. ThroughDoor took (goes b) (Some m) door (Ok a) (Some n) left) (sym e) (granted_at 0, section, (refl, refl))

    asks_one : 0 < rise m k → Enters (plan (fresh_choice false (Some m)))
    asks_one some = subst (λ b. Enters (cond b (refuse r.MountFull) (goes (rise m k == 0)))) (sym room) (subst (λ b. Enters (goes b)) (sym (some_rise some)) tt)

    pub grant_denied : (e : Refusal) (new : Subpool) (left : X) (after : Mount) → IsAsked took full home k s door (Err e) new left → after ≡ m →
        Tried took full plan (Some m) door (Err e) (Some after) left
    grant_denied r.OutOfMemory new left after none same =
        let c : Choice = fresh_choice true (Some m) in
        (c, is_fresh true (Some m), tests c false true room refl (Err r.OutOfMemory) (Some after) left ((refl, ap Some same), none.door))
    grant_denied r.NoPages new left after denied same =
        let c : Choice = fresh_choice false (Some m) in
        let some = subst (λ d. 0 < d) rise_is denied.some in
        let section = subst (λ d. took door (Grant home d) no_pages left) rise_is denied.why in (
          c,
          is_fresh false (Some m),
          tests c false false room refl (Err r.NoPages) (Some after) left
              (subst (λ b. ThroughDoor took (goes b) (Some m) door (Err r.NoPages) (Some after) left) (sym (some_rise some)) (no_pages, section, (refl, ap Some same))),
        )
    grant_denied r.TraceFull new left after denied same = (ap Some same, denied.why, (fresh_choice false (Some m), is_fresh false (Some m), asks_one (subst (λ d. 0 < d) rise_is denied.some)))
    grant_denied other new left after denied same = absurd denied.why

-- refused, the share is as it was
pub asked_share : {X : Type 0} (took : X → Section → PoolAnswer → X → Type 0) (full : X → Type 0) (home k : ℕ) (s : Subpool) (door : X) (e : Refusal)
    (new : Subpool) (left : X) → IsAsked took full home k s door (Err e) new left → new ≡ s
asked_share took full home k s door r.OutOfMemory new left asked = asked.share
asked_share took full home k s door other new left asked = asked.share

-- ---- a map

never_map : (a b : Bool) → cond a (Some r.OutOfRange) (cond b (Some r.TooMany) None) ≡ Some r.TraceFull → ⊥
never_map true b e = cc
never_map false true e = cc
never_map false false e = cc

module _ {X : Type 0} (took : X → Section → PoolAnswer → X → Type 0) (full : X → Type 0) (m : Mount) (size slot task home a n : ℕ) (sharing : Sharing)
    (reserving : Reserving) (name : List ℕ) (door : X) where
  abbrev event : Choice → Plan
  event c = slot_event size slot c (Some m) (MapEvent task home name a n sharing reserving)

  pub map_nowhere : file_named m name ≡ None → Tried took full event (Some m) door (Err r.NoSuchFile) (Some m) door
  map_nowhere e = (
    fresh_choice false (Some m),
    is_fresh false (Some m),
    subst (λ o. ThroughDoor took (with_value o r.NoSuchFile (map_file (fresh_choice false (Some m)) m task home a n sharing reserving)) (Some m) door
        (Err r.NoSuchFile) (Some m) door) (sym e) (refused_at took m r.NoSuchFile door),
  )

  module _ (k : ℕ) (named : file_named m name ≡ Some (k, file_in m k)) where
    abbrev grants : Choice → ℕ → Plan
    grants c number = grant c m home (asked sharing reserving a n (file_in m k)) (Answered (MapNo number) (Some (with_file m k (mapped task number a n sharing reserving (file_in m k)))))

    of_file : (c : Choice) → event c ≡ unless (map_tests m task a n) (grants c (next_number task m))
    of_file c = ap (λ o. with_value o r.NoSuchFile (map_file c m task home a n sharing reserving)) named

    refused_by : (e : Refusal) → first_of (map_tests m task a n) ≡ Some e → Through took event (Some m) door (Err e) (Some m) door
    refused_by e h =
        let c : Choice = fresh_choice false (Some m) in (
          c,
          is_fresh false (Some m),
          subst (λ p. ThroughDoor took p (Some m) door (Err e) (Some m) door)
              (sym (of_file c ∙ tests_fail (map_tests m task a n) (grants c (next_number task m)) e h)) (refused_at took m e door),
        )

    pub map_refused : (e : Refusal) → first_of (map_tests m task a n) ≡ Some e → Tried took full event (Some m) door (Err e) (Some m) door
    map_refused r.TraceFull h = absurd (never_map ((n == 0) || nat_lt most_file_pages (a + n)) (nat_lt most_map_pages n || are_too_many_maps m task) h)
    map_refused other h = refused_by other h

    pub map_went : (number : ℕ) → first_of (map_tests m task a n) ≡ None → number ≡ next_number task m → (reply : Reply) (new : Slot) (left : X) →
        Tried took full (λ c. grants c number) (Some m) door reply new left → Tried took full event (Some m) door reply new left
    map_went number pass number_is reply new left h =
        tried_as took full (λ c. grants c number) event (λ c. ap (grants c) number_is
        ∙ sym (tests_pass (map_tests m task a n) (grants c (next_number task m)) pass) ∙ sym (of_file c)) (Some m) door reply new left h

-- ---- a file without name, with one map

never_anon : (a b d : Bool) → cond a (Some r.OutOfRange) (cond b (Some r.TooMany) (cond d (Some r.NoInodes) None)) ≡ Some r.TraceFull → ⊥
never_anon true b d e = cc
never_anon false true d e = cc
never_anon false false true e = cc
never_anon false false false e = cc

module _ {X : Type 0} (took : X → Section → PoolAnswer → X → Type 0) (full : X → Type 0) (m : Mount) (size slot task home n : ℕ) (sharing : Sharing) (reserving : Reserving) (door : X) where
  abbrev anon_event : Choice → Plan
  anon_event c = slot_event size slot c (Some m) (Anon task home n sharing reserving)

  abbrev anon_grants : Choice → ℕ → Plan
  anon_grants c number = grant c m home (asked sharing reserving 0 n (new_file None)) (Answered (MapNo number) (Some (with_new m (mapped task number 0 n sharing reserving (new_file None)))))

  anon_refused_by : (e : Refusal) → first_of (anon_tests m task n) ≡ Some e → Through took anon_event (Some m) door (Err e) (Some m) door
  anon_refused_by e h =
      let c : Choice = fresh_choice false (Some m) in (
        c,
        is_fresh false (Some m),
        subst (λ p. ThroughDoor took p (Some m) door (Err e) (Some m) door)
            (sym (tests_fail (anon_tests m task n) (anon_grants c (next_number task m)) e h)) (refused_at took m e door),
      )

  pub anon_refused : (e : Refusal) → first_of (anon_tests m task n) ≡ Some e → Tried took full anon_event (Some m) door (Err e) (Some m) door
  anon_refused r.TraceFull h = absurd (never_anon ((n == 0) || nat_lt most_file_pages n)
      (nat_lt most_map_pages n || are_too_many_maps m task || nat_le most_files (length m.files)) (is_over m.limits.inodes (length m.files + 1)) h)
  anon_refused other h = anon_refused_by other h

  pub anon_went : (number : ℕ) → first_of (anon_tests m task n) ≡ None → number ≡ next_number task m → (reply : Reply) (new : Slot) (left : X) →
      Tried took full (λ c. anon_grants c number) (Some m) door reply new left → Tried took full anon_event (Some m) door reply new left
  anon_went number pass number_is reply new left h =
      tried_as took full (λ c. anon_grants c number) anon_event (λ c. ap (anon_grants c) number_is
      ∙ sym (tests_pass (anon_tests m task n) (anon_grants c (next_number task m)) pass)) (Some m) door reply new left h

-- the tests of a file without name with a map of all its n indices are those of the map, and of one file more
module _ (m : Mount) (task n : ℕ) where
  by_tests : (bad long many full without : Bool) → cond bad (Some r.OutOfRange) (cond (long || many) (Some r.TooMany) None) ≡ None
      → cond bad (Some r.OutOfRange) (cond (long || many || full) (Some r.TooMany) (cond without (Some r.NoInodes) None)) ≡ cond full (Some r.TooMany) (cond without (Some r.NoInodes) None)
  by_tests true long many full without e = cc
  by_tests false true many full without e = cc
  by_tests false false true full without e = cc
  by_tests false false false full without e = refl

  -- the map begins at index 0
  from_start : {o : Option Refusal} → first_of (map_tests m task 0 n) ≡ o
      → cond ((n == 0) || nat_lt most_file_pages n) (Some r.OutOfRange) (cond (nat_lt most_map_pages n || are_too_many_maps m task) (Some r.TooMany) None) ≡ o
  from_start {o} h =
      let zero : 0 + n ≡ n = omega arith in
      subst (λ end. cond ((n == 0) || nat_lt most_file_pages end) (Some r.OutOfRange) (cond (nat_lt most_map_pages n || are_too_many_maps m task) (Some r.TooMany) None) ≡ o) zero h

  pub anon_by_file : first_of (map_tests m task 0 n) ≡ None → first_of (anon_tests m task n) ≡ first_of (file_tests m)
  anon_by_file pass =
      by_tests ((n == 0) || nat_lt most_file_pages n) (nat_lt most_map_pages n) (are_too_many_maps m task) (nat_le most_files (length m.files))
      (is_over m.limits.inodes (length m.files + 1)) (from_start pass)

  by_map : (bad long many full without : Bool) (e : Refusal) → cond bad (Some r.OutOfRange) (cond (long || many) (Some r.TooMany) None) ≡ Some e
      → cond bad (Some r.OutOfRange) (cond (long || many || full) (Some r.TooMany) (cond without (Some r.NoInodes) None)) ≡ Some e
  by_map true long many full without e h = h
  by_map false true many full without e h = h
  by_map false false true full without e h = h
  by_map false false false full without e h = cc

  pub anon_by_map : (e : Refusal) → first_of (map_tests m task 0 n) ≡ Some e → first_of (anon_tests m task n) ≡ Some e
  anon_by_map e h =
      by_map ((n == 0) || nat_lt most_file_pages n) (nat_lt most_map_pages n) (are_too_many_maps m task) (nat_le most_files (length m.files))
      (is_over m.limits.inodes (length m.files + 1)) e (from_start h)
