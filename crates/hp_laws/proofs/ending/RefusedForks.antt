-- What a refused fork leaves: the slots are as they were, or without the child's old maps.
use Rattle.std.proofs.Common.{arith, ◌≡◌, ⊎_elim, inl, inr, ◌⊎◌, subst, ℕ, ◌||◌, ◌==◌, ◌&&◌, Bool, true, false, Option, None, Some, is_some, Ok, Err, List, [], ◌∷◌, ◌++◌, length, map, option_map}
use Rattle.std.proofs.Common.{refl, sym, ap, ◌∙◌, if◌then◌else◌, MatchBool, sum, find, slice_index_or, slice_set}
use Rattle.hp_laws.proofs.Variants.{Answer, Done, Fork, GiveBack, NoSuchTask, Refusal, Slot as OnSlot, SlotEvent, TaskExists, Tasks, TooMany}
use Rattle.std.specs.List.{range_with_len}
use Rattle.std.proofs.lemmas.Bool.{cases_eq, cond_both, eq-eqb, eqb-true, false_from_ne_true, ltb-true, or_left, or_right}
use Rattle.std.proofs.lemmas.List.{get_or-set_other, get_or-set_same}
use Rattle.hp_model.specs.declared.event.SlotEvent.TheVariants as slot
use Rattle.hp_model.specs.declared.event.TableEvent.TheVariants as table
use Rattle.hp_model.proofs.Words.{Answer_with, Answered, Ask, Choice, Do, Finish, IsEvent, IsScript, IsScripted, IsSettledState, Mount, Outcome, Plan, Pool, Refused, Reply}
use Rattle.hp_model.proofs.Words.{Script, Slot, State, Table, added, fall_of, file_forked, file_without, fork_slots, forked, gives, has_maps_of, home_of, is_among, is_crowded, is_known, or_refused}
use Rattle.hp_model.proofs.Words.{or_undone, planned, pool_of, puts_of, removed, section, slot_at, slot_event, swept, undone, when_done, when_known, with_outcome, with_pool, with_table, without_task}
use Rattle.hp_model.proofs.Distinct.{is_among-append}
use Rattle.hp_model.proofs.RowMoves.{puts_are}
use Rattle.hp_laws.specs.Balance.{Always, left_by}
use Rattle.hp_laws.proofs.steps.Outcomes.{either_way, event_ends, reply_of}
use Rattle.hp_laws.proofs.steps.RefusalsKeep.{refusals_change_nothing}
use Rattle.hp_laws.proofs.settled.StaysSettled.{event_settled}
use Rattle.hp_laws.proofs.ending.Swept.{forked_without, swept_twice, twice_without, without_after, without_none}
use Rattle.hp_laws.proofs.steps.Walk.{plan_unless}

-- ---- what is left

-- a fork that is refused may have ended maps that stood under the child's number, and what went with them
abbrev pub IsForkLeft : (child : ℕ) → (old new : Slot) → Type 0
IsForkLeft child old new = (new ≡ old) ⊎ (new ≡ option_map (without_task child) old)

pub record LeavesOthers (s : State) (child : ℕ) (t : State) : Type 0 where
  pub table : t.table ≡ s.table
  pub nr : t.nr ≡ s.nr
  pub overcommit : t.overcommit ≡ s.overcommit
  pub slots : (slot : ℕ) → IsForkLeft child (slot_at s slot) (slot_at t slot)

-- ---- plans that only give back

-- what is asked leaves nr and overcommit
abbrev pub Gives : Plan → Type 0
Gives (Finish o) = Unit {0}
Gives (Ask sec f) = (p : Pool) → ((section p (sec p.nr)).1.nr ≡ p.nr) × ((section p (sec p.nr)).1.overcommit ≡ p.overcommit)

gives_back : (a : Answer) (old new : Slot) → Gives (gives a old new)
gives_back a old new =
    cond_both ((sum (puts_of old new) == 0) && (fall_of old new == 0)) (Finish (Answered a new)) (Ask (λ nr. GiveBack (puts_of old new) (fall_of old new)) (λ answer. Answered a new)) Gives
    (λ e. tt) (λ e p. (ap (λ (q : Pool). q.nr) (puts_are (puts_of old new) p), ap (λ (q : Pool). q.overcommit) (puts_are (puts_of old new) p)))

-- the table, nr and overcommit are as they were
pub record SameSetting (s t : State) : Type 0 where
  pub table : t.table ≡ s.table
  pub nr : t.nr ≡ s.nr
  pub overcommit : t.overcommit ≡ s.overcommit

outcome_setting : (s : State) (k : ℕ) (o : Outcome) → SameSetting s (with_outcome s k o).1
outcome_setting s k o = grind arith

pub plan_setting : (s : State) (k : ℕ) (p : Plan) → Gives p → SameSetting s (planned s k p).1
plan_setting s k (Finish o) h = outcome_setting s k o
plan_setting s k (Ask sec f) h =
    let q = section (pool_of s) (sec s.nr) in
    let left = outcome_setting (with_pool s q.1) k (f q.0) in
    let own = h (pool_of s) in
    record { table = left.table; nr = left.nr ∙ own.0; overcommit = left.overcommit ∙ own.1 }

pub event_setting : (s : State) (k : ℕ) (e : SlotEvent) (reply : Reply) (t : State)
    → ((c : Choice) → Gives (slot_event s.page_size k c (slot_at s k) e)) → IsEvent s (OnSlot k e) reply t → SameSetting s t
event_setting s k e reply t h is = grind (arith, plan_setting)

-- ---- what becomes of a slot

module _ (child : ℕ) where
  abbrev without : Slot → Slot
  without x = option_map (without_task child) x

  abbrev pub BecomesBy : (Mount → Mount) → Slot → Outcome → Type 0
  BecomesBy f old (Refused r) = Unit {0}
  BecomesBy f old (Answered a new) = new ≡ option_map f old

  pub exit_becomes : (size k : ℕ) (c : Choice) (old : Slot) → Always (λ o. left_by old o ≡ option_map (without_task child) old) (slot_event size k c old (slot.ExitMaps child))
  exit_becomes size k c old = grind arith

  exit_gives : (size k : ℕ) (c : Choice) (old : Slot) → Gives (slot_event size k c old (slot.ExitMaps child))
  exit_gives size k c old = grind (arith, gives_back)

  pub fork_becomes : (parent size k : ℕ) (c : Choice) (old : Slot) → Always (BecomesBy (forked parent child) old) (slot_event size k c old (slot.ForkMaps parent child))
  fork_becomes parent size k c old = grind arith

  fork_gives : (parent size k : ℕ) (c : Choice) (old : Slot) → Gives (slot_event size k c old (slot.ForkMaps parent child))
  fork_gives parent size k c old = grind (arith, plan_unless, gives_back)

  -- touched: the child's maps aside it is as it was; and they are there only where it is still to be undone
  record Touched (old new : Slot) (todo : Bool) : Type 0 where
    pub same : without new ≡ without old
    pub swept : option_map swept new ≡ new
    pub clean : (todo ≡ true) ⊎ (without new ≡ new)

  abbrev Goes : (old new : Slot) (todo : Bool) → Type 0
  Goes old new todo = (new ≡ old) ⊎ Touched old new todo

  same_without : (old new : Slot) (todo : Bool) → Goes old new todo → without new ≡ without old
  same_without old new todo goes = ⊎_elim (λ same. ap without same) (λ touched. touched.same) goes

  forked_goes : (parent : ℕ) (old now : Slot) (todo : Bool) → Goes old now todo → Touched old (option_map (forked parent child) now) true
  forked_goes parent old now todo goes = record { same = forked_same now ∙ same_without old now todo goes; swept = forked_swept now; clean = inl refl }
    where
      forked_same : (x : Slot) → without (option_map (forked parent child) x) ≡ without x
      forked_same None = refl
      forked_same (Some m) = ap Some (without_after child (file_forked parent child) (forked_without child parent) m)

      forked_swept : (x : Slot) → option_map swept (option_map (forked parent child) x) ≡ option_map (forked parent child) x
      forked_swept None = refl
      forked_swept (Some m) = ap Some (swept_twice (record m { files = map (file_forked parent child) m.files }))

  -- without them it stays so
  twice : (x : Slot) → without (without x) ≡ without x
  twice x = grind (arith, without_after, twice_without)

  cleared : (old now : Slot) (todo : Bool) → Goes old now todo → Touched old (without now) false
  cleared old now todo goes = record { same = twice now ∙ same_without old now todo goes; swept = swept_clear now; clean = inr (twice now) }
    where
      swept_clear : (x : Slot) → option_map swept (without x) ≡ without x
      swept_clear None = refl
      swept_clear (Some m) = ap Some (swept_twice (record m { files = map (file_without child) m.files }))

  -- nothing of the child is there
  bare : (now : Slot) → has_maps_of child now ≡ false → option_map swept now ≡ now → without now ≡ now
  bare now none is = grind (arith, without_none)

  left : (old new : Slot) → Goes old new false → IsForkLeft child old new
  left old new h = grind arith

  for_good : (old new : Slot) (todo : Bool) → Touched old new false → Touched old new todo
  for_good old new todo touched = record { same = touched.same; swept = touched.swept; clean = ⊎_elim (λ e. cc) (λ clean. inr clean) touched.clean }

  still_to_do : (old new : Slot) (todo more : Bool) → (todo ≡ true → more ≡ true) → Goes old new todo → Goes old new more
  still_to_do old new todo more h h' = grind arith

-- ---- the task table

find_added : (child home : ℕ) (xs : Table) → is_some (home_of (added xs child home) child) ≡ true
find_added child home [] = rw (eq-eqb child child refl) refl
find_added child home (x ∷ xs) = by_test (x.0 == child) refl (find_added child home xs)
  where
    by_test : (b : Bool) → (x.0 == child) ≡ b → is_some (home_of (added xs child home) child) ≡ true → is_some (home_of (added (x ∷ xs) child home) child) ≡ true
    by_test true is rest = rw is refl
    by_test false is rest = rw is rest

added_removed : (child home : ℕ) (xs : Table) → is_known xs child ≡ false → removed (added xs child home) child ≡ xs
added_removed child home [] e = rw (eq-eqb child child refl) refl
added_removed child home (x ∷ xs) e = by_test (x.0 == child) refl e (added_removed child home xs)
  where
    by_test : (b : Bool) → (x.0 == child) ≡ b → is_known (x ∷ xs) child ≡ false →
        (is_known xs child ≡ false → removed (added xs child home) child ≡ xs) → removed (added (x ∷ xs) child home) child ≡ x ∷ xs
    by_test true is e rest = (let known : is_known (x ∷ xs) child ≡ true = rw is refl in cc)
    by_test false is e rest = rw is (ap (λ ys. x ∷ ys) (rest (subst (λ b. is_some (option_map (λ (q : ℕ × ℕ). q.1) (if b then Some x else find (λ (q : ℕ × ℕ). q.0 == child) xs)) ≡ false) is e)))

-- ---- a fork under way

pub either_with : {P Q R : Type 0} (b : Bool) → (b ≡ true → P → R) → (b ≡ false → Q → R) → MatchBool b P Q → R
either_with b f g is = grind arith

module _ (s : State) (parent child home : ℕ) (unknown : is_known s.table child ≡ false) (t : State) where
  record Forking (todo : List ℕ) (u : State) : Type 0 where
    pub settled : IsSettledState u
    pub table : u.table ≡ added s.table child home
    pub nr : u.nr ≡ s.nr
    pub overcommit : u.overcommit ≡ s.overcommit
    pub slots : (k : ℕ) → Goes child (slot_at s k) (slot_at u k) (is_among k todo)

  -- what an event on a slot leaves of it
  event_forking : (todo more : List ℕ) (u v : State) (k : ℕ) (e : SlotEvent) (reply : Reply) (n : Slot) → Forking todo u → IsEvent u (OnSlot k e) reply v
      → SameSetting u v → v.slots ≡ slice_set u.slots k n → Goes child (slot_at s k) n (is_among k more)
      → ((o : ℕ) → (o ≡ k → ⊥) → is_among o todo ≡ true → is_among o more ≡ true) → Forking more v
  event_forking todo more u v k e reply n forking is setting slots here there = record {
    settled = event_settled u (OnSlot k e) reply v forking.settled is;
    table = setting.table ∙ forking.table;
    nr = setting.nr ∙ forking.nr;
    overcommit = setting.overcommit ∙ forking.overcommit;
    slots = λ o. subst (λ (xs : List Slot). Goes child (slot_at s o) (slice_index_or xs o None) (is_among o more)) (sym slots)
        (elim (cases_eq o k) as (λ _. Goes child (slot_at s o) (slice_index_or (slice_set u.slots k n) o None) (is_among o more)) [
          | inl same ↦ subst (λ i. Goes child (slot_at s i) (slice_index_or (slice_set u.slots k n) i None) (is_among i more)) (sym same)
              (subst (λ x. Goes child (slot_at s k) x (is_among k more)) (sym (get_or-set_same u.slots k n None (ltb-true k (length u.slots) is.1.0))) here)
          | inr other ↦ subst (λ x. Goes child (slot_at s o) x (is_among o more)) (sym (get_or-set_other u.slots k o n None other))
              (still_to_do child (slot_at s o) (slot_at u o) (is_among o todo) (is_among o more) (there o other) (forking.slots o))
        ]);
  }

  -- what is to be done after k
  after_first : (k o : ℕ) (ks : List ℕ) → (o ≡ k → ⊥) → is_among o (k ∷ ks) ≡ true → is_among o ks ≡ true
  after_first k o ks other e = subst (λ b. (b || is_among o ks) ≡ true) (false_from_ne_true (k == o) (λ is. other (sym (eqb-true k o is)))) e

  exit_forking : (k : ℕ) (ks : List ℕ) (u v : State) (reply : Reply) → Forking (k ∷ ks) u → IsEvent u (OnSlot k (slot.ExitMaps child)) reply v → Forking ks v
  exit_forking k ks u v reply forking is =
      let old = slot_at u k in
      let ends = event_ends (λ o. left_by old o ≡ option_map (without_task child) old) u k (slot.ExitMaps child) reply v (λ c. exit_becomes child u.page_size k c old) is in
      event_forking (k ∷ ks) ks u v k (slot.ExitMaps child) reply (without child old) forking is (event_setting u k (slot.ExitMaps child) reply v (λ c. exit_gives child u.page_size k c old) is)
      (ends.slots ∙ ap (λ n. slice_set u.slots k n) ends.holds)
      (inr (for_good child (slot_at s k) (without child old) (is_among k ks) (cleared child (slot_at s k) old (is_among k (k ∷ ks)) (forking.slots k))))
      (λ o other e. after_first k o ks other e)

  -- where no map of the child is left, there is nothing to be undone
  none_forking : (k : ℕ) (ks : List ℕ) (u : State) → has_maps_of child (slot_at u k) ≡ false → Forking (k ∷ ks) u → Forking ks u
  none_forking k ks u none forking = grind (arith, cases_eq, bare, still_to_do, after_first)

  -- ---- undone

  removes : (u : State) (r : Refusal) (reply : Reply) → Forking [] u → IsScript u (Do (Tasks (table.Remove child)) (λ q. Answer_with (Err r))) reply t → LeavesOthers s child t
  removes u r reply forking is = grind (arith, find_added, added_removed, left)

  undone_leaves : (todo : List ℕ) (r : Refusal) (u : State) (reply : Reply) → Forking todo u → IsScript u (undone todo child r) reply t → LeavesOthers s child t
  undone_leaves [] r u reply forking is = removes u r reply forking is
  undone_leaves (k ∷ ks) r u reply forking is =
      either_with (has_maps_of child (slot_at u k))
      (λ some it. undone_leaves ks r it.1 reply (exit_forking k ks u it.1 it.0 forking it.2) it.3)
      (λ none it. undone_leaves ks r u reply (none_forking k ks u none forking) it) is

  -- ---- forked slot by slot

  fork_forking : (done : List ℕ) (k : ℕ) (u v : State) (a : Answer) → Forking done u → IsEvent u (OnSlot k (slot.ForkMaps parent child)) (Ok a) v → Forking (done ++ k ∷ []) v
  fork_forking done k u v a forking is =
      let old = slot_at u k in
      let ends = event_ends (BecomesBy child (forked parent child) old) u k (slot.ForkMaps parent child) (Ok a) v (λ c. fork_becomes child parent u.page_size k c old) is in
      by_outcome ends.outcome ends.holds ends.replied ends.slots
    where
      among : is_among k (done ++ k ∷ []) ≡ true
      among = is_among-append k done (k ∷ []) ∙ or_right (is_among k done) (is_among k (k ∷ [])) (or_left (k == k) false (eq-eqb k k refl))

      by_outcome : (o : Outcome) → BecomesBy child (forked parent child) (slot_at u k) o → Ok a ≡ reply_of o → v.slots ≡ slice_set u.slots k (left_by (slot_at u k) o) → Forking (done ++ k ∷ []) v
      by_outcome (Refused r) h replied slots = cc
      by_outcome (Answered b new) h replied slots =
          event_forking done (done ++ k ∷ []) u v k (slot.ForkMaps parent child) (Ok a) new forking is
          (event_setting u k (slot.ForkMaps parent child) (Ok a) v (λ c. fork_gives child parent u.page_size k c (slot_at u k)) is) slots
          (subst (λ x. Goes child (slot_at s k) x (is_among k (done ++ k ∷ []))) (sym h)
          (inr (subst (λ x. Touched child (slot_at s k) (option_map (forked parent child) (slot_at u k)) x) (sym among)
          (forked_goes child parent (slot_at s k) (slot_at u k) (is_among k done) (forking.slots k)))))
          (λ o other e. is_among-append o done (k ∷ []) ∙ or_left (is_among o done) (is_among o (k ∷ [])) e)

  after_fork : (done : List ℕ) (k : ℕ) (u : State) (q : Reply) (v : State) (next : Script) (reply : Reply) → Forking done u → IsEvent u (OnSlot k (slot.ForkMaps parent child)) q v
      → IsScript v (or_undone done child q next) reply t → (Forking (done ++ k ∷ []) v → IsScript v next reply t → LeavesOthers s child t) → LeavesOthers s child t
  after_fork done k u (Ok a) v next reply forking is go rest = rest (fork_forking done k u v a forking is) go
  after_fork done k u (Err r) v next reply forking is go rest =
      let same : v ≡ u = refusals_change_nothing u (OnSlot k (slot.ForkMaps parent child)) r v forking.settled is in
      undone_leaves done r u reply forking (subst (λ x. IsScript x (undone done child r) reply t) same go)

  forks_leave : (ks done : List ℕ) (r : Refusal) (u : State) → Forking done u → IsScript u (fork_slots ks done parent child) (Err r) t → LeavesOthers s child t
  forks_leave [] done r u forking is = (let never : Err r ≡ Ok Done = is.0 in cc)
  forks_leave (k ∷ ks) done r u forking is =
      either_way (has_maps_of parent (slot_at u k))
      (λ it. after_fork done k u it.0 it.1 (fork_slots ks (done ++ k ∷ []) parent child) (Err r) forking it.2 it.3
      (λ forked go. forks_leave ks (done ++ k ∷ []) r it.1 forked go))
      (λ it. forks_leave ks done r u forking it) is

-- ---- a refused fork

same_others : (s : State) (child : ℕ) (t : State) → t ≡ s → LeavesOthers s child t
same_others s child t same = subst (λ x. LeavesOthers s child x) (sym same) (record { table = refl; nr = refl; overcommit = refl; slots = λ k. inl refl })

-- what follows the child's entry in the table
abbrev rest : State → (parent child : ℕ) → Reply → Script
rest s parent child q = when_done q (fork_slots (range_with_len 0 (length s.slots)) [] parent child)

pub fork_refused : (s : State) → IsSettledState s → (parent child : ℕ) (r : Refusal) (t : State) → IsScripted s (Fork parent child) (Err r) t → LeavesOthers s child t
fork_refused s st parent child r t is =
    by_home (home_of s.table parent) is.0 is.1 is.2.2 (event_settled s (Tasks (table.FindAndAdd parent child)) is.0 is.1 st is.2) is.3
  where
    left_same : (q : Reply) (mid : State) (x : Refusal) → Err x ≡ q → s ≡ mid → IsScript mid (rest s parent child q) (Err r) t → LeavesOthers s child t
    left_same q mid x first second go =
        same_others s child t ((subst (λ y. IsScript mid (rest s parent child y) (Err r) t) (sym first) go).1 ∙ sym second)

    by_tests : (home : ℕ) (known crowded : Bool) → is_known s.table child ≡ known → (q : Reply) (mid : State)
        → with_table s (or_refused ((known, TaskExists) ∷ (crowded, TooMany) ∷ []) s.table (Ok Done, added s.table child home)) ≡ (q, mid) → IsSettledState mid
        → IsScript mid (rest s parent child q) (Err r) t → LeavesOthers s child t
    by_tests home true crowded is q mid e calm go = left_same q mid TaskExists (ap (λ (y : Reply × State). y.0) e) (ap (λ (y : Reply × State). y.1) e) go
    by_tests home false true is q mid e calm go = left_same q mid TooMany (ap (λ (y : Reply × State). y.0) e) (ap (λ (y : Reply × State). y.1) e) go
    by_tests home false false is q mid e calm go =
        let first : Ok Done ≡ q = ap (λ (y : Reply × State). y.0) e in
        let second : record s { table = added s.table child home } ≡ mid = ap (λ (y : Reply × State). y.1) e in
        forks_leave s parent child home is t (range_with_len 0 (length s.slots)) [] r mid
        (subst (λ u. Forking s parent child home is t [] u) second
        (record { settled = subst IsSettledState (sym second) calm; table = refl; nr = refl; overcommit = refl; slots = λ k. inl refl }))
        (subst (λ y. IsScript mid (rest s parent child y) (Err r) t) (sym first) go)

    by_home : (o : Option ℕ) (q : Reply) (mid : State)
        → with_table s (when_known s.table o (λ home. or_refused ((is_known s.table child, TaskExists) ∷ (is_crowded s.table, TooMany) ∷ []) s.table (Ok Done, added s.table child home))) ≡ (q, mid)
        → IsSettledState mid → IsScript mid (rest s parent child q) (Err r) t → LeavesOthers s child t
    by_home None q mid e calm go = left_same q mid NoSuchTask (ap (λ (y : Reply × State). y.0) e) (ap (λ (y : Reply × State). y.1) e) go
    by_home (Some home) q mid e calm go = by_tests home (is_known s.table child) (is_crowded s.table) refl q mid e calm go

-- a fork onto a task that is there changes nothing
pub fork_known : (s : State) (parent child : ℕ) (r : Refusal) (t : State) → is_known s.table child ≡ true → IsScripted s (Fork parent child) (Err r) t → t ≡ s
fork_known s parent child r t known is = grind arith
