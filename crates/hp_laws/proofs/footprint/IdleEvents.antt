-- Where what is committed, and in use at each node, is as it was, an event that is answered has moved no free page.
use Rattle.std.proofs.Common.{arith, ◌≡◌, subst, ℕ, ◌-◌, ◌<◌, ◌≤◌, Bool, true, false, None, Some, Ok, Err, List, length, map, min, nat_lt, Result as ResultOf, refl, sym, ap, ◌∙◌}
use Rattle.std.proofs.lemmas.Bool.{cond_both, ltb-true}
use Rattle.std.proofs.lemmas.List.Sums.{sum_by-set}
use Rattle.hp_laws.proofs.Variants.{Answer, Limits, Pool as OnPool, PoolAnswer, PoolEvent, ReadAndGiveBack, ReadAndGrant, Refusal, Section, Slot as OnSlot, SlotEvent, Tasks, TableEvent}
use Rattle.hp_model.specs.declared.event.PoolEvent.TheVariants as pool
use Rattle.hp_model.specs.declared.event.SlotEvent.TheVariants as slot
use Rattle.hp_model.proofs.Words.{Answered, Ask, Choice, Finish, IsEvent, IsSettledState, Mount, Outcome, Plan, Pool, Refused, Reply, Slot, State, and_then, committed_of}
use Rattle.hp_model.proofs.Words.{committed_with, frames_of, limits, lower_times}
use Rattle.hp_model.proofs.Words.{mount_outcome, mount_pages, mount_section, node_of, planned, pool_of, raise_times, remount_section, rsvd, section, set_nr, slot_at, slot_committed}
use Rattle.hp_model.proofs.Words.{slot_event, slot_pages_at, wanted_of}
use Rattle.hp_model.proofs.Words.{with_outcome, with_pool}
use Rattle.hp_model.specs.machine.Footprint.{KeepsNodes}
use Rattle.hp_laws.specs.Balance.{IsBalanced, Moves, given_at, left_by, lowered_by, raised_by, taken_at}
use Rattle.hp_laws.proofs.sections.Lengths.{long_rows}
use Rattle.hp_laws.proofs.sections.PoolTied.{left_sound, pool_back, settled_is}
use Rattle.hp_laws.proofs.steps.PlanRules.{PlanRules, plan_walk}
use Rattle.hp_laws.proofs.steps.SlotsBalanced.{slots_are_balanced}
use Rattle.hp_laws.proofs.footprint.IdlePools.{is_return, quiet}

-- ---- plans that grant for good

abbrev pub NoReturn : Plan → Type 0
NoReturn (Finish o) = Unit {0}
NoReturn (Ask sec f) = (nr : ℕ) → is_return (sec nr) ≡ false

record HasNoReturn (p : Plan) : Type 0 where
  pub none : NoReturn p

remount_stays : (m : Mount) (l : ResultOf Limits Refusal) → is_return (remount_section m l) ≡ false
remount_stays m (Err r) = refl
remount_stays m (Ok l) =
    cond_both (nat_lt (committed_with m l.min) (committed_of m)) (ReadAndGiveBack (committed_of m - committed_with m l.min)) (ReadAndGrant (committed_with m l.min - committed_of m))
    (λ x. is_return x ≡ false) (λ e. refl) (λ e. refl)

then_stays : (f : Mount → Outcome) (p : Plan) → HasNoReturn p → HasNoReturn (and_then f p)
then_stays f (Finish o) h = record { none = tt }
then_stays f (Ask sec k) h = record { none = h.none }

rules : PlanRules HasNoReturn
rules = record {
  done = λ o. record { none = tt };
  grants = λ home k a s. record { none = λ nr. refl };
  pages = λ home k n. record { none = λ nr. refl };
  pages_or = λ home k n other. record { none = λ nr. refl };
  takes = λ home n. record { none = λ nr. refl };
  fills = λ k n next. record { none = λ nr. refl };
  puts = λ pages k a s. record { none = λ nr. refl };
  remounts = λ size m options. record { none = λ nr. remount_stays m (limits nr size (wanted_of options)) };
  follows = λ answer h p k. then_stays (λ m. Answered (answer m) (Some (h m))) p k;
}

-- ---- events of a slot

module _ (s : State) (st : IsSettledState s) (k : ℕ) (low : k < length s.slots) where
  few_rows : length (pool_of s).nodes.rows ≤ 4
  few_rows = (let few = st.nodes in omega (arith, few, long_rows s 0 s.nodes))

  plan_idle : (p : Plan) → IsBalanced (slot_at s k) p → NoReturn p → KeepsNodes s (planned s k p).1
  plan_idle (Finish (Refused r)) b none = λ nr c u. refl
  plan_idle (Finish (Answered a new)) b none = λ nr c u. refl
  plan_idle (Ask sec f) b none =
      let q : PoolAnswer × Pool = section (pool_of s) (sec s.nr) in
      let new : Slot = left_by (slot_at s k) (f q.0) in
      let moves = subst (λ (x : Section). Moves (slot_at s k) x q.0 new) (b.1 (pool_of s)) (b.0 q.0) in
      subst (λ x. KeepsNodes s x) (sym (settled_is (with_pool s q.1) k (f q.0)))
      (λ nr c u.
      (let sum = sum_by-set slot_committed s.slots k new None low in
      let moved = moves.committed in
      let level : raised_by (sec s.nr) q.0 ≡ lowered_by (sec s.nr) q.0 = omega (arith, c, sum, moved) in
      let pages : (n : ℕ) → n < 4 → taken_at n (sec s.nr) q.0 ≡ given_at n (sec s.nr) =
      λ n few. (let each = sum_by-set (slot_pages_at n) s.slots k new None low in let at = moves.pages n few in let same = u n in omega (arith, each, at, same)) in
      let same : q.1 ≡ pool_of s = quiet (pool_of s) st.pool few_rows (sec s.nr) (none s.nr) level pages in
      ap (λ (p : Pool). map node_of p.nodes.rows) same ∙ ap (λ (x : State). x.nodes) (pool_back s)))

abbrev mounts : SlotEvent → Bool
mounts (slot.Mount options) = true
mounts other = false

slot_stays : (size k : ℕ) (c : Choice) (old : Slot) (e : SlotEvent) → mounts e ≡ false → NoReturn (slot_event size k c old e)
slot_stays size k c None (slot.Mount options) not_mount = cc
slot_stays size k c None e not_mount = tt
slot_stays size k c (Some m) e not_mount = (let all = plan_walk HasNoReturn rules size k c m e in all.none)

-- ---- a mount that is answered

abbrev is_answer : Outcome → Bool
is_answer (Refused r) = false
is_answer (Answered a new) = true

late_refused : (c : Choice) (a : PoolAnswer) (l : ResultOf Limits Refusal) → c.after_grant ≡ true → is_answer (mount_outcome c a l) ≡ false
late_refused c a (Err r) late = refl
late_refused c a (Ok l) late = grind arith

is_answered : (u : State) (k : ℕ) (o : Outcome) (a : Answer) (t : State) → with_outcome u k o ≡ (Ok a, t) → is_answer o ≡ true
is_answered u k o a t e = grind arith

module _ (s : State) (st : IsSettledState s) where
  pub event_plan : (k : ℕ) (e : SlotEvent) (reply : Reply) (t : State) (is : IsEvent s (OnSlot k e) reply t) → NoReturn (slot_event s.page_size k is.0 (slot_at s k) e) → KeepsNodes s t
  event_plan k e reply t is none =
      let low = ltb-true k (length s.slots) is.1.0 in
      subst (λ (x : Reply × State). KeepsNodes s x.1) is.2
      (plan_idle s st k low (slot_event s.page_size k is.0 (slot_at s k) e) (slots_are_balanced s.page_size k is.0 (slot_at s k) e is.1.2 (left_sound s k low st)) none)

  mount_stays : (c : Choice) (k : ℕ) (options : List ℕ) (old : Slot) (a : Answer) (t : State) → planned s k (slot_event s.page_size k c old (slot.Mount options)) ≡ (Ok a, t)
      → NoReturn (slot_event s.page_size k c old (slot.Mount options))
  mount_stays c k options (Some m) a t e = tt
  mount_stays c k options None a t e = by_choice c.after_grant refl
    where
      by_choice : (b : Bool) → c.after_grant ≡ b → (nr : ℕ) → is_return (mount_section c (mount_pages c (limits nr s.page_size (wanted_of options)))) ≡ false
      by_choice false is nr = grind arith
      by_choice true is nr =
          let d : ℕ = mount_pages c (limits s.nr s.page_size (wanted_of options)) in
          let q : PoolAnswer × Pool = section (pool_of s) (mount_section c d) in
          let o : Outcome = mount_outcome c q.0 (limits q.0.nr s.page_size (wanted_of options)) in
          let never : true ≡ false = sym (is_answered (with_pool s q.1) k o a t e) ∙ late_refused c q.0 (limits q.0.nr s.page_size (wanted_of options)) is in
          cc

  pub slot_idle : (k : ℕ) (e : SlotEvent) (a : Answer) (t : State) → IsEvent s (OnSlot k e) (Ok a) t → KeepsNodes s t
  slot_idle k (slot.Mount options) a t is = event_plan k (slot.Mount options) (Ok a) t is (mount_stays is.0 k options (slot_at s k) a t is.2)
  slot_idle k e a t is = event_plan k e (Ok a) t is (slot_stays s.page_size k is.0 (slot_at s k) e refl)

  -- ---- other events

  pub table_idle : (e : TableEvent) (reply : Reply) (t : State) → IsEvent s (Tasks e) reply t → KeepsNodes s t
  table_idle e reply t is = subst (λ (x : Reply × State). KeepsNodes s x.1) is.2 (λ nr c u. refl)

  nr_idle : (n : ℕ) → KeepsNodes s (with_pool s (set_nr n (pool_of s)))
  nr_idle n nr c u =
      let p : Pool = pool_of s in
      let target : ℕ = min n (frames_of p.nodes.rows) in
      let same : target ≡ s.nr = nr in
      let up : target - s.nr ≡ 0 = omega (arith, same) in
      let down : s.nr - target ≡ 0 = omega (arith, same) in
      ap (λ d. map node_of (lower_times (rsvd p) d (raise_times (target - s.nr) p.nodes)).rows) down ∙ ap (λ d. map node_of (raise_times d p.nodes).rows) up
      ∙ ap (λ (x : State). x.nodes) (pool_back s)

  pub pool_idle : (e : PoolEvent) (reply : Reply) (t : State) → IsEvent s (OnPool e) reply t → KeepsNodes s t
  pool_idle (pool.Nr n) reply t is = subst (λ (x : Reply × State). KeepsNodes s x.1) is.2 (nr_idle n)
  pool_idle (pool.Overcommit n) reply t is = (λ nr c u. grind (arith, pool_back))
  pool_idle pool.Meminfo reply t is = subst (λ (x : Reply × State). KeepsNodes s x.1) is.2 (λ nr c u. ap (λ (x : State). x.nodes) (pool_back s))
  pool_idle pool.Nodes reply t is = subst (λ (x : Reply × State). KeepsNodes s x.1) is.2 (λ nr c u. ap (λ (x : State). x.nodes) (pool_back s))
