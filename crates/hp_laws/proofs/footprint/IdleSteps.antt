-- And so it is with every step that is answered: a fork and an exit only give back, slot by slot.
use Rattle.std.proofs.Common.{arith, ◌≡◌, subst, ℕ, ◌<◌, ◌≤◌, ◌==◌, ◌&&◌, Bool, true, false, None, Some, Ok, Err, List, [], ◌∷◌, ◌++◌, length, sum, refl, sym, ap, ◌∙◌}
use Rattle.std.proofs.Common.{slice_set}
use Rattle.std.specs.List.{range_with_len}
use Rattle.std.proofs.lemmas.Bool.{cond_both, ltb-true}
use Rattle.std.proofs.lemmas.List.Sums.{sum_by-set}
use Rattle.hp_laws.proofs.Variants.{Answer, Done, Event, GiveBack, Pool as OnPool, PoolAnswer, Section, Slot as OnSlot, SlotEvent, TableEvent, Tasks}
use Rattle.hp_model.specs.declared.event.SlotEvent.TheVariants as slot
use Rattle.hp_model.specs.declared.event.TableEvent.TheVariants as table
use Rattle.hp_model.specs.declared.step.Step.TheVariants as step
use Rattle.hp_model.proofs.Words.{Answer_with, Answered, Ask, Choice, Finish, IsEvent, IsScript, IsScripted, IsSettledState, Plan, Pool, Reply, Slot}
use Rattle.hp_model.proofs.Words.{State, committed_pages, exit_slots, fall_of}
use Rattle.hp_model.proofs.Words.{fork_slots, fork_tests, forked, gives, has_maps_of, or_undone, planned, pool_of, puts_of, section, slot_at, slot_committed, slot_event, slot_pages_at}
use Rattle.hp_model.proofs.Words.{used_at, when_done, with_pool, with_slot, without_task}
use Rattle.hp_model.specs.machine.Footprint.{KeepsNodes}
use Rattle.hp_laws.specs.Balance.{Change, IsBalanced, Moves, left_by, raised_by, taken_at}
use Rattle.hp_laws.proofs.footprint.Landings.{event_lands, here_all}
use Rattle.hp_laws.proofs.keeping.SettingsKept.{undone_refused}
use Rattle.hp_laws.proofs.sections.PoolTied.{left_sound, settled_is}
use Rattle.hp_laws.proofs.settled.StaysSettled.{event_settled}
use Rattle.hp_laws.proofs.steps.Outcomes.{either_way}
use Rattle.hp_laws.proofs.steps.SlotsBalanced.{slots_are_balanced}
use Rattle.hp_laws.proofs.steps.Walk.{plan_unless}
use Rattle.hp_laws.proofs.footprint.IdlePools.{is_return}
use Rattle.hp_laws.proofs.footprint.IdleEvents.{NoReturn, event_plan, pool_idle, slot_idle, table_idle}

-- ---- plans that only give back

abbrev is_give : Section → Bool
is_give (GiveBack puts k) = true
is_give other = false

abbrev OnlyGives : Plan → Type 0
OnlyGives (Finish o) = Unit {0}
OnlyGives (Ask sec f) = (nr : ℕ) → is_give (sec nr) ≡ true

gives_only : (a : Answer) (old new : Slot) → OnlyGives (gives a old new)
gives_only a old new =
    cond_both ((sum (puts_of old new) == 0) && (fall_of old new == 0)) (Finish (Answered a new)) (Ask (λ nr. GiveBack (puts_of old new) (fall_of old new)) (λ answer. Answered a new)) OnlyGives
    (λ e. tt) (λ e nr. refl)

exits_give : (size k : ℕ) (c : Choice) (old : Slot) (task : ℕ) → OnlyGives (slot_event size k c old (slot.ExitMaps task))
exits_give size k c None task = tt
exits_give size k c (Some m) task = gives_only Done (Some m) (Some (without_task task m))

forks_give : (size k : ℕ) (c : Choice) (old : Slot) (parent child : ℕ) → OnlyGives (slot_event size k c old (slot.ForkMaps parent child))
forks_give size k c None parent child = tt
forks_give size k c (Some m) parent child =
    plan_unless OnlyGives (λ r. tt) (fork_tests c m parent child) (gives Done (Some m) (Some (forked parent child m))) (gives_only Done (Some m) (Some (forked parent child m)))

raises_none : (x : Section) (a : PoolAnswer) → is_give x ≡ true → raised_by x a ≡ 0
raises_none x a e = grind arith

takes_none : (x : Section) (a : PoolAnswer) (n : ℕ) → is_give x ≡ true → taken_at n x a ≡ 0
takes_none x a n e = grind arith

-- ---- what falls, and where it does not

record Less (s t : State) : Type 0 where
  pub committed : committed_pages t ≤ committed_pages s
  pub used : (n : ℕ) → used_at n t ≤ used_at n s

module _ (s : State) (k : ℕ) (low : k < length s.slots) where
  set_less : (u : State) (new : Slot) → u.slots ≡ s.slots → slot_committed new ≤ slot_committed (slot_at s k) → ((n : ℕ) → slot_pages_at n new ≤ slot_pages_at n (slot_at s k))
      → Less s (with_slot s k new)
  set_less u new same c p = record {
    committed = (let sum = sum_by-set slot_committed s.slots k new None low in omega (arith, sum, c));
    used = λ n. (let sum = sum_by-set (slot_pages_at n) s.slots k new None low in let at = p n in omega (arith, sum, at));
  }

  moved_less : (new : Slot) (raised lowered : ℕ) (taken put : ℕ → ℕ) (takes : ℕ) → Change (slot_at s k) new raised lowered taken put takes → raised ≡ 0 → ((n : ℕ) → taken n ≡ 0)
      → Less s (with_slot s k new)
  moved_less new raised lowered taken put takes change none few =
      let moved = change.committed in
      set_less s new refl (omega (arith, moved, none)) (λ n. (let far = change.far n in let zero = few n in omega (arith, far, zero)))

  same_slots : (u : State) (x : Slot) → u.slots ≡ s.slots → Less s (with_slot s k x) → Less s (with_slot u k x)
  same_slots u x same less = record {
    committed = subst (λ slots. committed_pages (record s { slots = slice_set slots k x }) ≤ committed_pages s) (sym same) less.committed;
    used = λ n. subst (λ slots. used_at n (record s { slots = slice_set slots k x }) ≤ used_at n s) (sym same) (less.used n);
  }

  plan_less : (p : Plan) → IsBalanced (slot_at s k) p → OnlyGives p → Less s (planned s k p).1
  plan_less (Finish o) b only =
      subst (λ x. Less s x) (sym (settled_is s k o)) (moved_less (left_by (slot_at s k) o) 0 0 (λ n. 0) (λ n. 0) 0 b refl (λ n. refl))
  plan_less (Ask sec f) b only =
      let q : PoolAnswer × Pool = section (pool_of s) (sec s.nr) in
      let new : Slot = left_by (slot_at s k) (f q.0) in
      let moves = subst (λ (x : Section). Moves (slot_at s k) x q.0 new) (b.1 (pool_of s)) (b.0 q.0) in
      subst (λ x. Less s x) (sym (settled_is (with_pool s q.1) k (f q.0)))
      (same_slots (with_pool s q.1) new refl (moved_less new _ _ _ _ _ moves (raises_none (sec s.nr) q.0 (only s.nr)) (λ n. takes_none (sec s.nr) q.0 n (only s.nr))))

record Falls (s t : State) : Type 0 where
  pub settled : IsSettledState t
  pub nr : t.nr ≡ s.nr
  pub less : Less s t
  pub idle : KeepsNodes s t

falls_then : (s m t : State) → Falls s m → Falls m t → Falls s t
falls_then s m t a b =
    let first = a.less in let last = b.less in
    let more = first.committed in let most = last.committed in
    record {
      settled = b.settled;
      nr = b.nr ∙ a.nr;
      less = record { committed = omega (arith, more, most); used = λ n. (let x = first.used n in let y = last.used n in omega (arith, x, y)) };
      idle = λ nr c u.
          b.idle b.nr (omega (arith, c, more, most)) (λ n. (let x = first.used n in let y = last.used n in let z = u n in omega (arith, x, y, z)))
          ∙ a.idle a.nr (omega (arith, c, more, most)) (λ n. (let x = first.used n in let y = last.used n in let z = u n in omega (arith, x, y, z)));
    }

falls_same : (s t : State) → IsSettledState s → t ≡ s → Falls s t
falls_same s t st e = subst (λ x. Falls s x) (sym e) (record { settled = st; nr = refl; less = record { committed = omega arith; used = λ n. omega arith }; idle = λ nr c u. refl })

no_return : (p : Plan) → OnlyGives p → NoReturn p
no_return (Finish o) only = tt
no_return (Ask sec f) only = λ nr. gives_no_return (sec nr) (only nr)
  where
    gives_no_return : (x : Section) → is_give x ≡ true → is_return x ≡ false
    gives_no_return x e = grind arith

slot_falls : (s : State) → IsSettledState s → (k : ℕ) (e : SlotEvent) (reply : Reply) (t : State) (is : IsEvent s (OnSlot k e) reply t)
    → OnlyGives (slot_event s.page_size k is.0 (slot_at s k) e) → Falls s t
slot_falls s st k e reply t is only =
    let low = ltb-true k (length s.slots) is.1.0 in
    let lands = event_lands (λ o. Unit {0}) s k e reply t (λ c fresh. here_all s (λ o. tt) _) is in
    record {
      settled = event_settled s (OnSlot k e) reply t st is;
      nr = ap (λ x. x.nr) lands.left.0;
      less = subst (λ (x : Reply × State). Less s x.1) is.2
          (plan_less s k low (slot_event s.page_size k is.0 (slot_at s k) e) (slots_are_balanced s.page_size k is.0 (slot_at s k) e is.1.2 (left_sound s k low st)) only);
      idle = event_plan s st k e reply t is (no_return (slot_event s.page_size k is.0 (slot_at s k) e) only);
    }

table_falls : (s : State) → IsSettledState s → (e : TableEvent) (reply : Reply) (t : State) → IsEvent s (Tasks e) reply t → Falls s t
table_falls s st e reply t is =
    let after = event_settled s (Tasks e) reply t st is in
    record {
      settled = after;
      nr = ap (λ (x : Reply × State). x.1.nr) (sym is.2);
      less = subst (λ (x : Reply × State). Less s x.1) is.2 (record { committed = omega arith; used = λ n. omega arith });
      idle = table_idle s st e reply t is;
    }

-- ---- an exit and a fork

exits_fall : (task : ℕ) (ks : List ℕ) (s : State) → IsSettledState s → (reply : Reply) (t : State) → IsScript s (exit_slots ks task (Answer_with (Ok Done))) reply t → Falls s t
exits_fall task [] s st reply t is = falls_same s t st is.1
exits_fall task (k ∷ ks) s st reply t is =
    either_way (has_maps_of task (slot_at s k))
    (λ it. (let here = slot_falls s st k (slot.ExitMaps task) it.0 it.1 it.2 (exits_give s.page_size k it.2.0 (slot_at s k) task) in
    falls_then s it.1 t here (exits_fall task ks it.1 here.settled reply t it.3)))
    (λ it. exits_fall task ks s st reply t it) is

pub exit_idle : (s : State) → IsSettledState s → (task : ℕ) (a : Answer) (t : State) → IsScripted s (step.Exit task) (Ok a) t → KeepsNodes s t
exit_idle s st task a t is = by_reply is.0 is.3
  where
    by_reply : (r : Reply) → IsScript is.1 (when_done r (exit_slots (range_with_len 0 (length s.slots)) task (Answer_with (Ok Done)))) (Ok a) t → KeepsNodes s t
    by_reply (Err r) it = (let never : Ok a ≡ Err r = it.0 in cc)
    by_reply (Ok b) it =
        let first = table_falls s st (table.Remove task) is.0 is.1 is.2 in
        let all = falls_then s is.1 t first (exits_fall task (range_with_len 0 (length s.slots)) is.1 first.settled (Ok a) t it) in
        all.idle

forks_fall : (parent child : ℕ) (a : Answer) (t : State) (ks done : List ℕ) (s : State) → IsSettledState s → IsScript s (fork_slots ks done parent child) (Ok a) t → Falls s t
forks_fall parent child a t [] done s st is = falls_same s t st is.1
forks_fall parent child a t (k ∷ ks) done s st is =
    either_way (has_maps_of parent (slot_at s k))
    (λ it. (let here = slot_falls s st k (slot.ForkMaps parent child) it.0 it.1 it.2 (forks_give s.page_size k it.2.0 (slot_at s k) parent child) in
    goes it.0 it.1 it.3 (λ go. falls_then s it.1 t here (forks_fall parent child a t ks (done ++ k ∷ []) it.1 here.settled go))))
    (λ it. forks_fall parent child a t ks done s st it) is
  where
    goes : (q : Reply) (v : State) → IsScript v (or_undone done child q (fork_slots ks (done ++ k ∷ []) parent child)) (Ok a) t
        → (IsScript v (fork_slots ks (done ++ k ∷ []) parent child) (Ok a) t → Falls s t) → Falls s t
    goes (Err r) v it rest = absurd (undone_refused done child r a v t it)
    goes (Ok b) v it rest = rest it

pub fork_idle : (s : State) → IsSettledState s → (parent child : ℕ) (a : Answer) (t : State) → IsScripted s (step.Fork parent child) (Ok a) t → KeepsNodes s t
fork_idle s st parent child a t is = by_reply is.0 is.3
  where
    by_reply : (r : Reply) → IsScript is.1 (when_done r (fork_slots (range_with_len 0 (length s.slots)) [] parent child)) (Ok a) t → KeepsNodes s t
    by_reply (Err r) it = (let never : Ok a ≡ Err r = it.0 in cc)
    by_reply (Ok b) it =
        let first = table_falls s st (table.FindAndAdd parent child) is.0 is.1 is.2 in
        let all = falls_then s is.1 t first (forks_fall parent child a t (range_with_len 0 (length s.slots)) [] is.1 first.settled it) in
        all.idle

-- ---- every event that is a step

pub event_idle : (s : State) → IsSettledState s → (e : Event) (a : Answer) (t : State) → IsEvent s e (Ok a) t → KeepsNodes s t
event_idle s st (Tasks e) a t is = table_idle s st e (Ok a) t is
event_idle s st (OnPool e) a t is = pool_idle s st e (Ok a) t is
event_idle s st (OnSlot k e) a t is = slot_idle s st k e a t is
