-- Steps of the machine, by what its parts do. The code's values enter as variables with equations.
use Rattle.std.proofs.Common.{◌≡◌, ℕ, ◌+◌, ◌<◌, ◌≤◌, true, false, cond, List, [], ◌∷◌, ◌++◌, Option, Ok, Err, None, Some, length, map, not, ◌==◌, Bool, refl, sym, ◌∙◌, ap, subst, arith, IsTrue}
use Rattle.std.proofs.Common.{MatchBool, find, option_map, nat_le, nat_lt, slice_index_or, slice_set}
use Rattle.std.specs.List.{range_with_len}
use Rattle.std.proofs.lemmas.List.FromFn.{map-range_with_len_more}
use Rattle.std.proofs.lemmas.List.{get_or_default, set-get_or, map-id}
use Rattle.std.proofs.lemmas.Bool.Decides.{nat_tests}
use Rattle.std.proofs.lemmas.Grind.{common_steps}
use Rattle.hp_laws.proofs.Variants.{Answer, Attach, Connect, Done, Event, Exit, Home as HomeAnswer, NoSuchSlot, NoSuchTask, Number, OutOfRange, Overcommit, Pool as OnPool, PoolEvent, Refusal}
use Rattle.hp_laws.proofs.Variants.{Slot as OnSlot, SlotEvent, TableEvent, Tasks}
use Rattle.hp_model.specs.declared.event.PoolEvent.TheVariants as pool
use Rattle.hp_model.specs.declared.event.SlotEvent.TheVariants as slot
use Rattle.hp_model.specs.declared.event.TableEvent.TheVariants as table
use Rattle.hp_model.proofs.Words.{Answer_with, Do, IsEvent, IsReadyMachine, IsScript, IsStep, Machine, Pool, Reply, Script, Slot, State, Table, exit_slot, exit_slots, finding, has_maps_of, home_of}
use Rattle.hp_model.proofs.Words.{is_slot_event, machine_of, most_overcommit, node_of, on_slot, only, pool_event, pool_of, removed, set_nr, slot_at, slot_event, state_of, table_event, when_known}
use Rattle.hp_model.proofs.Words.{with_pool_reply, with_table}
use Rattle.hp_laws.proofs.sections.PoolTied.{pool_back}
use Rattle.hp_mount_laws.specs.Done.{IsDone}
use Rattle.hp_system.specs.Event.{AreExited, IsCarried, took}
use Rattle.hp_system.specs.Sized.{IsSized}
use Rattle.hp_system.proofs.Carries.{calm, event_done, kept_after, kept_by, kept_by_pool, never_full, ready_by, slot_in, IsKept}

same_length : (p : Pool) → length (map node_of p.nodes.rows) ≡ length p.nodes.rows
same_length p = grind (arith, common_steps)

only_is : (s t : State) (e : Event) (reply : Reply) → IsEvent s e reply t → IsScript s (only e) reply t
only_is s t e reply h = (reply, t, h, (refl, refl))

module _ (size : ℕ) (t : Table) (slots : List Slot) (p : Pool) where
  -- ---- the pool

  pool_event_is : (e : PoolEvent) (reply : Reply) (q : Pool) → pool_of (state_of size t slots p) ≡ p → pool_event p e ≡ (reply, q) →
      IsEvent (state_of size t slots p) (OnPool e) reply (state_of size t slots q)
  pool_event_is e reply q tie h =
      let s : State = state_of size t slots p in
      (calm, tt, subst (λ x. with_pool_reply s (pool_event x e) ≡ (reply, state_of size t slots q)) (sym tie) (ap (λ x. (x.0, state_of size t slots x.1)) h))

  -- an event of the pool, which is the whole of its step
  pool_goes : (e : PoolEvent) (reply : Reply) (q : Pool) (s : State) → pool_of (state_of size t slots p) ≡ p → pool_event p e ≡ (reply, q)
      → state_of size t slots p ≡ s → IsScript s (only (OnPool e)) reply (state_of size t slots q)
  pool_goes e reply q s tie h s_is =
      subst (λ x. IsScript x (only (OnPool e)) reply (state_of size t slots q)) s_is (only_is (state_of size t slots p) (state_of size t slots q) (OnPool e) reply (pool_event_is e reply q tie h))

  pool_told : (e : PoolEvent) (reply : Reply) (s : State) → pool_of (state_of size t slots p) ≡ p → pool_event p e ≡ (reply, p)
      → state_of size t slots p ≡ s → IsScript s (only (OnPool e)) reply s
  pool_told e reply s tie h s_is = subst (λ x. IsScript s (only (OnPool e)) reply x) s_is (pool_goes e reply p s tie h s_is)

  -- ---- the task table

  table_event_is : (e : TableEvent) (reply : Reply) (u : Table) → table_event (length p.nodes.rows) t e ≡ (reply, u) → IsEvent (state_of size t slots p) (Tasks e) reply (state_of size u slots p)
  table_event_is e reply u h =
      let s : State = state_of size t slots p in
      (calm, tt, subst (λ n. with_table s (table_event n t e) ≡ (reply, state_of size u slots p)) (sym (same_length p)) (ap (λ x. (x.0, state_of size x.1 slots p)) h))

  -- an event of the task table, as a script's first
  table_goes : (e : TableEvent) (reply : Reply) (u : Table) (nodes : ℕ) (s : State) → nodes ≡ length p.nodes.rows → table_event nodes t e ≡ (reply, u)
      → state_of size t slots p ≡ s → IsEvent s (Tasks e) reply (state_of size u slots p)
  table_goes e reply u nodes s count h s_is =
      subst (λ x. IsEvent x (Tasks e) reply (state_of size u slots p)) s_is (table_event_is e reply u (subst (λ n. table_event n t e ≡ (reply, u)) count h))

pub nr_event : (p : Pool) (n : ℕ) (q : Pool) (r : ℕ) → q ≡ set_nr n p → r ≡ q.nr → pool_event p (pool.Nr n) ≡ (Ok (Number r), q)
nr_event p n q r q_is r_is = ap (λ x. (Ok (Number x.nr), x)) (sym q_is) ∙ ap (λ x. (Ok (Number x), q)) (sym r_is)

pub overcommit_event : (p : Pool) (n : ℕ) (q : Pool) → n ≤ most_overcommit → q ≡ record p { overcommit = n } → pool_event p (pool.Overcommit n) ≡ (Ok Done, q)
overcommit_event p n q few q_is =
    let within : nat_le n most_overcommit ≡ true = grind (arith, nat_tests, few) in
    ap (λ b. cond b (Ok Done, record p { overcommit = n }) (Err OutOfRange, p)) within ∙ ap (λ x. (Ok Done, x)) (sym q_is)

-- an event of the pool of a machine
module _ {size : ℕ} {t : Table} {xs : List Slot} {p q : Pool} {m : Machine} {reply : Reply} (e : PoolEvent) (is : machine_of size t xs p ≡ m) (r : IsReadyMachine m)
    (h : pool_event p e ≡ (reply, q)) where
  tied : pool_of (state_of size t xs p) ≡ p
  tied = (subst IsReadyMachine (sym is) r).tied

  s_is : state_of size t xs p ≡ m.state
  s_is = ap (λ (x : Machine). x.state) is

  pub pool_went : IsScript m.state (only (OnPool e)) reply (state_of size t xs q)
  pool_went = pool_goes size t xs p e reply q m.state tied h s_is

  -- that leaves it as it was
  pub pool_saw : q ≡ p → IsScript m.state (only (OnPool e)) reply m.state
  pool_saw same = pool_told size t xs p e reply m.state tied (h ∙ ap (λ x. (reply, x)) same) s_is

  pub pool_leaves : {bytes : ℕ} → IsSized size bytes → IsReadyMachine (machine_of size t xs q)
  pool_leaves {bytes} sized = ready_by (kept_by_pool size bytes t xs p q e reply (kept_by m sized is r) h)

-- an event of the task table of a machine
pub table_went : {size nodes : ℕ} {t u : Table} {xs : List Slot} {p : Pool} {m : Machine} {reply : Reply} (e : TableEvent) → machine_of size t xs p ≡ m
    → nodes ≡ length p.nodes.rows → table_event nodes t e ≡ (reply, u) → IsEvent m.state (Tasks e) reply (state_of size u xs p)
table_went {size} {nodes} {t} {u} {xs} {p} {m} {reply} e is count h = table_goes size t xs p e reply u nodes m.state count h (ap (λ (x : Machine). x.state) is)

-- ---- the pool

pub overcommit_refused : (s : State) (n : ℕ) → most_overcommit < n → IsStep s (Overcommit n) (Err OutOfRange) s
unfolding IsStep
overcommit_refused s n past =
    let p : Pool = pool_of s in
    let outside : nat_le n most_overcommit ≡ false = grind (arith, nat_tests, past) in
    let refuses : pool_event p (pool.Overcommit n) ≡ (Err OutOfRange, p) = ap (λ b. cond b (Ok Done, record p { overcommit = n }) (Err OutOfRange, p)) outside in
    only_is s s (OnPool (pool.Overcommit n)) (Err OutOfRange) (calm, tt, ap (with_pool_reply s) refuses ∙ ap (λ x. (Err OutOfRange, x)) (pool_back s))

-- ---- the task table

pub connect_step : (s t : State) (task home : ℕ) (reply : Reply) → IsEvent s (Tasks (table.Add task home)) reply t → IsStep s (Connect task home) reply t
unfolding IsStep
connect_step s t task home reply h = only_is s t (Tasks (table.Add task home)) reply h

-- ---- a task that exits

pub exit_refused : (s t : State) (task : ℕ) (e : Refusal) → IsEvent s (Tasks (table.Remove task)) (Err e) t → IsStep s (Exit task) (Err e) t
unfolding IsStep
exit_refused s t task e h = (Err e, t, h, (refl, refl))

pub exit_done : (s mid t : State) (task : ℕ) (a : Answer) → IsEvent s (Tasks (table.Remove task)) (Ok a) mid → length mid.slots ≡ length s.slots
    → AreExited mid (range_with_len 0 (length mid.slots)) task t → IsStep s (Exit task) (Ok Done) t
unfolding IsStep
exit_done s mid t task a h same exited =
    (Ok a, mid, h, subst (λ n. IsScript mid (exit_slots (range_with_len 0 n) task (Answer_with (Ok Done))) (Ok Done) t) same (exited (Answer_with (Ok Done)) (Ok Done) t (refl, refl)))

-- a task that is taken out went, or was not there
module _ (task : ℕ) where
  all_stay : (t : Table) → home_of t task ≡ None → removed t task ≡ t
  all_stay [] e = refl
  all_stay (x ∷ xs) e = by_test (x.0 == task) refl e (all_stay xs)
    where
      by_test : (b : Bool) → (x.0 == task) ≡ b → option_map (λ (e : ℕ × ℕ). e.1) (cond b (Some x) (find (λ e. e.0 == task) xs)) ≡ None → (home_of xs task ≡ None → removed xs task ≡ xs)
          → cond (not b) (x ∷ removed xs task) (removed xs task) ≡ x ∷ xs
      by_test true is none rest = cc
      by_test false is none rest = ap (λ ys. x ∷ ys) (rest none)

  pub taken_out : (nodes : ℕ) (t : Table) → (reply : Reply) × (table_event nodes t (table.Remove task) ≡ (reply, removed t task))
  taken_out nodes t = by_home (home_of t task) refl
    where
      by_home : (o : Option ℕ) → home_of t task ≡ o → (reply : Reply) × (table_event nodes t (table.Remove task) ≡ (reply, removed t task))
      by_home None none = (Err NoSuchTask, ap (λ o. when_known t o (λ home. (Ok Done, removed t task))) none ∙ ap (λ u. (Err NoSuchTask, u)) (sym (all_stay t none)))
      by_home (Some home) some = (Ok Done, ap (λ o. when_known t o (λ home. (Ok Done, removed t task))) some)

-- and one that it leaves
pub leaves_there : (s t : State) (k task : ℕ) (r : Reply) → has_maps_of task (slot_at s k) ≡ true → IsEvent s (OnSlot k (slot.ExitMaps task)) r t → AreExited s (k ∷ []) task t
leaves_there s t k task r some goes next reply u h =
    subst (λ b. MatchBool b (IsScript s (Do (OnSlot k (slot.ExitMaps task)) (λ r. next)) reply u) (IsScript s next reply u)) (sym some) (r, t, goes, h)

-- one number after others
pub first_more : (n : ℕ) → range_with_len 0 (n + 1) ≡ range_with_len 0 n ++ n ∷ []
first_more n = simp map-id at (map-range_with_len_more (λ (k : ℕ). k) 0 n n (omega arith))

-- one slot after others
pub exited_more : (s mid t : State) (ks : List ℕ) (k task : ℕ) → AreExited s ks task mid → AreExited mid (k ∷ []) task t → AreExited s (ks ++ k ∷ []) task t
exited_more s mid t ks k task first then next reply u h =
    subst (λ x. IsScript s x reply u) (joined ks) (first (exit_slots (k ∷ []) task next) reply u (then next reply u h))
  where
    joined : (xs : List ℕ) → exit_slots xs task (exit_slots (k ∷ []) task next) ≡ exit_slots (xs ++ k ∷ []) task next
    joined [] = refl
    joined (x ∷ xs) = ap (exit_slot x task) (joined xs)

-- ---- a step that finds its task first

module _ (s : State) (task : ℕ) where
  find_is : (o : Option ℕ) → home_of s.table task ≡ o → IsEvent s (Tasks (table.Find task)) (when_known s.table o (λ x. (Ok (HomeAnswer x), s.table))).0 s
  find_is None unknown = (calm, tt, ap (λ o. with_table s (when_known s.table o (λ x. (Ok (HomeAnswer x), s.table)))) unknown)
  find_is (Some home) known = (calm, tt, ap (λ o. with_table s (when_known s.table o (λ x. (Ok (HomeAnswer x), s.table)))) known)

  pub attach_found : (home : ℕ) → home_of s.table task ≡ Some home → IsStep s (Attach task) (Ok (HomeAnswer home)) s
  unfolding IsStep
  attach_found home known = only_is s s (Tasks (table.Find task)) (Ok (HomeAnswer home)) (find_is (Some home) known)

  pub attach_not_found : home_of s.table task ≡ None → IsStep s (Attach task) (Err NoSuchTask) s
  unfolding IsStep
  attach_not_found unknown = only_is s s (Tasks (table.Find task)) (Err NoSuchTask) (find_is None unknown)

  pub task_found : (t : State) (home : ℕ) (next : ℕ → Script) (reply : Reply) → home_of s.table task ≡ Some home → IsScript s (next home) reply t → IsScript s (finding task next) reply t
  task_found t home next reply known h = (Ok (HomeAnswer home), s, find_is (Some home) known, h)

  pub task_not_found : (next : ℕ → Script) → home_of s.table task ≡ None → IsScript s (finding task next) (Err NoSuchTask) s
  task_not_found next unknown = (Err NoSuchTask, s, find_is None unknown, (refl, refl))

-- ---- slots

-- a number that no slot has
pub past_slots : (s : State) (k : ℕ) (e : SlotEvent) → length s.slots ≤ k → IsScript s (on_slot (length s.slots) k e) (Err NoSuchSlot) s
past_slots s k e past =
    let none : nat_lt k (length s.slots) ≡ false = grind (arith, nat_tests, past) in
    subst (λ b. IsScript s (cond b (only (OnSlot k e)) (Answer_with (Err NoSuchSlot))) (Err NoSuchSlot) s) (sym none) (refl, refl)

-- what was read of a slot is what it is, and put back it leaves the slots as they were
pub read_slot : (xs : List Slot) (k : ℕ) (x old : Slot) → k < length xs → x ≡ slice_index_or xs k x → x ≡ old → slot_in xs k ≡ old
read_slot xs k x old within e is = get_or_default xs k None x within ∙ sym e ∙ is

put_back : (xs : List Slot) (k : ℕ) (x : Slot) → x ≡ slice_index_or xs k x → slice_set xs k x ≡ xs
put_back xs k x e = ap (slice_set xs k) e ∙ set-get_or xs k x

-- the machine with a slot that was read and put back
pub machine_back : {size : ℕ} {t : Table} {xs : List Slot} {p : Pool} (k : ℕ) (x : Slot) (m : Machine) → x ≡ slice_index_or xs k x →
    machine_of size t xs p ≡ m → m ≡ machine_of size t (slice_set xs k x) p
machine_back {size} {t} {xs} {p} k x m read is = sym is ∙ ap (λ ys. machine_of size t ys p) (sym (put_back xs k x read))

module _ (size bytes : ℕ) (t : Table) (xs : List Slot) (p : Pool) (kept : IsKept size bytes t xs p) (s : State) (s_is : state_of size t xs p ≡ s)
    (k : ℕ) (within : k < length xs) (old : Slot) (here : slot_in xs k ≡ old)
    (e : SlotEvent) (happens : IsTrue (is_slot_event old e)) where
  -- what an event on the slot leaves, as an event
  slot_went : (new : Slot) (q : Pool) (reply : Reply) → IsCarried size k p old e reply new q → IsEvent s (OnSlot k e) reply (state_of size t (slice_set xs k new) q)
  slot_went new q reply h = subst (λ x. IsEvent x (OnSlot k e) reply (state_of size t (slice_set xs k new) q)) s_is (event_done size bytes t xs k old new p q e reply kept within here happens h)

  -- what it leaves, as a script
  slot_done : (new : Slot) (q : Pool) (reply : Reply) → IsCarried size k p old e reply new q → IsScript s (on_slot (length s.slots) k e) reply (state_of size t (slice_set xs k new) q)
  slot_done new q reply h =
      let before : State = state_of size t xs p in
      let after : State = state_of size t (slice_set xs k new) q in
      let there : nat_lt k (length xs) ≡ true = grind (arith, nat_tests, within) in
      subst (λ x. IsScript x (on_slot (length x.slots) k e) reply after) s_is
      (subst (λ b. IsScript before (cond b (only (OnSlot k e)) (Answer_with (Err NoSuchSlot))) reply after) (sym there)
      (only_is before after (OnSlot k e) reply (event_done size bytes t xs k old new p q e reply kept within here happens h)))

-- the machine did an event on a slot, also as a script, and is ready for the next
pub record IsDoneOn (m : Machine) (k : ℕ) (e : SlotEvent) (reply : Reply) (n : Machine) : Type 0 where
  pub event : IsEvent m.state (OnSlot k e) reply n.state
  pub script : IsScript m.state (on_slot (length m.state.slots) k e) reply n.state
  pub ready : IsReadyMachine n

module _ {size : ℕ} {t : Table} {xs : List Slot} {p : Pool} {m : Machine} (is : machine_of size t xs p ≡ m) (k : ℕ) where
  pub within_of : k < length m.state.slots → k < length xs
  within_of l = omega (arith, l, ap (λ (x : Machine). length x.state.slots) is)

  module _ (within : k < length xs) (x : Slot) (read : x ≡ slice_index_or xs k x) where
    pub slot_there : slot_at m.state k ≡ x
    slot_there = ap (λ (y : Machine). slot_at y.state k) (sym is) ∙ read_slot xs k x x within read refl

    -- what went through the pool by itself on a slot that was read, by a door that is never full
    pub done_on : {bytes : ℕ} → IsSized size bytes → IsReadyMachine m → (new : Slot) (q : Pool) (e : SlotEvent) (reply : Reply) → IsTrue (is_slot_event x e)
        → IsDone took (λ d. ⊥) bytes k x p e reply new q → IsDoneOn m k e reply (machine_of size t (slice_set xs k new) q)
    done_on {bytes} sized r new q e reply happens done =
        let kept = kept_by m sized is r in
        let s_is = ap (λ (y : Machine). y.state) is in
        let here = read_slot xs k x x within read refl in
        let carried : IsCarried size k p x e reply new q =
        rw kept.size (never_full (λ c. slot_event bytes k c x e) x new p q reply done) in
        record {
          event = slot_went size bytes t xs p kept m.state s_is k within x here e happens new q reply carried;
          script = slot_done size bytes t xs p kept m.state s_is k within x here e happens new q reply carried;
          ready = ready_by (kept_after size bytes t xs k x new p q e reply kept within here happens carried);
        }
