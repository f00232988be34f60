-- Forks and exits, slot after slot.
use Rattle.std.proofs.Common.{◌≡◌, ℕ, zero, suc, ◌+◌, ◌-◌, ◌<◌, ◌≤◌, Bool, true, false, cond, List, [], ◌∷◌, ◌++◌, Ok, Err, length, refl, sym, ap, subst, ◌∙◌, arith, MatchBool, filter, slice_index_or}
use Rattle.std.proofs.Common.{slice_set}
use Rattle.std.specs.List.{range_with_len}
use Rattle.std.proofs.lemmas.List.FromFn.{map-range_with_len_more}
use Rattle.std.proofs.lemmas.List.{append-nil, get_or-set_other, get_or-set_same, map-id}
use Rattle.std.proofs.lemmas.List.Elements.{filter-append}
use Rattle.hp_laws.proofs.Variants.{Answer, Done, ExitMaps, FindAndAdd, ForkMaps, Refusal, Remove, Slot as OnSlot, TableEvent, Tasks as OnTasks, TraceFull}
use Rattle.hp_model.proofs.Words.{Answer_with, Do, Reply, Script, exit_slot, exit_slots, fork_slots, or_undone, undone, when_done}
use Rattle.hp_events.specs.Replies.{is_trace_full, table_reply}
use Rattle.hp_events.specs.declared.table_told.TableTold.{TableTold}
use Rattle.hp_events.specs.declared.table_told.TableTold.TheVariants as told
use Rattle.hp_events.specs.Answered.{IsHanded}
use Rattle.hp_sessions.specs.Calls.{Carries, IsMade, Leads, SessionView}
use Rattle.hp_sessions.specs.Forks.{IsForked, marked_below}
use Rattle.hp_sessions.proofs.Carrying.{ends, goes_on, is_full, made_by, refused_made, same_as, stops, where_mapped, where_other}
use Rattle.hp_laws.proofs.keeping.Homes.{child_is_another}

pub first_more : (n : ℕ) → range_with_len 0 (n + 1) ≡ range_with_len 0 n ++ n ∷ []
first_more n = simp map-id at (map-range_with_len_more (λ (k : ℕ). k) 0 n n (omega arith))

-- ---- which slots were done

module _ (n : ℕ) where
  test_same : (f g : ℕ → Bool) (a m : ℕ) → a + m ≡ n → ((j : ℕ) → j < n → f j ≡ g j) → filter f (range_with_len a m) ≡ filter g (range_with_len a m)
  test_same f g a zero is same = refl
  test_same f g a (suc m) is same =
      let rest = test_same f g (a + 1) m (omega (arith, is)) same in
      ap (λ x. cond x (a ∷ filter f (range_with_len (a + 1) m)) (filter f (range_with_len (a + 1) m))) (same a (omega (arith, is)))
      ∙ ap (λ ks. cond (g a) (a ∷ ks) ks) rest

-- the next slot is done or not
pub marked_next : (done : List Bool) (at : ℕ) (b : Bool) → slice_index_or done at false ≡ b → marked_below done (at + 1) ≡ marked_below done at ++ cond b (at ∷ []) []
marked_next done at b is =
    let test : ℕ → Bool = λ k. slice_index_or done k false in
    ap (filter test) (first_more at) ∙ filter-append test (range_with_len 0 at) (at ∷ []) ∙ ap (λ c. marked_below done at ++ cond c (at ∷ []) []) is

pub marked_set : (done : List Bool) (at : ℕ) (b : Bool) → at < length done → marked_below (slice_set done at b) (at + 1) ≡ marked_below done at ++ cond b (at ∷ []) []
marked_set done at b within =
    marked_next (slice_set done at b) at b (get_or-set_same done at b false within)
    ∙ ap (λ ks. ks ++ cond b (at ∷ []) [])
    (test_same at (λ k. slice_index_or (slice_set done at b) k false) (λ k. slice_index_or done k false) 0 at (omega arith)
    (λ j below. get_or-set_other done at j b false (λ same. absurd (omega (arith, same, below)))))

-- ---- an exit

joined : (ks : List ℕ) (k task : ℕ) (next : Script) → exit_slots ks task (exit_slot k task next) ≡ exit_slots (ks ++ k ∷ []) task next
joined [] k task next = refl
joined (x ∷ xs) k task next = ap (exit_slot x task) (joined xs k task next)

module _ (kept : Bool) (size : ℕ) where
  -- the maps of a task went from these slots
  abbrev pub Exited : SessionView → List ℕ → (task : ℕ) → SessionView → Type 0
  Exited s ks task t = (next : Script) → Leads kept size s (exit_slots ks task next) t next

  pub exited_more : (s t u : SessionView) (ks : List ℕ) (k task : ℕ) → Exited s ks task t → ((next : Script) → Leads kept size t (exit_slot k task next) u next) → Exited s (ks ++ k ∷ []) task u
  exited_more s t u ks k task first then next reply v c =
      subst (λ x. Carries kept size s x reply v) (joined ks k task next) (first (exit_slot k task next) reply v (then next reply v c))

  pub first_exited : (s t u : SessionView) (at task : ℕ) → Exited s (range_with_len 0 at) task t → ((next : Script) → Leads kept size t (exit_slot at task next) u next) →
      Exited s (range_with_len 0 (at + 1)) task u
  first_exited s t u at task first then =
      subst (λ ks. Exited s ks task u) (sym (first_more at)) (exited_more s t u (range_with_len 0 at) at task first then)

  -- an event on the slot, or no map there
  pub exit_made : (s t : SessionView) (k task : ℕ) → IsMade kept size s (OnSlot k (ExitMaps task)) (Ok Done) t → (next : Script) → Leads kept size s (exit_slot k task next) t next
  exit_made s t k task made next reply u c =
      where_mapped kept size s u k task (Do (OnSlot k (ExitMaps task)) (λ r. next)) next reply (goes_on kept size s t (OnSlot k (ExitMaps task)) (Ok Done) made (λ r. next) reply u refl c)

  pub exit_none : (s t : SessionView) (k task : ℕ) → t ≡ s → (next : Script) → Leads kept size s (exit_slot k task next) t next
  exit_none s t k task same next reply u c =
      where_other kept size s u k task (Do (OnSlot k (ExitMaps task)) (λ r. next)) next reply (subst (λ v. Carries kept size v next reply u) same c)

  -- what was answered of a task's maps on a slot
  pub exit_leads : {v : SessionView} (s t : SessionView) → v ≡ s → t.slots ≡ v.slots → t.room ≡ v.room → t.clock ≡ v.clock → (k task : ℕ) (any : Bool) →
      MatchBool any (IsHanded kept size (OnSlot k (ExitMaps task)) (Ok Done) v.receipts t.receipts) (t.receipts ≡ v.receipts) →
      (next : Script) → Leads kept size s (exit_slot k task next) t next
  exit_leads s t is slots room clock k task true h = exit_made s t k task (made_by s t is slots room clock kept size (OnSlot k (ExitMaps task)) (Ok Done) h)
  exit_leads {v} s t is slots room clock k task false h = exit_none s t k task (same_as v t slots room clock h ∙ is)

  -- ---- the table's event before

  answer_of : (x : TableTold) → ((r : Refusal) → x ≡ told.Refused r → ⊥) → (a : Answer) × (table_reply x ≡ Ok a)
  answer_of told.Done h = (_, refl)
  answer_of (told.Home home) h = (_, refl)
  answer_of (told.Refused r) h = absurd (h r refl)

  abbrev After : Script → Reply → Script
  After next r = when_done r next

  pub table_done : (s t : SessionView) (e : TableEvent) (x : TableTold) (next : Script) (reply : Reply) (u : SessionView) → ((r : Refusal) → x ≡ told.Refused r → ⊥) →
      IsMade kept size s (OnTasks e) (table_reply x) t → Carries kept size t next reply u → Carries kept size s (Do (OnTasks e) (λ r. when_done r next)) reply u
  table_done s t e x next reply u other made c =
      let a = answer_of x other in
      goes_on kept size s t (OnTasks e) (Ok a.0) (subst (λ r. IsMade kept size s (OnTasks e) r t) a.1 made) (After next) reply u refl c

  pub table_refused : (s t : SessionView) (e : TableEvent) (r : Refusal) (next : Script) → IsMade kept size s (OnTasks e) (Err r) t →
      Carries kept size s (Do (OnTasks e) (λ r. when_done r next)) (Err r) t
  table_refused s t e r next made = refused_made kept size s t (OnTasks e) r (After next) refl made

  -- a child that was added is not its parent
  pub apart : (s t : SessionView) (x : TableTold) (parent child : ℕ) → ((r : Refusal) → x ≡ told.Refused r → ⊥) →
      IsMade kept size s (OnTasks (FindAndAdd parent child)) (table_reply x) t → parent ≡ child → ⊥
  apart s t x parent child other made =
      let a = answer_of x other in
      let done = subst (λ r. IsMade kept size s (OnTasks (FindAndAdd parent child)) r t) a.1 made in
      child_is_another done.0.0 parent child done.0.1 done.0.2 a.0 done.0.3

  -- ---- a fork

  module _ (parent child : ℕ) where
    pub forked_more : (s t : SessionView) (k : ℕ) (ks done : List ℕ) → IsForked kept size k parent child s t →
        Leads kept size s (fork_slots (k ∷ ks) done parent child) t (fork_slots ks (done ++ k ∷ []) parent child)
    forked_more s t k ks done made reply u c =
        let rest = fork_slots ks (done ++ k ∷ []) parent child in
        where_mapped kept size s u k parent (Do (OnSlot k (ForkMaps parent child)) (λ r. or_undone done child r rest)) (fork_slots ks done parent child) reply
        (goes_on kept size s t (OnSlot k (ForkMaps parent child)) (Ok made.0) made.1 (λ r. or_undone done child r rest) reply u refl c)

    pub forked_none : (s t : SessionView) (k : ℕ) (ks done : List ℕ) → t ≡ s → Leads kept size s (fork_slots (k ∷ ks) done parent child) t (fork_slots ks done parent child)
    forked_none s t k ks done same reply u c =
        let rest = fork_slots ks (done ++ k ∷ []) parent child in
        where_other kept size s u k parent (Do (OnSlot k (ForkMaps parent child)) (λ r. or_undone done child r rest)) (fork_slots ks done parent child) reply
        (subst (λ v. Carries kept size v (fork_slots ks done parent child) reply u) same c)

    pub fork_stops : (s t : SessionView) (k : ℕ) (ks done : List ℕ) (x : Refusal) → is_trace_full (Err x) ≡ true → IsMade kept size s (OnSlot k (ForkMaps parent child)) (Err x) t →
        Carries kept size s (fork_slots (k ∷ ks) done parent child) (Err x) t
    fork_stops s t k ks done x full made =
        let rest = fork_slots ks (done ++ k ∷ []) parent child in
        where_mapped kept size s t k parent (Do (OnSlot k (ForkMaps parent child)) (λ r. or_undone done child r rest)) (fork_slots ks done parent child) (Err x)
        (stops kept size s t (OnSlot k (ForkMaps parent child)) (Err x) made (λ r. or_undone done child r rest) full)

    pub fork_refused : (s t : SessionView) (k : ℕ) (ks done : List ℕ) (x : Refusal) → is_trace_full (Err x) ≡ false → IsMade kept size s (OnSlot k (ForkMaps parent child)) (Err x) t →
        Leads kept size s (fork_slots (k ∷ ks) done parent child) t (undone done child x)
    fork_refused s t k ks done x clear made reply u c =
        let rest = fork_slots ks (done ++ k ∷ []) parent child in
        where_mapped kept size s u k parent (Do (OnSlot k (ForkMaps parent child)) (λ r. or_undone done child r rest)) (fork_slots ks done parent child) reply
        (goes_on kept size s t (OnSlot k (ForkMaps parent child)) (Err x) made (λ r. or_undone done child r rest) reply u clear c)

    -- what is left of a fork at the slot `at` of n
    abbrev pub left_at : List Bool → (at n : ℕ) → Script
    left_at done at n = fork_slots (range_with_len at (n - at)) (marked_below done at) parent child

    next_of : (at n : ℕ) → at < n → range_with_len at (n - at) ≡ at ∷ range_with_len (at + 1) (n - (at + 1))
    next_of at n below = ap (range_with_len at) {x = n - at} {y = suc (n - (at + 1))} (omega (arith, below))

    pub next_slot : (s t : SessionView) (done : List Bool) (at n : ℕ) (b : Bool) → at < n → at < length done
        → MatchBool b (IsForked kept size at parent child s t) (t ≡ s)
        → Leads kept size s (left_at done at n) t (left_at (slice_set done at b) (at + 1) n)
    next_slot s t done at n b below within made reply u c =
        let ks = range_with_len (at + 1) (n - (at + 1)) in
        subst (λ xs. Carries kept size s (fork_slots xs (marked_below done at) parent child) reply u) (sym (next_of at n below))
        (by b made (subst (λ xs. Carries kept size t (fork_slots ks xs parent child) reply u) (marked_set done at b within) c))
      where
        by : (b : Bool) → MatchBool b (IsForked kept size at parent child s t) (t ≡ s) →
            Carries kept size t (fork_slots (range_with_len (at + 1) (n - (at + 1))) (marked_below done at ++ cond b (at ∷ []) []) parent child) reply u →
            Carries kept size s (fork_slots (at ∷ range_with_len (at + 1) (n - (at + 1))) (marked_below done at) parent child) reply u
        by true made c = forked_more s t at (range_with_len (at + 1) (n - (at + 1))) (marked_below done at) made reply u c
        by false same c =
            forked_none s t at (range_with_len (at + 1) (n - (at + 1))) (marked_below done at) same reply u
            (subst (λ xs. Carries kept size t (fork_slots (range_with_len (at + 1) (n - (at + 1))) xs parent child) reply u) (append-nil (marked_below done at)) c)

    pub slot_stops : (s t : SessionView) (done : List Bool) (at n : ℕ) (x : Refusal) → at < n → is_trace_full (Err x) ≡ true → IsMade kept size s (OnSlot at (ForkMaps parent child)) (Err x) t →
        Carries kept size s (left_at done at n) (Err x) t
    slot_stops s t done at n x below full made =
        subst (λ xs. Carries kept size s (fork_slots xs (marked_below done at) parent child) (Err x) t) (sym (next_of at n below))
        (fork_stops s t at (range_with_len (at + 1) (n - (at + 1))) (marked_below done at) x full made)

    pub slot_refused : (s t : SessionView) (done : List Bool) (at n : ℕ) (x : Refusal) → at < n → is_trace_full (Err x) ≡ false →
        IsMade kept size s (OnSlot at (ForkMaps parent child)) (Err x) t → Leads kept size s (left_at done at n) t (undone (marked_below done at) child x)
    slot_refused s t done at n x below clear made reply u c =
        subst (λ xs. Carries kept size s (fork_slots xs (marked_below done at) parent child) reply u) (sym (next_of at n below))
        (fork_refused s t at (range_with_len (at + 1) (n - (at + 1))) (marked_below done at) x clear made reply u c)

    -- no slot is left
    pub all_forked : (s : SessionView) (done : List Bool) (at n : ℕ) → n ≤ at → Carries kept size s (left_at done at n) (Ok Done) s
    all_forked s done at n over =
        subst (λ xs. Carries kept size s (fork_slots xs (marked_below done at) parent child) (Ok Done) s)
        (sym (ap (range_with_len at) {x = n - at} {y = 0} (omega (arith, over)))) (ends kept size s (Ok Done) refl)

  -- ---- undoing

  pub undo_next : (s t u : SessionView) (done : List Bool) (at child : ℕ) → slice_index_or done at false ≡ true → Exited s (marked_below done at) child t →
      ((next : Script) → Leads kept size t (exit_slot at child next) u next) → Exited s (marked_below done (at + 1)) child u
  undo_next s t u done at child is first then =
      subst (λ ks. Exited s ks child u) (sym (marked_next done at true is)) (exited_more s t u (marked_below done at) at child first then)

  pub undo_other : (s t : SessionView) (done : List Bool) (at child : ℕ) → slice_index_or done at false ≡ false → Exited s (marked_below done at) child t
      → Exited s (marked_below done (at + 1)) child t
  undo_other s t done at child is first =
      subst (λ ks. Exited s ks child t) (sym (marked_next done at false is ∙ append-nil (marked_below done at))) first

  pub undo_stops : (s t u : SessionView) (ks : List ℕ) (child : ℕ) (x : Refusal) → Exited s ks child t → IsMade kept size t (OnTasks (Remove child)) (Err TraceFull) u →
      Carries kept size s (undone ks child x) (Err TraceFull) u
  undo_stops s t u ks child x gone made =
      gone (Do (OnTasks (Remove child)) (λ reply. Answer_with (Err x))) (Err TraceFull) u (stops kept size t u (OnTasks (Remove child)) (Err TraceFull) made (λ reply. Answer_with (Err x)) refl)

  pub undo_full : (s t u : SessionView) (ks : List ℕ) (child : ℕ) (x : Refusal) (reply : Reply) → is_trace_full reply ≡ true → Exited s ks child t →
      IsMade kept size t (OnTasks (Remove child)) reply u → Carries kept size s (undone ks child x) (Err TraceFull) u
  undo_full s t u ks child x reply full gone made =
      undo_stops s t u ks child x gone (subst (λ r. IsMade kept size t (OnTasks (Remove child)) r u) (is_full reply full) made)

  pub undo_ends : (s t u : SessionView) (ks : List ℕ) (child : ℕ) (x : Refusal) (reply : Reply) → is_trace_full (Err x) ≡ false → is_trace_full reply ≡ false → Exited s ks child t →
      IsMade kept size t (OnTasks (Remove child)) reply u → Carries kept size s (undone ks child x) (Err x) u
  undo_ends s t u ks child x reply clear noted gone made =
      gone (Do (OnTasks (Remove child)) (λ reply. Answer_with (Err x))) (Err x) u
      (goes_on kept size t u (OnTasks (Remove child)) reply made (λ reply. Answer_with (Err x)) (Err x) u noted (ends kept size u (Err x) clear))
