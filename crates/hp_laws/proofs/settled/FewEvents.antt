-- How many events a step is told by.
use Rattle.std.proofs.Common.{◌≡◌, inl, inr, ℕ, zero, suc, ◌+◌, ◌*◌, ◌<◌, ◌≤◌, Ok, Err, List, [], ◌∷◌, ◌++◌, length, arith, subst, nat_lt}
use Rattle.std.specs.List.{range_with_len}
use Rattle.std.proofs.lemmas.Bool.{cond_both}
use Rattle.std.proofs.lemmas.List.{length-append}
use Rattle.hp_model.specs.declared.answer.Answer.TheVariants as answer
use Rattle.hp_laws.proofs.Variants.{Attach, Connect, Event, Exit, Fork, NoSuchSlot, Refusal, Slot as OnSlot, SlotEvent, Step, Tasks}
use Rattle.hp_model.specs.declared.event.TableEvent.TheVariants as table
use Rattle.hp_model.proofs.Words.{Answer_with, Do, Reply, Script, Tells, TellsFront, Where_mapped, exit_slots, fork_slots, home_in, most_receipts, on_slot, only, or_undone, script, undone, when_done}
use Rattle.hp_laws.proofs.sections.SectionTies.{long_range}

-- the script makes no more events than that
abbrev AtMost : ℕ → Script → Type 0
AtMost n (Answer_with r) = Unit {0}
AtMost zero (Do e next) = ⊥
AtMost (suc n) (Do e next) = (r : Reply) → AtMost n (next r)
AtMost n (Where_mapped k task mapped other) = AtMost n mapped × AtMost n other

most : (n : ℕ) (s : Script) → AtMost n s → (xs : List (Event × Reply)) (reply : Reply) → Tells s xs reply → length xs ≤ n
most zero (Do e next) all xs reply t = absurd all
most (suc n) (Do e next) all [] reply t = absurd t
most (suc n) (Do e next) all (x ∷ xs) reply t = (let l = most n (next x.1) (all x.1) xs reply t.1 in omega (arith, l))
most n (Where_mapped k task mapped other) all xs reply (inl t) = most n mapped all.0 xs reply t
most n (Where_mapped k task mapped other) all xs reply (inr t) = most n other all.1 xs reply t
most n (Answer_with r) all xs reply t = grind arith

front : (n : ℕ) (s : Script) → AtMost n s → (xs : List (Event × Reply)) → TellsFront s xs → length xs < n
front n (Answer_with r) all xs t = absurd t
front zero (Do e next) all xs t = absurd all
front (suc n) (Do e next) all [] t = omega arith
front (suc n) (Do e next) all (x ∷ xs) t = (let l = front n (next x.1) (all x.1) xs t.1 in omega (arith, l))
front n (Where_mapped k task mapped other) all xs (inl t) = front n mapped all.0 xs t
front n (Where_mapped k task mapped other) all xs (inr t) = front n other all.1 xs t

more : (n : ℕ) (s : Script) → AtMost n s → AtMost (suc n) s
more n (Answer_with r) all = tt
more zero (Do e next) all = absurd all
more (suc n) (Do e next) all = λ r. more n (next r) (all r)
more n (Where_mapped k task mapped other) all = (more n mapped all.0, more n other all.1)

more_by : (k n : ℕ) (s : Script) → AtMost n s → AtMost (k + n) s
more_by zero n s all = subst (λ m. AtMost m s) (omega arith) all
more_by (suc k) n s all = subst (λ m. AtMost m s) (omega arith) (more (k + n) s (more_by k n s all))

slot_one : (slots k : ℕ) (e : SlotEvent) → AtMost 1 (on_slot slots k e)
slot_one slots k e = cond_both (nat_lt k slots) (only (OnSlot k e)) (Answer_with (Err NoSuchSlot)) (AtMost 1) (λ t r. tt) (λ t. tt)

finding_two : (slots k : ℕ) (f : ℕ → SlotEvent) (r : Reply) → AtMost 1 (home_in r (λ home. on_slot slots k (f home)))
finding_two slots k f r = grind arith

exits : (ks : List ℕ) (task n : ℕ) (next : Script) → AtMost n next → AtMost (length ks + n) (exit_slots ks task next)
exits [] task n next all = subst (λ m. AtMost m next) (omega arith) all
exits (k ∷ ks) task n next all =
    let rest = exits ks task n next all in
    let both : AtMost (suc (length ks + n)) (exit_slots (k ∷ ks) task next) = ((λ r. rest), more (length ks + n) (exit_slots ks task next) rest) in
    subst (λ m. AtMost m (exit_slots (k ∷ ks) task next)) (omega arith) both

-- with so many slots done, and so many left
forks : (ks done : List ℕ) (parent child : ℕ) → AtMost (2 * length ks + length done) (fork_slots ks done parent child)
forks [] done parent child = tt
forks (k ∷ ks) done parent child =
    let rest = forks ks (done ++ k ∷ []) parent child in
    let long = length-append done (k ∷ []) in
    let here : AtMost (2 * length ks + length done + 1) (fork_slots ks (done ++ k ∷ []) parent child) =
    subst (λ n. AtMost n (fork_slots ks (done ++ k ∷ []) parent child)) (omega (arith, long)) rest in
    let back : (r : Refusal) → AtMost (2 * length ks + (length done + 1)) (undone done child r) = λ r.
    more_by (2 * length ks) (length done + 1) (undone done child r) (exits done child 1
    (Do (Tasks (table.Remove child)) (λ reply. Answer_with (Err r))) (λ reply. tt)) in
    let each : (r : Reply) → AtMost (2 * length ks + length done + 1) (or_undone done child r (fork_slots ks (done ++ k ∷ []) parent child)) =
    go here (λ r. subst (λ n. AtMost n (undone done child r)) (omega arith) (back r)) in
    let both : AtMost (suc (2 * length ks + length done + 1)) (fork_slots (k ∷ ks) done parent child) = (
      each,
      subst (λ n. AtMost n (fork_slots ks done parent child)) (omega arith)
          (more_by 2 (2 * length ks + length done) (fork_slots ks done parent child) (forks ks done parent child)),
    ) in
    subst (λ n. AtMost n (fork_slots (k ∷ ks) done parent child)) (omega arith) both
  where
    go : AtMost (2 * length ks + length done + 1) (fork_slots ks (done ++ k ∷ []) parent child) → ((r : Refusal) → AtMost (2 * length ks + length done + 1) (undone done child r))
        → (r : Reply) → AtMost (2 * length ks + length done + 1) (or_undone done child r (fork_slots ks (done ++ k ∷ []) parent child))
    go here back (Err r) = back r
    go here back (Ok a) = here

fork_most : (slots parent child : ℕ) (r : Reply) → AtMost (2 * slots) (when_done r (fork_slots (range_with_len 0 slots) [] parent child))
fork_most slots parent child (Err r) = tt
fork_most slots parent child (Ok a) = subst (λ n. AtMost n (fork_slots (range_with_len 0 slots) [] parent child))
    (let l = long_range 0 slots in omega (arith, l)) (forks (range_with_len 0 slots) [] parent child)

exit_most : (slots task : ℕ) (r : Reply) → AtMost slots (when_done r (exit_slots (range_with_len 0 slots) task (Answer_with (Ok answer.Done))))
exit_most slots task (Err r) = tt
exit_most slots task (Ok a) = subst (λ n. AtMost n (exit_slots (range_with_len 0 slots) task (Answer_with (Ok answer.Done))))
    (let l = long_range 0 slots in omega (arith, l)) (exits (range_with_len 0 slots) task 0 (Answer_with (Ok answer.Done)) tt)

steps : (slots : ℕ) (step : Step) → AtMost (most_receipts slots step) (script slots step)
steps slots (Connect task home) = λ r. tt
steps slots (Attach task) = λ r. tt
steps slots (Fork parent child) =
    let all : AtMost (suc (2 * slots)) (script slots (Fork parent child)) = fork_most slots parent child in
    let is : suc (2 * slots) ≡ 2 * slots + 1 = omega arith in
    subst (λ n. AtMost n (script slots (Fork parent child))) is all
steps slots (Exit task) =
    let all : AtMost (suc slots) (script slots (Exit task)) = exit_most slots task in
    let is : suc slots ≡ slots + 1 = omega arith in
    subst (λ n. AtMost n (script slots (Exit task))) is all
steps slots step = grind (arith, slot_one, finding_two)

pub receipts_are_few : (slots : ℕ) (step : Step) (xs : List (Event × Reply)) →
    ((reply : Reply) → Tells (script slots step) xs reply → length xs ≤ most_receipts slots step)
    × (TellsFront (script slots step) xs → length xs < most_receipts slots step)
receipts_are_few slots step xs = (most (most_receipts slots step) (script slots step) (steps slots step) xs, front (most_receipts slots step) (script slots step) (steps slots step) xs)
