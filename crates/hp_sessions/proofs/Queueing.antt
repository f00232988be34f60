-- Loads, stores and faults that their slot takes together.
use Rattle.std.proofs.Common.{◌≡◌, ℕ, ◌+◌, ◌-◌, ◌<◌, ◌≤◌, Bool, false, List, [], ◌∷◌, ◌++◌, Ok, length, take, drop, refl, sym, ap, subst, ◌∙◌, arith, append-nil, length-drop, take-add, take_all}
use Rattle.std.proofs.Math.ListN.{drop_of_length-le}
use Rattle.std.proofs.Math.Seq.{drop-append-add, take-append-add}
use Rattle.std.proofs.lemmas.List.{drop-drop, length-take-le}
use borrow.Rule.Slice.PartMut.{put_mid}
use Rattle.hp_model.proofs.Queues.{does_both}
use Rattle.hp_model.proofs.Words.{DoesAll, QueuedView, Reply, finding, on_slot}
use Rattle.hp_laws.proofs.Variants.{Fault, Find, Home, Load, Receipt, Slot as OnSlot, SlotEvent, Step, Store, Tasks as OnTasks}
use Rattle.hp_model.specs.declared.event.SlotEvent.TheVariants as slot
use Rattle.hp_events.specs.Time.{Clock}
use Rattle.hp_events.specs.Queues.{AreAccessesHanded, AreFirstHanded, IsAccessHanded, IsFoundAndHanded}
use Rattle.hp_sessions.specs.Calls.{Carries, IsCallMade, SessionView}
use Rattle.hp_sessions.proofs.Carrying.{answered, found, made, on_slot_made, view_is, with_receipts}

abbrev pub Called : Bool → ℕ → SessionView → Step → Reply → SessionView → Type 0
Called kept size s step reply t = IsCallMade kept size s step reply t

module _ (size slots room at : ℕ) (clock : Clock) (within : at < slots) where
  abbrev Told : List Receipt → SessionView
  Told rs = record { slots = slots; receipts = rs; room = room; clock = clock }

  -- the task is found, and its slot answers
  found_and_answered : (task : ℕ) (event : ℕ → SlotEvent) (reply : Reply) (was now : List Receipt) → IsFoundAndHanded size at task event reply was now
      → Carries false size (Told was) (finding task (λ home. on_slot slots at (event home))) reply (Told now)
  found_and_answered task event reply was now h =
      found false size (Told was) (Told h.between) task h.home (made (Told was) (Told h.between) refl refl refl false size (OnTasks (Find task)) (Ok (Home h.home)) h.found)
      (λ home. on_slot slots at (event home)) reply (Told now)
      (on_slot_made false size (Told h.between) (Told now) at (event h.home) reply within
      (made (Told h.between) (Told now) refl refl refl false size (OnSlot at (event h.home)) reply h.handed))

  access_answered : (step : Step) (reply : Reply) (was now : List Receipt) → IsAccessHanded size at step reply was now → Called false size (Told was) step reply (Told now)
  access_answered (Load task k number i offset count) reply was now h =
      answered false size (Told was) (Told now) (Load task k number i offset count) reply (λ k. cc)
      (subst (λ n. Carries false size (Told was) (finding task (λ home. on_slot slots n (slot.Load task home number i offset count))) reply (Told now)) (sym h.0)
      (found_and_answered task (λ home. slot.Load task home number i offset count) reply was now h.1))
  access_answered (Store task k number i offset bytes) reply was now h =
      answered false size (Told was) (Told now) (Store task k number i offset bytes) reply (λ k. cc)
      (subst (λ n. Carries false size (Told was) (finding task (λ home. on_slot slots n (slot.Store task home number i offset bytes))) reply (Told now)) (sym h.0)
      (found_and_answered task (λ home. slot.Store task home number i offset bytes) reply was now h.1))
  access_answered (Fault task k number i intent) reply was now h =
      answered false size (Told was) (Told now) (Fault task k number i intent) reply (λ k. cc)
      (subst (λ n. Carries false size (Told was) (finding task (λ home. on_slot slots n (slot.Fault task home number i intent))) reply (Told now)) (sym h.0)
      (found_and_answered task (λ home. slot.Fault task home number i intent) reply was now h.1))
  access_answered other reply was now h = absurd h

  -- each is answered
  all_answered : (before after : List QueuedView) (was now : List Receipt) → AreAccessesHanded size at before after was now → DoesAll (Called false size) (Told was) before after (Told now)
  all_answered [] [] was now h = ap Told (sym h)
  all_answered [] (a ∷ rest) was now h = absurd h
  all_answered (b ∷ bs) [] was now h = absurd h
  all_answered (b ∷ bs) (a ∷ rest) was now h = (Told h.0, access_answered b.step a.reply was h.0 h.1, all_answered bs rest h.0 now h.2)

module _ (kept : Bool) (size at n : ℕ) (before after : List QueuedView) (unkept : kept ≡ false) where
  all_together : (s t : SessionView) → at < s.slots → t.slots ≡ s.slots → t.room ≡ s.room → t.clock ≡ s.clock → AreFirstHanded size at n before after s.receipts t.receipts
      → DoesAll (Called kept size) s (take n before) (take n after) t
  all_together s t within slots room clock h =
      subst (λ (w : SessionView). DoesAll (Called kept size) s (take n before) (take n after) w) (sym (view_is s t slots room clock))
      (subst (λ k. DoesAll (Called k size) s (take n before) (take n after) (with_receipts s t.receipts)) (sym unkept)
      (all_answered size s.slots s.room at s.clock within (take n before) (take n after) s.receipts t.receipts h.handed))

  pub together : {v : SessionView} (s t : SessionView) → v ≡ s → at < v.slots → t.slots ≡ v.slots → t.room ≡ v.room → t.clock ≡ v.clock → AreFirstHanded size at n before after v.receipts t.receipts
      → DoesAll (Called kept size) s (take n before) (take n after) t
  together {v} s t is within slots room clock h =
      subst (λ (w : SessionView). DoesAll (Called kept size) w (take n before) (take n after) t) is (all_together v t within slots room clock h)

-- ---- a queue, of which the first are done

-- behind `at` stands what these were made
abbrev Behind : ℕ → (now made : List QueuedView) → List QueuedView
Behind at now made = put_mid at (length now - at) now made

behind_is : (at : ℕ) (now made : List QueuedView) → Behind at now made ≡ take at now ++ made
behind_is at now made =
    ap (λ xs. take at now ++ (made ++ xs)) (drop_of_length-le (drop at now) (omega (arith, length-drop at now))) ∙ ap (λ xs. take at now ++ xs) (append-nil made)

-- what is lent is all behind `at`
pub lent_is : (at : ℕ) (now : List QueuedView) → take (length now - at) (drop at now) ≡ drop at now
lent_is at now = take_all (length now - at) (drop at now) (omega (arith, length-drop at now))

pub first_taken : (at n : ℕ) (now made : List QueuedView) → at ≤ length now → take (at + n) (Behind at now made) ≡ take at now ++ take n made
first_taken at n now made within =
    ap (take (at + n)) (behind_is at now made) ∙ ap (λ k. take (k + n) (take at now ++ made)) (sym (length-take-le at now within)) ∙ take-append-add (take at now) made n

pub left_behind : (at n : ℕ) (now made : List QueuedView) → at ≤ length now → drop (at + n) (Behind at now made) ≡ drop n made
left_behind at n now made within =
    ap (drop (at + n)) (behind_is at now made) ∙ ap (λ k. drop (k + n) (take at now ++ made)) (sym (length-take-le at now within)) ∙ drop-append-add (take at now) made n

module _ (kept : Bool) (size : ℕ) (s t : SessionView) (before now : List QueuedView) (at : ℕ) (within : at ≤ length now) (left : drop at now ≡ drop at before)
    (all : DoesAll (Called kept size) s (take at before) (take at now) t) where
  -- some more are done together
  pub several_more : (u : SessionView) (n : ℕ) (made : List QueuedView) → DoesAll (Called kept size) t (take n (take (length now - at) (drop at now))) (take n made) u
      → DoesAll (Called kept size) s (take (at + n) before) (take (at + n) (Behind at now made)) u
  several_more u n made more =
      rw (take-add at n before, first_taken at n now made within)
      (does_both (Called kept size) s t u (take at before) (take at now) (take n (drop at before)) (take n made) all
      (subst (λ xs. DoesAll (Called kept size) t (take n xs) (take n made) u) (lent_is at now ∙ left) more))

  pub several_left : (n : ℕ) (made : List QueuedView) → drop n made ≡ drop n (take (length now - at) (drop at now)) → drop (at + n) (Behind at now made) ≡ drop (at + n) before
  several_left n made same = left_behind at n now made within ∙ same ∙ ap (drop n) (lent_is at now ∙ left) ∙ drop-drop n at before
