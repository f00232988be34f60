-- Loads, stores and faults under one hold of their slot.
use Rattle.std.proofs.Common.{◌≡◌, ℕ, ◌+◌, ◌-◌, ◌<◌, ◌≤◌, List, [], ◌∷◌, ◌++◌, length, take, drop, slice_set, Bool, false, Ok, subst, sym, ap, ◌∙◌, arith, append-nil, length-drop, take-add, take_all}
use lib.ListN.{get_or}
use Rattle.std.proofs.Math.ListN.{drop_of_length-le}
use Rattle.std.proofs.Math.Seq.{drop-append-add, take-append-add}
use Rattle.std.proofs.lemmas.List.{drop-drop, length-take-le, set-get_or}
use borrow.Rule.Slice.PartMut.{put_mid}
use Rattle.hp_model.proofs.Queues.{does_both, does_next, left_next}
use Rattle.hp_model.proofs.Words.{DoesAll, QueuedView, Reply}
use Rattle.hp_laws.proofs.Variants.{Find, Home, Receipt, Slot as OnSlot, SlotEvent, Step, Tasks as OnTasks}
use Rattle.hp_events.specs.Answered.{IsHanded}
use Rattle.hp_events.specs.Queues.{AreAccessesHanded, AreFirstHanded, IsAccessHanded, IsFoundAndHanded}

module _ (size at : ℕ) where
  abbrev Handed : List Receipt → Step → Reply → List Receipt → Type 0
  Handed was step reply now = IsAccessHanded size at step reply was now

  to_all : (was now : List Receipt) (before after : List QueuedView) → AreAccessesHanded size at before after was now → DoesAll Handed was before after now
  to_all was now [] [] h = sym h
  to_all was now [] (a ∷ rest) h = absurd h
  to_all was now (b ∷ bs) [] h = absurd h
  to_all was now (b ∷ bs) (a ∷ rest) h = (h.0, h.1, to_all h.0 now bs rest h.2)

  from_all : (was now : List Receipt) (before after : List QueuedView) → DoesAll Handed was before after now → AreAccessesHanded size at before after was now
  from_all was now [] [] h = sym h
  from_all was now [] (a ∷ rest) h = absurd h
  from_all was now (b ∷ bs) [] h = absurd h
  from_all was now (b ∷ bs) (a ∷ rest) h = (h.0, h.1, from_all h.0 now bs rest h.2)

  -- one more is answered
  pub handed_next : (was mid end : List Receipt) (before now : List QueuedView) (n : ℕ) (a d : QueuedView) → n < length before → length now ≡ length before → drop n now ≡ drop n before
      → AreAccessesHanded size at (take n before) (take n now) was mid → IsAccessHanded size at (get_or now n d).step a.reply mid end
      → AreAccessesHanded size at (take (n + 1) before) (take (n + 1) (slice_set now n a)) was end
  handed_next was mid end before now n a d within same left handed one =
      from_all was end (take (n + 1) before) (take (n + 1) (slice_set now n a))
      (does_next Handed was mid end before now n a d within same left (to_all was mid (take n before) (take n now) handed) one)

  -- some more are
  handed_both : (was mid end : List Receipt) (before after others then : List QueuedView) → AreAccessesHanded size at before after was mid → AreAccessesHanded size at others then mid end
      → AreAccessesHanded size at (before ++ others) (after ++ then) was end
  handed_both was mid end before after others then first more =
      from_all was end (before ++ others) (after ++ then)
      (does_both Handed was mid end before after others then (to_all was mid before after first) (to_all mid end others then more))

-- ---- a queue, of which those behind a place were lent

-- behind it stands what these were made
abbrev Behind : ℕ → (now made : List QueuedView) → List QueuedView
Behind i now made = put_mid i (length now - i) now made

behind_is : (i : ℕ) (now made : List QueuedView) → Behind i now made ≡ take i now ++ made
behind_is i now made =
    ap (λ xs. take i now ++ (made ++ xs)) (drop_of_length-le (drop i now) (omega (arith, length-drop i now))) ∙ ap (λ xs. take i now ++ xs) (append-nil made)

lent_is : (i : ℕ) (now : List QueuedView) → take (length now - i) (drop i now) ≡ drop i now
lent_is i now = take_all (length now - i) (drop i now) (omega (arith, length-drop i now))

taken_to : (i n : ℕ) (now made : List QueuedView) → i ≤ length now → take (i + n) (Behind i now made) ≡ take i now ++ take n made
taken_to i n now made within =
    ap (take (i + n)) (behind_is i now made) ∙ ap (λ k. take (k + n) (take i now ++ made)) (sym (length-take-le i now within)) ∙ take-append-add (take i now) made n

left_from : (i n : ℕ) (now made : List QueuedView) → i ≤ length now → drop (i + n) (Behind i now made) ≡ drop n made
left_from i n now made within =
    ap (drop (i + n)) (behind_is i now made) ∙ ap (λ k. drop (k + n) (take i now ++ made)) (sym (length-take-le i now within)) ∙ drop-append-add (take i now) made n

module _ (size at i n : ℕ) (was mid end : List Receipt) (before now made : List QueuedView) (within : i ≤ length now) (same : length now ≡ length before)
    (left : drop i now ≡ drop i before) (handed : AreAccessesHanded size at (take i before) (take i now) was mid)
    (more : AreFirstHanded size at n (take (length now - i) (drop i now)) made mid end) where
  -- the first of those that were lent are answered too
  pub several_handed : AreFirstHanded size at (i + n) before (Behind i now made) was end
  several_handed = record {
    few = omega (arith, more.few, ap length (lent_is i now), length-drop i now, within, same);
    handed = rw (take-add i n before, taken_to i n now made within)
        (handed_both size at was mid end (take i before) (take i now) (take n (drop i before)) (take n made) handed
        (subst (λ xs. AreAccessesHanded size at (take n xs) (take n made) mid end) (lent_is i now ∙ left) more.handed));
    left = left_from i n now made within ∙ more.left ∙ ap (drop n) (lent_is i now ∙ left) ∙ drop-drop n i before;
  }

  -- none of them are
  none_handed : n ≡ 0 → AreFirstHanded size at i before (Behind i now made) was end
  none_handed none = subst (λ k. AreFirstHanded size at k before (Behind i now made) was end) (omega (arith, none)) several_handed

  -- nor is the next
  pub unchanged_handed : n ≡ 0 → (a d : QueuedView) → a ≡ get_or (Behind i now made) i d → AreFirstHanded size at i before (slice_set (Behind i now made) i a) was end
  unchanged_handed none a d is =
      subst (λ qs. AreFirstHanded size at i before qs was end) (sym (ap (slice_set (Behind i now made) i) is ∙ set-get_or (Behind i now made) i d)) (none_handed none)

  -- but the next is
  pub next_handed : n ≡ 0 → (a d : QueuedView) (last : List Receipt) → i < length before → length (Behind i now made) ≡ length before
      → IsAccessHanded size at (get_or (Behind i now made) i d).step a.reply end last → AreFirstHanded size at (i + 1) before (slice_set (Behind i now made) i a) was last
  next_handed none a d last here whole one =
      let first = none_handed none in
      record {
        few = omega (arith, here);
        handed = handed_next size at was end last before (Behind i now made) i a d here whole first.left first.handed one;
        left = left_next before (Behind i now made) i a first.left;
      }

-- a task is found, and then its slot answers
pub found_handed : (kept : Bool) (size at task home : ℕ) (event : ℕ → SlotEvent) (reply : Reply) (was mid now : List Receipt) → kept ≡ false →
    IsHanded kept size (OnTasks (Find task)) (Ok (Home home)) was mid → IsHanded kept size (OnSlot at (event home)) reply mid now →
    IsFoundAndHanded size at task event reply was now
found_handed kept size at task home event reply was mid now unkept found answered = record {
  home = home;
  between = mid;
  found = subst (λ k. IsHanded k size (OnTasks (Find task)) (Ok (Home home)) was mid) unkept found;
  handed = subst (λ k. IsHanded k size (OnSlot at (event home)) reply mid now) unkept answered;
}

-- what is answered to an event, by what event it is
pub handed_of : (kept : Bool) (size at : ℕ) (e f : SlotEvent) (reply : Reply) (was now : List Receipt) → e ≡ f → IsHanded kept size (OnSlot at e) reply was now →
    IsHanded kept size (OnSlot at f) reply was now
handed_of kept size at e f reply was now same handed = subst (λ (x : SlotEvent). IsHanded kept size (OnSlot at x) reply was now) same handed
