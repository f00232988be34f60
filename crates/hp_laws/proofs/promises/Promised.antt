-- Each step of a settled machine is as promised.
use Rattle.std.proofs.Common.{◌≡◌, ℕ, ◌<◌, true, false, Err, length, refl, ap, ◌∙◌, arith, ◌≤◌, Ok, Some}
use Rattle.hp_laws.proofs.Variants.{Event, Refusal, Slot as OnSlot, SlotEvent, Step}
use Rattle.hp_model.specs.declared.event.SlotEvent.TheVariants as slot
use Rattle.hp_model.proofs.Words.{Answered, Choice, IsEvent, IsSettledState, IsStep, IsWithinLimit, Outcome, Refused, Reply, State, is_backed_step}
use Rattle.hp_model.proofs.Words.{slot_at, slot_event, slot_usage, wants_page, Mount, Slot, file_forked, file_without}
use Rattle.hp_model.specs.machine.Footprint.{HasFootprint, of_others, with_childs, with_maps}
use Rattle.hp_laws.proofs.counts.Falls.{forked_falls, without_falls}
use Rattle.hp_laws.proofs.counts.MountMoves.{files_sweep}
use Rattle.hp_laws.proofs.follows.Slots.{at_rest, exit_to, fork_back, fork_to}
use Rattle.hp_laws.specs.Laws.{KeepsGoing, PromisesAreKept}
use Rattle.hp_laws.proofs.promises.Answered.{step_tells}
use Rattle.hp_laws.proofs.accesses.Backed.{fault_goes, load_goes, store_goes}
use Rattle.hp_laws.proofs.promises.Surplus.{step_bounded}
use Rattle.hp_laws.proofs.settled.CountsHold.{counts_are_sums, limits_hold, minimums_hold}
use Rattle.hp_laws.proofs.footprint.Footprint.{step_footprint, exit_footprint, fork_footprint}
use Rattle.hp_laws.proofs.steps.Outcomes.{Always, event_ends, reply_of}
use Rattle.hp_laws.proofs.promises.Shortage.{step_short}
use Rattle.hp_laws.proofs.settled.StaysSettled.{step_settled}
use Rattle.hp_laws.proofs.promises.TestsDecide.{step_meets}
use Rattle.hp_laws.proofs.steps.Whole.{by_event, early_pages, is_early, step_of}
use Rattle.hp_model.specs.declared.step.Step.TheVariants as step

-- accesses that go on, and the limits
record Kept (s : State) (step : Step) (reply : Reply) (t : State) : Type 0 where
  pub reserved : is_backed_step s step ≡ true → wants_page reply ≡ false
  pub limits : (k : ℕ) → k < length s.slots → slot_usage (slot_at s k) < slot_usage (slot_at t k) → IsWithinLimit (slot_at t k)

early_kept : (s : State) (step : Step) (r : Refusal) → is_early r ≡ true → Kept s step (Err r) s
early_kept s step r early = record { reserved = λ e. early_pages r early; limits = λ k l risen. absurd (omega (arith, risen)) }

module _ (s : State) (st : IsSettledState s) (reply : Reply) (t : State) where
  goes : (k : ℕ) (e : SlotEvent) → ((c : Choice) → Always KeepsGoing (slot_event s.page_size k c (slot_at s k) e)) → IsEvent s (OnSlot k e) reply t → wants_page reply ≡ false
  goes k e all is = let ends = event_ends KeepsGoing s k e reply t all is in ap wants_page ends.replied ∙ by_outcome ends.outcome ends.holds
    where
      by_outcome : (o : Outcome) → KeepsGoing o → wants_page (reply_of o) ≡ false
      by_outcome (Refused r) keeps = keeps
      by_outcome (Answered a new) keeps = refl

  -- an access that is backed does not want for a page
  event_goes : (e : Event) → IsEvent s e reply t → is_backed_step s (step_of e) ≡ true → wants_page reply ≡ false
  event_goes (OnSlot k (slot.Fault task home number i intent)) is backed =
      goes k (slot.Fault task home number i intent) (λ c. fault_goes s.page_size k c task home number i intent (slot_at s k) backed) is
  event_goes (OnSlot k (slot.Load task home number i offset count)) is backed = grind (arith, goes, load_goes)
  event_goes (OnSlot k (slot.Store task home number i offset bytes)) is backed = grind (arith, goes, store_goes)
  event_goes e is backed = grind arith

  event_kept : (e : Event) → IsEvent s e reply t → Kept s (step_of e) reply t
  event_kept e is = record { reserved = event_goes e is; limits = λ k l risen. limits_hold s e reply t k l st is risen }

-- where maps of a task end, no mount uses more
abbrev Less : ℕ → Slot → Slot → Type 0
Less j old new = slot_usage new ≤ slot_usage old

less_same : (j : ℕ) (x : Slot) → Less j x x
less_same j x = omega arith

module _ (gone : ℕ) (j : ℕ) (m : Mount) where
  others_less : Less j (Some m) (Some (with_maps (of_others gone) m))
  others_less = (files_sweep m (file_without gone) (without_falls gone)).usage

  childs_less : (parent : ℕ) → Less j (Some m) (Some (with_maps (with_childs parent gone) m))
  childs_less parent = (files_sweep m (file_forked parent gone) (forked_falls parent gone)).usage

module _ (s t : State) where
  no_rise : ((j : ℕ) → Less j (slot_at s j) (slot_at t j)) → (k : ℕ) → k < length s.slots → slot_usage (slot_at s k) < slot_usage (slot_at t k) → IsWithinLimit (slot_at t k)
  no_rise less k l risen = (let fewer = less k in absurd (omega (arith, fewer, risen)))

  fork_less : (parent child : ℕ) (reply : Reply) → HasFootprint s (step.Fork parent child) reply t → (j : ℕ) → Less j (slot_at s j) (slot_at t j)
  fork_less parent child (Ok a) is = fork_to Less less_same s t child (others_less child) parent (λ j m. childs_less child j m parent) a is.0
  fork_less parent child (Err r) is = fork_back Less less_same s t child (others_less child) parent r is

  exit_less : (task : ℕ) (reply : Reply) → HasFootprint s (step.Exit task) reply t → (j : ℕ) → Less j (slot_at s j) (slot_at t j)
  exit_less task (Ok a) is = exit_to Less less_same s t task (others_less task) a is.0
  exit_less task (Err r) e = at_rest Less less_same s t (ap (λ u. u.slots) e)

step_kept : (s : State) → IsSettledState s → (reply : Reply) (t : State) (step : Step) → IsStep s step reply t → Kept s step reply t
step_kept s st reply t step is = by_event s (λ step reply t. Kept s step reply t) (early_kept s) (λ e reply t whole it. event_kept s st reply t e it)
    (λ parent child reply t it. record { reserved = λ e. cc; limits = no_rise s t (fork_less s t parent child reply (fork_footprint s st parent child reply t it)) })
    (λ task reply t it. record { reserved = λ e. cc; limits = no_rise s t (exit_less s t task reply (exit_footprint s st task reply t it)) }) reply t step is

pub promised : PromisesAreKept
promised s step reply t st is =
    let kept = step_kept s st reply t step is in
    let after = step_settled s step reply t st is in
    record {
      reserved = kept.reserved;
      counts = counts_are_sums t after;
      limits = kept.limits;
      surplus = step_bounded s st reply t step is;
      minimums = minimums_hold t after;
      answers = step_tells s st reply t step is;
      tests = step_meets s reply t step is;
      short = step_short s reply t step is;
      footprint = step_footprint s st step reply t is;
    }
