-- Each event of a run is as promised.
use Rattle.std.proofs.Common.{ℕ, [], ◌∷◌}
use Rattle.hp_laws.proofs.Variants.{Event, Pool as OnPool, Slot as OnSlot, SlotEvent, Tasks}
use Rattle.hp_model.specs.declared.event.SlotEvent.TheVariants as slot
use Rattle.hp_model.proofs.Words.{IsEvent, IsSettledState, Reply, State}
use Rattle.hp_laws.specs.Runs.{IsPromisedEvent, RunsArePromised, ShowsOn, ShowsWhatIs}
use Rattle.hp_laws.proofs.promises.Answered.{slot_answers}
use Rattle.hp_laws.proofs.settled.CountsHold.{counts_are_sums, limits_hold, minimums_hold}
use Rattle.hp_laws.proofs.settled.StaysSettled.{event_settled}

module _ (s : State) (st : IsSettledState s) (reply : Reply) (t : State) where
  slot_shows : (k : ℕ) (e : SlotEvent) → IsEvent s (OnSlot k e) reply t → ShowsOn s k e reply t
  slot_shows k (slot.Load task home number i offset count) is = slot_answers s st k (slot.Load task home number i offset count) reply t is
  slot_shows k (slot.Read name i offset count) is = slot_answers s st k (slot.Read name i offset count) reply t is
  slot_shows k other is = tt

  shows : (e : Event) → IsEvent s e reply t → ShowsWhatIs s e reply t
  shows (Tasks e) is = tt
  shows (OnSlot k e) is = slot_shows k e is
  shows (OnPool e) is = tt

  promised : (e : Event) → IsEvent s e reply t → IsPromisedEvent s e reply t
  promised e is =
      let after = event_settled s e reply t st is in
      record {
        counts = counts_are_sums t after;
        limits = λ k below more. limits_hold s e reply t k below st is more;
        minimums = minimums_hold t after;
        shown = shows e is;
      }

pub runs_promised : RunsArePromised
runs_promised s [] t st run = tt
runs_promised s (x ∷ es) t st run = (
  promised s st x.1 run.0 x.0 run.1,
  runs_promised run.0 es t (event_settled s x.0 x.1 run.0 st run.1) run.2,
)
