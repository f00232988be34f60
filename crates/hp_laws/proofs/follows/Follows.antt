-- What follows from the promises of a step.
use Rattle.std.proofs.lemmas.Grind.{common_steps}
use Rattle.std.proofs.Common.{ℕ, Ok, Err, arith, ◌≡◌, ◌⊎◌, subst, sym}
use Rattle.hp_model.proofs.Words.{IsSettledState, MeetsTests, Reply, State, slot_at, Spot, cell_at, shown, value}
use Rattle.hp_model.specs.declared.step.Step.{Step}
use Rattle.hp_model.specs.machine.Footprint.{HasFootprint}
use Rattle.hp_laws.proofs.follows.Kept.{all_kept}
use Rattle.hp_laws.proofs.names.Changes.{KeptMap, effect}
use Rattle.hp_laws.specs.Follows.{AreOnce, IsGone, Touches, LosesTo, StillMapped, StillNamed, seen_over, stored_over}
use Rattle.hp_laws.specs.Laws.{WhatFollows}
use Rattle.hp_laws.proofs.follows.CutOff.{stopped}
use Rattle.hp_laws.proofs.follows.Gone.{step_gone}
use Rattle.hp_laws.proofs.follows.Others.{step_whole}
use Rattle.hp_laws.proofs.follows.Touched.{touched}
use Rattle.hp_laws.proofs.footprint.Footprint.{step_footprint}
use Rattle.hp_laws.proofs.promises.TestsDecide.{step_meets}
use Rattle.hp_laws.proofs.settled.StaysSettled.{step_settled}

all_gone : (s t : State) → IsSettledState s → (step : Step) (reply : Reply) → HasFootprint s step reply t → IsGone step reply t
all_gone s t st step (Ok a) is = step_gone s t st step a is.0
all_gone s t st step (Err r) is = grind arith

all_touched : (s t : State) (step : Step) (reply : Reply) → HasFootprint s step reply t → MeetsTests s step reply → Touches step reply t
all_touched s t step (Ok a) is met = touched s step a t is.0 met
all_touched s t step (Err r) is met = grind arith

once : (t : State) → IsSettledState t → (slot : ℕ) → AreOnce (slot_at t slot)
once t st k = grind (arith, common_steps)

still_mapped : (s t : State) (x : Step) (reply : Reply) → t.page_size ≡ s.page_size → (k : ℕ) (p q : Spot) (i : ℕ)
    → KeptMap s.page_size (slot_at s k) (effect s x reply k) (slot_at t k) (λ p q i. LosesTo s x t k p q i) p q i → StillMapped s x reply t k p q i
still_mapped s t x reply size k p q i kept = record {
  shape = kept.shape;
  file = kept.file;
  marked = kept.marked;
  shows = subst (λ n. (value n q.file q.map i ≡ seen_over s x reply k p.file_no p.map_no i (value s.page_size p.file p.map i)) ⊎ LosesTo s x t k p q i) (sym size) kept.shows;
}

pub follows : WhatFollows
follows s step reply t st is =
    let all = all_kept s t step reply (step_meets s reply t step is) (step_footprint s st step reply t is) in
    record {
      elsewhere = λ slot. (all.0 slot).2;
      settings = all.2.0;
      mounts = λ slot. (all.0 slot).0;
      files = λ slot name i f goes_on named.
          subst (λ n. StillNamed n (slot_at t slot) name i (stored_over s step reply slot f.0 i (shown s.page_size (cell_at f.1 i)))) (sym all.2.1) ((all.1 slot).names name i f goes_on named);
      maps = λ slot task number i p goes_on found.
          (let q = (all.1 slot).numbers task number i p goes_on found in (q.0, q.1, still_mapped s t step reply all.2.1 slot p q.0 i q.2));
      together = λ slot a b p o first second. (all.1 slot).together a b p o first.0 second.0 first.1 second.1;
      whole = step_whole s t step reply (step_footprint s st step reply t is);
      touched = all_touched s t step reply (step_footprint s st step reply t is) (step_meets s reply t step is);
      cut_off = stopped s step reply (step_meets s reply t step is);
      gone = all_gone s t st step reply (step_footprint s st step reply t is);
      held = λ slot. (all.0 slot).1;
      once = once t (step_settled s step reply t st is);
    }
