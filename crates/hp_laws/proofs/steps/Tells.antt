-- What an event asks of the pool depends on nr only where the pool tells it.
use Rattle.std.proofs.Common.{arith, ◌≡◌, ℕ}
use Rattle.hp_laws.proofs.Variants.{Answer, PoolAnswer, SlotEvent}
use Rattle.hp_model.proofs.Words.{Ask, Choice, Finish, Plan, Pool, Slot, gives, on_none, section, slot_event}
use Rattle.hp_laws.proofs.steps.PlanRules.{PlanRules, plan_gives, plan_walk}
use Rattle.hp_laws.proofs.steps.SlotsBalanced.{remount_tells, tells_nr}

-- what is asked for by the nr of the answer is what is asked for by the pool's
abbrev pub Tells : Plan → Type 0
Tells (Finish o) = Unit {0}
Tells (Ask s f) = (p : Pool) (a : PoolAnswer) (q : Pool) → section p (s a.nr) ≡ (a, q) → s p.nr ≡ s a.nr

tell_rules : PlanRules Tells
tell_rules = grind (arith, remount_tells)

pub tells_gives : (a : Answer) (old new : Slot) → Tells (gives a old new)
tells_gives a old new = plan_gives Tells tell_rules a old new

on_none_tells : (size : ℕ) (c : Choice) (e : SlotEvent) → Tells (on_none size c e)
on_none_tells size c e = grind (arith, tells_nr)

pub slot_event_tells : (size slot : ℕ) (c : Choice) (old : Slot) (e : SlotEvent) → Tells (slot_event size slot c old e)
slot_event_tells size slot c old e = grind (arith, on_none_tells, plan_walk, tell_rules)
