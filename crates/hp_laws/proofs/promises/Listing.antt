-- Only the event that asks for the names of files answers a list of names.
use Rattle.std.proofs.Common.{arith, ◌≡◌, ℕ, false}
use Rattle.hp_laws.proofs.Variants.{SlotEvent}
use Rattle.hp_model.proofs.Words.{Choice, Outcome, Slot, slot_event}
use Rattle.hp_laws.specs.Answers.{HasNoNames, lists_names}
use Rattle.hp_laws.proofs.steps.Outcomes.{Always, always_weaker}
use Rattle.hp_laws.proofs.accesses.SlotShows.{always_value}
use Rattle.hp_laws.proofs.promises.SmallReplies.{Plain, slot_plain}

plain_names_none : (o : Outcome) → Plain o → HasNoNames o
plain_names_none o h = grind arith

pub names_are_listed : (size k : ℕ) (c : Choice) (old : Slot) (e : SlotEvent) → lists_names e ≡ false → Always HasNoNames (slot_event size k c old e)
names_are_listed size k c old e e' = grind (arith, always_value, always_weaker, Plain, plain_names_none, slot_plain)
