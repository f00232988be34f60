use Rattle.std.proofs.Common.{ℕ, List, None, sym, subst, Result}
use Rattle.hp_model.specs.declared.event.SlotEvent.TheVariants.{Ls}
use Rattle.hp_laws.proofs.Variants.{Refusal}
use Rattle.hp_events.specs.Answered.{Went}
use Rattle.hp_events.specs.Replies.{names_reply}
use Rattle.hp_shared.proofs.Naming.{list_denied}
use Rattle.hp_shared.proofs.names.list_thrice.Goals as goal

pub returns-in-Err-clause-went : goal.returns-in-Err-clause-went
returns-in-Err-clause-went g c = λ size k.
    subst (λ (n : Result (List (List ℕ)) Refusal). Went size k c.args.mount.now Ls (names_reply n) None c.args.mount.now) (sym c.refused.ensures.names) (c.in-Err.ensures.went size k)

pub returns-in-Err-copied_twice-clause-went : goal.returns-in-Err-copied_twice-clause-went
returns-in-Err-copied_twice-clause-went g c = λ size k.
    subst (λ (n : Result (List (List ℕ)) Refusal). Went size k c.args.mount.now Ls (names_reply n) None c.args.mount.now) (sym c.refused-in-Err-copied_twice.ensures.names)
    (list_denied size k c.args.mount.now c.in-Ok.names (c.in-Ok.ensures.went size k))
