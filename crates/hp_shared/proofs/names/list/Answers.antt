use Rattle.std.proofs.Common.{Err, None, Ok, Some, sym, subst}
use Rattle.hp_laws.proofs.Variants.{Answer, Names, NoSuchSlot}
use Rattle.hp_model.specs.declared.event.SlotEvent.TheVariants.{Ls}
use Rattle.hp_model.proofs.Words.{Slot, told_answer}
use Rattle.hp_events.specs.Answered.{Went}
use Rattle.hp_shared.proofs.Naming.{ls_names, none_listed, went_alone}
use Rattle.hp_shared.proofs.SlotsKept.{not_full}
use Rattle.hp_shared.proofs.names.list.Goals as goal

pub names_of-requires : goal.names_of-requires
names_of-requires g c = ls_names 0 0 c.in-Some.mount (told_answer c.in-Ok.told) (Some c.in-Some.mount) (c.in-Ok.ensures.done 0 0)

pub returns-in-None-clause-went : goal.returns-in-None-clause-went
returns-in-None-clause-went g c = λ size k.
    subst (λ (s : Slot). Went size k s Ls (Err NoSuchSlot) None s) (sym c.in-None.is) (none_listed size k)

pub returns-in-Ok-clause-went : goal.returns-in-Ok-clause-went
returns-in-Ok-clause-went g c = λ size k.
    subst (λ (s : Slot). Went size k s Ls (Ok (Names c.names_of.result)) None s) (sym c.in-Some.is)
    (subst (λ (a : Answer). Went size k (Some c.in-Some.mount) Ls (Ok a) None (Some c.in-Some.mount)) c.names_of.ensures
    (went_alone size k (Some c.in-Some.mount) Ls (Ok (told_answer c.in-Ok.told)) (Some c.in-Some.mount) (c.in-Ok.ensures.done size k)))

pub returns-in-Err-clause-went : goal.returns-in-Err-clause-went
returns-in-Err-clause-went g c = λ size k.
    subst (λ (s : Slot). Went size k s Ls (Err c.in-Err.refusal) None s) (sym c.in-Some.is)
    (went_alone size k (Some c.in-Some.mount) Ls (Err c.in-Err.refusal) (Some c.in-Some.mount) (c.in-Err.ensures.done size k))

pub returns-in-Err-clause-noted : goal.returns-in-Err-clause-noted
returns-in-Err-clause-noted g c = not_full (Err c.in-Err.refusal) c.in-Err.ensures.noted
