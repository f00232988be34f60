use Rattle.std.proofs.lemmas.Grind.{common_steps}
-- Short replies, as those that they stand for.
use Rattle.std.proofs.Common.{◌≡◌, ℕ, List, Ok, Err, ap, arith, Result}
use Rattle.hp_laws.proofs.Variants.{PoolAnswer, Refusal, Section, SlotEvent}
use Rattle.hp_model.specs.declared.refusal.Refusal.TheVariants as r
use Rattle.hp_model.proofs.Words.{Reply, Slot, bytes_reply, done_reply}
use Rattle.hp_mount_laws.specs.Done.{IsDone}
use denote.Ref.{Bor}

-- an event with its reply, by other words for both
pub told_as : {X : Type 0} (took : X → Section → PoolAnswer → X → Type 0) (full : X → Type 0) (size k : ℕ) (old new : Slot) (door left : X) {e f : SlotEvent} {a b : Reply} → e ≡ f → a ≡ b
    → IsDone took full size k old door f b new left → IsDone took full size k old door e a new left
told_as took full size k old new door left {e} {f} {a} {b} event reply h = grind (arith, common_steps)

refusal_is : {A B : Type 0} {e x : Refusal} → ◌≡◌ {A = Result A Refusal} (Err e) (Err x) → ◌≡◌ {A = Result B Refusal} (Err e) (Err x)
refusal_is {B} {e} {x} h = ap Err err_is
  where
    err_is : e ≡ x
    err_is = cc

-- it is not for want of memory
pub done_not_memory : (result : Result (Unit {0}) Refusal) → (result ≡ Err r.OutOfMemory → ⊥) → done_reply result ≡ Err r.OutOfMemory → ⊥
done_not_memory (Ok done) never e = cc
done_not_memory (Err e) never same = never (refusal_is same)

pub bytes_not_memory : (result : Result (Bor (List ℕ)) Refusal) → (result ≡ Err r.OutOfMemory → ⊥) → bytes_reply result ≡ Err r.OutOfMemory → ⊥
bytes_not_memory (Ok bytes) never e = cc
bytes_not_memory (Err e) never same = never (refusal_is same)
