use Rattle.std.proofs.lemmas.Grind.{common_steps}
use Rattle.std.proofs.Common.{◌≡◌, ℕ, Bool, true, false, not, Ok, Err, Some, refl, arith}
use Rattle.hp_model.proofs.Words.{Choice, Reply, Slot, slot_event, told_reply}
use Rattle.hp_laws.proofs.Variants.{PoolAnswer, Section, SlotEvent, TraceFull}
use Rattle.hp_mount_laws.specs.Alone.{IsDoneAlone}
use Rattle.hp_mount_laws.specs.Done.{IsDone}
use Rattle.hp_mount_laws.proofs.Replies.{bytes_not_memory, done_not_memory, told_as}
use Rattle.hp_mount_laws.proofs.Ways.{alone_is_done}
use Rattle.hp_mount.proofs.mount.Mount.apply.Goals as goal

-- an event that asks nothing of the pool
alone : {X : Type 0} (took : X → Section → PoolAnswer → X → Type 0) (full : X → Type 0) (size k : ℕ) (old new : Slot) (door : X) {e f : SlotEvent} {a b : Reply} →
    e ≡ f → a ≡ b → (b ≡ Err TraceFull → ⊥) → IsDoneAlone size k old f b new
    → IsDone took full size k old door e a new door
alone took full size k old new door {e} {f} {a} {b} event reply noted ends =
    told_as took full size k old new door door event reply
    (alone_is_done took full (λ (x : Choice). slot_event size k x old f) old new door b noted ends)

pub returns-in-Create-clause-done : goal.returns-in-Create-clause-done
returns-in-Create-clause-done g c k = grind (arith, common_steps, alone)

pub returns-in-Df-clause-done : goal.returns-in-Df-clause-done
returns-in-Df-clause-done g c k =
    alone g.D.PoolDoor.took g.D.PoolDoor.is_full g.N.Naming.page_bytes k (Some c.args.self.now) (Some c.args.self.now) c.args.door.now
    {a = told_reply (Ok c.usage.result)} c.in-Df.is refl (λ e. cc) (c.usage.ensures.done g.N.Naming.page_bytes k)

pub returns-in-Ls-clause-done : goal.returns-in-Ls-clause-done
returns-in-Ls-clause-done g c k = grind (arith, common_steps, alone)

pub returns-in-Stat-clause-done : goal.returns-in-Stat-clause-done
returns-in-Stat-clause-done g c k = grind (arith, common_steps, alone)

pub returns-in-Read-clause-done : goal.returns-in-Read-clause-done
returns-in-Read-clause-done g c k = grind (arith, common_steps, alone)

-- an access that is backed
backed : (b : Bool) → not b ≡ false → b ≡ true
backed true e = refl
backed false e = cc

pub returns-in-Fault-clause-memory : goal.returns-in-Fault-clause-memory
returns-in-Fault-clause-memory g c asks = grind (arith, common_steps, done_not_memory, backed)

pub returns-in-Load-clause-memory : goal.returns-in-Load-clause-memory
returns-in-Load-clause-memory g c asks = grind (arith, common_steps, bytes_not_memory, backed)

pub returns-in-Store-clause-memory : goal.returns-in-Store-clause-memory
returns-in-Store-clause-memory g c asks = grind (arith, common_steps, done_not_memory, backed)
