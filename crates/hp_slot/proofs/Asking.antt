-- What is asked of a slot, through any door.
use Rattle.std.proofs.Common.{◌≡◌, ℕ, true, false, None, Ok, Err, refl, sym, subst}
use Rattle.hp_model.specs.declared.refusal.Refusal.TheVariants as r
use Rattle.hp_model.specs.declared.section.PoolAnswer.{PoolAnswer}
use Rattle.hp_model.specs.declared.section.Section.{Section}
use Rattle.hp_model.proofs.Words.{Choice, Plan, Reply, Slot, ThroughDoor, refuse, slot_event}
use Rattle.hp_model.specs.machine.SlotEvent.{SlotEvent}
use Rattle.hp_model.specs.declared.event.SlotEvent.TheVariants as slot
use Rattle.hp_events.specs.Event.{full_for, is_of_mount}
use Rattle.hp_mount_laws.specs.Done.{IsDone, Tried}
use Rattle.hp_mount_laws.proofs.Ways.{fresh_choice, is_fresh}

-- ---- a slot without a mount

none_event : (size k : ℕ) (c : Choice) (e : SlotEvent) → is_of_mount e ≡ true → slot_event size k c None e ≡ refuse r.NoSuchSlot
none_event size k c (slot.Mount options) m = cc
none_event size k c other m = refl

module _ {X : Type 0} (took : X → Section → PoolAnswer → X → Type 0) (full : X → Type 0) where
  pub none_done : (size k : ℕ) (e : SlotEvent) (d : X) → is_of_mount e ≡ true → IsDone took full size k None d e (Err r.NoSuchSlot) None d
  none_done size k e d m =
      let c : Choice = fresh_choice false None in
      (c, is_fresh false None, subst (λ p. ThroughDoor took p None d (Err r.NoSuchSlot) None d) (sym (none_event size k c e m)) ((refl, refl), refl))

  -- what is not answered TraceFull is so done whenever a door may be full
  pub as_noted : (other : X → Type 0) (plan : Choice → Plan) (old new : Slot) (d e : X) (reply : Reply) → (reply ≡ Err r.TraceFull → ⊥)
      → Tried took full plan old d reply new e → Tried took other plan old d reply new e
  as_noted other plan old new d e (Ok a) noted h = h
  as_noted other plan old new d e (Err r.TraceFull) noted h = absurd (noted refl)
  as_noted other plan old new d e (Err x) noted h = h

  -- the event, the bytes of a page and the reply by other names
  pub asked_as : (k : ℕ) (old new : Slot) (d e : X) {size bytes : ℕ} {event asked : SlotEvent} {reply told : Reply} → event ≡ asked → size ≡ bytes → told ≡ reply
      → IsDone took (λ d. full_for (full d) asked) size k old d asked reply new e
      → IsDone took (λ d. full_for (full d) event) bytes k old d event told new e
  asked_as k old new d e {size} {bytes} {event} {asked} {reply} {told} is same replied h =
      subst (λ w. IsDone took (λ d. full_for (full d) w) bytes k old d w told new e) (sym is)
      (subst (λ n. IsDone took (λ d. full_for (full d) asked) n k old d asked told new e) same
      (subst (λ x. IsDone took (λ d. full_for (full d) asked) size k old d asked x new e) (sym replied) h))

  -- what asks something of a mount may find any door full
  pub mount_done : (size k : ℕ) (old new : Slot) (d left : X) (e : SlotEvent) (reply : Reply) → is_of_mount e ≡ true
      → IsDone took full size k old d e reply new left → IsDone took (λ d. full_for (full d) e) size k old d e reply new left
  mount_done size k old new d left (slot.Mount options) reply m h = cc
  mount_done size k old new d left (slot.Remount options) reply m h = cc
  mount_done size k old new d left slot.Umount reply m h = cc
  mount_done size k old new d left (slot.ForkMaps parent child) reply m h = cc
  mount_done size k old new d left (slot.ExitMaps task) reply m h = cc
  mount_done size k old new d left other reply m h = h
