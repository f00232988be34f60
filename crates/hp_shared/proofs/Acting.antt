-- What went through a session's door is what went by what it asked.
use Rattle.std.proofs.Common.{◌≡◌, ℕ, Bool, true, false, Option, None, Some, Ok, Err, List, refl, sym, ap, ◌∙◌, subst}
use Rattle.hp_laws.proofs.Variants.{Answer, Asked, PoolAnswer, Section, SlotEvent}
use Rattle.hp_model.specs.declared.event.SlotEvent.TheVariants as slot
use Rattle.hp_model.specs.declared.refusal.Refusal.TheVariants as r
use Rattle.hp_model.proofs.Words.{Answered, Ask, Finish, Gives, Goes, IsWithinLimits, Outcome, Plan, Refused, Reply, Slot, ThroughDoor, has_names, reply_has_names, slot_event}
use Rattle.hp_laws.specs.Answers.{HasNoNames, lists_names}
use Rattle.hp_laws.specs.Balance.{Always, left_by}
use Rattle.hp_laws.proofs.promises.Listing.{names_are_listed}
use Rattle.hp_laws.proofs.steps.Outcomes.{reply_of}
use Rattle.hp_laws.proofs.promises.SmallReplies.{Small, slot_small}
use Rattle.hp_laws.proofs.steps.Walk.{tells_all}
use Rattle.hp_history.specs.declared.held.Held.{Held}
use Rattle.hp_history.specs.Sections.{IsEntered}
use Rattle.hp_locked.specs.Views.{HasAsked}
use Rattle.hp_mount_laws.specs.Done.{IsDone, Through}
use Rattle.hp_events.specs.Event.{is_usage}
use Rattle.hp_events.specs.Answered.{Went}
use Rattle.hp_events.proofs.Came.{always_came}
use Rattle.hp_shared.specs.Slots.{IsActedOr}

-- a door that was not used has its seat as it was
pub unused : {X : Type 0} (keeps : Bool) (asked : X → Option Asked) (mine : X → List Held) (d : X) → asked d ≡ None → IsEntered keeps (mine d) (asked d) (mine d)
unused keeps asked mine d none = subst (λ (a : Option Asked). IsEntered keeps (mine d) a (mine d)) (sym none) refl

stayed : {X : Type 0} (keeps : Bool) (asked : X → Option Asked) (mine : X → List Held) (d e : X) → asked d ≡ None → e ≡ d → IsEntered keeps (mine d) (asked e) (mine e)
stayed keeps asked mine d e none is = subst (λ x. IsEntered keeps (mine d) (asked x) (mine x)) (sym is) (unused keeps asked mine d none)

-- a door that was not used tells what it was asked
goes_on : {X : Type 0} (asked : X → Option Asked) (p : Plan) (old : Slot) (d : X) (reply : Reply) (new : Slot) (e : X) → asked d ≡ None →
    ThroughDoor (λ d s a e. HasAsked (asked e) s a) p old d reply new e → Goes p (asked e) old reply new
goes_on asked (Finish o) old d reply new e none t = subst (λ (x : Option Asked). Goes (Finish o) x old reply new) (sym (ap asked t.1 ∙ none)) t.0
goes_on asked (Ask sec f) old d reply new e none (a, took, gives) =
    subst (λ (x : Option Asked). Goes (Ask sec f) x old reply new) (sym took.1) (refl, gives)

-- through any door that tells what it was asked, and how its seat went
module _ {X : Type 0} (keeps : Bool) (asked : X → Option Asked) (mine : X → List Held) (took : X → Section → PoolAnswer → X → Type 0) (full : X → Type 0)
    (tells : (d : X) (s : Section) (a : PoolAnswer) (e : X) → took d s a e → HasAsked (asked e) s a × IsEntered keeps (mine d) (asked e) (mine e)) where
  plan_entered : (p : Plan) (old : Slot) (d : X) (reply : Reply) (new : Slot) (e : X) → asked d ≡ None → ThroughDoor took p old d reply new e → IsEntered keeps (mine d) (asked e) (mine e)
  plan_entered (Finish o) old d reply new e none t = stayed keeps asked mine d e none t.1
  plan_entered (Ask sec f) old d reply new e none (a, t, gives) = (tells d (sec a.nr) a e t).1

  pub event_entered : (size k : ℕ) (old : Slot) (d : X) (ev : SlotEvent) (reply : Reply) (new : Slot) (e : X) → asked d ≡ None →
      IsDone took full size k old d ev reply new e → IsEntered keeps (mine d) (asked e) (mine e)
  event_entered size k old d ev (Ok a) new e none t = plan_entered (slot_event size k t.0 old ev) old d (Ok a) new e none t.2
  event_entered size k old d ev (Err r.TraceFull) new e none t = stayed keeps asked mine d e none t.1.0
  event_entered size k old d ev (Err other) new e none t = plan_entered (slot_event size k t.0 old ev) old d (Err other) new e none t.2

  tells_plan : (p : Plan) (old : Slot) (d : X) (reply : Reply) (new : Slot) (e : X) → ThroughDoor took p old d reply new e → ThroughDoor (λ d s a e. HasAsked (asked e) s a) p old d reply new e
  tells_plan (Finish o) old d reply new e t = t
  tells_plan (Ask sec f) old d reply new e (a, t, gives) = (a, (tells d (sec a.nr) a e t).0, gives)

  told_went : (size k : ℕ) (old : Slot) (d : X) (ev : SlotEvent) (reply : Reply) (new : Slot) (e : X) → asked d ≡ None →
      Through took (λ c. slot_event size k c old ev) old d reply new e → Went size k old ev reply (asked e) new
  told_went size k old d ev reply new e none (c, fresh, t) = (c, fresh, goes_on asked (slot_event size k c old ev) old d reply new e none (tells_plan (slot_event size k c old ev) old d reply new e t))

  pub acted_or : (size k : ℕ) (old : Slot) (d : X) (ev : SlotEvent) (reply : Reply) (new : Slot) (e : X) → asked d ≡ None →
      IsDone took full size k old d ev reply new e → IsActedOr (full e) size k old ev reply (asked e) new
  acted_or size k old d ev (Ok a) new e none t = told_went size k old d ev (Ok a) new e none t
  acted_or size k old d ev (Err r.TraceFull) new e none t = (t.0, ap asked t.1.0 ∙ none, t.1.1, t.2)
  acted_or size k old d ev (Err r.OutOfMemory) new e none t = told_went size k old d ev (Err r.OutOfMemory) new e none t
  acted_or size k old d ev (Err r.NoPages) new e none t = told_went size k old d ev (Err r.NoPages) new e none t
  acted_or size k old d ev (Err r.MountFull) new e none t = told_went size k old d ev (Err r.MountFull) new e none t
  acted_or size k old d ev (Err r.BeyondEnd) new e none t = told_went size k old d ev (Err r.BeyondEnd) new e none t
  acted_or size k old d ev (Err r.TakenByOwner) new e none t = told_went size k old d ev (Err r.TakenByOwner) new e none t
  acted_or size k old d ev (Err r.NoSuchTask) new e none t = told_went size k old d ev (Err r.NoSuchTask) new e none t
  acted_or size k old d ev (Err r.TaskExists) new e none t = told_went size k old d ev (Err r.TaskExists) new e none t
  acted_or size k old d ev (Err r.NoSuchSlot) new e none t = told_went size k old d ev (Err r.NoSuchSlot) new e none t
  acted_or size k old d ev (Err r.SlotTaken) new e none t = told_went size k old d ev (Err r.SlotTaken) new e none t
  acted_or size k old d ev (Err r.MinOverSize) new e none t = told_went size k old d ev (Err r.MinOverSize) new e none t
  acted_or size k old d ev (Err r.BadOption) new e none t = told_went size k old d ev (Err r.BadOption) new e none t
  acted_or size k old d ev (Err r.NoSuchFile) new e none t = told_went size k old d ev (Err r.NoSuchFile) new e none t
  acted_or size k old d ev (Err r.FileExists) new e none t = told_went size k old d ev (Err r.FileExists) new e none t
  acted_or size k old d ev (Err r.NoInodes) new e none t = told_went size k old d ev (Err r.NoInodes) new e none t
  acted_or size k old d ev (Err r.BadName) new e none t = told_went size k old d ev (Err r.BadName) new e none t
  acted_or size k old d ev (Err r.NoSuchMap) new e none t = told_went size k old d ev (Err r.NoSuchMap) new e none t
  acted_or size k old d ev (Err r.OutOfRange) new e none t = told_went size k old d ev (Err r.OutOfRange) new e none t
  acted_or size k old d ev (Err r.CrossesPage) new e none t = told_went size k old d ev (Err r.CrossesPage) new e none t
  acted_or size k old d ev (Err r.Busy) new e none t = told_went size k old d ev (Err r.Busy) new e none t
  acted_or size k old d ev (Err r.TooMany) new e none t = told_went size k old d ev (Err r.TooMany) new e none t
  acted_or size k old d ev (Err r.BadLine) new e none t = told_went size k old d ev (Err r.BadLine) new e none t
  acted_or size k old d ev (Err r.LineTooLong) new e none t = told_went size k old d ev (Err r.LineTooLong) new e none t
  acted_or size k old d ev (Err r.TrailsDiffer) new e none t = told_went size k old d ev (Err r.TrailsDiffer) new e none t
  acted_or size k old d ev (Err r.NoSuchNode) new e none t = told_went size k old d ev (Err r.NoSuchNode) new e none t

-- ---- what a plan always leaves, an event that went left

left_is : (o : Outcome) (old : Slot) (reply : Reply) (new : Slot) → Gives o old reply new → new ≡ left_by old o
left_is (Refused r) old reply new g = g.1
left_is (Answered a s) old reply new g = g.1

pub always_goes : (Q : Slot → Type 0) (p : Plan) (asked : Option Asked) (old : Slot) (reply : Reply) (new : Slot) → Always (λ o. Q (left_by old o)) p → Goes p asked old reply new → Q new
always_goes Q (Finish o) None old reply new h g = subst Q (sym (left_is o old reply new g)) h
always_goes Q (Finish o) (Some a) old reply new h g = absurd g
always_goes Q (Ask sec f) None old reply new h g = absurd g
always_goes Q (Ask sec f) (Some a) old reply new h g = subst Q (sym (left_is (f a.answer) old reply new g.1)) (h a.answer)

gave : (o : Outcome) (old : Slot) (reply : Reply) (new : Slot) → Gives o old reply new → reply ≡ reply_of o
gave (Refused r) old reply new g = g.0
gave (Answered a s) old reply new g = g.0

-- ---- replies

usage_is : (e : SlotEvent) → tells_all e ≡ is_usage e
usage_is (slot.Mount options) = refl
usage_is slot.Umount = refl
usage_is (slot.Remount options) = refl
usage_is (slot.Create name) = refl
usage_is (slot.Unlink name) = refl
usage_is (slot.Truncate name n) = refl
usage_is (slot.Punch name a b) = refl
usage_is (slot.Preallocate name a b) = refl
usage_is (slot.Read name i offset count) = refl
usage_is slot.Ls = refl
usage_is (slot.Stat name) = refl
usage_is slot.Df = refl
usage_is (slot.Map task home name a n sharing reserving) = refl
usage_is (slot.Anon task home n sharing reserving) = refl
usage_is (slot.Unmap task number a b) = refl
usage_is (slot.Fault task home number i intent) = refl
usage_is (slot.Load task home number i offset count) = refl
usage_is (slot.Store task home number i offset bytes) = refl
usage_is (slot.ForkMaps parent child) = refl
usage_is (slot.ExitMaps task) = refl

module _ (full : Type 0) (size k : ℕ) (old : Slot) (e : SlotEvent) (asked : Option Asked) (new : Slot) where
  small_of : (reply : Reply) → IsActedOr full size k old e reply asked new → tells_all e ≡ false → IsWithinLimits reply
  small_of (Err r) acted apart = tt
  small_of (Ok a) acted apart =
      let came = always_came Small (slot_event size k acted.0 old e) asked old (Ok a) new (slot_small size k acted.0 old e apart) acted.2 in
      subst IsWithinLimits (sym (gave came.0 old (Ok a) new came.2)) came.1

  -- what is told is within the limits
  pub acted_small : (reply : Reply) → IsActedOr full size k old e reply asked new → (is_usage e ≡ true → IsWithinLimits reply) → IsWithinLimits reply
  acted_small reply acted usage = by (is_usage e) refl
    where
      by : (b : Bool) → is_usage e ≡ b → IsWithinLimits reply
      by true is = usage is
      by false is = small_of reply acted (usage_is e ∙ is)

  named : (a : Answer) (o : Outcome) → HasNoNames o → Gives o old (Ok a) new → has_names a ≡ false
  named a (Refused r) h g = (let same = g.0 in cc)
  named a (Answered b s) h g = ap reply_has_names g.0 ∙ h

  -- only the event that asks for names is answered names
  pub acted_plain : (reply : Reply) → IsActedOr full size k old e reply asked new → lists_names e ≡ false → reply_has_names reply ≡ false
  acted_plain (Err r) acted apart = refl
  acted_plain (Ok a) acted apart =
      let came = always_came HasNoNames (slot_event size k acted.0 old e) asked old (Ok a) new (names_are_listed size k acted.0 old e apart) acted.2 in
      named a came.0 came.1 came.2
