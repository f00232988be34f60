-- What a step leads to: one event on a slot, one on the pool alone, or one on the task table; and what follows for the slots.
use Rattle.std.proofs.Common.{arith, ◌≡◌, ◌⊎◌, subst, ℕ, Bool, true, false, Ok, Err, sym, if◌then◌else◌, MatchBool, slice_set}
use Rattle.std.proofs.lemmas.Grind.{common_steps}
use Rattle.std.proofs.lemmas.Bool.{cond_both}
use Rattle.hp_laws.proofs.Variants.{Event, NoSuchSlot, NoSuchTask, Refusal, Slot as OnSlot, SlotEvent}
pub use Rattle.hp_laws.specs.Balance.{Always}
use Rattle.hp_laws.specs.Balance.{left_by}
use Rattle.hp_model.proofs.Words.{Answered, Choice, IsEvent, IsScript, Mount, Outcome, Plan, Refused, Reply, Script, State, and_then, continued, finding, on_slot, only, planned, refuse, slot_at}
use Rattle.hp_model.proofs.Words.{slot_event}

-- ---- outcomes

pub always_if : (P : Outcome → Type 0) (b : Bool) (p q : Plan) → (b ≡ true → Always P p) → (b ≡ false → Always P q) → Always P (if b then p else q)
always_if P b p q h k = cond_both b p q (Always P) h k

pub outcome_if : (P : Outcome → Type 0) (b : Bool) (o q : Outcome) → P o → P q → P (if b then o else q)
outcome_if P b o q h k = cond_both b o q P (λ e. h) (λ e. k)

pub always_test : (P : Outcome → Type 0) (b : Bool) (r : Refusal) (p : Plan) → P (Refused r) → (b ≡ false → Always P p) → Always P (if b then refuse r else p)
always_test P b r p stops h = cond_both b (refuse r) p (Always P) (λ e. stops) h

pub always_weaker : (P Q : Outcome → Type 0) → ((o : Outcome) → P o → Q o) → (p : Plan) → Always P p → Always Q p
always_weaker P Q h p all = grind arith

-- what follows an answer, where P holds of the outcome before it
pub always_then : (P Q : Outcome → Type 0) (f : Mount → Outcome) → ((o : Outcome) → P o → Q (continued f o)) → (p : Plan) → Always P p → Always Q (and_then f p)
always_then P Q f h p all = grind arith

-- ---- an event on a slot

-- the reply of an outcome
abbrev pub reply_of : Outcome → Reply
reply_of (Refused r) = Err r
reply_of (Answered a new) = Ok a

-- an outcome that the event has, and the slots that it leaves
pub record Ends (P : Outcome → Type 0) (s : State) (k : ℕ) (reply : Reply) (t : State) : Type 0 where
  pub outcome : Outcome
  pub holds : P outcome
  pub replied : reply ≡ reply_of outcome
  pub size : t.page_size ≡ s.page_size
  pub slots : t.slots ≡ slice_set s.slots k (left_by (slot_at s k) outcome)

plan_ends : (P : Outcome → Type 0) (s : State) (k : ℕ) (p : Plan) → Always P p → Ends P s k (planned s k p).0 (planned s k p).1
plan_ends P s k p h = grind (arith, common_steps)

pub event_ends : (P : Outcome → Type 0) (s : State) (k : ℕ) (e : SlotEvent) (reply : Reply) (t : State)
    → ((c : Choice) → Always P (slot_event s.page_size k c (slot_at s k) e)) → IsEvent s (OnSlot k e) reply t → Ends P s k reply t
event_ends P s k e reply t h is =
    let p = slot_event s.page_size k is.0 (slot_at s k) e in
    subst (λ (x : Reply × State). Ends P s k x.0 x.1) is.2 (plan_ends P s k p (h is.0))

-- ---- scripts

-- by a choice of the script
pub either_way : {P Q R : Type 0} (b : Bool) → (P → R) → (Q → R) → MatchBool b P Q → R
either_way b f g is = grind arith

-- nothing but a refusal
pub record IsLeft (s : State) (r : Refusal) (reply : Reply) (t : State) : Type 0 where
  pub replied : reply ≡ Err r
  pub same : t ≡ s

pub only_goes : (s : State) (e : Event) (reply : Reply) (t : State) → IsScript s (only e) reply t → IsEvent s e reply t
only_goes s e reply t is = subst (λ x. IsEvent s e x t) (sym is.3.0) (subst (λ x. IsEvent s e is.0 x) (sym is.3.1) is.2)

pub slot_goes : (s : State) (n k : ℕ) (e : SlotEvent) (reply : Reply) (t : State) → IsScript s (on_slot n k e) reply t → IsLeft s NoSuchSlot reply t ⊎ IsEvent s (OnSlot k e) reply t
slot_goes s n k e reply t = grind arith

-- the task is found, or nothing happens
pub finding_goes : (s : State) (task : ℕ) (next : ℕ → Script) (reply : Reply) (t : State) → IsScript s (finding task next) reply t
    → IsLeft s NoSuchTask reply t ⊎ ((home : ℕ) × IsScript s (next home) reply t)
finding_goes s task next reply t is = grind arith
