-- Loads, stores and faults that wait, and are done one after another.
use Rattle.std.specs.Prelude.{◌≡◌, ℕ, ◌-◌, List, [], ◌∷◌, ◌++◌, length, replicate, Bool, true, false, Option, None, Some, Ok, Err}
use Rattle.hp_model.specs.beside.Accesses.{fault_step, load_step, store_step}
use Rattle.hp_model.specs.declared.answer.Answer.TheVariants.{Bytes, Done}
use Rattle.hp_model.specs.declared.queued.Doing.{Doing}
use Rattle.hp_model.specs.declared.queued.Doing.TheVariants as doing
use Rattle.hp_model.specs.declared.queued.Wanted.{Wanted}
use Rattle.hp_model.specs.declared.queued.Wanted.TheVariants as wanted
use Rattle.hp_model.specs.declared.refusal.Refusal.{Refusal}
use Rattle.hp_model.specs.declared.service.Access.{Access}
use Rattle.hp_model.specs.declared.step.Step.{Step}
use Rattle.hp_model.specs.declared.step.Step.TheVariants.{Load}
use Rattle.hp_model.specs.machine.Plan.{Reply}
use Rattle.hp_model.specs.Profile.{most_bytes}

-- what waits as a step, by what is wanted, and by the bytes to be stored
abbrev pub access_step : Access → Wanted → List ℕ → Step
access_step a (wanted.Load count) bytes = load_step a count
access_step a wanted.Store bytes = store_step a bytes
access_step a (wanted.Fault intent) bytes = fault_step a intent

abbrev pub wants_bytes : Wanted → Bool
wants_bytes (wanted.Load count) = true
wants_bytes other = false

abbrev pub doing_step : Access → Doing → Step
doing_step a (doing.Load count) = load_step a count
doing_step a (doing.Store bytes) = store_step a bytes.now
doing_step a (doing.Fault intent) = fault_step a intent

-- what waits: where it begins, the step that it is, and the reply that is noted
pub record QueuedView : Type 0 where
  pub access : Access
  pub step : Step
  pub reply : Reply

abbrev pub is_load : Step → Bool
is_load (Load task slot map index offset count) = true
is_load step = false

-- the reply by what is noted: a refusal, the bytes that a load answers, or that a store or a fault is done
abbrev pub noted_reply : Option Refusal → Wanted → List ℕ → Reply
noted_reply (Some refusal) w bytes = Err refusal
noted_reply None (wanted.Load count) bytes = Ok (Bytes (length bytes) (bytes ++ replicate (most_bytes - length bytes) 0))
noted_reply None wanted.Store bytes = Ok Done
noted_reply None (wanted.Fault intent) bytes = Ok Done

-- what waited was done, and has its reply
abbrev pub DoesOne : {S : Type 0} → (S → Step → Reply → S → Type 0) → S → (before after : QueuedView) → S → Type 0
DoesOne may_answer old before after new = may_answer old before.step after.reply new

-- all that waited was done, one after another, and has its replies
abbrev pub DoesAll : {S : Type 0} → (S → Step → Reply → S → Type 0) → S → (before after : List QueuedView) → S → Type 0
DoesAll may_answer old [] [] new = old ≡ new
DoesAll {S} may_answer old (b ∷ bs) (a ∷ rest) new = (next : S) × DoesOne may_answer old b a next × DoesAll may_answer next bs rest new
DoesAll may_answer old before after new = ⊥
