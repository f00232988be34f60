-- A reply that is added to those that wait.
use Rattle.std.specs.Prelude.{◌≡◌, ◌++◌, Result}
use Rattle.hp_model.specs.declared.refusal.Refusal.{Refusal}
use Rattle.hp_model.specs.declared.step.Step.{Step}
use Rattle.hp_model.specs.machine.Plan.{Reply}
use Rattle.hp_model.specs.text.Text.{AnswersStep}
use Rattle.hp_model.specs.text.Writing.{line_of}
use Rattle.hp_wire.specs.Waiting.{Waiting}

-- what a line was read as is answered, and the line of the reply is added
pub record AddsReply {S : Type 0} (may_answer : S → Step → Reply → S → Type 0) (read : Result Step Refusal) (old new : S) (waiting left : Waiting) : Type 0 where
  pub reply : Reply
  pub answered : AnswersStep may_answer old read reply new
  pub text : left.text ≡ waiting.text ++ line_of waiting.page reply
  pub page : left.page ≡ waiting.page

-- a step is answered by the service alone, and the line of the reply is added
pub record AddsAnswer {S : Type 0} (may_answer : S → Step → Reply → S → Type 0) (step : Step) (old new : S) (waiting left : Waiting) : Type 0 where
  pub reply : Reply
  pub answered : may_answer old step reply new
  pub text : left.text ≡ waiting.text ++ line_of waiting.page reply
  pub page : left.page ≡ waiting.page
