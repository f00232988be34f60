-- Replies that are added, by what was read.
use Rattle.std.proofs.Common.{◌≡◌, ◌++◌, Result, Ok, Err, refl, subst}
use Rattle.hp_model.specs.declared.refusal.Refusal.{Refusal}
use Rattle.hp_model.specs.declared.step.Step.{Step}
use Rattle.hp_model.proofs.Words.{AnswersStep, Reply, line_of}
use Rattle.hp_wire.specs.Added.{AddsAnswer, AddsReply}
use Rattle.hp_wire.specs.Waiting.{Waiting}

-- a step was read, and the service did it
pub done : {S : Type 0} {may_answer : S → Step → Reply → S → Type 0} {read : Result Step Refusal} {old new : S} {waiting left : Waiting} (step : Step) (reply : Reply)
    → Ok step ≡ read → may_answer old step reply new → left.text ≡ waiting.text ++ line_of waiting.page reply → left.page ≡ waiting.page
    → AddsReply may_answer read old new waiting left
done {may_answer} {old} {new} step reply is answered text page = record {
  reply = reply;
  answered = subst (λ r. AnswersStep may_answer old r reply new) is answered;
  text = text;
  page = page;
}

-- none was read
pub not_read : {S : Type 0} {may_answer : S → Step → Reply → S → Type 0} {read : Result Step Refusal} {old : S} {waiting left : Waiting} (refusal : Refusal)
    → Err refusal ≡ read → left.text ≡ waiting.text ++ line_of waiting.page (Err refusal) → left.page ≡ waiting.page
    → AddsReply may_answer read old old waiting left
not_read {may_answer} {old} refusal is text page = record {
  reply = Err refusal;
  answered = subst (λ r. AnswersStep may_answer old r (Err refusal) old) is (refl, refl);
  text = text;
  page = page;
}

-- a step was read, and the service answered it
pub as_read : {S : Type 0} {may_answer : S → Step → Reply → S → Type 0} {read : Result Step Refusal} {old new : S} {waiting left : Waiting} (step : Step)
    → Ok step ≡ read → AddsAnswer may_answer step old new waiting left → AddsReply may_answer read old new waiting left
as_read step is h = done step h.reply is h.answered h.text h.page
