-- A run of what is seen of a service is a run of what it shows.
use Rattle.std.proofs.Common.{ℕ, List, [], ◌∷◌, Option, Result, Ok, Err, ap}
use Rattle.hp_laws.proofs.Variants.{Memory, Refusal, RunFault, Step, TooLong}
use Rattle.hp_model.proofs.Words.{AnswersLines, AnswersStep, IsTextOfReplies, Line, Ran, RanInPart, Reply, Serves, step_of}
use Rattle.hp_model.specs.declared.fault.RunFault.TheVariants.{Read, Write}

module _ {S T : Type 0} (shown : S → T) (may_answer : T → Step → Reply → T → Type 0) where
  -- the service may answer so, by what it shows
  abbrev pub Shows : S → Step → Reply → S → Type 0
  Shows old step reply new = may_answer (shown old) step reply (shown new)

  step_seen : (old : S) (read : Result Step Refusal) (reply : Reply) (new : S) → AnswersStep Shows old read reply new → AnswersStep may_answer (shown old) read reply (shown new)
  step_seen old (Ok step) reply new h = h
  step_seen old (Err refusal) reply new h = (h.0, ap shown h.1)

  lines_seen : (old : S) (ls : List Line) (rs : List Reply) (new : S) → AnswersLines Shows old ls rs new → AnswersLines may_answer (shown old) ls rs (shown new)
  lines_seen old [] [] new h = ap shown h
  lines_seen old [] (r ∷ rs) new h = absurd h
  lines_seen old (l ∷ ls) [] new h = absurd h
  lines_seen old (l ∷ ls) (r ∷ rs) new h = (shown h.0, step_seen old (step_of l) r h.0 h.1, lines_seen h.0 ls rs new h.2)

  text_seen : (page : ℕ) (old : S) (ls : List Line) (new : S) (bytes : List ℕ) → IsTextOfReplies Shows page old ls new bytes → IsTextOfReplies may_answer page (shown old) ls (shown new) bytes
  text_seen page old ls new bytes h = (h.0, lines_seen old ls h.0 new h.1, h.2)

  ran_seen : (page : ℕ) (old : S) (ls : List Line) (new : S) (before after : Option (List ℕ)) → Ran Shows page old ls new before after → Ran may_answer page (shown old) ls (shown new) before after
  ran_seen page old ls new before after h = record { text = h.text; replies = text_seen page old ls new h.text h.replies; written = h.written }

  part_seen : (page : ℕ) (old : S) (ls : List Line) (new : S) (before after : Option (List ℕ)) → RanInPart Shows page old ls new before after →
      RanInPart may_answer page (shown old) ls (shown new) before after
  part_seen page old ls new before after h = record {
    done = h.done;
    rest = h.rest;
    first = h.first;
    text = h.text;
    replies = text_seen page old h.done new h.text h.replies;
    written = h.written;
  }

  pub serves_seen : (page : ℕ) (old new : S) (before after : Option (List ℕ)) (input : List ℕ) (ended : Result ℕ RunFault)
      → Serves Shows page old new before after input ended → Serves may_answer page (shown old) (shown new) before after input ended
  serves_seen page old new before after input (Ok count) h = (ran_seen page old _ new before after h.0, h.1, h.2)
  serves_seen page old new before after input (Err Memory) h = (h.0, ap shown h.1, h.2)
  serves_seen page old new before after input (Err Read) h = ran_seen page old _ new before after h
  serves_seen page old new before after input (Err TooLong) h = (h.0, ran_seen page old _ new before after h.1)
  serves_seen page old new before after input (Err Write) h = part_seen page old _ new before after h
