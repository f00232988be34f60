-- What is told of an event, as a reply.
use Rattle.std.specs.Prelude.{Result, ℕ, Bool, true, false, Ok, Err, List}
use Rattle.hp_model.specs.declared.answer.Answer.TheVariants as answer
use Rattle.hp_model.specs.declared.refusal.Refusal.{Refusal}
use Rattle.hp_model.specs.declared.refusal.Refusal.TheVariants.{TraceFull}
use Rattle.hp_model.specs.machine.Plan.{Reply}
use Rattle.hp_events.specs.declared.table_told.TableTold.{TableTold}
use Rattle.hp_events.specs.declared.table_told.TableTold.TheVariants.{Done, Home, Refused}

abbrev pub is_trace_full : Reply → Bool
is_trace_full (Err TraceFull) = true
is_trace_full other = false

abbrev pub table_reply : TableTold → Reply
table_reply Done = Ok answer.Done
table_reply (Home home) = Ok (answer.Home home)
table_reply (Refused r) = Err r

-- with a list of names, or with its refusal
abbrev pub names_reply : Result (List (List ℕ)) Refusal → Reply
names_reply (Ok names) = Ok (answer.Names names)
names_reply (Err r) = Err r
