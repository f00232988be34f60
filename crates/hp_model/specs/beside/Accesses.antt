-- Loads, stores and faults as steps, and the replies that stand for what they answer.
use Rattle.std.specs.Prelude.{ℕ, ◌-◌, List, ◌++◌, length, replicate, Result, Ok, Err}
use Rattle.hp_model.specs.declared.answer.Answer.TheVariants.{Bytes, Done}
use Rattle.hp_model.specs.declared.refusal.Refusal.{Refusal}
use Rattle.hp_model.specs.declared.service.Access.{Access}
use Rattle.hp_model.specs.declared.step.Intent.{Intent}
use Rattle.hp_model.specs.declared.step.Step.{Step}
use Rattle.hp_model.specs.declared.step.Step.TheVariants.{Fault, Load, Store}
use Rattle.hp_model.specs.machine.Plan.{Reply}
use Rattle.hp_model.specs.Profile.{most_bytes}
use denote.Ref.{Bor}

-- the load of so many bytes
abbrev pub load_step : Access → (count : ℕ) → Step
load_step a count = Load a.task a.slot a.map a.index a.offset count

-- the store of these bytes
abbrev pub store_step : Access → (bytes : List ℕ) → Step
store_step a bytes = Store a.task a.slot a.map a.index a.offset bytes

-- the fault of a page
abbrev pub fault_step : Access → Intent → Step
fault_step a intent = Fault a.task a.slot a.map a.index intent

-- the reply with the bytes that a load read, or with its refusal
abbrev pub bytes_reply : Result (Bor (List ℕ)) Refusal → Reply
bytes_reply (Ok bytes) = Ok (Bytes (length bytes.now) (bytes.now ++ replicate (most_bytes - length bytes.now) 0))
bytes_reply (Err refusal) = Err refusal

-- the reply that a store or a fault is done, or with its refusal
abbrev pub done_reply : Result (Unit {0}) Refusal → Reply
done_reply (Ok done) = Ok Done
done_reply (Err refusal) = Err refusal
