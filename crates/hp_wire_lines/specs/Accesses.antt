-- What the lines of loads, stores and faults are read as.
use Rattle.std.specs.Prelude.{◌≡◌, ℕ, ◌||◌, Bool, false, codes, List, Result, Ok, Err}
use Rattle.std.specs.Str.{bytes_eq}
use Rattle.hp_model.specs.declared.refusal.Refusal.{Refusal}
use Rattle.hp_model.specs.declared.service.Access.{Access}
use Rattle.hp_model.specs.declared.step.Intent.{Intent}
use Rattle.hp_model.specs.declared.step.Step.{Step}
use Rattle.hp_model.specs.beside.Accesses.{fault_step, load_step, store_step}
use Rattle.hp_model.specs.text.Reading.{fault_of, load_of, step_of_bytes, step_of_command, store_of}
use Rattle.hp_wire_lines.specs.declared.reading.LineKind.{LineKind}
use Rattle.hp_wire_lines.specs.declared.reading.LineKind.TheVariants.{Load, Store, Fault, Other}
use denote.Ref.{Bor}

-- the step of a load that was read, by its count of bytes
abbrev pub read_load : Result (Access × ℕ) Refusal → Result Step Refusal
read_load (Ok x) = Ok (load_step x.0 x.1)
read_load (Err refusal) = Err refusal

-- the step of a store that was read, by its bytes
abbrev pub read_store : Result (Access × Bor (List ℕ)) Refusal → Result Step Refusal
read_store (Ok x) = Ok (store_step x.0 x.1.now)
read_store (Err refusal) = Err refusal

-- the step of a fault that was read
abbrev pub read_fault : Result (Access × Intent) Refusal → Result Step Refusal
read_fault (Ok x) = Ok (fault_step x.0 x.1)
read_fault (Err refusal) = Err refusal

-- the word is that of a load, a store or a fault
abbrev pub is_access : List ℕ → Bool
is_access word = bytes_eq word (codes "load") || bytes_eq word (codes "store") || bytes_eq word (codes "fault")

-- a line that reads so is a load, a store or a fault of these words, or none, by that word and these, or it is refused
abbrev pub IsKind : Result LineKind Refusal → List ℕ → Type 0
IsKind (Ok (Load words)) line = step_of_bytes line ≡ load_of words
IsKind (Ok (Store words)) line = step_of_bytes line ≡ store_of words
IsKind (Ok (Fault words)) line = step_of_bytes line ≡ fault_of words
IsKind (Ok (Other word words)) line = (step_of_bytes line ≡ step_of_command word.now words) × (is_access word.now ≡ false)
IsKind (Err refusal) line = step_of_bytes line ≡ Err refusal
