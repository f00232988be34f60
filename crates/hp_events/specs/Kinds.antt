-- Kinds of steps.
use Rattle.std.specs.Prelude.{◌≡◌, ℕ, Bool, true, false}
use Rattle.hp_model.specs.declared.step.Step.{Step}
use Rattle.hp_model.specs.declared.step.Step.TheVariants as step

-- the slot that a step is on; a map without name is made on slot 0
abbrev pub slot_of : Step → ℕ
slot_of (step.Create k name) = k
slot_of (step.Unlink k name) = k
slot_of (step.Truncate k name pages) = k
slot_of (step.Punch k name a b) = k
slot_of (step.Preallocate k name a b) = k
slot_of (step.Read k name i offset count) = k
slot_of (step.Stat k name) = k
slot_of (step.Map task k name a pages sharing reserving) = k
slot_of (step.Unmap task k number a b) = k
slot_of (step.Fault task k number i intent) = k
slot_of (step.Load task k number i offset count) = k
slot_of (step.Store task k number i offset bytes) = k
slot_of other = 0

-- it asks something of a file by its name
abbrev pub names_file : Step → Bool
names_file (step.Create k name) = true
names_file (step.Unlink k name) = true
names_file (step.Truncate k name pages) = true
names_file (step.Punch k name a b) = true
names_file (step.Preallocate k name a b) = true
names_file (step.Read k name i offset count) = true
names_file (step.Stat k name) = true
names_file other = false

-- it makes a map for this task, or acts on one
abbrev pub IsOfTask : (task : ℕ) → Step → Type 0
IsOfTask t (step.Map task k name a pages sharing reserving) = t ≡ task
IsOfTask t (step.Anon task pages sharing reserving) = t ≡ task
IsOfTask t (step.Unmap task k number a b) = t ≡ task
IsOfTask t (step.Fault task k number i intent) = t ≡ task
IsOfTask t (step.Load task k number i offset count) = t ≡ task
IsOfTask t (step.Store task k number i offset bytes) = t ≡ task
IsOfTask t other = ⊥
