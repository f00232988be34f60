-- Faults at indices of a map that follow one another, each by a reservation.
use Rattle.std.specs.Prelude.{◌≡◌, ◌+◌, ◌<◌, ◌≤◌, ℕ, suc, Some, Ok, List, [], ◌∷◌, length, true}
use Rattle.hp_model.specs.declared.answer.Answer.TheVariants.{Done}
use Rattle.hp_model.specs.declared.cell.Cell.TheVariants.{Entered}
use Rattle.hp_model.specs.declared.entry.Asked.{Asked}
use Rattle.hp_model.specs.declared.event.SlotEvent.TheVariants.{Fault}
use Rattle.hp_model.specs.declared.section.Section.TheVariants.{TakePage}
use Rattle.hp_model.specs.declared.step.Intent.{Intent}
use Rattle.hp_model.specs.files.File.{File, cell_at}
use Rattle.hp_model.specs.files.Mapping.{is_live, place_at}
use Rattle.hp_model.specs.files.Page.{zeros}
use Rattle.hp_model.specs.machine.Plan.{Slot}
use Rattle.hp_model.specs.machine.Promises.{map_in}
use Rattle.hp_model.specs.pool.Pool.{granted_at}
use Rattle.hp_events.specs.Answered.{Went}
use Rattle.hp_lookup.specs.Files.{Files, filled_at}

-- a page of this node was taken by a reservation, in a section at this place
abbrev pub reserved_at : (home place node : ℕ) → Asked
reserved_at home place node = record { place = place; section = TakePage home; answer = granted_at node }

-- on the slot of number k a fault through the map at this index, whatever its intent, gets a page of this node by a reservation
abbrev pub IsFaulted : (size k task map i node : ℕ) → Slot → Slot → Type 0
IsFaulted size k task map i node m n =
    (home place : ℕ) (intent : Intent) → Went size k m (Fault task home map i intent) (Ok Done) (Some (reserved_at home place node)) n

-- so do faults at the indices from i on, one for each node
abbrev pub AreFaulted : (size k task map i : ℕ) → List ℕ → Slot → Slot → Type 0
AreFaulted size k task map i [] m n = n ≡ m
AreFaulted size k task map i (node ∷ nodes) m n =
    (u : Slot) × IsFaulted size k task map i node m u × AreFaulted size k task map (suc i) nodes u n

-- so many did, by pages that a door took
pub record RunsThrough {X : Type 0} (taking : X → List ℕ → X → Type 0) (size k task map i count : ℕ) (old : Slot) (door : X) (new : Slot) (left : X) : Type 0 where
  pub nodes : List ℕ
  pub counted : length nodes ≡ count
  pub took : taking door nodes left
  pub faulted : AreFaulted size k task map i nodes old new

-- ---- the indices, and the files that are left

-- the map is live at the index, and its file has an entry without a page there
pub record IsReserved (f : File) (map i : ℕ) : Type 0 where
  pub below : i < length f.cells
  pub live : is_live (place_at (map_in f map) i) ≡ true
  pub entered : cell_at f i ≡ Entered

-- so at each of so many indices from i on
abbrev pub AreReserved : File → (map i count : ℕ) → Type 0
AreReserved f map i count = (j : ℕ) → i ≤ j → j < i + count → IsReserved f map j

-- pages of zeros, of these nodes, at the entered indices from i on
abbrev pub filled_from : (size k i : ℕ) → List ℕ → Files → Files
filled_from size k i [] v = v
filled_from size k i (node ∷ nodes) v =
    filled_from size k (suc i) nodes (filled_at k i (record { node = node; bytes = zeros size }) v)
