-- The whole machine's state: the task table, the slots, the pool's two numbers and the nodes.
use Rattle.std.specs.Prelude.{ℕ, None, List}
use Rattle.std.specs.List.{slice_set, slice_index_or}
use Rattle.hp_model.specs.machine.Plan.{Slot}
use Rattle.hp_model.specs.machine.Table.{Table}

-- a node: its frames, the pages there that are in the pool, and its share of the surplus
pub record Node : Type 0 where
  pub frames : ℕ
  pub total : ℕ
  pub surp : ℕ

pub record State : Type 0 where
  pub page_size : ℕ
  pub table : Table
  pub slots : List Slot
  pub nr : ℕ
  pub overcommit : ℕ
  pub nodes : List Node
  pub growth : ℕ
  pub release : ℕ

abbrev pub slot_at : State → ℕ → Slot
slot_at s k = slice_index_or s.slots k None

abbrev pub with_slot : State → ℕ → Slot → State
with_slot s k slot = record s { slots = slice_set s.slots k slot }
