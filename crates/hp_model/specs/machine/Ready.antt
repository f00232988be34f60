-- The machine's state by its parts, and what holds of it between steps.
use Rattle.std.specs.Prelude.{◌≡◌, ℕ, List, map}
use Rattle.hp_model.specs.machine.Machine.{node_of, pool_of}
use Rattle.hp_model.specs.machine.Plan.{Slot}
use Rattle.hp_model.specs.pool.PoolCounts.{Pool}
use Rattle.hp_model.specs.machine.Settled.{IsSettledState}
use Rattle.hp_model.specs.machine.State.{State}
use Rattle.hp_model.specs.machine.Table.{Table}

-- the machine's state, by a table, slots and a pool
abbrev pub state_of : (page_size : ℕ) → Table → List Slot → Pool → State
state_of size table slots p =
    record {
      page_size = size;
      table = table;
      slots = slots;
      nr = p.nr;
      overcommit = p.overcommit;
      nodes = map node_of p.nodes.rows;
      growth = p.nodes.growth;
      release = p.nodes.release;
    }

-- the machine, with the pool's own numbers
pub record Machine : Type 0 where
  pub state : State
  pub pool : Pool

-- it, by its parts
abbrev pub machine_of : (page_size : ℕ) → Table → List Slot → Pool → Machine
machine_of size table slots p = record { state = state_of size table slots p; pool = p }

-- What each step wants of the machine, and keeps: the pool's own numbers are the sums over files and maps, and settled.
pub record IsReadyMachine (m : Machine) : Type 0 where
  pub tied : pool_of m.state ≡ m.pool
  pub settled : IsSettledState m.state
