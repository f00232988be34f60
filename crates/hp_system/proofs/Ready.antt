-- A machine between steps has a pool that is ready for a section.
use Rattle.std.proofs.Common.{◌≡◌, ℕ, List, arith, subst, sym}
use Rattle.hp_model.proofs.Words.{IsReadyMachine, Machine, Pool, Slot, Table, machine_of, pool_of}
use Rattle.hp_laws.proofs.sections.Lengths.{long_rows}
use Rattle.hp_mount_door.specs.Door.{IsReady as IsReadyPool}

pub ready_pool : (m : Machine) → IsReadyMachine m → IsReadyPool m.pool
ready_pool m r =
    let total = r.settled.pool.total in
    let surplus = r.settled.pool.surplus in
    let nodes = r.settled.nodes in
    let here : IsReadyPool (pool_of m.state) = record { settled = omega (arith, total, surplus); nodes = omega (arith, nodes, long_rows m.state 0 m.state.nodes) } in
    subst IsReadyPool r.tied here

module _ {size : ℕ} {t : Table} {xs : List Slot} {p : Pool} {m : Machine} (is : machine_of size t xs p ≡ m) (r : IsReadyMachine m) where
  -- so has one that is seen by its parts
  pub pool_ready : IsReadyPool p
  pool_ready = ready_pool (machine_of size t xs p) (subst IsReadyMachine (sym is) r)

  -- its task table is no part of it
  pub ready_with : {u : Table} → IsReadyMachine (machine_of size u xs p)
  ready_with =
      let was = subst IsReadyMachine (sym is) r in
      let st = was.settled in
      record { tied = was.tied; settled = record { pool = st.pool; used = st.used; homed = st.homed; slots = st.slots; nodes = st.nodes } }
