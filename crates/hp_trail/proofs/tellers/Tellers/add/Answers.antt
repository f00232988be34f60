use Rattle.std.proofs.Common.{sym, subst}
use Rattle.hp_model.proofs.Words.{Trails}
use Rattle.hp_trail.specs.Tellers.{Added, Fit, TellerRows}
use Rattle.hp_trail.specs.Walk.{lists, trails_of}
use Rattle.hp_trail.proofs.Adding.{added_task, added_slot, added_pool}
use Rattle.hp_trail.proofs.tellers.Tellers.add.Goals as goal

pub returns-in-Tasks-clause-added : goal.returns-in-Tasks-clause-added
returns-in-Tasks-clause-added c e =
    let t : Trails = trails_of c.args.trails.tasks.now c.args.trails.slots.now c.args.trails.pool.now in
    let old : TellerRows = record { tasks = c.self.inside.tasks.items; slots = lists c.self.inside.slots.items; pool = c.self.inside.pool.items } in
    let fit : Fit t old = subst (λ (x : TellerRows). Fit t x) (sym c.self.view_is) c.requires.fit in
    let new : TellerRows = record old { tasks = c.add_entry.new.row.items } in
    subst (λ (x : TellerRows). Added t c.args.receipt.now c.args.session x new) c.self.view_is
    (added_task t old c.args.receipt.now c.args.session fit c.add_entry.new.row.items c.in-Tasks.is (c.add_entry.ensures.added e))

pub returns-in-Slot-clause-added : goal.returns-in-Slot-clause-added
returns-in-Slot-clause-added c e =
    let t : Trails = trails_of c.args.trails.tasks.now c.args.trails.slots.now c.args.trails.pool.now in
    let old : TellerRows = record { tasks = c.self.inside.tasks.items; slots = lists c.self.inside.slots.items; pool = c.self.inside.pool.items } in
    let fit : Fit t old = subst (λ (x : TellerRows). Fit t x) (sym c.self.view_is) c.requires.fit in
    let new : TellerRows = record old { slots = lists c.add_slot.new.rows.items; pool = c.add_slot.new.pool_row.items } in
    subst (λ (x : TellerRows). Added t c.args.receipt.now c.args.session x new) c.self.view_is
    (added_slot t old c.args.receipt.now c.args.session fit c.in-Slot.slot new.slots new.pool c.in-Slot.is (c.add_slot.ensures.added e))

pub returns-in-Pool-clause-added : goal.returns-in-Pool-clause-added
returns-in-Pool-clause-added c e =
    let t : Trails = trails_of c.args.trails.tasks.now c.args.trails.slots.now c.args.trails.pool.now in
    let old : TellerRows = record { tasks = c.self.inside.tasks.items; slots = lists c.self.inside.slots.items; pool = c.self.inside.pool.items } in
    let fit : Fit t old = subst (λ (x : TellerRows). Fit t x) (sym c.self.view_is) c.requires.fit in
    let new : TellerRows = record old { pool = c.add_entry-in-Pool.new.row.items } in
    subst (λ (x : TellerRows). Added t c.args.receipt.now c.args.session x new) c.self.view_is
    (added_pool t old c.args.receipt.now c.args.session fit c.add_entry-in-Pool.new.row.items c.in-Pool.is (c.add_entry-in-Pool.ensures.added e))
