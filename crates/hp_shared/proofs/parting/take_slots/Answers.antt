use Rattle.std.proofs.Common.{◌≡◌, ◌==◌, ◌++◌, length, sym, ap, ◌∙◌, arith}
use Rattle.std.proofs.lemmas.Bool.{eqb-true, false≢true}
use Rattle.hp_shared.specs.Ended.{AreSlotsJoined}
use Rattle.hp_trail.specs.Walk.{lists}
use Rattle.hp_shared.proofs.Joining.{slot_joined}
use Rattle.hp_shared.proofs.parting.take_slots.Goals as goal
use Rattle.hp_shared.proofs.parting.take_slots.Goals.{then-in_order, else-in_order}

pub loop-slot-preserved : goal.loop-slot-preserved
loop-slot-preserved g c =
    let was = c.loop-slot.invariant in
    let mounted = c.push_reserved.ensures in
    let noted = c.push_reserved-in-Some.ensures in
    let slot = c.into_parts-number.result in
    let parts = c.into_parts-number.ensures in
    record {
      all = omega (arith, was.all, mounted.len, c.in-Some.ensures.len, c.in-Some.ensures.cases);
      same = omega (arith, was.same, mounted.len, noted.len);
      mounts_fit = omega (arith, was.mounts_fit, mounted.len, mounted.capacity, c.in-Some.ensures.len, c.in-Some.ensures.cases);
      trails_fit = omega (arith, was.trails_fit, mounted.len, noted.capacity, c.in-Some.ensures.len, c.in-Some.ensures.cases);
      named = c.take_in.ensures.named;
      alone = ap (λ m. m.1) c.take_in.ensures.view ∙ ap (λ m. m.1) parts.seat;
      joined = λ order.
          elim c.if-in_order.branch as (λ _. AreSlotsJoined (g.row.K == 1) g.N.Naming.page_bytes (lists c.push_reserved-in-Some.new.self.items)
          c.push_reserved.new.self.items c.args.seat.me.0 c.take_in.new.seat.me.0) [
            | then-in_order w ↦
                let here : slot.0 ≡ length c.loop-slot.mounts.items =
                (let same = eqb-true slot.0 w.len.result (sym w.in_order-is ∙ order) in omega (arith, same, w.len.ensures, c.loop-slot.mounts.ok.0)) in
                let seated = c.into_inner.result in
                slot_joined (g.row.K == 1) g.N.Naming.page_bytes seated.slot.number seated.run seated.slot.entries seated.slot.mount slot.1 slot.2 c.into_entries.result
                c.loop-slot.trails.items c.push_reserved-in-Some.new.self.items c.loop-slot.mounts.items c.push_reserved.new.self.items c.args.seat.me.0
                c.loop-slot.seat.me.0 c.take_in.new.seat.me.0 (was.joined w.if-in_order.true) (sym parts.number ∙ here) parts.run parts.kept parts.entries parts.mount
                c.into_entries.ensures noted.items mounted.items
                (ap (λ m. m.0) c.take_in.ensures.view ∙ ap (λ m. c.loop-slot.seat.me.0 ++ m.0) parts.seat)
            | else-in_order w ↦ absurd (false≢true (sym w.if-in_order.false ∙ (sym w.in_order-is ∙ order)))
          ];
    }
