use Rattle.std.proofs.Common.{◌≡◌, ◌+◌, ◌-◌, ◌<◌, suc, sym, subst, ap, ◌∙◌, arith, length}
use Rattle.std.specs.List.{range_with_len}
use Rattle.hp_model.proofs.Words.{IsScript, Machine, fork_slots}
use Rattle.hp_system.specs.Event.{IsForkedOn, mapped_slots}
use Rattle.hp_system.proofs.Forking.{next_slot, slot_refused}
use Rattle.hp_system.proofs.system.System.fork_slots.Goals as goal

pub fork_slot-requires-clause-within : goal.fork_slot-requires-clause-within
fork_slot-requires-clause-within g c =
    let l = c.loop-at-test.true in
    let many = ap (λ (x : Machine). length x.state.slots) c.self.view_is in
    let len = c.len-at-end.ensures in
    let same = c.loop-at.invariant.slots in
    omega (arith, l, many, len, same)

pub returns-in-Err-clause-done : goal.returns-in-Err-clause-done
returns-in-Err-clause-done g c reply u go =
    let was = c.loop-at.invariant in
    let now = c.loop-at.self.state in
    let at = c.loop-at.at in
    let n = length c.args.self.now.state.slots in
    let left : n - at ≡ suc (n - (at + 1)) =
    (let l = c.loop-at-test.true in let many = ap (λ (x : Machine). length x.state.slots) c.self.view_is in let len = c.len-at-end.ensures in omega (arith, l, many, len)) in
    let refused = subst (λ r. IsForkedOn now at c.args.parent c.args.child r c.fork_slot.new.self.state) c.in-Err.is c.fork_slot.ensures.done in
    was.done reply u
    (subst (λ k. IsScript now (fork_slots (range_with_len at k) (mapped_slots now at c.args.parent) c.args.parent c.args.child) reply u) (sym left)
    (slot_refused c.args.parent c.args.child c.requires.apart now c.fork_slot.new.self.state c.undo_fork.new.self.state at (n - (at + 1))
    c.in-Err.refusal was.ready.settled refused c.undo_fork.ensures.done reply u go))

pub loop-at-preserved : goal.loop-at-preserved
loop-at-preserved g c =
    let was = c.loop-at.invariant in
    let now = c.loop-at.self.state in
    let new = c.fork_slot.new.self.state in
    let at = c.loop-at.at in
    let n = length c.args.self.now.state.slots in
    let below : at < n =
    (let l = c.loop-at-test.true in let many = ap (λ (x : Machine). length x.state.slots) c.self.view_is in let len = c.len-at-end.ensures in omega (arith, l, many, len)) in
    let left : n - at ≡ suc (n - (at + 1)) = omega (arith, below) in
    let within : at < length now.slots = (let many = was.slots in omega (arith, below, many)) in
    let forked = subst (λ r. IsForkedOn now at c.args.parent c.args.child r new) c.in_default.is c.fork_slot.ensures.done in
    record {
      done = λ reply u go.
          was.done reply u
          (subst (λ k. IsScript now (fork_slots (range_with_len at k) (mapped_slots now at c.args.parent) c.args.parent c.args.child) reply u) (sym left)
          (next_slot c.args.parent c.args.child c.requires.apart now new at (n - (at + 1)) within forked reply u go));
      slots = c.fork_slot.ensures.slots ∙ was.slots;
      size = c.fork_slot.ensures.size ∙ was.size;
      ready = c.fork_slot.ensures.ready;
    }
