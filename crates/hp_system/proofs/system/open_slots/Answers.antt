use Rattle.std.proofs.Common.{◌≡◌, ◌+◌, ◌-◌, suc, [], ◌∷◌, ◌++◌, Some, None, replicate, ap, ◌∙◌, arith}
use Rattle.hp_model.proofs.Words.{Slot, open_mount}
use Rattle.hp_system.proofs.Start.{none_more}
use Rattle.hp_system.proofs.system.open_slots.Goals as goal

pub loop-preserved : goal.loop-preserved
loop-preserved g c =
    let was = c.loop.invariant in
    let n = c.loop.counter in
    let some = was.some in
    let next : suc (n - 1) ≡ n + 1 - 1 = omega (arith, some) in
    record {
      opened = c.push_reserved-in-loop.ensures.items ∙ ap (λ (xs : _). xs ++ None ∷ []) was.opened ∙ none_more (Some open_mount) (n - 1) ∙ ap (λ k. Some open_mount ∷ replicate {A = Slot} k None) next;
      some = omega arith;
      many = omega (arith, c.push_reserved-in-loop.ensures.len, was.many);
      room = omega (arith, c.push_reserved-in-loop.ensures.capacity, was.room);
      pool = was.pool;
    }
