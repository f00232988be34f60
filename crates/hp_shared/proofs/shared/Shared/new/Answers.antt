use Rattle.std.proofs.Common.{◌≡◌, ◌≤◌, ◌==◌, length, map, sym, ap, subst, ◌∙◌, arith, All, sum, not, vec_len}
use Rattle.hp_locked.specs.Views.{frames_list}
use Rattle.hp_model.proofs.Words.{IsSettled, Pool, frames_of, idle_row}
use Rattle.hp_mount_door.specs.Door.{IsReady}
use Rattle.hp_pool.specs.Sums.{idle_pool}
use Rattle.hp_shared.proofs.Opened.{fresh_if, frames_named, idle_ready, rows_have}
use Rattle.hp_shared.proofs.shared.Shared.new.Goals as goal

pub first_mount-first-requires : goal.first_mount-first-requires
first_mount-first-requires g c = record { settled = subst (λ (p : Pool). IsSettled p) (sym c.in-Ok.ensures) (idle_ready c.args.frames.now c.requires.few).settled }

pub new-requires-2-clause-nodes : goal.new-requires-2-clause-nodes
new-requires-2-clause-nodes g c =
    sym (ap length (frames_named g.N.Naming.frames c.args.frames.now c.requires.some c.requires.few c.requires.each c.requires.frames))

pub new-requires-2-clause-fresh : goal.new-requires-2-clause-fresh
new-requires-2-clause-fresh g c = fresh_if _ (g.row.K == 1) c.in_ok-parts.parts.fresh.of_tasks c.in_ok-parts.parts.fresh.no_tasks

pub new-requires-4-clause-fresh : goal.new-requires-4-clause-fresh
new-requires-4-clause-fresh g c = fresh_if _ (g.row.K == 1) c.in_ok-parts.parts.fresh.of_pool c.in_ok-parts.parts.fresh.no_pool

pub new-requires-4-clause-start : goal.new-requires-4-clause-start
new-requires-4-clause-start g c =
    let named = frames_named g.N.Naming.frames c.args.frames.now c.requires.some c.requires.few c.requires.each c.requires.frames in
    c.into_parts-pool.ensures ∙ (c.first_mount-first.ensures.pool ∙ (c.in-Ok.ensures ∙ ap idle_pool (sym named)))

pub new-requires-4-clause-ready : goal.new-requires-4-clause-ready
new-requires-4-clause-ready g c =
    subst (λ (p : Pool). IsReady p) (sym (c.into_parts-pool.ensures ∙ (c.first_mount-first.ensures.pool ∙ c.in-Ok.ensures))) (idle_ready c.args.frames.now c.requires.few)

pub new-requires-4-clause-enough : goal.new-requires-4-clause-enough
new-requires-4-clause-enough g c =
    let named = frames_named g.N.Naming.frames c.args.frames.now c.requires.some c.requires.few c.requires.each c.requires.frames in
    let rows : frames_of (map idle_row (frames_list g.N.Naming.frames)) ≡ sum c.args.frames.now = ap (λ fs. frames_of (map idle_row fs)) named ∙ rows_have c.args.frames.now in
    omega (arith, rows, c.in_ok-parts.ensures.enough)

pub invariant_of-result : goal.invariant_of-result
invariant_of-result g c =
    let named = frames_named g.N.Naming.frames c.args.frames.now c.requires.some c.requires.few c.requires.each c.requires.frames in
    let slots : c.args.slots ≡ vec_len c.lock_slots.new.locks = sym (c.lock_slots.ensures ∙ c.in_ok-parts.ensures.slots) in
    record {
      shape = c.requires.shape ∙ (λ i. record { slots = slots i; nodes = ap length (sym named) i; looks = not (g.row.K == 1) });
      size = c.requires.page_bytes;
      some = c.requires.bytes;
      most = c.requires.few_bytes;
      any = omega (arith, slots, c.requires.slots);
      few = omega (arith, slots, c.requires.few_slots);
      nodes = omega (arith, ap length named, c.requires.few);
      small = subst (λ xs. All (λ f. f ≤ 65536) xs) (sym named) c.requires.small;
    }
