use Rattle.std.proofs.Common.{◌≡◌, [], sym, ap, subst, ◌∙◌}
use Rattle.hp_model.proofs.Words.{IsSettled, Pool, slots_from, state_of}
use Rattle.hp_system.proofs.Carries.{ready, ready_by, IsKept}
use Rattle.hp_pool.specs.Sums.{idle_pool}
use Rattle.hp_system.proofs.Start.{start_kept, start_is}
use Rattle.hp_system.proofs.system.System.new.Goals as goal

pub open_slots-requires : goal.open_slots-requires
open_slots-requires g c =
    let size = c.args.page_bytes in
    let bytes = g.N.Naming.page_bytes in
    let slots = c.args.slots in
    let kept = start_kept c.args.frames.now size bytes slots c.requires.page_bytes c.requires.bytes c.requires.few c.requires.small in
    record {
      none = c.in_ok-mounts.ensures.items;
      some = c.requires.slots;
      room = c.in_ok-mounts.ensures.capacity;
      settled = subst (λ (p : Pool). IsSettled p) (sym c.in-Ok.ensures) (ready size bytes [] (slots_from slots) (idle_pool c.args.frames.now) kept).settled;
    }

pub returns-in-Ok-clause-ready : goal.returns-in-Ok-clause-ready
returns-in-Ok-clause-ready g c =
    let size = c.args.page_bytes in
    let bytes = g.N.Naming.page_bytes in
    let slots = c.args.slots in
    let frames = c.args.frames.now in
    let fresh : c.open_slots.new.pool ≡ idle_pool frames = c.open_slots.ensures.pool ∙ c.in-Ok.ensures in
    let kept = start_kept frames size bytes slots c.requires.page_bytes c.requires.bytes c.requires.few c.requires.small in
    ready_by (subst (λ t. IsKept size bytes t c.open_slots.new.slots.items c.open_slots.new.pool) (sym c.in_ok-table.ensures)
    (subst (λ xs. IsKept size bytes [] xs c.open_slots.new.pool) (sym c.open_slots.ensures.slots)
    (subst (λ p. IsKept size bytes [] (slots_from slots) p) (sym fresh) kept)))

pub returns-in-Ok-clause-start : goal.returns-in-Ok-clause-start
returns-in-Ok-clause-start g c =
    let size = c.args.page_bytes in
    let slots = c.args.slots in
    let frames = c.args.frames.now in
    let fresh : c.open_slots.new.pool ≡ idle_pool frames = c.open_slots.ensures.pool ∙ c.in-Ok.ensures in
    ap (λ x. state_of size c.in_ok-table.table c.open_slots.new.slots.items x) fresh
    ∙ (ap (λ xs. state_of size c.in_ok-table.table xs (idle_pool frames)) c.open_slots.ensures.slots
    ∙ (ap (λ t. state_of size t (slots_from slots) (idle_pool frames)) c.in_ok-table.ensures ∙ start_is frames size slots))
