use Rattle.std.proofs.Common.{◌≡◌, ◌==◌, ◌∙◌, ◌∷◌, ◌++◌, true, List, [], length, sym, ap, subst, IfSome, not, vec_len}
use Rattle.hp_locked.specs.Views.{IsPoolTrail, IsTrailOf, frames_list}
use Rattle.hp_model.proofs.Words.{IsPoolRun, IsTableRun, Pool, machine_of, start}
use Rattle.hp_mount_door.specs.Door.{IsReady}
use Rattle.hp_pool.specs.Sums.{idle_pool}
use Rattle.hp_laws.proofs.Variants.{TableEntry}
use Rattle.hp_history.specs.declared.held.Held.TheVariants.{Tasks, Pool as PoolPart, Opener}
use Rattle.hp_history.specs.History.{sessions_in}
use Rattle.hp_laws.proofs.settled.StaysSettled.{start_is_settled}
use Rattle.hp_trail.specs.Keeping.{kept_if}
use Rattle.hp_trail.specs.Walk.{lists}
use Rattle.hp_shared.proofs.Gathered.{given_ends}
use Rattle.hp_shared.proofs.Joining.{has_ended}
use Rattle.hp_shared.specs.Ended.{HasEnded}
use Rattle.hp_shared.specs.Sharing.{AreGathered, EndsRuns, SharedView, entries_of}
use Rattle.hp_shared.proofs.shared.Shared.into_parts.Goals as goal

pub returns-clause-runs : goal.returns-clause-runs
returns-clause-runs g c =
    let s = c.self.inside in
    let fs = frames_list g.N.Naming.frames in
    let keeps = g.row.K == 1 in
    let tasks = c.into_parts-table in
    let pool = c.into_parts-pool in
    let run : List TableEntry = c.into_inner.result.run in
    let kept : IsTrailOf run (kept_if keeps tasks.result.1) = subst (IsTrailOf run) (sym tasks.ensures.entries) tasks.ensures.kept in
    let tabled : IsTableRun (length fs) [] run tasks.result.0 = subst (λ t. IsTableRun (length fs) [] run t) (sym tasks.ensures.tasks) tasks.ensures.run in
    let pooled : IsPoolTrail (idle_pool fs) (kept_if keeps pool.result.1) pool.result.0 =
    subst (λ (p : Pool). IsPoolTrail (idle_pool fs) (kept_if keeps pool.result.1) p) (sym pool.ensures.pool)
    (subst (λ o. IsPoolTrail (idle_pool fs) o c.into_inner-2.result.pool) (sym pool.ensures.entries) pool.ensures.run) in
    let gathered : keeps ≡ true → c.take_slots-in_order.result.0 ≡ true → AreGathered g.N.Naming.page_bytes (lists c.take_slots-in_order.new.trails.items) c.take_slots-in_order.new.mounts.items =
    (λ is order. let joined = c.take_slots-in_order.ensures.joined order in
    subst (λ ts. AreGathered g.N.Naming.page_bytes ts c.take_slots-in_order.new.mounts.items) (sym (joined.same is)) joined.runs) in
    let ends = given_ends keeps c.take_slots-in_order.result.0 fs g.N.Naming.page_bytes (vec_len s.slots) tasks.result.1 pool.result.1
    c.take_slots-in_order.new.trails.items tasks.result.0 c.take_slots-in_order.new.mounts.items pool.result.0 c.trails_in.result run
    c.self.invariant.any c.take_slots-in_order.ensures.count kept tabled pooled gathered c.trails_in.ensures.given in
    let given = c.trails_in.result in
    subst (λ (v : SharedView). IfSome given (λ t. EndsRuns (start fs v.page_size v.slots) (entries_of t)
    (machine_of s.page_bytes tasks.result.0 c.take_slots-in_order.new.mounts.items c.from_parts.result))) c.self.view_is
    (subst (λ (p : Pool). IfSome given (λ t. EndsRuns (start fs s.page_bytes (vec_len s.slots)) (entries_of t)
    (machine_of s.page_bytes tasks.result.0 c.take_slots-in_order.new.mounts.items p))) (sym c.from_parts.ensures)
    (subst (λ n. IfSome given (λ t. EndsRuns (start fs n (vec_len s.slots)) (entries_of t) (machine_of n tasks.result.0 c.take_slots-in_order.new.mounts.items pool.result.0)))
    (sym c.self.invariant.size) ends))

pub returns-clause-ends : goal.returns-clause-ends
returns-clause-ends g c = λ ordered.
    let order = sym c.new.ensures.in_order ∙ ordered in
    let s = c.self.inside in
    let fs = frames_list g.N.Naming.frames in
    let keeps = g.row.K == 1 in
    let tasks = c.into_parts-table in
    let pool = c.into_parts-pool in
    let opener = c.into_parts-sessions in
    let slots = c.take_slots-in_order in
    let es = c.into_inner.result.run in
    let ps = c.into_inner-2.result.run in
    let tabled : IsTableRun (length fs) [] es tasks.result.0 = subst (λ t. IsTableRun (length fs) [] es t) (sym tasks.ensures.tasks) tasks.ensures.run in
    let pooled : IsPoolRun (idle_pool fs) ps pool.result.0 = subst (λ (p : Pool). IsPoolRun (idle_pool fs) ps p) (sym pool.ensures.pool) pool.ensures.history in
    let kt : IsTrailOf es (kept_if keeps tasks.result.1) = subst (IsTrailOf es) (sym tasks.ensures.entries) tasks.ensures.kept in
    let kp : IsTrailOf ps (kept_if keeps pool.result.1) = subst (IsTrailOf ps) (sym pool.ensures.entries) pool.ensures.kept in
    let was : c.take_in-2.new.seat.me.0 ≡ Tasks es ∷ PoolPart ps ∷ Opener (sessions_in opener.result.1.me.0) ∷ [] =
    ap (λ m. m.0) c.take_in-2.ensures.view
    ∙ (ap (λ m. m.0 ++ opener.result.1.me.0) c.take_in.ensures.view
    ∙ (ap (λ m. (m.0 ++ pool.result.2.me.0) ++ opener.result.1.me.0) tasks.ensures.trail
    ∙ (ap (λ m. (Tasks es ∷ m.0) ++ opener.result.1.me.0) pool.ensures.seat ∙ ap (λ hs. Tasks es ∷ PoolPart ps ∷ hs) opener.ensures.opens))) in
    let ended = has_ended keeps slots.result.0 fs g.N.Naming.page_bytes (vec_len s.slots) es ps tasks.result.0 slots.new.mounts.items pool.result.0 tasks.result.1
    pool.result.1 slots.new.trails.items (sessions_in opener.result.1.me.0) opener.result.0 c.take_in-2.new.seat.me.0 slots.result.1.me.0 c.trails_in.result
    c.self.invariant.any slots.ensures.count tabled pooled kt kp (slots.ensures.joined order) was opener.ensures.count order c.trails_in.ensures.some
    c.trails_in.ensures.given in
    let machine = machine_of s.page_bytes tasks.result.0 slots.new.mounts.items c.from_parts.result in
    subst (λ n. HasEnded keeps (start fs c.args.self.page_size c.args.self.slots) c.args.self.slots machine c.trails_in.result n c.new.result.seat.me.0)
    (sym c.new.ensures.sessions)
    (subst (λ hs. HasEnded keeps (start fs c.args.self.page_size c.args.self.slots) c.args.self.slots machine c.trails_in.result opener.result.0 hs)
    (sym (ap (λ t. t.me.0) c.new.ensures.seat)) (
    subst (λ (v : SharedView). HasEnded keeps (start fs v.page_size v.slots) v.slots (machine_of s.page_bytes tasks.result.0 slots.new.mounts.items c.from_parts.result)
    c.trails_in.result opener.result.0 slots.result.1.me.0) c.self.view_is
    (subst (λ (p : Pool). HasEnded keeps (start fs s.page_bytes (vec_len s.slots)) (vec_len s.slots) (machine_of s.page_bytes tasks.result.0 slots.new.mounts.items p)
    c.trails_in.result opener.result.0 slots.result.1.me.0) (sym c.from_parts.ensures)
    (subst (λ n. HasEnded keeps (start fs n (vec_len s.slots)) (vec_len s.slots) (machine_of n tasks.result.0 slots.new.mounts.items pool.result.0) c.trails_in.result
    opener.result.0 slots.result.1.me.0) (sym c.self.invariant.size) ended))))

pub returns-clause-settled : goal.returns-clause-settled
returns-clause-settled g c = start_is_settled (frames_list g.N.Naming.frames) c.args.self.page_size c.args.self.slots c.self.invariant.nodes c.self.invariant.small

pub returns-clause-shape : goal.returns-clause-shape
returns-clause-shape g c =
    subst (λ (v : SharedView). g.N.Places.shape ≡ record { slots = v.slots; nodes = length (frames_list g.N.Naming.frames); looks = not (g.row.K == 1) }) c.self.view_is c.self.invariant.shape

pub returns-clause-page : goal.returns-clause-page
returns-clause-page g c = ap (λ (v : SharedView). v.page_size) c.self.view_is

pub returns-clause-slots : goal.returns-clause-slots
returns-clause-slots g c = c.take_slots-in_order.ensures.count ∙ ap (λ (v : SharedView). v.slots) c.self.view_is

pub take_in-requires-clause-none : goal.take_in-requires-clause-none
take_in-requires-clause-none g c = ap (λ m. m.1) c.into_parts-table.ensures.trail

pub take_in-requires-2-clause-none : goal.take_in-requires-2-clause-none
take_in-requires-2-clause-none g c = ap (λ m. m.1) c.take_in.ensures.view ∙ ap (λ m. m.1) c.into_parts-pool.ensures.seat

pub returns-clause-ready : goal.returns-clause-ready
returns-clause-ready g c = subst (λ (p : Pool). IsReady p) (sym (c.from_parts.ensures ∙ c.into_parts-pool.ensures.pool)) c.into_parts-pool.ensures.ready

pub returns-clause-none : goal.returns-clause-none
returns-clause-none g c = c.trails_in.ensures.none
