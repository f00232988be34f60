use Rattle.std.proofs.Common.{◌≡◌, ℕ, Some, List, [], ◌∷◌, length, sym, ap, ◌∙◌, subst}
use Rattle.hp_history.specs.declared.held.Held.{Held}
use Rattle.hp_history.specs.declared.held.Held.TheVariants.{Slot as SlotPart}
use Rattle.hp_history.specs.History.{front_of, receipts_in}
use Rattle.hp_history.specs.Sections.{slot_in}
use Rattle.hp_model.proofs.Words.{IsLocalRun}
use Rattle.hp_locked.specs.Views.{IsTrailOf}
use Rattle.hp_laws.proofs.Variants.{SlotEntry}
use Rattle.hp_shared.specs.Runs.{AreFaultsDone, Faults, SeatedMount, RunView, Seats, faults_of, seated_mount}
use Rattle.hp_shared.specs.Seated.{SeatedView, run_in}
use Rattle.hp_shared.specs.Slots.{slot_start}
use Rattle.hp_shared.proofs.Running.{door_run_on, door_runs}
use Rattle.hp_shared.proofs.SeatedKept.{seat_is}
use Rattle.hp_shared.proofs.seated_slot.SeatedSlot.fault_run.Given.{Over}
use Rattle.hp_shared.proofs.seated_slot.SeatedSlot.fault_run.Goals as goal
use Rattle.hp_shared.proofs.seated_slot.SeatedSlot.fault_run.Goals.{After-drop-seat}

module _ (g : Over) (c : After-drop-seat g) where
  abbrev k : ℕ
  k = c.self.inside.slot.number

  abbrev es : List SlotEntry
  es = run_in c.self.inside.seat.views

  abbrev d : RunView
  d = c.new-door.result

  abbrev e : RunView
  e = c.fault_run-done.new.door

  views_are : c.replace-own.result.views ≡ (SlotPart k es ∷ []) ∷ []
  views_are = ap (λ b. b.views) c.replace-own.ensures.value ∙ c.self.invariant.one

  run_is : d.seats.run ≡ es
  run_is = ap (λ (x : RunView). x.seats.run) c.new-door.ensures ∙ ap run_in views_are

  faults_are : d.faults ≡ faults_of k c.args.access.now c.args.intent
  faults_are = ap (λ (x : RunView). x.faults) c.new-door.ensures ∙ ap (λ vs. faults_of (slot_in (front_of vs)) c.args.access.now c.args.intent) views_are

  index_is : d.index ≡ c.args.access.now.index
  index_is = ap (λ (x : RunView). x.index) c.new-door.ensures

pub invariant_of-self : goal.invariant_of-self
invariant_of-self g c =
    let size = g.N.Naming.page_bytes in
    let s = c.self.inside.slot in
    let done = c.fault_run-done.ensures.done in
    let slot : (e g c).faults.slot ≡ s.number = ap (λ (x : Faults). x.slot) (done.took.faults ∙ faults_are g c) in
    seat_is g.N.Places.history size c.into_seats-mine.result.1.table_id c.into_seats-mine.result.1.views s.number (e g c).seats.run c.fault_run-done.new.self
    c.into_seats-mine.ensures.slot (ap (λ x. x.number) c.fault_run-done.ensures.same)
    (c.into_seats-mine.ensures.trail ∙ ap (λ n. (SlotPart n (e g c).seats.run ∷ []) ∷ []) slot)
    (door_run_on size s.number c.args.access.now c.args.intent done.nodes s.mount c.fault_run-done.new.self.mount (d g c) (e g c) (faults_are g c) (index_is g c)
    done.faulted done.took (slot_start s.number)
    (subst (λ xs. IsLocalRun size s.number (slot_start s.number) xs s.mount) (sym (run_is g c)) c.self.invariant.ends))
    (subst (λ o. IsTrailOf (e g c).seats.run o) (sym (ap (λ x. x.entries) c.fault_run-done.ensures.same ∙ c.fault_run-done.ensures.unkept)) tt)

pub returns-clause-done : goal.returns-clause-done
returns-clause-done g c =
    let size = g.N.Naming.page_bytes in
    let s = c.self.inside.slot in
    let done = c.fault_run-done.ensures.done in
    let access = c.args.access.now in
    let f : Faults = faults_of s.number access c.args.intent in
    let left : SeatedMount = seated_mount (record { slot = c.fault_run-done.new.self; run = run_in c.into_seats-mine.result.1.views }) c.into_seats-mine.result.0.me.0 in
    let begin : SeatedMount = record { mount = s.mount; seats = record { run = es g c; told = receipts_in c.args.mine.me.0 } } in
    let begun : (d g c).seats ≡ record { run = es g c; told = receipts_in c.args.mine.me.0 } =
    λ i. record { run = run_is g c i; told = ap (λ (x : RunView). x.seats.told) c.new-door.ensures i } in
    let ended : left ≡ record { mount = c.fault_run-done.new.self.mount; seats = (e g c).seats } =
    λ i. record {
      mount = c.fault_run-done.new.self.mount;
      seats = record { run = ap run_in c.into_seats-mine.ensures.trail i; told = ap (λ m. receipts_in m.0) c.into_seats-mine.ensures.session i };
    } in
    subst (λ (x : SeatedView). AreFaultsDone size (faults_of x.slot.number access c.args.intent) access.index c.fault_run-done.result (seated_mount x c.args.mine.me.0) left) c.self.view_is
    (subst (λ n. AreFaultsDone size f access.index n begin left) done.counted
    (subst (λ (x : SeatedMount). AreFaultsDone size f access.index (length done.nodes) begin x) (sym ended)
    (subst (λ (x : Seats). AreFaultsDone size f access.index (length done.nodes) (record { mount = s.mount; seats = x })
    (record { mount = c.fault_run-done.new.self.mount; seats = (e g c).seats })) begun
    (door_runs size s.number access c.args.intent done.nodes s.mount c.fault_run-done.new.self.mount (d g c) (e g c) (faults_are g c) (index_is g c) done.faulted done.took))))
