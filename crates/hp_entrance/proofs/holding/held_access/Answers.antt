use Rattle.std.proofs.Common.{◌≡◌, ◌==◌, ℕ, sym, subst, ap, ◌∙◌}
use Rattle.hp_model.proofs.Words.{Reply, fault_step, load_step, store_step, told_reply}
use Rattle.hp_laws.proofs.Variants.{Access, Slot as OnSlot, SlotEvent, Step}
use Rattle.hp_model.specs.declared.event.SlotEvent.TheVariants as slot
use Rattle.hp_events.specs.Answered.{IsHanded}
use Rattle.hp_events.specs.Queues.{IsAccessHanded}
use Rattle.hp_events.proofs.Fitting.{fits_result}
use Rattle.hp_entrance.proofs.Held.{found_handed, handed_of}
use Rattle.hp_entrance.proofs.holding.held_access.Goals as goal

pub into_bytes-requires-clause-bytes : goal.into_bytes-requires-clause-bytes
into_bytes-requires-clause-bytes g c =
    let a = c.access.result.now in
    fits_result (g.row.K == 1) g.N.Naming.page_bytes c.args.slot.now.slot.number (slot.Load a.task c.in_ok-home.home a.map a.index a.offset c.in-Load.count) c.unnoted-told.result.0
    c.look.new.self.receipts c.unnoted-told.new.self.receipts
    (handed_of _ _ _ _ _ _ _ _ c.load_of-event.ensures c.unnoted-told.ensures.handed)

pub into_done-requires : goal.into_done-requires
into_done-requires g c =
    let a = c.access.result.now in
    fits_result (g.row.K == 1) g.N.Naming.page_bytes c.args.slot.now.slot.number (slot.Store a.task c.in_ok-home.home a.map a.index a.offset c.in-Store.bytes.now)
    c.unnoted-told-in-Store.result.0 c.look.new.self.receipts c.unnoted-told-in-Store.new.self.receipts
    (handed_of _ _ _ _ _ _ _ _ c.store_of-event.ensures c.unnoted-told-in-Store.ensures.handed)

pub into_done-requires-in-Fault : goal.into_done-requires-in-Fault
into_done-requires-in-Fault g c =
    let a = c.access.result.now in
    fits_result (g.row.K == 1) g.N.Naming.page_bytes c.args.slot.now.slot.number (slot.Fault a.task c.in_ok-home.home a.map a.index c.in-Fault.intent)
    c.unnoted-told-in-Fault.result.0 c.look.new.self.receipts c.unnoted-told-in-Fault.new.self.receipts
    (handed_of _ _ _ _ _ _ _ _ c.fault_of-event.ensures c.unnoted-told-in-Fault.ensures.handed)

pub returns-in-Load-clause-done : goal.returns-in-Load-clause-done
returns-in-Load-clause-done g c =
    let size = g.N.Naming.page_bytes in
    let at = c.args.at in
    let a = c.access.result.now in
    let count = c.in-Load.count in
    let told = told_reply c.unnoted-told.result.0 in
    let was = c.args.member.now.receipts in
    let mid = c.look.new.self.receipts in
    let now = c.unnoted-told.new.self.receipts in
    let event : ℕ → SlotEvent = λ home. slot.Load a.task home a.map a.index a.offset count in
    let step : load_step a count ≡ c.args.queued.now.step = ap (λ (x : Access). load_step x count) c.access.ensures ∙ c.in-Load.ensures in
    let reply : c.answer_load.new.self.reply ≡ told = c.answer_load.ensures.reply ∙ c.into_bytes.ensures.reply in
    subst (λ (s : Step). IsAccessHanded size at s c.answer_load.new.self.reply was now) step
    (subst (λ (r : Reply). IsAccessHanded size at (load_step a count) r was now) (sym reply) (
      c.if-access-at.false,
      found_handed (g.row.K == 1) size at a.task c.in_ok-home.home event told was mid now c.requires.unkept (c.in_ok-home.ensures.found size)
          (subst (λ (n : ℕ). IsHanded (g.row.K == 1) size (OnSlot n (event c.in_ok-home.home)) told mid now) c.requires.number
          (handed_of _ _ _ _ _ _ _ _ c.load_of-event.ensures c.unnoted-told.ensures.handed)),
    ))

pub returns-in-Store-clause-done : goal.returns-in-Store-clause-done
returns-in-Store-clause-done g c =
    let size = g.N.Naming.page_bytes in
    let at = c.args.at in
    let a = c.access.result.now in
    let bytes = c.in-Store.bytes.now in
    let told = told_reply c.unnoted-told-in-Store.result.0 in
    let was = c.args.member.now.receipts in
    let mid = c.look.new.self.receipts in
    let now = c.unnoted-told-in-Store.new.self.receipts in
    let event : ℕ → SlotEvent = λ home. slot.Store a.task home a.map a.index a.offset bytes in
    let step : store_step a bytes ≡ c.args.queued.now.step = ap (λ (x : Access). store_step x bytes) c.access.ensures ∙ c.in-Store.ensures in
    let reply : c.answer_done.new.self.reply ≡ told = c.answer_done.ensures.reply ∙ c.into_done.ensures in
    subst (λ (s : Step). IsAccessHanded size at s c.answer_done.new.self.reply was now) step
    (subst (λ (r : Reply). IsAccessHanded size at (store_step a bytes) r was now) (sym reply) (
      c.if-access-at.false,
      found_handed (g.row.K == 1) size at a.task c.in_ok-home.home event told was mid now c.requires.unkept (c.in_ok-home.ensures.found size)
          (subst (λ (n : ℕ). IsHanded (g.row.K == 1) size (OnSlot n (event c.in_ok-home.home)) told mid now) c.requires.number
          (handed_of _ _ _ _ _ _ _ _ c.store_of-event.ensures c.unnoted-told-in-Store.ensures.handed)),
    ))

pub returns-in-Fault-clause-done : goal.returns-in-Fault-clause-done
returns-in-Fault-clause-done g c =
    let size = g.N.Naming.page_bytes in
    let at = c.args.at in
    let a = c.access.result.now in
    let intent = c.in-Fault.intent in
    let told = told_reply c.unnoted-told-in-Fault.result.0 in
    let was = c.args.member.now.receipts in
    let mid = c.look.new.self.receipts in
    let now = c.unnoted-told-in-Fault.new.self.receipts in
    let event : ℕ → SlotEvent = λ home. slot.Fault a.task home a.map a.index intent in
    let step : fault_step a intent ≡ c.args.queued.now.step = ap (λ (x : Access). fault_step x intent) c.access.ensures ∙ c.in-Fault.ensures in
    let reply : c.answer_done-in-Fault.new.self.reply ≡ told = c.answer_done-in-Fault.ensures.reply ∙ c.into_done-in-Fault.ensures in
    subst (λ (s : Step). IsAccessHanded size at s c.answer_done-in-Fault.new.self.reply was now) step
    (subst (λ (r : Reply). IsAccessHanded size at (fault_step a intent) r was now) (sym reply) (
      c.if-access-at.false,
      found_handed (g.row.K == 1) size at a.task c.in_ok-home.home event told was mid now c.requires.unkept (c.in_ok-home.ensures.found size)
          (subst (λ (n : ℕ). IsHanded (g.row.K == 1) size (OnSlot n (event c.in_ok-home.home)) told mid now) c.requires.number
          (handed_of _ _ _ _ _ _ _ _ c.fault_of-event.ensures c.unnoted-told-in-Fault.ensures.handed)),
    ))
