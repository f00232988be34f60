use Rattle.std.proofs.Common.{◌==◌, List, sym, ap}
use Rattle.std.proofs.lemmas.Bool.{false≢true}
use Rattle.hp_entrance.specs.Members.{MemberView, told_at}
use Rattle.hp_entrance.proofs.Handed.{handed_as, told_before, work_handed}
use Rattle.hp_history.specs.declared.held.Held.{Held}
use Rattle.hp_history.specs.History.{receipts_in}
use Rattle.hp_laws.proofs.Variants.{Slot as OnSlot}
use Rattle.hp_model.specs.declared.event.SlotEvent.TheVariants.{Ls}
use Rattle.hp_events.specs.Replies.{names_reply}
use Rattle.hp_entrance.proofs.member.Member.names.Goals as goal

pub returns-clause-handed : goal.returns-clause-handed
returns-clause-handed g c =
    let v : List Held = c.into_seat-mine.result.me.0 in
    let w : List Held = c.names-names.new.mine.me.0 in
    let reply = names_reply c.names-names.result.0 in
    handed_as (g.row.K == 1) g.N.Naming.page_bytes (OnSlot c.args.slot.now.slot.number Ls) reply
    c.args.self.now.receipts (receipts_in v) (told_at c.into_badge.result.views) (receipts_in w)
    (told_before c.args.self.now c.self.inside.seat.views c.replace.result.views v (sym (ap (λ (m : MemberView). m.receipts) c.self.view_is))
    (ap (λ b. b.views) c.replace.ensures.value) c.into_seat-mine.ensures.2) (ap told_at c.into_badge.ensures.2)
    (work_handed (g.row.K == 1) _ g.N.Naming.page_bytes c.args.slot.now c.names-names.new.self Ls reply v w c.names-names.result.1
    c.names-names.ensures.done c.names-names.ensures.keeps (λ is. absurd (false≢true is)))
