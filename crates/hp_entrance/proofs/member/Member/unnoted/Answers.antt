use Rattle.std.proofs.Common.{◌==◌, List, sym, ap}
use Rattle.hp_model.proofs.Words.{told_reply}
use Rattle.hp_entrance.specs.Members.{MemberView, told_at}
use Rattle.hp_entrance.proofs.Handed.{handed_as, told_before, unnoted_handed}
use Rattle.hp_history.specs.declared.held.Held.{Held}
use Rattle.hp_history.specs.History.{receipts_in}
use Rattle.hp_laws.proofs.Variants.{Slot as OnSlot}
use Rattle.hp_entrance.proofs.member.Member.unnoted.Goals as goal

pub returns-clause-handed : goal.returns-clause-handed
returns-clause-handed g c =
    let v : List Held = c.into_seat-mine.result.me.0 in
    let w : List Held = c.event_unnoted-mine.result.0.me.0 in
    let reply = told_reply c.event_unnoted-mine.result.1 in
    handed_as (g.row.K == 1) g.N.Naming.page_bytes (OnSlot c.args.slot.now.slot.number c.args.event) reply
    c.args.self.now.receipts (receipts_in v) (told_at c.into_badge.result.views) (receipts_in w)
    (told_before c.args.self.now c.self.inside.seat.views c.replace.result.views v (sym (ap (λ (m : MemberView). m.receipts) c.self.view_is))
    (ap (λ b. b.views) c.replace.ensures.value) c.into_seat-mine.ensures.2) (ap told_at c.into_badge.ensures.2)
    (unnoted_handed (g.row.K == 1) g.N.Naming.page_bytes c.args.slot.now c.event_unnoted-mine.new.self c.args.event reply v w _
    c.event_unnoted-mine.ensures.done c.event_unnoted-mine.ensures.keeps)
