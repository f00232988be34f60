use Rattle.std.proofs.Common.{◌==◌, ℕ, List, ap, ◌∙◌, subst}
use Rattle.hp_model.proofs.Words.{told_reply}
use Rattle.hp_laws.proofs.Variants.{Receipt, Slot as OnSlot}
use Rattle.hp_events.specs.Answered.{IsHanded}
use Rattle.hp_shared.specs.Seated.{SeatedView}
use Rattle.hp_entrance.specs.Members.{EntranceView}
use Rattle.hp_entrance.proofs.entrance.Entrance.of_maps.Goals as goal

pub returns-clause-handed : goal.returns-clause-handed
returns-clause-handed g c =
    let keeps = g.row.K == 1 in
    let size = g.N.Naming.page_bytes in
    let reply = told_reply c.slot-told.result in
    let now = c.slot-told.new.self.receipts in
    let at = ap (λ (s : SeatedView). s.slot.number) c.deref_mut-slot.ensures.value ∙ c.hold_slot-value.ensures.number in
    subst (λ (rs : List Receipt). IsHanded keeps size (OnSlot c.args.at c.args.event) reply rs now) (ap (λ (v : EntranceView). v.receipts) c.self.view_is)
    (subst (λ (n : ℕ). IsHanded keeps size (OnSlot n c.args.event) reply c.self.inside.member.receipts now) at c.slot-told.ensures.handed)
