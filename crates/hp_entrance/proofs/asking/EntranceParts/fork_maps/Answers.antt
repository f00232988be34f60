use Rattle.std.proofs.Common.{◌==◌, sym, subst}
use Rattle.hp_model.proofs.Words.{Reply}
use Rattle.hp_laws.proofs.Variants.{ForkMaps, Slot as OnSlot}
use Rattle.hp_events.specs.Answered.{IsHanded}
use Rattle.hp_entrance.proofs.Forking.{fork_result}
use Rattle.hp_entrance.proofs.asking.EntranceParts.fork_maps.Goals as goal

pub into_done-requires : goal.into_done-requires
into_done-requires g c =
    fork_result (g.row.K == 1) g.N.Naming.page_bytes c.args.at c.args.parent c.args.child c.in-Some.told
    c.args.self.now.receipts c.of_maps.new.self.receipts c.in-Some.ensures.handed

pub returns-in-Some-clause-handed : goal.returns-in-Some-clause-handed
returns-in-Some-clause-handed g c =
    subst (λ (r : Reply). IsHanded (g.row.K == 1) g.N.Naming.page_bytes (OnSlot c.args.at (ForkMaps c.args.parent c.args.child)) r c.args.self.now.receipts c.of_maps.new.self.receipts)
    (sym c.into_done.ensures) c.in-Some.ensures.handed
