use Rattle.std.proofs.Common.{◌==◌, ℕ, Ok, sym, subst}
use Rattle.hp_laws.proofs.Variants.{Home, TableEvent, Tasks as OnTasks}
use Rattle.hp_events.specs.Answered.{IsHanded}
use Rattle.hp_entrance.proofs.asking.seen.Goals as goal

pub returns-in-Some-clause-handed : goal.returns-in-Some-clause-handed
returns-in-Some-clause-handed g c =
    subst (λ (e : TableEvent). (size : ℕ) → IsHanded (g.row.K == 1) size (OnTasks e) (Ok (Home c.in-Some.home)) c.args.member.now.receipts c.look.new.self.receipts)
    (sym c.in-Find.is) c.in-Some.ensures.found
