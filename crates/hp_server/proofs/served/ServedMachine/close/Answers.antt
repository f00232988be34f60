use Rattle.std.proofs.Common.{◌≡◌, ◌==◌, is_some, sym, ap, ◌∙◌}
use Rattle.hp_locked.specs.Views.{frames_list}
use Rattle.hp_model.proofs.Words.{start}
use Rattle.hp_closing.specs.Joined.{WasJoined}
use Rattle.hp_closing.specs.OneRun.{WasOneRun, all_told}
use Rattle.hp_server.proofs.served.ServedMachine.close.Goals as goal
use Rattle.hp_server.proofs.served.ServedMachine.close.Goals.{then-closed, else-closed}

pub returns-clause-leaves : goal.returns-clause-leaves
returns-clause-leaves g c =
    let from = start (frames_list g.N.Naming.frames) c.args.self.shared.page_size c.args.self.shared.slots in
    let left = c.args.told.items in
    let closed = c.in_ok-closed.closed in
    let had = c.in_ok-closed.ensures in
    record {
      page = had.page;
      audited = λ whole.
          elim c.if-closed.branch as (λ _. is_some c.if-closed.audit ≡ (g.row.K == 1)) [
            | then-closed w ↦ ap is_some w.audit-is ∙ had.audited
            | else-closed w ↦ absurd (whole w.audit-is)
          ];
      run = λ whole.
          elim c.if-closed.branch as (λ _. WasOneRun from left closed.counts) [
            | then-closed w ↦ had.run w.if-closed.true
            | else-closed w ↦ absurd (whole w.audit-is)
          ];
      joined = λ ok.
          elim c.if-closed.branch as (λ _. WasJoined from (all_told left) closed.counts) [
            | then-closed w ↦ had.joined (sym w.audit-is ∙ ok)
            | else-closed w ↦ (let differ = sym w.audit-is ∙ ok in cc)
          ];
    }
