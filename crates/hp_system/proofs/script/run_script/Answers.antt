use Rattle.hp_model.proofs.Words.{IsPromisedStep, Machine}
use Rattle.hp_system.proofs.Scripts.{ran_script}
use Rattle.hp_system.proofs.Seen.{serves_seen}
use Rattle.hp_system.proofs.script.run_script.Goals as goal

pub returns-clause-served : goal.returns-clause-served
returns-clause-served g c =
    let old = c.args.machine.now in
    let new = c.run_lines.new.service in
    let h = c.run_lines.ensures.served in (
      h.0,
      h.1,
      serves_seen (λ (m : Machine). m.state) IsPromisedStep old.state.page_size old new (g.W.Write.contents c.args.writer.now)
          (g.W.Write.contents c.run_lines.new.writer) h.0 c.run_lines.result h.2,
    )

pub returns-clause-script : goal.returns-clause-script
returns-clause-script g c =
    let old = c.args.machine.now in
    let new = c.run_lines.new.service in
    let h = c.run_lines.ensures.served in
    ran_script IsPromisedStep old.state.page_size (g.R.Read.remaining c.args.reader.now) (g.R.Read.remaining c.run_lines.new.reader) old.state new.state
    (g.W.Write.contents c.args.writer.now) (g.W.Write.contents c.run_lines.new.writer) c.run_lines.result (
      h.0,
      h.1,
      serves_seen (λ (m : Machine). m.state) IsPromisedStep old.state.page_size old new (g.W.Write.contents c.args.writer.now)
          (g.W.Write.contents c.run_lines.new.writer) h.0 c.run_lines.result h.2,
    ) c.run_lines.ensures.whole
