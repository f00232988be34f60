use Rattle.std.proofs.Common.{◌≡◌, ◌∙◌, ℕ, List, ap, rules}
use Rattle.hp_model.proofs.Words.{start}
use Rattle.hp_system.proofs.Ready.{ready_pool}
use Rattle.hp_program.proofs.Runs.{run_ended, script_answered}
use Rattle.hp_program.proofs.run.run_machine.Goals as goal

pub returns-clause-run : goal.returns-clause-run
returns-clause-run g c =
    let frames : c.as_slice-frames.result.now ≡ c.args.config.now.frames.items = search rules in
    let same = c.in-Ok.ensures.start ∙ ap (λ (fs : List ℕ). start fs c.args.config.now.page c.args.config.now.slots) frames in
    run_ended c.in-Ok.machine.state c.run_script-ended.new.machine.state _ (g.R.Read.remaining c.args.input.now) (g.R.Read.remaining c.run_script-ended.new.reader)
    (g.W.Write.contents c.args.output.now) (g.W.Write.contents c.run_script-ended.new.writer) c.run_script-ended.result
    (g.R.Source.is_sure c.args.input.now) (g.W.Sink.is_sure c.args.output.now) same c.run_script-ended.ensures.served c.run_script-ended.ensures.never

pub returns-clause-script : goal.returns-clause-script
returns-clause-script g c =
    let frames : c.as_slice-frames.result.now ≡ c.args.config.now.frames.items = search rules in
    let same = c.in-Ok.ensures.start ∙ ap (λ (fs : List ℕ). start fs c.args.config.now.page c.args.config.now.slots) frames in
    script_answered c.in-Ok.machine.state c.run_script-ended.new.machine.state _ (g.R.Read.remaining c.args.input.now)
    (g.W.Write.contents c.args.output.now) (g.W.Write.contents c.run_script-ended.new.writer) c.run_script-ended.result same c.run_script-ended.ensures.script

pub close-requires : goal.close-requires
close-requires g c = record { ready = ready_pool c.run_script-ended.new.machine c.run_script-ended.ensures.ready }
