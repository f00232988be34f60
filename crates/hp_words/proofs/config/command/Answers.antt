use Rattle.std.proofs.Common.{◌∙◌, refl, ap, ap₂}
use Rattle.std.proofs.lemmas.Result.{IfOk-weaker}
use Rattle.clap.specs.Words.{App, with_subcommand}
use Rattle.hp_words.proofs.Commands.{adds_version, keeps_app}
use Rattle.hp_words.specs.Asked.{machine_options, with_options}
use Rattle.hp_words.proofs.config.command.Goals as goal

pub returns : goal.returns
returns c =
    let usage = keeps_app _ _ _ _ c.override_usage.ensures c.new.ensures.app in
    let top = c.in_ok-program.ensures.app ∙ ap (with_options machine_options) (adds_version _ _ _ _ c.version.ensures refl usage) in
    let script = c.in_ok-subcommand.ensures.shape c.in_ok-script_command.ensures.local
    ∙ ap₂ with_subcommand top (ap (λ (a : App). a.top) c.in_ok-script_command.ensures.app) in
    IfOk-weaker c.subcommand-2.result _ _ (λ b h. h.shape c.in_ok-serve_command.ensures.local
    ∙ ap₂ with_subcommand script (ap (λ (a : App). a.top) c.in_ok-serve_command.ensures.app)) c.subcommand-2.ensures
