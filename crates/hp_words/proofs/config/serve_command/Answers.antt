use Rattle.std.proofs.Common.{◌∙◌, ap}
use Rattle.std.proofs.lemmas.Result.{IfOk-weaker}
use Rattle.hp_words.proofs.Commands.{adds_rule, keeps_app, keeps_globals, keeps_local}
use Rattle.hp_words.specs.Asked.{machine_options, with_options}
use Rattle.hp_words.proofs.config.serve_command.Goals as goal

pub returns-clause-app : goal.returns-clause-app
returns-clause-app c =
    let machine = c.in_ok-with_machine.ensures.app ∙ ap (with_options machine_options) (keeps_app _ _ _ _ c.override_usage.ensures c.new.ensures.app) in
    let port = adds_rule _ _ _ _ _ c.in_ok-arg.ensures c.required.ensures.local machine c.required.ensures.rule in
    let sessions = adds_rule _ _ _ _ _ c.in_ok-arg-2.ensures c.required-2.ensures.local port c.required-2.ensures.rule in
    let workers = adds_rule _ _ _ _ _ c.in_ok-arg-3.ensures c.required-3.ensures.local sessions c.required-3.ensures.rule in
    let trace = adds_rule _ _ _ _ _ c.in_ok-arg-4.ensures c.required-4.ensures.local workers c.required-4.ensures.rule in
    IfOk-weaker c.arg-5.result _ _ (λ b h. adds_rule _ _ _ _ _ h c.optional.ensures.local trace c.optional.ensures.rule) c.arg-5.ensures

pub returns-clause-local : goal.returns-clause-local
returns-clause-local c =
    let machine = c.in_ok-with_machine.ensures.local (keeps_globals _ _ _ _ c.override_usage.ensures c.new.ensures.local) in
    let port = keeps_local _ _ _ c.in_ok-arg.ensures c.required.ensures.local machine in
    let sessions = keeps_local _ _ _ c.in_ok-arg-2.ensures c.required-2.ensures.local port in
    let workers = keeps_local _ _ _ c.in_ok-arg-3.ensures c.required-3.ensures.local sessions in
    let trace = keeps_local _ _ _ c.in_ok-arg-4.ensures c.required-4.ensures.local workers in
    IfOk-weaker c.arg-5.result _ _ (λ b h. keeps_local _ _ _ h c.optional.ensures.local trace) c.arg-5.ensures
