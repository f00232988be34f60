use Rattle.std.proofs.lemmas.Result.{IfOk-weaker}
use Rattle.hp_words.proofs.Commands.{keeps_local}
use Rattle.hp_words.proofs.config.with_machine.Goals as goal

pub returns-clause-local : goal.returns-clause-local
returns-clause-local c =
    IfOk-weaker c.arg-3.result _ _ (λ b h local. keeps_local _ _ _ h c.optional-3.ensures.local (keeps_local _ _ _ c.in_ok-arg-2.ensures c.optional-2.ensures.local
    (keeps_local _ _ _ c.in_ok-arg.ensures c.optional.ensures.local local))) c.arg-3.ensures
