use Rattle.std.proofs.Common.{◌∙◌, map, true, false, refl, sym}
use Rattle.std.proofs.lemmas.Result.{err_from_is_err_and}
use Rattle.hp_words.proofs.Commands.{asks, asks_to, found, none_met, option_first, sub_met}
use Rattle.hp_words.proofs.Refused.{good_machine, refused_for, wrong_behind, wrong_in, wrong_in_front}
use Rattle.hp_words.specs.Asked.{machine_options, options_in, serving_options}
use Rattle.hp_words.proofs.config.config.Goals as goal

pub returns-in-None-clause-asked : goal.returns-in-None-clause-asked
returns-in-None-clause-asked g c =
    let f = found _ _ c.in-Ok.matches _ c.in_ok-command.ensures c.in-Ok.ensures.kinds c.in-Ok.ensures.matches (none_met _ c.in-None.ensures.rows) in
    asks _ _ _ _ f refl refl c.in_ok-machine_of-in-None.ensures.sets

pub returns-in-Some-2-clause-asked : goal.returns-in-Some-2-clause-asked
returns-in-Some-2-clause-asked g c =
    let f = found _ _ c.in-Ok.matches _ c.in_ok-command.ensures c.in-Ok.ensures.kinds c.in-Ok.ensures.matches (sub_met _ _ _ c.in-Some.ensures.name c.in-Some.ensures.rows) in
    asks_to _ _ _ _ _ f (sym c.has_option.ensures ∙ c.if-has_option.false) (sym c.is_serve.ensures ∙ c.if-is_serve.true) c.in_ok-machine_of-in-Some-2.ensures.sets
    c.in_ok-serving_of-in-Some-2.ensures.sets

pub returns-clause-asked : goal.returns-clause-asked
returns-clause-asked g c =
    let f = found _ _ c.in-Ok.matches _ c.in_ok-command.ensures c.in-Ok.ensures.kinds c.in-Ok.ensures.matches (sub_met _ _ _ c.in-Some.ensures.name c.in-Some.ensures.rows) in
    asks _ _ _ _ f (sym c.has_option.ensures ∙ c.if-has_option.false) (sym c.is_serve.ensures ∙ c.if-is_serve.false) c.in_ok-machine_of-in-Some-3.ensures.sets

pub returns-in-Err-clause-refused : goal.returns-in-Err-clause-refused
returns-in-Err-clause-refused g c =
    refused_for _ (map g.S.AsStr.text c.args.words.now) c.in-Err.error c.wrong_of.result c.in_ok-command.ensures c.in-Err.ensures.passes c.in-Err.ensures.kinds c.wrong_of.ensures

pub returns-in-Some-clause-refused : goal.returns-in-Some-clause-refused
returns-in-Some-clause-refused g c =
    let f = found _ _ c.in-Ok.matches _ c.in_ok-command.ensures c.in-Ok.ensures.kinds c.in-Ok.ensures.matches (sub_met _ _ _ c.in-Some.ensures.name c.in-Some.ensures.rows) in
    (f.faultless, option_first _ _ _ f ∙ sym c.has_option.ensures ∙ c.if-has_option.true)

pub returns-in_err-machine_of-in-None-clause-refused : goal.returns-in_err-machine_of-in-None-clause-refused
returns-in_err-machine_of-in-None-clause-refused g c =
    let f = found _ _ c.in-Ok.matches _ c.in_ok-command.ensures c.in-Ok.ensures.kinds c.in-Ok.ensures.matches (none_met _ c.in-None.ensures.rows) in
    let p = err_from_is_err_and c.from_residual-in_err-machine_of-in-None.result c.from_residual-in_err-machine_of-in-None.ensures.1 in
    rw (p.1, p.2) (wrong_in _ _ _ false _ f refl refl c.in_err-machine_of-in-None.ensures.wrong)

pub returns-in_err-machine_of-in-Some-2-clause-refused : goal.returns-in_err-machine_of-in-Some-2-clause-refused
returns-in_err-machine_of-in-Some-2-clause-refused g c =
    let f = found _ _ c.in-Ok.matches _ c.in_ok-command.ensures c.in-Ok.ensures.kinds c.in-Ok.ensures.matches (sub_met _ _ _ c.in-Some.ensures.name c.in-Some.ensures.rows) in
    let p = err_from_is_err_and c.from_residual-in_err-machine_of-in-Some-2.result c.from_residual-in_err-machine_of-in-Some-2.ensures.1 in
    rw (p.1, p.2) (wrong_in _ _ _ true _ f (sym c.has_option.ensures ∙ c.if-has_option.false) (sym c.is_serve.ensures ∙ c.if-is_serve.true)
    (wrong_in_front machine_options serving_options (options_in c.in-Some.field-0.1.now) c.in_err-machine_of-in-Some-2.field-0.0 c.in_err-machine_of-in-Some-2.ensures.wrong))

pub returns-in_err-serving_of-in-Some-2-clause-refused : goal.returns-in_err-serving_of-in-Some-2-clause-refused
returns-in_err-serving_of-in-Some-2-clause-refused g c =
    let f = found _ _ c.in-Ok.matches _ c.in_ok-command.ensures c.in-Ok.ensures.kinds c.in-Ok.ensures.matches (sub_met _ _ _ c.in-Some.ensures.name c.in-Some.ensures.rows) in
    let p = err_from_is_err_and c.from_residual-in_err-serving_of-in-Some-2.result c.from_residual-in_err-serving_of-in-Some-2.ensures.1 in
    let good = good_machine (options_in c.in-Some.field-0.1.now) _ c.in_ok-machine_of-in-Some-2.ensures.sets c.in_ok-machine_of-in-Some-2.ensures.limits in
    rw (p.1, p.2) (wrong_in _ _ _ true _ f (sym c.has_option.ensures ∙ c.if-has_option.false) (sym c.is_serve.ensures ∙ c.if-is_serve.true)
    (wrong_behind machine_options serving_options (options_in c.in-Some.field-0.1.now) c.in_err-serving_of-in-Some-2.field-0.0 good c.in_err-serving_of-in-Some-2.ensures.wrong))

pub returns-in_err-machine_of-in-Some-3-clause-refused : goal.returns-in_err-machine_of-in-Some-3-clause-refused
returns-in_err-machine_of-in-Some-3-clause-refused g c =
    let f = found _ _ c.in-Ok.matches _ c.in_ok-command.ensures c.in-Ok.ensures.kinds c.in-Ok.ensures.matches (sub_met _ _ _ c.in-Some.ensures.name c.in-Some.ensures.rows) in
    let p = err_from_is_err_and c.from_residual-in_err-machine_of-in-Some-3.result c.from_residual-in_err-machine_of-in-Some-3.ensures.1 in
    rw (p.1, p.2) (wrong_in _ _ _ false _ f (sym c.has_option.ensures ∙ c.if-has_option.false) (sym c.is_serve.ensures ∙ c.if-is_serve.false)
    c.in_err-machine_of-in-Some-3.ensures.wrong)
