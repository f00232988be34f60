use Rattle.std.proofs.Common.{rules, sym, ◌∙◌}
use Rattle.hp_trail.proofs.ListsSame.{same_list, own_rows}
use Rattle.hp_trail.proofs.same.same_rows.Goals as goal

pub returns-clause-same : goal.returns-clause-same
returns-clause-same c e = same_list _ (λ x y h. search rules) c.args.xs.now c.args.ys.now (sym c.eq.ensures ∙ e)

pub returns-clause-other : goal.returns-clause-other
returns-clause-other c e = own_rows _ (λ x. search rules) c.args.xs.now c.args.ys.now (sym c.eq.ensures ∙ e)
