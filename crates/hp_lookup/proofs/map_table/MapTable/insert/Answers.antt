use Rattle.std.proofs.lemmas.Grind.{common_steps}
use Rattle.std.proofs.Common.{◌≡◌, ◌==◌, ◌-◌, ℕ, List, cond, insert, ap, arith, subst, sym, ◌∙◌}
use Rattle.hp_lookup.specs.Table.{IsGap, TaskNumbers, numbers_at, numbers_under}
use Rattle.hp_lookup.proofs.Tables.{numbers_inserted}
use Rattle.hp_lookup.proofs.map_table.MapTable.insert.Goals as goal

pub returns : goal.returns
returns c t =
    let s = c.self.inside in
    let gap = subst (λ (v : TaskNumbers). IsGap v.tasks c.args.task c.args.at) (sym c.self.view_is) c.requires.gap in
    let one : c.insert.new.self.items ≡ insert s.tasks.items c.args.at c.args.task = grind (arith, common_steps) in
    let two : c.insert-2.new.self.items ≡ insert s.maps.items c.args.at c.args.maps = grind (arith, common_steps) in
    subst (λ (v : TaskNumbers). numbers_under t c.insert.new.self.items c.insert-2.new.self.items ≡ cond (c.args.task == t) c.args.maps (numbers_at t v)) c.self.view_is
    (ap (λ (ys : List ℕ). numbers_under t ys c.insert-2.new.self.items) one ∙ ap (numbers_under t (insert s.tasks.items c.args.at c.args.task)) two
    ∙ numbers_inserted s.tasks.items s.maps.items c.self.invariant c.args.task c.args.at gap c.args.maps t)
