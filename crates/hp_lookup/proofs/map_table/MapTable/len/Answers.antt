use Rattle.std.proofs.Common.{◌≡◌, length, rules, sym, ◌∙◌, ap, vec_len}
use Rattle.hp_lookup.specs.Table.{TaskNumbers, numbers_at}
use Rattle.hp_lookup.proofs.Tallies.{tasks_once}
use Rattle.hp_lookup.proofs.map_table.MapTable.len.Goals as goal

pub returns : goal.returns
returns c tasks counts =
    let s = c.self.inside in
    let long : length s.tasks.items ≡ vec_len s.tasks = search rules in
    c.len.ensures ∙ sym long ∙ tasks_once s.tasks.items s.maps.items tasks c.self.invariant (λ q. ap (λ (v : TaskNumbers). length (numbers_at q v)) c.self.view_is ∙ counts q)
