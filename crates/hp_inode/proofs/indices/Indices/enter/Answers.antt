use Rattle.std.proofs.Common.{sym, ap, ◌∙◌, arith, count_by}
use Rattle.hp_model.proofs.Words.{at_least, has_page}
use Rattle.hp_inode.specs.Kept.{cells_of}
use Rattle.hp_inode.proofs.Paged.{entered_paged, longer_paged}
use Rattle.hp_inode.proofs.Readying.{unready, few_entered, few_missing, enter_kept, enter_cells}
use Rattle.hp_inode.proofs.indices.Indices.enter.Goals as goal

pub overflow_add-self : goal.overflow_add-self
overflow_add-self c =
    let s = c.self.inside in
    let ready = c.self.invariant in
    omega (arith, few_entered s.len s.count s.entries s.table ready.kept, few_missing s.entries s.from s.to, ready.small, ready.kept.small, c.missing-missing.ensures)

pub invariant_of-self : goal.invariant_of-self
invariant_of-self c =
    let s = c.self.inside in
    let kept = enter_kept s.len s.count s.entries c.add.new.self s.table s.from s.to c.max-self-inside.result c.missing-missing.result s.pages
    c.self.invariant c.max-self-inside.ensures c.missing-missing.ensures c.add.ensures in
    let cells = enter_cells s.len s.count s.entries c.add.new.self s.table s.from s.to c.max-self-inside.result c.missing-missing.result s.pages
    c.self.invariant c.max-self-inside.ensures c.missing-missing.ensures c.add.ensures in
    let was = cells_of s.len s.entries s.table in
    unready _ _ _ _ _ _ kept (c.self.invariant.paged ∙ sym (longer_paged s.to was) ∙ sym (entered_paged s.from s.to (at_least s.to was)) ∙ ap (count_by has_page) (sym cells))

pub returns : goal.returns
returns c =
    let s = c.self.inside in
    rw (← c.self.view_is) (enter_cells s.len s.count s.entries c.add.new.self s.table s.from s.to c.max-self-inside.result c.missing-missing.result
    s.pages c.self.invariant c.max-self-inside.ensures c.missing-missing.ensures c.add.ensures)
