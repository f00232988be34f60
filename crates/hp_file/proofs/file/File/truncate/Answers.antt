use Rattle.std.proofs.lemmas.Grind.{common_steps}
use Rattle.std.proofs.Common.{[], ap, ◌∙◌, arith, length, sum_by}
use Rattle.hp_lookup.proofs.Words.{NumberedFile, in_cell, in_file}
use Rattle.hp_file.proofs.Cutting.{bare_pages, cut_file, cut_holds, cut_is, gone_holes}
use Rattle.hp_file.proofs.Counting.{dropped_as}
use Rattle.hp_file.proofs.file.File.truncate.Goals as goal

pub drop_entries-entries-requires-clause-pageless : goal.drop_entries-entries-requires-clause-pageless
drop_entries-entries-requires-clause-pageless g c =
    let old = c.args.self.now in
    let end_is = c.len-end.ensures.len ∙ ap (λ (f : NumberedFile). length f.cells) c.self.view_is in
    let bare_is = ap (λ (f : NumberedFile). f.cells) (c.self-2.view_is ∙ c.punch.ensures.file) in
    bare_pages c.args.len c.len-end.result old.cells c.self-2.inside.inode [] end_is bare_is c.min.result c.min.ensures

pub set_len-requires-clause-holes : goal.set_len-requires-clause-holes
set_len-requires-clause-holes g c =
    let old = c.args.self.now in
    let end_is = c.len-end.ensures.len ∙ ap (λ (f : NumberedFile). length f.cells) c.self.view_is in
    let bare_is = ap (λ (f : NumberedFile). f.cells) (c.self-2.view_is ∙ c.punch.ensures.file) in
    gone_holes c.args.len c.len-end.result old.cells c.self-2.inside.inode c.drop_entries-entries.new.self end_is bare_is c.min.result c.min.ensures c.drop_entries-entries.ensures.cells

pub returns-clause-file : goal.returns-clause-file
returns-clause-file g c = grind (arith, common_steps, cut_file, cut_is)

pub returns-clause-dropping : goal.returns-clause-dropping
returns-clause-dropping g c =
    let old = c.args.self.now in
    let end_is = c.len-end.ensures.len ∙ ap (λ (f : NumberedFile). length f.cells) c.self.view_is in
    let bare_is = ap (λ (f : NumberedFile). f.cells) (c.self-2.view_is ∙ c.punch.ensures.file) in
    dropped_as c.punch.ensures.dropping (λ n.
    let view = ap (in_file n) c.self-2.view_is in
    let cells = ap (sum_by (in_cell n)) (c.set_len.ensures ∙ cut_is c.args.len c.len-end.result old.cells c.self-2.inside.inode
    c.drop_entries-entries.new.self end_is bare_is c.min.result c.min.ensures c.drop_entries-entries.ensures.cells)
    ∙ cut_holds c.args.len c.len-end.result old.cells c.self-2.inside.inode [] end_is bare_is n in
    omega (arith, view, cells))
