use Rattle.std.proofs.lemmas.Grind.{common_steps}
use Rattle.std.proofs.Common.{◌≡◌, [], ◌+◌, ap, sym, ◌∙◌, arith, sum_by}
use Rattle.hp_model.proofs.Words.{cell_punched, edit_range}
use Rattle.hp_lookup.proofs.Words.{in_cell, in_file, in_map}
use Rattle.hp_file.proofs.Cutting.{all_waiting, bare_pages, no_pages}
use Rattle.hp_file.proofs.Counting.{dropped_then}
use Rattle.hp_file.proofs.file.File.close.Goals as goal

pub drop_maps-requires : goal.drop_maps-requires
drop_maps-requires g c = grind (arith, common_steps, no_pages)

pub returns-clause-dropping : goal.returns-clause-dropping
returns-clause-dropping g c =
    let inside = c.self.inside in
    dropped_then c.drop_pages.ensures.dropping c.drop_maps.ensures (λ n.
    let whole = ap (in_file n) c.self.view_is in
    let none = ap (sum_by (in_cell n)) c.drop_pages.ensures.cells ∙ no_pages n c.len-len.result inside.inode c.len-len.ensures.len in
    let same = ap (sum_by (in_map n)) c.deref.ensures.value in
    omega (arith, whole, none, same))

pub drop_entries-requires-clause-pageless : goal.drop_entries-requires-clause-pageless
drop_entries-requires-clause-pageless g c =
    let len = c.len-len.result in
    let same : 0 + len ≡ len = omega arith in
    bare_pages 0 len c.self.inside.inode c.drop_pages.new.inode [] c.len-len.ensures.len
    (c.drop_pages.ensures.cells ∙ ap (λ b. edit_range cell_punched 0 b c.self.inside.inode) (sym same)) 0 (omega arith)

pub returns-clause-entries : goal.returns-clause-entries
returns-clause-entries g c = grind (arith, common_steps, all_waiting)
