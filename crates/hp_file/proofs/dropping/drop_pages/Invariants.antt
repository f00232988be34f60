use Rattle.std.proofs.Common.{◌≡◌, count_by, sum_by}
use Rattle.hp_model.proofs.Words.{cell_punched, edit_range, has_page}
use Rattle.hp_lookup.proofs.Words.{in_cell}
use Rattle.hp_file.specs.HeldPages.{AreDropped}
use Rattle.hp_file.proofs.dropping.drop_pages.Given as goal

abbrev pub invariant-loop-number : goal.invariant-loop-number
invariant-loop-number g l =
    AreDropped (λ n. sum_by (in_cell n) l.initial.inode) (λ n. sum_by (in_cell n) l.inode) l.initial.pages l.pages
    × (edit_range cell_punched l.a l.b l.inode ≡ edit_range cell_punched l.a l.b l.initial.inode)

abbrev pub decreases-loop-number : goal.decreases-loop-number
decreases-loop-number g l = count_by has_page l.inode
