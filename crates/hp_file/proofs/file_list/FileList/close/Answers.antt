use Rattle.std.proofs.lemmas.Grind.{common_steps}
use Rattle.std.proofs.Common.{subst, arith}
use Rattle.std.proofs.lemmas.List.Sums.{sum_by_push}
use Rattle.hp_lookup.proofs.Words.{in_files}
use Rattle.hp_file.specs.HeldPages.{AreDropped}
use Rattle.hp_file.proofs.Counting.{dropped_then, left_held, part_held}
use Rattle.hp_file.proofs.file_list.FileList.close.Goals as goal

pub close-requires : goal.close-requires
close-requires g c = grind (arith, common_steps, sum_by_push, left_held, part_held)

pub loop-file-preserved : goal.loop-file-preserved
loop-file-preserved g c = grind (arith, common_steps, sum_by_push, dropped_then)

pub returns : goal.returns
returns g c =
    subst (λ fs. AreDropped (λ n. in_files n c.args.self.files) (λ n. in_files n fs) c.args.pages.now c.loop-file.pages) c.in_default.ensures.none c.loop-file.invariant
