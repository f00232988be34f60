use Rattle.std.proofs.Common.{map, ap, ◌∙◌, arith, filter}
use Rattle.hp_model.proofs.Words.{file_without, is_kept}
use Rattle.hp_mount_files.proofs.OneByOne.{leaves_same}
use Rattle.hp_mount_files.proofs.files.Files.exit_map.Goals as goal

pub returns-clause-files : goal.returns-clause-files
returns-clause-files g c = ap (λ fs. filter is_kept (map (file_without c.args.task) fs)) c.unmap.ensures.files ∙ leaves_same c.args.task c.args.number _ _ c.args.self.now.files

pub unmap-requires-clause-order : goal.unmap-requires-clause-order
unmap-requires-clause-order g c = omega (arith, c.start-start.ensures, c.end-end.ensures)

pub unmap-requires-clause-found : goal.unmap-requires-clause-found
unmap-requires-clause-found g c = c.in-Some.ensures.some
