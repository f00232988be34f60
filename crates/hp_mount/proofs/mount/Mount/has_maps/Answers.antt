use Rattle.std.proofs.Common.{ap, ◌∙◌}
use Rattle.std.specs.List.{list_any}
use Rattle.hp_model.proofs.Words.{Mount, is_of, maps_of}
use Rattle.hp_mount_laws.proofs.Leaving.{has_as}
use Rattle.hp_mount.proofs.mount.Mount.has_maps.Goals as goal

pub returns : goal.returns
returns g c = c.has_maps.ensures ∙ has_as c.args.task c.self.inside.files.files ∙ ap (λ (x : Mount). list_any (is_of c.args.task) (maps_of x)) c.self.view_is
