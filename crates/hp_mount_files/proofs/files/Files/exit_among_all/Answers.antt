use Rattle.std.proofs.lemmas.Grind.{common_steps}
use Rattle.std.proofs.Common.{map, ap, subst, refl, ◌∙◌, arith, filter}
use Rattle.hp_model.proofs.Words.{file_without, is_kept}
use Rattle.hp_lookup.proofs.Words.{Files, IsLeft}
use Rattle.hp_mount_files.proofs.Exiting.{exit_files, exit_keeps, exit_left}
use Rattle.hp_lookup.proofs.GivingBack.{all_kept}
use Rattle.hp_lookup.proofs.Leaving.{files_owe}
use Rattle.hp_mount_files.proofs.OneByOne.{none_leaves}
use Rattle.hp_lookup.proofs.Notes.{gone_tally}
use Rattle.hp_lookup.proofs.Views.{view}
use Rattle.hp_mount_files.proofs.Here.{all_held}
use Rattle.hp_mount_files.proofs.files.Files.exit_among_all.Goals as goal

pub drop_maps_of-gone-requires-clause-held : goal.drop_maps_of-gone-requires-clause-held
drop_maps_of-gone-requires-clause-held g c = (let s = c.self.inside in all_held s.pages.store s.pages.more s.list.files c.self.invariant.held)

pub drop_maps_of-gone-requires-clause-few : goal.drop_maps_of-gone-requires-clause-few
drop_maps_of-gone-requires-clause-few g c = grind (arith, common_steps, files_owe)

pub invariant_of-self : goal.invariant_of-self
invariant_of-self g c =
    exit_keeps c.self.invariant c.drop_maps_of-gone.ensures c.retain_used.ensures c.forget_maps_of.ensures _ _ refl (gone_tally c.args.task _ _ c.forget_maps_of.ensures)

pub returns-clause-files : goal.returns-clause-files
returns-clause-files g c =
    exit_files c.self.invariant c.drop_maps_of-gone.ensures c.retain_used.ensures
    ∙ ap (λ (v : Files). filter is_kept (map (file_without c.args.task) v.files)) c.self.view_is

pub returns-clause-left : goal.returns-clause-left
returns-clause-left g c =
    let one = c.drop_maps_of-gone in
    subst (λ v. IsLeft one.result.reserves v (view one.new.pages.store one.new.pages.more c.retain_used.new.self.files)) c.self.view_is
    (exit_left c.self.invariant one.ensures c.retain_used.ensures)

pub returns-then-not-has_maps-clause-files : goal.returns-then-not-has_maps-clause-files
returns-then-not-has_maps-clause-files g c = grind (arith, common_steps, all_kept, none_leaves)
