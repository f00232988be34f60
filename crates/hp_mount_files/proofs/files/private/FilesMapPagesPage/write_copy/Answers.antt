use Rattle.std.proofs.lemmas.Grind.{common_steps}
use Rattle.std.proofs.Common.{◌<◌, length, subst, sym, ◌∙◌, arith}
use Rattle.hp_model.proofs.Words.{place_at}
use Rattle.hp_lookup.specs.declared.copy_state.CopyState.TheVariants as state
use Rattle.hp_lookup.proofs.Words.{Files, file_at, map_among}
use Rattle.hp_file.specs.States.{IsCopyState}
use Rattle.hp_mount_files.proofs.CopyWritten.{copy_alone, copy_write_keeps, copy_write_view}
use Rattle.hp_mount_files.proofs.Here.{file_inside, map_inside}
use Rattle.hp_mount_files.proofs.files.private.FilesMapPagesPage.write_copy.Goals as goal

pub index-requires : goal.index-requires
index-requires g c = grind (arith, common_steps, file_inside)

pub map-map-requires : goal.map-map-requires
map-map-requires g c = grind (arith, common_steps, map_inside)

pub write-requires-clause-alone : goal.write-requires-clause-alone
write-requires-clause-alone g c =
    let s = c.self.inside in
    let k = c.args.at.file in
    let j = c.args.at.map in
    let i = c.args.index in
    copy_alone s.pages.store s.pages.more s.list.files c.self.invariant.held k j i (subst (λ (v : Files). k < length v.files) (sym c.self.view_is)
    c.requires.file) (subst (λ (v : Files). j < length (file_at v.files k).maps) (sym c.self.view_is) c.requires.map) c.index.result.now
    c.index.ensures c.map-map.result.now c.map-map.ensures c.unwrap-number.result (sym c.copy_at.ensures ∙ c.unwrap-number.ensures)
    (subst (λ (v : Files). IsCopyState state.HeldOnce (file_at v.files k) (place_at (map_among v.files k j) i)) (sym c.self.view_is) c.requires.once)

pub invariant_of-self : goal.invariant_of-self
invariant_of-self g c =
    let s = c.self.inside in
    let k = c.args.at.file in
    let j = c.args.at.map in
    let i = c.args.index in
    let is = c.self.invariant in
    record {
      held = copy_write_keeps s.pages.store s.pages.more s.list.files c.self.invariant.held k j i
          (subst (λ (v : Files). k < length v.files) (sym c.self.view_is) c.requires.file)
          (subst (λ (v : Files). j < length (file_at v.files k).maps) (sym c.self.view_is) c.requires.map) c.index.result.now c.index.ensures
          c.map-map.result.now c.map-map.ensures c.unwrap-number.result (sym c.copy_at.ensures ∙ c.unwrap-number.ensures)
          (subst (λ (v : Files). IsCopyState state.HeldOnce (file_at v.files k) (place_at (map_among v.files k j) i)) (sym c.self.view_is)
          c.requires.once) c.args.offset c.args.bytes.now c.write.new.self c.write.ensures;
      keyed = is.keyed;
      noted = is.noted;
      level = is.level;
    }

pub returns : goal.returns
returns g c = grind (arith, common_steps, copy_write_view)
