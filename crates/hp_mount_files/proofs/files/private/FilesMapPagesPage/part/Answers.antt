use Rattle.std.proofs.lemmas.Grind.{common_steps}
use Rattle.std.proofs.Common.{◌≡◌, false, refl, ap, subst, ◌∙◌, arith, flat_map}
use Rattle.hp_laws.proofs.counts.Copies.{live_of}
use Rattle.hp_mapping.specs.Mapped.{at_place, with_copy}
use Rattle.hp_model.proofs.Words.{is_among, place_at, stamps_of}
use Rattle.hp_lookup.proofs.Words.{Files, tally_of, files_shown, label_of, map_among, mapping_at, parted_at}
use Rattle.hp_lookup.specs.declared.copy_state.CopyState.TheVariants as state
use Rattle.hp_lookup.proofs.Keys.{files_same, same_label}
use Rattle.hp_mount_files.proofs.Parting.{number, part_keeps, part_levels, part_once, part_view, room_there, still_there}
use Rattle.hp_file.proofs.PutCopy.{put_fresh}
use Rattle.hp_mount_files.proofs.Here.{file_here, map_here, place_here, state_here, file_inside, map_inside}
use Rattle.hp_mount_files.proofs.files.private.FilesMapPagesPage.part.Goals as goal

pub index_mut-file-requires : goal.index_mut-file-requires
index_mut-file-requires g c = grind (arith, common_steps, file_inside)

pub replace_copy-old-requires-clause-within : goal.replace_copy-old-requires-clause-within
replace_copy-old-requires-clause-within g c = grind (arith, common_steps, map_inside)

pub insert-number-requires : goal.insert-number-requires
insert-number-requires g c =
    let s = c.self.inside in
    room_there s.pages.store s.pages.more s.list.files c.self.invariant.held c.args.at.file c.args.at.map c.args.index
    (file_here c.self.view_is c.args.at.file c.requires.file) (map_here c.self.view_is c.args.at.file c.args.at.map c.requires.map)
    (state_here c.self.view_is c.args.at.file c.args.at.map c.args.index state.HeldBySeveral c.requires.several)

pub replace_copy-old-requires-clause-copy : goal.replace_copy-old-requires-clause-copy
replace_copy-old-requires-clause-copy g c = grind (arith, common_steps, number, file_here, map_here, state_here)

pub drop_holder-requires-clause-held : goal.drop_holder-requires-clause-held
drop_holder-requires-clause-held g c =
    let s = c.self.inside in
    still_there s.pages.store s.pages.more s.list.files c.self.invariant.held c.args.at.file c.args.at.map c.args.index
    (file_here c.self.view_is c.args.at.file c.requires.file) (map_here c.self.view_is c.args.at.file c.args.at.map c.requires.map)
    c.index_mut-file.result.now c.index_mut-file.ensures.value (state_here c.self.view_is c.args.at.file c.args.at.map c.args.index
    state.HeldBySeveral c.requires.several) c.replace_copy-old.result c.replace_copy-old.ensures.old c.insert-number.result c.args.page
    c.insert-number.new.self c.insert-number.ensures.fresh c.insert-number.ensures.within c.insert-number.ensures.inserted

pub invariant_of-self : goal.invariant_of-self
invariant_of-self g c =
    let s = c.self.inside in
    let x = c.index_mut-file.result.now in
    let n = c.insert-number.result in
    let several = (state_here c.self.view_is c.args.at.file c.args.at.map c.args.index state.HeldBySeveral c.requires.several) in
    let live = live_of (place_at (map_among (files_shown s.pages.store s.list.files) c.args.at.file c.args.at.map) c.args.index) several.0 several.1 in
    let is = c.self.invariant in
    files_same s.hints s.pages.store c.drop_holder.new.pages.store s.pages.more c.drop_holder.new.pages.more s.maps (tally_of s.hints) s.list.files c.args.at.file x
    c.replace_copy-old.new.self (file_here c.self.view_is c.args.at.file c.requires.file) c.index_mut-file.ensures.value
    (ap label_of c.replace_copy-old.ensures.file ∙ same_label x c.args.at.map (at_place (with_copy n) c.args.index (mapping_at x c.args.at.map)) refl)
    (part_levels s.pages.store s.pages.more s.list.files c.self.invariant.held c.args.at.file c.args.at.map c.args.index
    (file_here c.self.view_is c.args.at.file c.requires.file) (map_here c.self.view_is c.args.at.file c.args.at.map c.requires.map)
    c.index_mut-file.result.now c.index_mut-file.ensures.value (state_here c.self.view_is c.args.at.file c.args.at.map c.args.index
    state.HeldBySeveral c.requires.several) c.replace_copy-old.result c.replace_copy-old.ensures.old c.insert-number.result c.args.page
    c.insert-number.new.self c.insert-number.ensures.fresh c.insert-number.ensures.within c.insert-number.ensures.inserted
    c.replace_copy-old.new.self c.replace_copy-old.ensures.file c.drop_holder.new.pages.store c.drop_holder.ensures.dropped c.drop_holder.new.pages.more
    c.drop_holder.ensures.counted live.0 several.0 live.1) is (part_keeps s.pages.store s.pages.more s.list.files c.self.invariant.held c.args.at.file
    c.args.at.map c.args.index (file_here c.self.view_is c.args.at.file c.requires.file)
    (map_here c.self.view_is c.args.at.file c.args.at.map c.requires.map) c.index_mut-file.result.now c.index_mut-file.ensures.value
    (state_here c.self.view_is c.args.at.file c.args.at.map c.args.index state.HeldBySeveral c.requires.several) c.replace_copy-old.result
    c.replace_copy-old.ensures.old c.insert-number.result c.args.page c.insert-number.new.self c.insert-number.ensures.fresh
    c.insert-number.ensures.within c.insert-number.ensures.inserted c.replace_copy-old.new.self c.replace_copy-old.ensures.file
    c.drop_holder.new.pages.store c.drop_holder.ensures.dropped c.drop_holder.new.pages.more c.drop_holder.ensures.counted live.0 several.0 live.1)

pub returns-clause-fresh : goal.returns-clause-fresh
returns-clause-fresh g c =
    let s = c.self.inside in
    subst (λ (v : Files). is_among c.insert-number.result (flat_map stamps_of v.files) ≡ false) c.self.view_is
    (put_fresh s.pages.store s.pages.more s.list.files c.self.invariant.held c.args.at.file c.args.at.map c.args.index
    (file_here c.self.view_is c.args.at.file c.requires.file) (map_here c.self.view_is c.args.at.file c.args.at.map c.requires.map)
    c.index_mut-file.result.now c.index_mut-file.ensures.value c.insert-number.result c.args.page c.insert-number.new.self
    c.insert-number.ensures.fresh c.insert-number.ensures.within c.insert-number.ensures.inserted)

pub returns-clause-parted : goal.returns-clause-parted
returns-clause-parted g c consumed copy place =
    let s = c.self.inside in
    part_view s.pages.store s.pages.more s.list.files c.self.invariant.held c.args.at.file c.args.at.map c.args.index
    (file_here c.self.view_is c.args.at.file c.requires.file) (map_here c.self.view_is c.args.at.file c.args.at.map c.requires.map)
    c.index_mut-file.result.now c.index_mut-file.ensures.value (state_here c.self.view_is c.args.at.file c.args.at.map c.args.index
    state.HeldBySeveral c.requires.several) c.replace_copy-old.result c.replace_copy-old.ensures.old c.insert-number.result c.args.page
    c.insert-number.new.self c.insert-number.ensures.fresh c.insert-number.ensures.within c.insert-number.ensures.inserted
    c.replace_copy-old.new.self c.replace_copy-old.ensures.file c.drop_holder.new.pages.store c.drop_holder.ensures.dropped c.drop_holder.new.pages.more
    c.drop_holder.ensures.counted consumed copy (place_here c.self.view_is c.args.at.file c.args.at.map c.args.index place)
    ∙ ap (parted_at c.args.at.file c.args.at.map c.args.index consumed c.insert-number.result c.args.page) c.self.view_is

pub returns-clause-once : goal.returns-clause-once
returns-clause-once g c =
    let s = c.self.inside in
    let x = c.index_mut-file.result.now in
    let n = c.insert-number.result in
    let several = (state_here c.self.view_is c.args.at.file c.args.at.map c.args.index state.HeldBySeveral c.requires.several) in
    let live = live_of (place_at (map_among (files_shown s.pages.store s.list.files) c.args.at.file c.args.at.map) c.args.index) several.0 several.1 in
    part_once s.pages.store s.pages.more s.list.files c.self.invariant.held c.args.at.file c.args.at.map c.args.index
    (file_here c.self.view_is c.args.at.file c.requires.file) (map_here c.self.view_is c.args.at.file c.args.at.map c.requires.map)
    c.index_mut-file.result.now c.index_mut-file.ensures.value (state_here c.self.view_is c.args.at.file c.args.at.map c.args.index
    state.HeldBySeveral c.requires.several) c.replace_copy-old.result c.replace_copy-old.ensures.old c.insert-number.result c.args.page
    c.insert-number.new.self c.insert-number.ensures.fresh c.insert-number.ensures.within c.insert-number.ensures.inserted
    c.replace_copy-old.new.self c.replace_copy-old.ensures.file c.drop_holder.new.pages.store c.drop_holder.ensures.dropped c.drop_holder.new.pages.more
    c.drop_holder.ensures.counted live.0 several.0 live.1
