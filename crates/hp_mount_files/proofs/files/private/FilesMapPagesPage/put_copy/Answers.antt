use Rattle.std.proofs.lemmas.Grind.{common_steps}
use Rattle.std.proofs.Common.{refl, ◌≡◌, ◌-◌, ◌<◌, false, ap, subst, sym, ◌∙◌, arith, flat_map}
use Rattle.hp_model.proofs.Words.{is_among, place_at, stamps_of}
use Rattle.hp_lookup.proofs.Words.{Files, tally_of, label_of, map_among, mapping_at}
use Rattle.hp_file.specs.Taking.{first_copy}
use Rattle.hp_mapping.specs.Mapped.{at_place}
use Rattle.hp_mount_files.proofs.HeldOnce.{put_once}
use Rattle.hp_lookup.proofs.Keys.{files_same, same_label}
use Rattle.hp_file.proofs.PutCopy.{bare_place, put_fresh, put_keeps, put_stays_level, put_view}
use Rattle.hp_mount_files.proofs.Here.{file_here, map_here, place_here, file_inside, map_inside, live_inside}
use Rattle.hp_mount_files.proofs.files.private.FilesMapPagesPage.put_copy.Goals as goal

pub insert-number-requires : goal.insert-number-requires
insert-number-requires g c =
    let s = c.self.inside in
    let room : 0 < s.pages.store.room - s.pages.more = subst (λ (v : Files). 0 < v.room) (sym c.self.view_is) c.requires.room in
    omega (arith, room)

pub index_mut-file-requires : goal.index_mut-file-requires
index_mut-file-requires g c = grind (arith, common_steps, file_inside)

pub put_copy-requires-clause-within : goal.put_copy-requires-clause-within
put_copy-requires-clause-within g c = grind (arith, common_steps, map_inside)

pub put_copy-requires-clause-live : goal.put_copy-requires-clause-live
put_copy-requires-clause-live g c = grind (arith, common_steps, live_inside)

pub invariant_of-self : goal.invariant_of-self
invariant_of-self g c =
    let s = c.self.inside in
    let x = c.index_mut-file.result.now in
    let n = c.insert-number.result in
    let bare = bare_place (place_at (map_among c.args.self.now.files c.args.at.file c.args.at.map) c.args.index) c.requires.live c.requires.bare in
    let place = place_here c.self.view_is c.args.at.file c.args.at.map c.args.index bare.1 in
    files_same s.hints s.pages.store c.insert-number.new.self s.pages.more s.pages.more s.maps (tally_of s.hints) s.list.files c.args.at.file x c.put_copy.new.self
    (file_here c.self.view_is c.args.at.file c.requires.file) c.index_mut-file.ensures.value
    (ap label_of c.put_copy.ensures ∙ same_label x c.args.at.map (at_place (first_copy (mapping_at x c.args.at.map).owner n) c.args.index (mapping_at x c.args.at.map)) refl)
    (put_stays_level s.pages.store s.pages.more s.list.files c.self.invariant.held c.args.at.file c.args.at.map c.args.index
    (file_here c.self.view_is c.args.at.file c.requires.file) (map_here c.self.view_is c.args.at.file c.args.at.map c.requires.map) x
    c.index_mut-file.ensures.value n c.args.page c.insert-number.new.self c.insert-number.ensures.fresh c.insert-number.ensures.within
    c.insert-number.ensures.inserted c.put_copy.new.self c.put_copy.ensures bare.0 place)
    c.self.invariant
    (put_keeps s.pages.store s.pages.more s.list.files c.self.invariant.held c.args.at.file c.args.at.map c.args.index
    (file_here c.self.view_is c.args.at.file c.requires.file) (map_here c.self.view_is c.args.at.file c.args.at.map c.requires.map) x
    c.index_mut-file.ensures.value n c.args.page c.insert-number.new.self c.insert-number.ensures.fresh c.insert-number.ensures.within
    c.insert-number.ensures.inserted c.put_copy.new.self c.put_copy.ensures bare.0 place
    (subst (λ (v : Files). 0 < v.room) (sym c.self.view_is) c.requires.room))

pub returns-clause-fresh : goal.returns-clause-fresh
returns-clause-fresh g c =
    let s = c.self.inside in
    subst (λ (v : Files). is_among c.insert-number.result (flat_map stamps_of v.files) ≡ false) c.self.view_is
    (put_fresh s.pages.store s.pages.more s.list.files c.self.invariant.held c.args.at.file c.args.at.map c.args.index
    (file_here c.self.view_is c.args.at.file c.requires.file) (map_here c.self.view_is c.args.at.file c.args.at.map c.requires.map)
    c.index_mut-file.result.now c.index_mut-file.ensures.value c.insert-number.result c.args.page c.insert-number.new.self
    c.insert-number.ensures.fresh c.insert-number.ensures.within c.insert-number.ensures.inserted)

pub returns-clause-copied : goal.returns-clause-copied
returns-clause-copied g c consumed place = grind (arith, common_steps, put_view, file_here, map_here, place_here)

pub returns-clause-once : goal.returns-clause-once
returns-clause-once g c =
    let s = c.self.inside in
    let x = c.index_mut-file.result.now in
    let n = c.insert-number.result in
    let bare = bare_place (place_at (map_among c.args.self.now.files c.args.at.file c.args.at.map) c.args.index) c.requires.live c.requires.bare in
    let place = place_here c.self.view_is c.args.at.file c.args.at.map c.args.index bare.1 in
    put_once s.pages.store s.pages.more s.list.files c.self.invariant.held c.args.at.file c.args.at.map c.args.index
    (file_here c.self.view_is c.args.at.file c.requires.file) (map_here c.self.view_is c.args.at.file c.args.at.map c.requires.map) x
    c.index_mut-file.ensures.value n c.args.page c.insert-number.new.self c.insert-number.ensures.fresh c.insert-number.ensures.within
    c.insert-number.ensures.inserted c.put_copy.new.self c.put_copy.ensures bare.0 place
    (subst (λ (v : Files). 0 < v.room) (sym c.self.view_is) c.requires.room)
