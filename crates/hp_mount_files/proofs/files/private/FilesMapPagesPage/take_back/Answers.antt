use Rattle.std.proofs.lemmas.Grind.{common_steps}
use Rattle.std.proofs.Common.{◌≡◌, Option, None, Some, refl, ap, subst, ◌∙◌, arith, IsSome, slice_set}
use Rattle.hp_model.proofs.Words.{Copy, copy_of, place_at}
use Rattle.hp_lookup.proofs.Words.{Files, IsLeft, tally_of, map_among, taken_back_at}
use Rattle.hp_mount_files.proofs.TakingBack.{back_files, back_keeps, back_left, back_once}
use Rattle.hp_lookup.proofs.Views.{view}
use Rattle.hp_mount_files.proofs.Here.{file_here, map_here, file_inside, map_inside, copy_inside, held_inside}
use Rattle.hp_mount_files.proofs.files.private.FilesMapPagesPage.take_back.Goals as goal

some_value : (o : Option Copy) → IsSome o → (copy : Copy) × (o ≡ Some copy)
some_value None some = cc
some_value (Some copy) some = (copy, refl)

pub index_mut-file-requires : goal.index_mut-file-requires
index_mut-file-requires g c = grind (arith, common_steps, file_inside)

pub take_back-requires-clause-within : goal.take_back-requires-clause-within
take_back-requires-clause-within g c = grind (arith, common_steps, map_inside)

pub take_back-requires-clause-copy : goal.take_back-requires-clause-copy
take_back-requires-clause-copy g c = grind (arith, common_steps, copy_inside)

pub take_back-requires-clause-held : goal.take_back-requires-clause-held
take_back-requires-clause-held g c = grind (arith, common_steps, held_inside)

pub invariant_of-self : goal.invariant_of-self
invariant_of-self g c =
    let s = c.self.inside in
    let found = some_value (copy_of (place_at (map_among c.args.self.now.files c.args.at.file c.args.at.map) c.args.index)) c.requires.copy in
    let there = ap (λ (v : Files). copy_of (place_at (map_among v.files c.args.at.file c.args.at.map) c.args.index)) c.self.view_is ∙ found.1 in
    back_keeps s.hints s.pages.store c.take_back.new.pages.store s.pages.more c.take_back.new.pages.more s.maps (tally_of s.hints) s.list.files c.self.invariant
    c.args.at.file c.args.at.map c.args.index (file_here c.self.view_is c.args.at.file c.requires.file)
    (map_here c.self.view_is c.args.at.file c.args.at.map c.requires.map) c.index_mut-file.result.now c.take_back.new.self
    c.index_mut-file.ensures.value c.take_back.ensures.file c.take_back.ensures.dropping.dropping c.take_back.ensures.dropping.counted found.0 there

pub returns-clause-files : goal.returns-clause-files
returns-clause-files g c copy there =
    let s = c.self.inside in
    back_files s.hints s.pages.store c.take_back.new.pages.store s.pages.more c.take_back.new.pages.more s.maps (tally_of s.hints) s.list.files c.self.invariant
    c.args.at.file c.args.at.map c.args.index (file_here c.self.view_is c.args.at.file c.requires.file)
    (map_here c.self.view_is c.args.at.file c.args.at.map c.requires.map) c.index_mut-file.result.now c.take_back.new.self
    c.index_mut-file.ensures.value c.take_back.ensures.file c.take_back.ensures.dropping.dropping c.take_back.ensures.dropping.counted copy
    (ap (λ (v : Files). copy_of (place_at (map_among v.files c.args.at.file c.args.at.map) c.args.index)) c.self.view_is ∙ there)
    ∙ ap (λ (v : Files). taken_back_at c.args.at.file c.args.at.map copy.stamp v.files) c.self.view_is

pub returns-clause-left : goal.returns-clause-left
returns-clause-left g c =
    let s = c.self.inside in
    let found = some_value (copy_of (place_at (map_among c.args.self.now.files c.args.at.file c.args.at.map) c.args.index)) c.requires.copy in
    let there = ap (λ (v : Files). copy_of (place_at (map_among v.files c.args.at.file c.args.at.map) c.args.index)) c.self.view_is ∙ found.1 in
    subst (λ v. IsLeft 0 v (view c.take_back.new.pages.store c.take_back.new.pages.more (slice_set s.list.files c.args.at.file c.take_back.new.self))) c.self.view_is
    (back_left s.hints s.pages.store c.take_back.new.pages.store s.pages.more c.take_back.new.pages.more s.maps (tally_of s.hints) s.list.files c.self.invariant
    c.args.at.file c.args.at.map c.args.index (file_here c.self.view_is c.args.at.file c.requires.file)
    (map_here c.self.view_is c.args.at.file c.args.at.map c.requires.map) c.index_mut-file.result.now c.take_back.new.self
    c.index_mut-file.ensures.value c.take_back.ensures.file c.take_back.ensures.dropping.dropping c.take_back.ensures.dropping.counted found.0 there)

pub returns-clause-once : goal.returns-clause-once
returns-clause-once g c =
    let s = c.self.inside in
    let found = some_value (copy_of (place_at (map_among c.args.self.now.files c.args.at.file c.args.at.map) c.args.index)) c.requires.copy in
    let there = ap (λ (v : Files). copy_of (place_at (map_among v.files c.args.at.file c.args.at.map) c.args.index)) c.self.view_is ∙ found.1 in
    back_once s.hints s.pages.store c.take_back.new.pages.store s.pages.more c.take_back.new.pages.more s.maps (tally_of s.hints) s.list.files c.self.invariant
    c.args.at.file c.args.at.map c.args.index (file_here c.self.view_is c.args.at.file c.requires.file)
    (map_here c.self.view_is c.args.at.file c.args.at.map c.requires.map) c.index_mut-file.result.now c.take_back.new.self
    c.index_mut-file.ensures.value c.take_back.ensures.file c.take_back.ensures.dropping.dropping c.take_back.ensures.dropping.counted found.0 there
