use Rattle.std.proofs.lemmas.Grind.{common_steps}
use Rattle.std.proofs.Common.{◌≡◌, ℕ, ◌+◌, ◌<◌, List, length, max, slice_set, ap, subst, sym, ◌∙◌, arith}
use Rattle.std.proofs.lemmas.List.{set-get_or}
use Rattle.hp_model.proofs.Words.{is_among, mapped, numbers_of}
use Rattle.hp_lookup.proofs.Words.{Files, IsFiles, all_maps, tally_of, file_at, files_shown, mapped_at, next_of, wants, with_file_at}
use Rattle.hp_lookup.proofs.Keys.{files_same_noted}
use Rattle.hp_lookup.proofs.Notes.{noted_undone}
use Rattle.hp_mount_files.proofs.Used.{key_fresh}
use Rattle.hp_lookup.proofs.Mapped.{map_files, map_view}
use Rattle.hp_lookup.proofs.NewKey.{maps_few}
use Rattle.hp_lookup.proofs.MapNumbers.{unused_is_new}
use Rattle.hp_lookup.proofs.Views.{files_len}
use Rattle.hp_mount_files.proofs.Here.{file_inside}
use Rattle.hp_mount_files.proofs.files.Files.add_map.Goals as goal

pub index-requires : goal.index-requires
index-requires g c = grind (arith, common_steps, file_inside)

pub index_mut-at-requires : goal.index_mut-at-requires
index_mut-at-requires g c = grind (arith, common_steps, file_inside)

pub note_map-requires : goal.note_map-requires
note_map-requires g c = omega (arith, c.requires.number)

pub invariant_of-self : goal.invariant_of-self
invariant_of-self g c =
    let s = c.self.inside in
    files_same_noted s.hints c.note_map.new.self s.pages.store s.pages.more s.maps s.list.files c.in_default-note_map.ensures.err c.self.invariant

pub invariant_of-self-in-Err : goal.invariant_of-self-in-Err
invariant_of-self-in-Err g c =
    let s = c.self.inside in
    let same : slice_set s.list.files c.args.file c.add_range.new.self ≡ s.list.files =
    ap (slice_set s.list.files c.args.file) (c.in-Err.ensures.err ∙ c.index_mut-at.ensures.value) ∙ set-get_or s.list.files c.args.file c.index_mut-at.result.now in
    let r = c.args.range.now in
    let numbers : List ℕ = numbers_of r.task (all_maps (files_shown s.pages.store s.list.files)) in
    let number = subst (λ (v : Files). c.args.next.number ≡ next_of r.task v.files) (sym (c.self.view_is ∙ c.in-Ok.ensures.ok)) c.requires.number in
    let fresh = ap (λ n. is_among n numbers) number ∙ unused_is_new numbers in
    let new = key_fresh s.hints s.pages.store s.pages.more s.maps (tally_of s.hints) s.list.files c.self.invariant r.task c.args.next.number fresh in
    let grown = c.in-Ok-note_map.ensures.ok in
    let undone = noted_undone r.task c.args.next.number s.hints c.note_map.new.self c.forget_map.new.self new grown c.forget_map.ensures in
    subst (IsFiles c.forget_map.new.self s.pages.store s.pages.more s.maps (tally_of c.forget_map.new.self)) (sym same)
    (files_same_noted s.hints c.forget_map.new.self s.pages.store s.pages.more s.maps s.list.files undone c.self.invariant)

pub overflow_add-self : goal.overflow_add-self
overflow_add-self g c =
    let s = c.self.inside in
    let few = maps_few s.hints s.pages.store s.pages.more s.maps (tally_of s.hints) s.list.files c.self.invariant
    (subst (λ (v : Files). length (all_maps v.files) < 4096) (sym (c.self.view_is ∙ c.in-Ok.ensures.ok))
    c.requires.maps) in
    omega (arith, few)

pub invariant_of-self-2 : goal.invariant_of-self-2
invariant_of-self-2 g c =
    let s = c.self.inside in
    let same = files_len s.pages.store s.list.files in
    let inside = subst (λ (v : Files). c.args.file < length v.files) (sym (c.self.view_is ∙ c.in-Ok.ensures.ok)) c.requires.file in
    let within : c.args.file < length s.list.files = omega (arith, same, inside) in
    let r = c.args.range.now in
    let numbers : List ℕ = numbers_of r.task (all_maps (files_shown s.pages.store s.list.files)) in
    let number = subst (λ (v : Files). c.args.next.number ≡ next_of r.task v.files) (sym (c.self.view_is ∙ c.in-Ok.ensures.ok)) c.requires.number in
    let fresh = ap (λ n. is_among n numbers) number ∙ unused_is_new numbers in
    let new = key_fresh s.hints s.pages.store s.pages.more s.maps (tally_of s.hints) s.list.files c.self.invariant r.task c.args.next.number fresh in
    let grown = c.in-Ok-note_map.ensures.ok in
    map_files r.task c.args.next.number r.start r.pages r.sharing r.reserving s.hints s.pages.store s.pages.more s.maps (tally_of s.hints) s.list.files
    c.args.file c.self.invariant within c.index_mut-at.result.now c.add_range.new.self c.index_mut-at.ensures.value c.in_default-add_range.ensures.ok
    fresh c.note_map.new.self grown grown.noted (tally_of c.note_map.new.self) (grown.tally new)

pub returns-clause-ok : goal.returns-clause-ok
returns-clause-ok g c =
    let s = c.self.inside in
    let same = files_len s.pages.store s.list.files in
    let inside = subst (λ (v : Files). c.args.file < length v.files) (sym (c.self.view_is ∙ c.in-Ok.ensures.ok)) c.requires.file in
    let within : c.args.file < length s.list.files = omega (arith, same, inside) in
    let reserves : c.saturating_add-reserves.result ≡ c.args.share.now.held + wants c.args.range.now (file_at c.args.self.now.files c.args.file) =
    omega (arith, c.held.ensures, c.wanted-wanted.ensures, c.saturating_add-reserves.ensures, c.in-Ok.ensures.few) in
    let r = c.args.range.now in
    map_view r.task c.args.next.number r.start r.pages r.sharing r.reserving s.hints s.pages.store s.pages.more s.maps (tally_of s.hints) s.list.files
    c.args.file c.self.invariant within c.index_mut-at.result.now c.add_range.new.self c.index_mut-at.ensures.value c.in_default-add_range.ensures.ok
    ∙ ap (λ (v : Files). with_file_at c.args.file (mapped r.task c.args.next.number r.start r.pages r.sharing r.reserving (file_at v.files c.args.file)) v) (c.self.view_is ∙ c.in-Ok.ensures.ok)
    ∙ ap (λ n. mapped_at c.args.file r.task c.args.next.number r.start r.pages (max c.args.self.now.room n) r.sharing r.reserving c.args.self.now) reserves
