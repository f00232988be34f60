use Rattle.std.proofs.Common.{◌≡◌, ℕ, ◌+◌, ◌<◌, List, ◌∷◌, ◌++◌, [], None, length, max, ap, subst, sym, ◌∙◌, arith}
use Rattle.hp_model.proofs.Words.{is_among, mapped, new_file, numbers_of}
use Rattle.hp_lookup.proofs.Words.{Files, IsFiles, all_maps, tally_of, files_shown, next_of, wants, with_anon}
use Rattle.hp_lookup.proofs.Keys.{files_same_noted}
use Rattle.hp_lookup.proofs.Notes.{noted_undone}
use Rattle.hp_mount_files.proofs.Used.{key_fresh}
use Rattle.hp_lookup.proofs.NewKey.{maps_few}
use Rattle.hp_lookup.proofs.MapNumbers.{unused_is_new}
use Rattle.hp_mount_files.proofs.Anon.{anon_files, anon_view}
use Rattle.hp_mount_files.proofs.files.Files.add_anon.Given.{Over}
use Rattle.hp_mount_files.proofs.files.Files.add_anon.Goals as goal

pub note_map-requires : goal.note_map-requires
note_map-requires g c = omega (arith, c.requires.number)

pub invariant_of-self-in_default-note_map : goal.invariant_of-self-in_default-note_map
invariant_of-self-in_default-note_map g c =
    let s = c.self.inside in
    subst (IsFiles c.note_map.new.self s.pages.store s.pages.more s.maps (tally_of c.note_map.new.self)) (sym c.make_room-2.ensures.same)
    (files_same_noted s.hints c.note_map.new.self s.pages.store s.pages.more s.maps s.list.files c.in_default-note_map.ensures.err c.self.invariant)

pub invariant_of-self-in-Err : goal.invariant_of-self-in-Err
invariant_of-self-in-Err g c =
    let s = c.self.inside in
    let r = c.args.range.now in
    let numbers : List ℕ = numbers_of r.task (all_maps (files_shown s.pages.store s.list.files)) in
    let number = subst (λ (v : Files). c.args.next.number ≡ next_of r.task v.files) (sym (c.self.view_is ∙ c.in-Ok.ensures.ok)) c.requires.number in
    let fresh = ap (λ n. is_among n numbers) number ∙ unused_is_new numbers in
    let new = key_fresh s.hints s.pages.store s.pages.more s.maps (tally_of s.hints) s.list.files c.self.invariant r.task c.args.next.number fresh in
    let grown = c.in-Ok-note_map.ensures.ok in
    let undone = noted_undone r.task c.args.next.number s.hints c.note_map.new.self c.forget_map.new.self new grown c.forget_map.ensures in
    subst (IsFiles c.forget_map.new.self s.pages.store s.pages.more s.maps (tally_of c.forget_map.new.self)) (sym c.make_room-2.ensures.same)
    (files_same_noted s.hints c.forget_map.new.self s.pages.store s.pages.more s.maps s.list.files undone c.self.invariant)

pub overflow_add-self : goal.overflow_add-self
overflow_add-self g c =
    let s = c.self.inside in
    let few = maps_few s.hints s.pages.store s.pages.more s.maps (tally_of s.hints) s.list.files c.self.invariant
    (subst (λ (v : Files). length (all_maps v.files) < 4096) (sym (c.self.view_is ∙ c.in-Ok.ensures.ok))
    c.requires.maps) in
    omega (arith, few)

-- the file that was added
module _ (g : Over) (c : goal.After-self-1 g) where
  files_are : c.push.new.self.files ≡ c.self.inside.list.files ++ c.in-Ok-made.file ∷ []
  files_are = c.push.ensures ∙ ap (λ fs. fs ++ c.in-Ok-made.file ∷ []) c.make_room-2.ensures.same

pub invariant_of-self-2 : goal.invariant_of-self-2
invariant_of-self-2 g c =
    let s = c.self.inside in
    let r = c.args.range.now in
    let numbers : List ℕ = numbers_of r.task (all_maps (files_shown s.pages.store s.list.files)) in
    let number = subst (λ (v : Files). c.args.next.number ≡ next_of r.task v.files) (sym (c.self.view_is ∙ c.in-Ok.ensures.ok)) c.requires.number in
    let fresh = ap (λ n. is_among n numbers) number ∙ unused_is_new numbers in
    let new = key_fresh s.hints s.pages.store s.pages.more s.maps (tally_of s.hints) s.list.files c.self.invariant r.task c.args.next.number fresh in
    let grown = c.in-Ok-note_map.ensures.ok in
    anon_files r.task c.args.next.number r.start r.pages r.sharing r.reserving s.hints s.pages.store s.pages.more s.maps (tally_of s.hints) s.list.files
    c.self.invariant c.in-Ok-made.file c.push.new.self.files c.in-Ok-made.ensures.ok (files_are g c)
    fresh c.note_map.new.self grown grown.noted (tally_of c.note_map.new.self) (grown.tally new)

pub returns-clause-ok : goal.returns-clause-ok
returns-clause-ok g c =
    let s = c.self.inside in
    let reserves : c.saturating_add-reserves.result ≡ c.args.share.now.held + wants c.args.range.now (new_file None) =
    omega (arith, c.held.ensures, c.wanted_alone.ensures.alone, c.saturating_add-reserves.ensures, c.in-Ok.ensures.few) in
    let r = c.args.range.now in
    anon_view r.task c.args.next.number r.start r.pages r.sharing r.reserving s.hints s.pages.store s.pages.more s.maps (tally_of s.hints) s.list.files
    c.self.invariant c.in-Ok-made.file c.push.new.self.files c.in-Ok-made.ensures.ok (files_are g c)
    ∙ ap (λ (v : Files). record v { files = v.files ++ mapped r.task c.args.next.number r.start r.pages r.sharing r.reserving (new_file None) ∷ [] }) (c.self.view_is ∙ c.in-Ok.ensures.ok)
    ∙ ap (λ n. with_anon r.task c.args.next.number r.start r.pages (max c.args.self.now.room n) r.sharing r.reserving c.args.self.now) reserves
