use Rattle.std.proofs.Common.{◌≡◌, ◌∷◌, ◌++◌, [], true, None, Some, ap, subst, sym, ◌∙◌}
use Rattle.hp_model.proofs.Words.{found, has_name}
use Rattle.hp_lookup.proofs.Words.{Files, IsMoreByName, tally_of, is_noted_as as has_noted}
use Rattle.hp_lookup.proofs.Keys.{files_recounted}
use Rattle.hp_mount_files.proofs.Creating.{created}
use Rattle.hp_mount_files.proofs.files.Files.create.Goals as goal

pub invariant_of-self-2 : goal.invariant_of-self-2
invariant_of-self-2 g c =
    let s = c.self.inside in
    let bytes = c.in_ok-own.ensures.copy in
    files_recounted c.note_file.new.self s.pages.store s.pages.more s.maps (tally_of s.hints) (tally_of c.note_file.new.self) c.push.new.self.files c.note_file.ensures.more.tally
    (created s.hints c.note_file.new.self s.pages.store s.pages.more s.maps (tally_of s.hints) s.list.files c.args.name.now c.self.invariant
    (subst (λ (v : Files). found (has_name c.args.name.now) v.files ≡ None) (sym c.self.view_is) c.requires.new)
    (subst (λ n. IsMoreByName n s.hints c.note_file.new.self) (c.in_ok-key.ensures ∙ bytes) c.note_file.ensures.more)
    (subst (λ n. has_noted n c.note_file.new.self ≡ true) (c.in_ok-key.ensures ∙ bytes) c.in_ok-note_file.ensures.noted)
    c.new-3.result c.push.new.self.files (c.new-3.ensures ∙ ap (λ n. record { name = Some n; cells = []; maps = [] }) bytes)
    (c.push.ensures ∙ ap (λ xs. xs ++ c.new-3.result ∷ []) c.make_room.ensures.same))
