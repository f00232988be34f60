use Rattle.std.proofs.lemmas.Grind.{common_steps}
use Rattle.std.proofs.Common.{◌≡◌, ◌<◌, length, ap, subst, sym, arith}
use Rattle.hp_model.proofs.Words.{cell_at}
use Rattle.hp_laws.proofs.Variants.{Entered}
use Rattle.hp_lookup.proofs.Words.{NumberedFile, tally_of, file_at, label_of}
use Rattle.hp_file.proofs.Entering.{leave_view, leave_keeps}
use Rattle.hp_lookup.proofs.Keys.{files_same}
use Rattle.hp_lookup.proofs.Level.{same_level}
use Rattle.hp_mount_files.proofs.files.pages.FilesFilePagesPage.leave.Goals as goal

pub invariant_of-self : goal.invariant_of-self
invariant_of-self g c =
    let s = c.self.inside in
    let k = c.args.file in
    let i = c.args.index in
    files_same s.hints s.pages.store s.pages.store s.pages.more s.pages.more s.maps (tally_of s.hints) s.list.files k c.index_mut-at.result.now c.leave.new.self
    (subst (λ v. k < length v.files) (sym c.self.view_is) c.requires.file) c.index_mut-at.ensures.value (ap label_of c.leave.ensures)
    (same_level c.index_mut-at.result.now.maps c.leave.new.self.maps (ap (λ (f : NumberedFile). f.maps) c.leave.ensures)) c.self.invariant
    (leave_keeps s.pages.store s.pages.more s.list.files c.self.invariant.held k i (subst (λ v. k < length v.files) (sym c.self.view_is) c.requires.file)
    c.index_mut-at.result.now c.leave.new.self c.index_mut-at.ensures.value
    (subst (λ v. i < length (file_at v.files k).cells) (sym c.self.view_is) c.requires.below) c.leave.ensures
    (subst (λ v. cell_at (file_at v.files k) i ≡ Entered) (sym c.self.view_is) c.requires.entered))

pub returns : goal.returns
returns g c = grind (arith, common_steps, leave_view)
