use Rattle.std.proofs.lemmas.Grind.{common_steps}
use Rattle.std.proofs.Common.{◌≡◌, subst, sym, ◌∙◌, length, ◌<◌, arith}
use Rattle.hp_laws.proofs.Variants.{Present}
use Rattle.hp_model.proofs.Words.{Page, cell_at}
use Rattle.hp_lookup.proofs.Words.{Files, file_at}
use Rattle.hp_lookup.proofs.Views.{write_view, nothing_written, held_once, present_shown}
use Rattle.hp_mount_files.proofs.Here.{file_here, file_inside}
use Rattle.hp_mount_files.proofs.files.pages.FilesFilePagesPage.write.Goals as goal

pub index-at-requires : goal.index-at-requires
index-at-requires g c = grind (arith, common_steps, file_inside)

pub write-requires-clause-alone : goal.write-requires-clause-alone
write-requires-clause-alone g c = grind (arith, common_steps, held_once, file_here)

pub returns-in-Some-clause-written : goal.returns-in-Some-clause-written
returns-in-Some-clause-written g c = grind (arith, common_steps, write_view)

pub returns-in-Some-clause-state : goal.returns-in-Some-clause-state
returns-in-Some-clause-state g c =
    let s = c.self.inside in
    let k = c.args.file in
    subst (λ (v : Files). (p : Page) × (cell_at (file_at v.files k) c.args.index ≡ Present p)) c.self.view_is
    (present_shown s.pages.store s.pages.more s.list.files c.self.invariant.held k c.args.index (subst (λ v. k < length v.files) (sym c.self.view_is) c.requires.file) c.index-at.result.now
    c.index-at.ensures c.in-Some.number (sym c.page_at.ensures ∙ c.in-Some.is))

pub returns-after-entered-clause-written : goal.returns-after-entered-clause-written
returns-after-entered-clause-written g c = grind (arith, common_steps, nothing_written)
