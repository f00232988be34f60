use Rattle.std.proofs.Common.{◌≡◌, subst, sym, ◌∙◌, length, ◌<◌}
use Rattle.hp_laws.proofs.Variants.{Present}
use Rattle.hp_model.proofs.Words.{Page, cell_at}
use Rattle.hp_lookup.proofs.Words.{Files, file_at}
use Rattle.hp_lookup.proofs.Views.{present_shown}
use Rattle.hp_mount_files.proofs.files.pages.FilesFilePagesPage.cell.Goals as goal

pub returns-in-Some : goal.returns-in-Some
returns-in-Some g c =
    let s = c.self.inside in
    let k = c.args.file in
    subst (λ (v : Files). (p : Page) × (cell_at (file_at v.files k) c.args.index ≡ Present p)) c.self.view_is
    (present_shown s.pages.store s.pages.more s.list.files c.self.invariant.held k c.args.index (subst (λ v. k < length v.files) (sym c.self.view_is) c.requires) c.index-at.result.now
    c.index-at.ensures c.in-Some.field-0 (sym c.page_at.ensures ∙ c.in-Some.is))
