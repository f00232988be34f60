use Rattle.std.proofs.lemmas.Grind.{common_steps}
use Rattle.std.proofs.Common.{◌<◌, length, sym, ap, subst, ◌∙◌, arith}
use Rattle.std.proofs.lemmas.Result.{err_from_is_err_and}
use Rattle.hp_model.proofs.Words.{Mount, Page, file_in, granted_at, with_cell, with_file}
use Rattle.hp_laws.proofs.Variants.{Present, TakePage}
use Rattle.hp_mount_laws.proofs.Keeping.{entry_kept, entry_left}
use Rattle.hp_mount_laws.proofs.Shared.{entered_full, shared_entered}
use Rattle.hp_mount.proofs.mount.Mount.fill_entry.Goals as goal

pub invariant_of-self-2 : goal.invariant_of-self-2
invariant_of-self-2 g c = grind (arith, common_steps, entry_kept)

pub returns-clause-done : goal.returns-clause-done
returns-clause-done g c s at file =
    let i = c.args.index in
    let k = c.args.file in
    let o = c.self.inside in
    let m = c.args.self.now in
    let page = c.zero.new.self in
    let got = c.in_ok-page.page in
    let node = sym (ap (λ (p : Page). p.node) c.zero.ensures) in
    shared_entered g.D.PoolDoor.took g.D.PoolDoor.is_full g.N.Naming.page_bytes m c.args.home k i s at file c.args.door.now c.take_page.new.self page _ c.requires.entered
    (subst (λ n. g.D.PoolDoor.took c.args.door.now (TakePage c.args.home) (granted_at n) c.take_page.new.self) node c.in_ok-page.ensures.ok)
    (ap (λ (p : Page). p.bytes) c.zero.ensures)
    (entry_left o.share o.files o.inodes c.self.invariant k (subst (λ m. k < length m.files) (sym c.self.view_is) c.requires.there.file) i page c.take_page.new.share c.fill.new.self
    c.in_ok-page.ensures.share c.fill.ensures
    ∙ ap (λ (x : Mount). with_file x k (with_cell (file_in x k) i (Present page))) c.self.view_is)

pub returns-in_err-page-clause-done : goal.returns-in_err-page-clause-done
returns-in_err-page-clause-done g c s at file = grind (arith, common_steps, err_from_is_err_and, entered_full)
