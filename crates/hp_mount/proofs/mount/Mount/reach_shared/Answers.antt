use Rattle.std.proofs.Common.{◌≡◌, subst}
use Rattle.hp_model.proofs.Words.{Mount, Page, cell_at, file_in}
use Rattle.hp_laws.proofs.Variants.{Present}
use Rattle.hp_mount_laws.proofs.Shared.{shared_present}
use Rattle.hp_mount.proofs.mount.Mount.reach_shared.Goals as goal

pub returns-in-Present-clause-done : goal.returns-in-Present-clause-done
returns-in-Present-clause-done g c s at file =
    let there : (p : Page) × (cell_at (file_in c.args.self.now c.args.file) c.args.index ≡ Present p) =
    subst (λ (x : Mount). (p : Page) × (cell_at (file_in x c.args.file) c.args.index ≡ Present p)) c.self.view_is c.in-Present.ensures in
    shared_present g.D.PoolDoor.took g.D.PoolDoor.is_full g.N.Naming.page_bytes c.args.self.now c.args.home c.args.file c.args.index s at file c.args.door.now there.0 there.1
