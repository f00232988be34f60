use Rattle.std.proofs.lemmas.Grind.{common_steps}
use Rattle.std.proofs.Common.{Bool, ◌≡◌, refl, sym, ap, ◌∙◌, arith}
use Rattle.hp_model.proofs.Words.{Mount, Page, file_in, with_cell, with_file}
use Rattle.hp_laws.proofs.Variants.{Hole, Present}
use Rattle.hp_model.specs.pool.Grant as grant
use Rattle.hp_lookup.proofs.Words.{Files, filled_at, with_cell_at}
use Rattle.hp_subpool.specs.Subpool as share
use Rattle.hp_mount.proofs.mount.Mount.fill_hole.Given.{Over}
use Rattle.hp_mount.proofs.mount.Mount.fill_hole.Goals.{After-is_full}
use Rattle.hp_mount_laws.proofs.Private.{denied_as, granted_as}
use Rattle.hp_mount_laws.proofs.Keeping.{full_as, rise_as, hole_kept, hole_keeps, hole_stays, granted_left, room_left}
use Rattle.hp_mount_laws.proofs.Shared.{shared_full, shared_without_memory, shared_granted, shared_denied}
use Rattle.hp_mount.proofs.Here.{below_here, cell_here, entered_below, entered_cell, entered_file, file_here}
use Rattle.hp_mount.proofs.mount.Mount.fill_hole.Goals as goal

-- what was asked of the share
module _ (g : Over) (c : After-is_full g) where
  full : {b : Bool} → c.is_full.result ≡ b → grant.is_full c.args.self.now 1 ≡ b
  full e = full_as c.self.inside.share c.self.inside.files c.self.inside.inodes c.args.self.now c.self.invariant c.self.view_is 1 1 c.is_full.result refl c.is_full.ensures ∙ e

  rise : share.rise c.self.inside.share 1 ≡ grant.rise c.args.self.now 1
  rise = rise_as c.self.inside.share c.self.inside.files c.self.inside.inodes c.args.self.now c.self.invariant c.self.view_is 1

pub returns-then-is_full-clause-done : goal.returns-then-is_full-clause-done
returns-then-is_full-clause-done g c s at file =
    shared_full g.D.PoolDoor.took g.D.PoolDoor.is_full g.N.Naming.page_bytes c.args.self.now c.args.home c.args.file c.args.index s at file c.args.door.now c.requires.hole
    (full g (goal.at.returns-then-is_full-clause-done g c).After-is_full c.if-is_full.true)

pub returns-in_default-clause-done : goal.returns-in_default-clause-done
returns-in_default-clause-done g c s at file =
    shared_without_memory g.D.PoolDoor.took g.D.PoolDoor.is_full g.N.Naming.page_bytes c.args.self.now c.args.home c.args.file c.args.index s at file c.args.door.now c.requires.hole
    _ (full g (goal.at.returns-in_default-clause-done g c).After-is_full c.if-is_full.false)
    (room_left c.self.inside.share c.self.inside.files c.prepare.new.self c.self.inside.inodes c.self.invariant c.in_default.ensures.err ∙ c.self.view_is)

pub invariant_of-self-in-Ok-get_page : goal.invariant_of-self-in-Ok-get_page
invariant_of-self-in-Ok-get_page g c =
    hole_kept c.self.inside.share c.self.inside.files c.self.inside.inodes c.self.invariant c.args.file (file_here c.self.view_is c.args.file c.requires.there.file)
    c.args.index c.saturating_add-spare.result c.zero.new.self c.get_page.new.share c.fill.new.self
    (below_here c.self.view_is c.args.file c.args.index c.requires.there.below) (cell_here c.self.view_is c.args.file c.args.index c.requires.hole)
    (omega (arith, c.held.ensures, c.saturating_add-spare.ensures, c.in-Ok.ensures.few)) c.in-Ok-get_page.ensures.share
    (c.fill.ensures ∙ ap (filled_at c.args.file c.args.index c.zero.new.self) c.in-Ok.ensures.ok)

pub invariant_of-self-in-Err : goal.invariant_of-self-in-Err
invariant_of-self-in-Err g c =
    hole_keeps c.self.inside.share c.self.inside.files c.self.inside.inodes c.self.invariant c.args.file (file_here c.self.view_is c.args.file c.requires.there.file)
    c.args.index c.saturating_add-spare.result c.get_page.new.share c.leave.new.self (cell_here c.self.view_is c.args.file c.args.index c.requires.hole) c.in-Err.ensures.unchanged
    (c.leave.ensures ∙ ap (with_cell_at c.args.file c.args.index Hole) c.in-Ok.ensures.ok)

pub returns-in-Ok-get_page-clause-done : goal.returns-in-Ok-get_page-clause-done
returns-in-Ok-get_page-clause-done g c s at file =
    let asked = (goal.at.returns-in-Ok-get_page-clause-done g c).After-is_full in
    let node = sym (ap (λ (p : Page). p.node) c.zero.ensures) in
    shared_granted g.D.PoolDoor.took g.D.PoolDoor.is_full g.N.Naming.page_bytes c.args.self.now c.args.home c.args.file c.args.index s at file c.args.door.now c.requires.hole
    c.get_page.new.self c.zero.new.self _ (full g asked c.if-is_full.false)
    (granted_as g.D.PoolDoor.took c.args.home c.args.door.now c.get_page.new.self (rise g asked) node c.in-Ok-get_page.ensures.ok) (ap (λ (p : Page). p.bytes) c.zero.ensures)
    (granted_left c.self.inside.share c.self.inside.files c.self.inside.inodes c.self.invariant c.args.file (file_here c.self.view_is c.args.file c.requires.there.file)
    c.args.index c.saturating_add-spare.result c.zero.new.self c.get_page.new.share c.fill.new.self c.in-Ok-get_page.ensures.share
    (c.fill.ensures ∙ ap (filled_at c.args.file c.args.index c.zero.new.self) c.in-Ok.ensures.ok)
    ∙ ap (λ (x : Mount). with_file x c.args.file (with_cell (file_in x c.args.file) c.args.index (Present c.zero.new.self))) c.self.view_is)

pub returns-in-Err-clause-done : goal.returns-in-Err-clause-done
returns-in-Err-clause-done g c s at file =
    let asked = (goal.at.returns-in-Err-clause-done g c).After-is_full in
    shared_denied g.D.PoolDoor.took g.D.PoolDoor.is_full g.N.Naming.page_bytes c.args.self.now c.args.home c.args.file c.args.index s at file c.args.door.now c.requires.hole
    c.get_page.new.self _ c.in-Err.refusal (full g asked c.if-is_full.false)
    (denied_as g.D.PoolDoor.took c.args.home c.args.door.now c.get_page.new.self (rise g asked) c.in-Err.refusal _ c.in-Err.ensures.err)
    (hole_stays c.self.inside.share c.self.inside.files c.self.inside.inodes c.self.invariant c.args.file (file_here c.self.view_is c.args.file c.requires.there.file)
    c.args.index c.saturating_add-spare.result c.get_page.new.share c.leave.new.self (cell_here c.self.view_is c.args.file c.args.index c.requires.hole) c.in-Err.ensures.unchanged
    (c.leave.ensures ∙ ap (with_cell_at c.args.file c.args.index Hole) c.in-Ok.ensures.ok) ∙ c.self.view_is)

pub prepare-requires-clause-hole : goal.prepare-requires-clause-hole
prepare-requires-clause-hole g c = cell_here c.self.view_is c.args.file c.args.index c.requires.hole

pub fill-requires-clause-file : goal.fill-requires-clause-file
fill-requires-clause-file g c = grind (arith, common_steps, below_here, entered_file, file_here)

pub fill-requires-clause-below : goal.fill-requires-clause-below
fill-requires-clause-below g c = grind (arith, common_steps, below_here, entered_below, file_here)

pub fill-requires-clause-entered : goal.fill-requires-clause-entered
fill-requires-clause-entered g c = grind (arith, common_steps, below_here, entered_cell, file_here)

pub leave-requires-clause-file : goal.leave-requires-clause-file
leave-requires-clause-file g c = grind (arith, common_steps, below_here, entered_file, file_here)

pub leave-requires-clause-below : goal.leave-requires-clause-below
leave-requires-clause-below g c = grind (arith, common_steps, below_here, entered_below, file_here)

pub leave-requires-clause-entered : goal.leave-requires-clause-entered
leave-requires-clause-entered g c = grind (arith, common_steps, below_here, entered_cell, file_here)

pub fill-requires-clause-room : goal.fill-requires-clause-room
fill-requires-clause-room g c =
    let room = ap (λ (v : Files). v.room) c.in-Ok.ensures.ok in
    omega (arith, room, c.held.ensures, c.saturating_add-spare.ensures)

pub get_page-requires-clause-few : goal.get_page-requires-clause-few
get_page-requires-clause-few g c =
    let o = c.self.inside in
    let inv = c.self.invariant in
    omega (arith, inv.pages, c.in-Ok.ensures.few, c.held.ensures, c.saturating_add-spare.ensures)
