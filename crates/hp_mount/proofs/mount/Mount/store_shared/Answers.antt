use Rattle.std.proofs.lemmas.Grind.{common_steps}
use Rattle.std.proofs.Common.{◌≡◌, ◌<◌, Ok, length, refl, sym, ap, subst, ◌∙◌, arith}
use Rattle.hp_laws.proofs.Variants.{Present, Write}
use Rattle.hp_model.proofs.Words.{Mount, Page, cell_at, file_in}
use Rattle.hp_lookup.proofs.Words.{Files}
use Rattle.hp_mount_laws.specs.Done.{IsAccessed, IsReached}
use Rattle.hp_mount_laws.specs.Kept.{mount_from}
use Rattle.hp_mount_laws.specs.Reach.{IsFileTouched, spot_at}
use Rattle.hp_mount_laws.proofs.Keeping.{grown}
use Rattle.hp_mount.proofs.Commands.{write_grows}
use Rattle.hp_mount.proofs.Loading.{present_shared, reached_shared}
use Rattle.hp_mount.proofs.Storing.{stored, not_stored, wrote_is}
use Rattle.hp_mount.proofs.mount.Mount.store_shared.Given.{Over}
use Rattle.hp_mount.proofs.mount.Mount.store_shared.Goals as goal
use Rattle.hp_mount.proofs.mount.Mount.store_shared.Goals.{Joined-write, in-Entered, in-Hole}

pub returns-in-Present-clause-done : goal.returns-in-Present-clause-done
returns-in-Present-clause-done g c k =
    let o = c.self.inside in
    let m = c.args.self.now in
    let at = c.args.at in
    let i = c.args.access.now.index in
    let placed = c.requires.placed in
    let there = subst (λ (x : Mount). (p : Page) × (cell_at (file_in x at.file) i ≡ Present p)) c.self.view_is c.in-Present.ensures.state in
    stored g.D.PoolDoor.took g.D.PoolDoor.is_full g.N.Naming.page_bytes c.args.home m c.args.door.now c.args.access.now c.args.offset c.args.bytes.now at placed (Ok tt) m
    (mount_from o.share o.inodes c.write.new.self.files) c.args.door.now refl
    (present_shared g.D.PoolDoor.took g.D.PoolDoor.is_full g.N.Naming.page_bytes c.args.home m c.args.door.now at i Write there.0 c.requires.shared there.1)
    (wrote_is o.share o.inodes o.files c.write.new.self m (spot_at m at.file at.map) i c.args.offset c.args.bytes.now c.requires.shared placed.file placed.below
    c.self.view_is c.write.ensures.written) k

-- there was no page, and the index was reached
module _ (g : Over) (c : Joined-write g) where
  seen : c.write.new.self ≡ c.self.inside.files → mount_from c.self.inside.share c.self.inside.inodes c.write.new.self.files ≡ c.args.self.now
  seen none = ap (λ (v : Files). mount_from c.self.inside.share c.self.inside.inodes v.files) none ∙ c.self.view_is

  touched : IsFileTouched c.args.self.now c.match-write.self c.args.at.file
  touched = elim c.match-write.branch [
    | in-Entered w ↦ rw w.self-is
        (subst (λ (x : Mount). IsFileTouched x w.fill_entry-reached.new.self c.args.at.file) (seen (c.write.ensures.entered w.in-Entered.is)) w.fill_entry-reached.ensures.same)
    | in-Hole w ↦ rw w.self-is (subst (λ (x : Mount). IsFileTouched x w.fill_hole-reached.new.self c.args.at.file) (seen (c.write.ensures.hole w.in-Hole.is)) w.fill_hole-reached.ensures.same)
  ]

  reached : IsAccessed g.D.PoolDoor.took g.D.PoolDoor.is_full g.N.Naming.page_bytes c.args.home c.args.at c.args.access.now.index Write c.args.self.now c.args.door.now c.match-write.reached
      c.match-write.self c.match-write.door
  reached = elim c.match-write.branch [
    | in-Entered w ↦
        let f = w.fill_entry-reached in
        rw (w.self-is, w.door-is, w.reached-is)
        (reached_shared g.D.PoolDoor.took g.D.PoolDoor.is_full g.N.Naming.page_bytes c.args.home c.args.self.now c.args.door.now c.args.at c.args.access.now.index Write
        f.result f.new.self f.new.door c.requires.shared
        (subst (λ (x : Mount). IsReached g.D.PoolDoor.took g.D.PoolDoor.is_full g.N.Naming.page_bytes c.args.home c.args.at.file c.args.access.now.index x c.args.door.now
        f.result f.new.self f.new.door) (seen (c.write.ensures.entered w.in-Entered.is)) f.ensures.done))
    | in-Hole w ↦
        let f = w.fill_hole-reached in
        rw (w.self-is, w.door-is, w.reached-is)
        (reached_shared g.D.PoolDoor.took g.D.PoolDoor.is_full g.N.Naming.page_bytes c.args.home c.args.self.now c.args.door.now c.args.at c.args.access.now.index Write
        f.result f.new.self f.new.door c.requires.shared
        (subst (λ (x : Mount). IsReached g.D.PoolDoor.took g.D.PoolDoor.is_full g.N.Naming.page_bytes c.args.home c.args.at.file c.args.access.now.index x c.args.door.now
        f.result f.new.self f.new.door) (seen (c.write.ensures.hole w.in-Hole.is)) f.ensures.done))
  ]

pub returns-in-Err-clause-done : goal.returns-in-Err-clause-done
returns-in-Err-clause-done g c =
    not_stored g.D.PoolDoor.took g.D.PoolDoor.is_full g.N.Naming.page_bytes c.args.home c.args.self.now c.args.door.now c.args.access.now c.args.offset c.args.bytes.now c.args.at c.requires.placed
    c.in-Err.refusal c.match-write.reached c.match-write.self c.match-write.door c.in-Err.is (reached g (goal.at.returns-in-Err-clause-done g c).Joined-write)

pub invariant_of-self-2 : goal.invariant_of-self-2
invariant_of-self-2 g c =
    let k = c.args.at.file in
    let i = c.args.access.now.index in
    let t = touched g (goal.at.invariant_of-self-2 g c).Joined-write in
    let file = subst (λ (x : Mount). k < length x.files) (sym c.self-2.view_is) (omega (arith, t.files, c.requires.placed.file)) in
    let below = subst (λ (x : Mount). i < length (file_in x k).cells) (sym c.self-2.view_is) (omega (arith, t.cells, c.requires.placed.below)) in
    grind (arith, common_steps, write_grows, grown, file, below)

pub returns-clause-done : goal.returns-clause-done
returns-clause-done g c =
    let o = c.self-2.inside in
    let m = c.args.self.now in
    let n = c.match-write.self in
    let at = c.args.at in
    let i = c.args.access.now.index in
    let over = (goal.at.returns-clause-done g c).Joined-write in
    let t = touched g over in
    let placed = c.requires.placed in
    stored g.D.PoolDoor.took g.D.PoolDoor.is_full g.N.Naming.page_bytes c.args.home m c.args.door.now c.args.access.now c.args.offset c.args.bytes.now at placed c.match-write.reached n
    (mount_from o.share o.inodes c.write-there.new.self.files) c.match-write.door c.in_default.is (reached g over)
    (wrote_is o.share o.inodes o.files c.write-there.new.self n (spot_at m at.file at.map) i c.args.offset c.args.bytes.now c.requires.shared
    (omega (arith, t.files, placed.file)) (omega (arith, t.cells, placed.below)) c.self-2.view_is c.write-there.ensures.written)
