use Rattle.std.proofs.Common.{◌≡◌, Bool, Err, None, Ok, Some, refl, sym, ap, subst, ◌∙◌}
use Rattle.hp_laws.proofs.Variants.{MapNo}
use Rattle.hp_model.specs.declared.refusal.Refusal.TheVariants.{MountFull}
use Rattle.hp_model.proofs.Words.{Mount, file_in, file_named, is_full, with_file}
use Rattle.hp_lookup.proofs.Words.{IsAsked, IsGranted, file_at, wants, with_range}
use Rattle.hp_mount_laws.specs.Done.{Tried}
use Rattle.hp_mount_laws.specs.Kept.{mount_from}
use Rattle.hp_mount_laws.specs.Making.{map_plan}
use Rattle.hp_mount_laws.proofs.Keeping.{full_as, map_kept, map_left, rise_as, room_left, wants_is}
use Rattle.hp_mount_laws.proofs.Making.{asked_share, grant_denied, grant_full, grant_given, map_nowhere, map_refused, map_went}
use Rattle.hp_mount.proofs.mount.Mount.map.Given.{Over}
use Rattle.hp_mount.proofs.mount.Mount.map.Goals as goal
use Rattle.hp_mount.proofs.mount.Mount.map.Goals.{After-is_full}

pub returns-in_default-clause-done : goal.returns-in_default-clause-done
returns-in_default-clause-done g c size k =
    let r = c.args.range.now in
    let m = c.args.self.now in
    map_nowhere g.D.PoolDoor.took g.D.PoolDoor.is_full m size k r.task c.args.home r.start r.pages r.sharing r.reserving c.args.name.now c.args.door.now
    (subst (λ (x : Mount). file_named x c.args.name.now ≡ None) c.self.view_is c.in_default.ensures.none)

pub returns-in-Err-clause-done : goal.returns-in-Err-clause-done
returns-in-Err-clause-done g c size k =
    let r = c.args.range.now in
    let m = c.args.self.now in
    let file = c.in-Some.file in
    let named = subst (λ (x : Mount). file_named x c.args.name.now ≡ Some (file, file_in x file)) c.self.view_is c.in-Some.ensures.some.is in
    map_refused g.D.PoolDoor.took g.D.PoolDoor.is_full m size k r.task c.args.home r.start r.pages r.sharing r.reserving c.args.name.now
    c.args.door.now file named c.in-Err.refusal c.in-Err.ensures.err

-- the file was found, and what was asked of the share
module _ (g : Over) (c : After-is_full g) where
  named : file_named c.args.self.now c.args.name.now ≡ Some (c.in-Some.file, file_in c.args.self.now c.in-Some.file)
  named = subst (λ (x : Mount). file_named x c.args.name.now ≡ Some (c.in-Some.file, file_in x c.in-Some.file)) c.self.view_is c.in-Some.ensures.some.is

  full : {b : Bool} → c.is_full.result ≡ b → is_full c.args.self.now (wants c.args.range.now (file_in c.args.self.now c.in-Some.file)) ≡ b
  full e =
      let o = c.self.inside in
      full_as o.share o.files o.inodes c.args.self.now c.self.invariant c.self.view_is _ c.wanted-wanted.result c.is_full.result
      (c.wanted-wanted.ensures ∙ wants_is o.share o.files o.inodes c.args.self.now c.self.invariant c.self.view_is c.in-Some.file c.args.range.now) c.is_full.ensures ∙ e

pub returns-then-is_full-clause-done : goal.returns-then-is_full-clause-done
returns-then-is_full-clause-done g c size k =
    let a = c.args in
    let r = a.range.now in
    let asked = (goal.at.returns-then-is_full-clause-done g c).After-is_full in
    map_went g.D.PoolDoor.took g.D.PoolDoor.is_full a.self.now size k r.task a.home r.start r.pages r.sharing r.reserving a.name.now a.door.now
    c.in-Some.file (named g asked) c.in-Ok.next.number c.in-Ok.ensures.pass c.in-Ok.ensures.number (Err MountFull) (Some a.self.now) a.door.now
    (grant_full g.D.PoolDoor.took g.D.PoolDoor.is_full a.self.now a.home (wants r (file_in a.self.now c.in-Some.file)) (MapNo c.in-Ok.next.number)
    (with_file a.self.now c.in-Some.file (with_range r c.in-Ok.next.number (file_in a.self.now c.in-Some.file))) a.door.now (full g asked c.if-is_full.true))

pub invariant_of-self-2 : goal.invariant_of-self-2
invariant_of-self-2 g c =
    let o = c.self.inside in
    let r = c.args.range.now in
    map_kept o.share o.files o.inodes c.self.invariant c.in-Some.file c.in-Some.ensures.some.within r.task c.in-Ok.next.number r.start r.pages _ r.sharing r.reserving
    c.add_map.new.share c.add_map.new.self refl c.in_default-add_map.ensures.asked.share c.in_default-add_map.ensures.ok

pub returns-clause-done : goal.returns-clause-done
returns-clause-done g c size k =
    let o = c.self.inside in
    let a = c.args in
    let file = c.in-Some.file in
    let number = c.in-Ok.next.number in
    let r = a.range.now in
    let m = a.self.now in
    let asked = (goal.at.returns-clause-done g c).After-is_full in
    let given = subst (λ n. IsGranted g.D.PoolDoor.took g.D.PoolDoor.is_full a.home n o.share a.door.now c.add_map.new.share
    c.add_map.new.door) (wants_is o.share o.files o.inodes m c.self.invariant c.self.view_is file r) c.in_default-add_map.ensures.asked in
    let new_is = map_left o.share o.files o.inodes c.self.invariant file c.in-Some.ensures.some.within r.task number r.start r.pages _ r.sharing r.reserving
    c.add_map.new.share c.add_map.new.self refl c.in_default-add_map.ensures.asked.share c.in_default-add_map.ensures.ok
    ∙ ap (λ (x : Mount). with_file x file (with_range r number (file_at x.files file))) c.self.view_is in
    map_went g.D.PoolDoor.took g.D.PoolDoor.is_full m size k r.task a.home r.start r.pages r.sharing r.reserving a.name.now a.door.now
    file (named g asked) number c.in-Ok.ensures.pass c.in-Ok.ensures.number (Ok (MapNo number)) (Some (mount_from c.add_map.new.share o.inodes c.add_map.new.self.files)) c.add_map.new.door
    (subst (λ (x : Mount). Tried g.D.PoolDoor.took g.D.PoolDoor.is_full (map_plan m r number a.home file) (Some m) a.door.now
    (Ok (MapNo number)) (Some x) c.add_map.new.door) (sym new_is)
    (grant_given g.D.PoolDoor.took g.D.PoolDoor.is_full m a.home (wants r (file_in m file)) (MapNo number)
    (with_file m file (with_range r number (file_in m file))) a.door.now (full g asked c.if-is_full.false) o.share
    (rise_as o.share o.files o.inodes m c.self.invariant c.self.view_is _) c.add_map.new.share c.add_map.new.door given))

pub returns-in-Err-add_map-clause-done : goal.returns-in-Err-add_map-clause-done
returns-in-Err-add_map-clause-done g c size k =
    let o = c.self.inside in
    let a = c.args in
    let file = c.in-Some.file in
    let number = c.in-Ok.next.number in
    let r = a.range.now in
    let m = a.self.now in
    let asked = (goal.at.returns-in-Err-add_map-clause-done g c).After-is_full in
    let denied = subst (λ n. IsAsked g.D.PoolDoor.took g.D.PoolDoor.is_full a.home n o.share a.door.now (Err c.in-Err-add_map.refusal)
    c.add_map.new.share c.add_map.new.door) (wants_is o.share o.files o.inodes m c.self.invariant c.self.view_is file r) c.in-Err-add_map.ensures.asked in
    let same = asked_share g.D.PoolDoor.took g.D.PoolDoor.is_full a.home _ o.share a.door.now c.in-Err-add_map.refusal c.add_map.new.share c.add_map.new.door c.in-Err-add_map.ensures.asked in
    let stays = ap (λ x. mount_from x o.inodes c.add_map.new.self.files) same
    ∙ room_left o.share o.files c.add_map.new.self o.inodes c.self.invariant c.in-Err-add_map.ensures.err ∙ c.self.view_is in
    let left = with_file m file (with_range r number (file_in m file)) in
    map_went g.D.PoolDoor.took g.D.PoolDoor.is_full m size k r.task a.home r.start r.pages r.sharing r.reserving a.name.now a.door.now
    file (named g asked) number c.in-Ok.ensures.pass c.in-Ok.ensures.number (Err c.in-Err-add_map.refusal) (Some (mount_from c.add_map.new.share o.inodes c.add_map.new.self.files)) c.add_map.new.door
    (grant_denied g.D.PoolDoor.took g.D.PoolDoor.is_full m a.home (wants r (file_in m file)) (MapNo number) left a.door.now (full g asked c.if-is_full.false) o.share
    (rise_as o.share o.files o.inodes m c.self.invariant c.self.view_is _) c.in-Err-add_map.refusal c.add_map.new.share c.add_map.new.door
    (mount_from c.add_map.new.share o.inodes c.add_map.new.self.files) denied stays)
