use Rattle.std.proofs.Common.{◌≡◌, ◌<◌, Bool, None, Ok, Err, Some, length, refl, sym, ap, subst, ◌∙◌}
use Rattle.hp_laws.proofs.Variants.{MapNo}
use Rattle.hp_model.specs.declared.refusal.Refusal.TheVariants.{MountFull}
use Rattle.hp_lookup.specs.declared.next_map.MapRange.{MapRange}
use Rattle.hp_model.proofs.Words.{Mount, anon_tests, is_full, new_file, with_new}
use Rattle.hp_lookup.proofs.Words.{wants, with_range}
use Rattle.hp_mount_laws.specs.Done.{Tried}
use Rattle.hp_mount_laws.specs.Kept.{mount_from}
use Rattle.hp_mount_laws.specs.Making.{anon_plan}
use Rattle.hp_mount_laws.specs.Reach.{first_of}
use Rattle.hp_mount_laws.proofs.Keeping.{anon_kept, anon_left, full_as, rise_as, room_left}
use Rattle.hp_mount_laws.proofs.Making.{anon_by_file, anon_by_map, anon_refused, anon_went, asked_share, grant_denied, grant_full, grant_given}
use Rattle.hp_mount.proofs.mount.Mount.anon.Given.{Over}
use Rattle.hp_mount.proofs.mount.Mount.anon.Goals as goal
use Rattle.hp_mount.proofs.mount.Mount.anon.Goals.{After-is_full}

pub returns-in-Err-clause-done : goal.returns-in-Err-clause-done
returns-in-Err-clause-done g c size k =
    let a = c.args in
    anon_refused g.D.PoolDoor.took g.D.PoolDoor.is_full a.self.now size k a.task a.home a.pages a.sharing a.reserving
    a.door.now c.in-Err.refusal (anon_by_map a.self.now a.task a.pages c.in-Err.refusal c.in-Err.ensures.err)

pub returns-in-Some-clause-done : goal.returns-in-Some-clause-done
returns-in-Some-clause-done g c size k =
    let a = c.args in
    anon_refused g.D.PoolDoor.took g.D.PoolDoor.is_full a.self.now size k a.task a.home a.pages a.sharing a.reserving
    a.door.now c.in-Some.refusal (anon_by_file a.self.now a.task a.pages c.in-Ok.ensures.pass ∙ (sym c.refused_more.ensures.first ∙ c.in-Some.is))

-- it begins, and what was asked of the share
module _ (g : Over) (c : After-is_full g) where
  abbrev range : MapRange
  range = record { task = c.args.task; start = 0; pages = c.args.pages; sharing = c.args.sharing; reserving = c.args.reserving }

  pass : first_of (anon_tests c.args.self.now c.args.task c.args.pages) ≡ None
  pass = anon_by_file c.args.self.now c.args.task c.args.pages c.in-Ok.ensures.pass ∙ (sym c.refused_more.ensures.first ∙ c.in_default.is)

  full : {b : Bool} → c.is_full.result ≡ b → is_full c.args.self.now (wants range (new_file None)) ≡ b
  full e =
      let o = c.self.inside in
      full_as o.share o.files o.inodes c.args.self.now c.self.invariant c.self.view_is _ c.wanted_alone.result c.is_full.result c.wanted_alone.ensures.alone c.is_full.ensures ∙ e

pub returns-then-is_full-clause-done : goal.returns-then-is_full-clause-done
returns-then-is_full-clause-done g c size k =
    let a = c.args in
    let asked = (goal.at.returns-then-is_full-clause-done g c).After-is_full in
    anon_went g.D.PoolDoor.took g.D.PoolDoor.is_full a.self.now size k a.task a.home a.pages a.sharing a.reserving a.door.now c.in-Ok.next.number (pass g asked)
    c.in-Ok.ensures.number (Err MountFull) (Some a.self.now) a.door.now
    (grant_full g.D.PoolDoor.took g.D.PoolDoor.is_full a.self.now a.home (wants (range g asked) (new_file None)) (MapNo c.in-Ok.next.number)
    (with_new a.self.now (with_range (range g asked) c.in-Ok.next.number (new_file None))) a.door.now (full g asked c.if-is_full.true))

pub invariant_of-self-2 : goal.invariant_of-self-2
invariant_of-self-2 g c =
    let o = c.self.inside in
    let a = c.args in
    anon_kept o.share o.files o.inodes c.self.invariant a.task c.in-Ok.next.number 0 a.pages _ a.sharing a.reserving c.add_anon.new.share
    c.add_anon.new.self refl c.in_default-add_anon.ensures.asked.share c.in_default-add_anon.ensures.ok
    (subst (λ (x : Mount). length x.files < 1024) (sym c.self.view_is) c.in_default.ensures.few)

pub returns-clause-done : goal.returns-clause-done
returns-clause-done g c size k =
    let o = c.self.inside in
    let a = c.args in
    let m = a.self.now in
    let number = c.in-Ok.next.number in
    let asked = (goal.at.returns-clause-done g c).After-is_full in
    let new_is = anon_left o.share o.files o.inodes c.self.invariant a.task number 0 a.pages _ a.sharing a.reserving
    c.add_anon.new.share c.add_anon.new.self refl c.in_default-add_anon.ensures.asked.share c.in_default-add_anon.ensures.ok
    ∙ ap (λ (x : Mount). with_new x (with_range (range g asked) number (new_file None))) c.self.view_is in
    anon_went g.D.PoolDoor.took g.D.PoolDoor.is_full m size k a.task a.home a.pages a.sharing a.reserving a.door.now number (pass g asked)
    c.in-Ok.ensures.number (Ok (MapNo number)) (Some (mount_from c.add_anon.new.share o.inodes c.add_anon.new.self.files)) c.add_anon.new.door
    (subst (λ (x : Mount). Tried g.D.PoolDoor.took g.D.PoolDoor.is_full (anon_plan m (range g asked) number a.home) (Some m) a.door.now
    (Ok (MapNo number)) (Some x) c.add_anon.new.door) (sym new_is)
    (grant_given g.D.PoolDoor.took g.D.PoolDoor.is_full m a.home (wants (range g asked) (new_file None)) (MapNo number)
    (with_new m (with_range (range g asked) number (new_file None))) a.door.now (full g asked c.if-is_full.false) o.share
    (rise_as o.share o.files o.inodes m c.self.invariant c.self.view_is _) c.add_anon.new.share c.add_anon.new.door c.in_default-add_anon.ensures.asked))

pub returns-in-Err-add_anon-clause-done : goal.returns-in-Err-add_anon-clause-done
returns-in-Err-add_anon-clause-done g c size k =
    let o = c.self.inside in
    let a = c.args in
    let m = a.self.now in
    let number = c.in-Ok.next.number in
    let asked = (goal.at.returns-in-Err-add_anon-clause-done g c).After-is_full in
    let same = asked_share g.D.PoolDoor.took g.D.PoolDoor.is_full a.home _ o.share a.door.now c.in-Err-add_anon.refusal c.add_anon.new.share c.add_anon.new.door c.in-Err-add_anon.ensures.asked in
    let stays = ap (λ x. mount_from x o.inodes c.add_anon.new.self.files) same
    ∙ room_left o.share o.files c.add_anon.new.self o.inodes c.self.invariant c.in-Err-add_anon.ensures.err ∙ c.self.view_is in
    anon_went g.D.PoolDoor.took g.D.PoolDoor.is_full m size k a.task a.home a.pages a.sharing a.reserving a.door.now number (pass g asked)
    c.in-Ok.ensures.number (Err c.in-Err-add_anon.refusal) (Some (mount_from c.add_anon.new.share o.inodes c.add_anon.new.self.files)) c.add_anon.new.door
    (grant_denied g.D.PoolDoor.took g.D.PoolDoor.is_full m a.home (wants (range g asked) (new_file None)) (MapNo number)
    (with_new m (with_range (range g asked) number (new_file None))) a.door.now (full g asked c.if-is_full.false) o.share
    (rise_as o.share o.files o.inodes m c.self.invariant c.self.view_is _) c.in-Err-add_anon.refusal c.add_anon.new.share c.add_anon.new.door
    (mount_from c.add_anon.new.share o.inodes c.add_anon.new.self.files) c.in-Err-add_anon.ensures.asked stays)
