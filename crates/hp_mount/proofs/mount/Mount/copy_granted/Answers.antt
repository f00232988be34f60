use Rattle.std.proofs.lemmas.Grind.{common_steps}
use Rattle.std.proofs.Common.{◌≡◌, ℕ, ◌||◌, Bool, max, false, None, Some, refl, sym, ap, subst, ◌∙◌, arith, flat_map}
use Rattle.hp_laws.proofs.Variants.{Live}
use Rattle.hp_model.proofs.Words.{Mount, Page, file_in, is_among, map_in, place_at, stamps_of, value}
use Rattle.hp_model.specs.pool.Grant as grant
use Rattle.hp_mount_door.specs.Door.{with_granted}
use Rattle.hp_lookup.proofs.Words.{Files, copied_at, file_at}
use Rattle.hp_mount_laws.specs.Reach.{has_reserve, with_place_at}
use Rattle.hp_mount_laws.specs.Kept.{IsKept, mount_from}
use Rattle.hp_mount.proofs.Copying as keeps
use Rattle.hp_mount_laws.proofs.Keeping.{full_as, mount_left, rise_as}
use Rattle.hp_mount_laws.proofs.Private as private
use Rattle.hp_mount_laws.proofs.Private.{place_touched, stamped_fresh}
use Rattle.hp_subpool.specs.Subpool as share
use Rattle.hp_mount.proofs.mount.Mount.copy_granted.Given.{Over}
use Rattle.hp_mount.proofs.Here.{place_here}
use Rattle.hp_mount.proofs.mount.Mount.copy_granted.Goals as goal
use Rattle.hp_mount.proofs.mount.Mount.copy_granted.Goals.{After-is_full, After-put_copy}

-- what was asked of the share
module _ (g : Over) (c : After-is_full g) where
  full : {b : Bool} → c.is_full.result ≡ b → grant.is_full c.args.self.now 1 ≡ b
  full e = full_as c.self.inside.share c.self.inside.files c.self.inside.inodes c.args.self.now c.self.invariant c.self.view_is 1 1 c.is_full.result refl c.is_full.ensures ∙ e

  rise : share.rise c.self.inside.share 1 ≡ grant.rise c.args.self.now 1
  rise = rise_as c.self.inside.share c.self.inside.files c.self.inside.inodes c.args.self.now c.self.invariant c.self.view_is 1

-- the copy that was put in, after room was made for it
module _ (g : Over) (c : After-put_copy g) where
  abbrev k : ℕ
  k = c.args.at.file

  abbrev j : ℕ
  j = c.args.at.map

  abbrev i : ℕ
  i = c.args.index

  abbrev stamp : ℕ
  stamp = c.put_copy.result

  abbrev page : Page
  page = c.with_shown-page.result

  abbrev consumed : Bool
  consumed = c.requires.needs.consumed

  room_is : c.make_room.new.self ≡ record c.self.inside.files { room = max c.self.inside.files.room c.saturating_add-spare.result }
  room_is = c.in-Ok.ensures.ok

  place : place_at (map_in (file_at c.self.inside.files.files k) j) i ≡ Live consumed None
  place = ap (λ (x : Mount). place_at (map_in (file_in x k) j) i) c.self.view_is ∙ c.requires.needs.place

  none : has_reserve (map_in (file_at c.self.inside.files.files k) j) i ≡ false
  none = ap (λ (x : Mount). has_reserve (map_in (file_in x k) j) i) c.self.view_is ∙ c.requires.unreserved

  new_is : c.get_page.new.share ≡ with_granted c.self.inside.share
  new_is = c.in-Ok-get_page.ensures.share

  copied : c.put_copy.new.self ≡ copied_at k j i ((map_in (file_at c.self.inside.files.files k) j).owner || consumed) stamp page
      (record c.self.inside.files { room = max c.self.inside.files.room c.saturating_add-spare.result })
  copied = c.put_copy.ensures.copied consumed (ap (λ (w : Files). place_at (map_in (file_at w.files k) j) i) room_is ∙ place)
      ∙ ap (λ (w : Files). copied_at k j i ((map_in (file_at w.files k) j).owner || consumed) stamp page w) room_is

  fresh : is_among stamp (flat_map stamps_of c.self.inside.files.files) ≡ false
  fresh = subst (λ (w : Files). is_among stamp (flat_map stamps_of w.files) ≡ false) room_is c.put_copy.ensures.fresh

  kept : IsKept c.get_page.new.share c.put_copy.new.self (mount_from c.get_page.new.share c.self.inside.inodes c.put_copy.new.self.files)
  kept = keeps.granted_kept c.self.inside.share c.self.inside.files c.self.inside.inodes c.args.self.now c.self.invariant c.self.view_is k j i c.requires.file c.requires.map
      stamp page fresh consumed place c.get_page.new.share c.put_copy.new.self c.saturating_add-spare.result none new_is copied
      (omega (arith, c.held.ensures, c.saturating_add-spare.ensures, c.in-Ok.ensures.few))

  left : mount_from c.get_page.new.share c.self.inside.inodes c.put_copy.new.self.files ≡ with_place_at c.args.self.now k j i (Live consumed (Some (record { stamp = stamp; page = page })))
  left = keeps.granted_left c.self.inside.share c.self.inside.files c.self.inside.inodes c.args.self.now c.self.invariant c.self.view_is k j i c.requires.file c.requires.map
      stamp page fresh consumed place c.get_page.new.share c.put_copy.new.self c.saturating_add-spare.result none new_is copied

  node : c.in-Ok-get_page.got.node ≡ page.node
  node = sym (ap (λ (p : Page). p.node) c.with_shown-page.ensures)

  bytes : page.bytes ≡ value g.N.Naming.page_bytes (file_in c.args.self.now k) (map_in (file_in c.args.self.now k) j) i
  bytes = ap (λ (p : Page). p.bytes) c.with_shown-page.ensures ∙ ap (λ (w : Files). value g.N.Naming.page_bytes (file_at w.files k) (map_in (file_at w.files k) j) i) room_is
      ∙ ap (λ (x : Mount). value g.N.Naming.page_bytes (file_in x k) (map_in (file_in x k) j) i) c.self.view_is

pub put_copy-requires-clause-live : goal.put_copy-requires-clause-live
put_copy-requires-clause-live g c = grind (arith, common_steps, place_here)

pub put_copy-requires-clause-bare : goal.put_copy-requires-clause-bare
put_copy-requires-clause-bare g c = grind (arith, common_steps, place_here)

pub returns-then-is_full-clause-done : goal.returns-then-is_full-clause-done
returns-then-is_full-clause-done g c =
    private.copy_full g.D.PoolDoor.took g.D.PoolDoor.is_full g.N.Naming.page_bytes c.args.self.now c.args.home c.args.at.file c.args.at.map
    c.args.index c.args.intent c.args.door.now c.requires.needs c.requires.unreserved
    (full g (goal.at.returns-then-is_full-clause-done g c).After-is_full c.if-is_full.true)

pub returns-in_default-clause-done : goal.returns-in_default-clause-done
returns-in_default-clause-done g c =
    private.copy_without_memory g.D.PoolDoor.took g.D.PoolDoor.is_full g.N.Naming.page_bytes c.args.self.now c.args.home c.args.at.file c.args.at.map
    c.args.index c.args.intent c.args.door.now c.requires.needs c.requires.unreserved
    _ (full g (goal.at.returns-in_default-clause-done g c).After-is_full c.if-is_full.false)
    (ap (λ (w : Files). mount_from c.self.inside.share c.self.inside.inodes w.files) c.in_default.ensures.err ∙ c.self.view_is)

pub invariant_of-self-in-Ok-get_page : goal.invariant_of-self-in-Ok-get_page
invariant_of-self-in-Ok-get_page g c = kept g (goal.at.invariant_of-self-in-Ok-get_page g c).After-put_copy

pub returns-in-Ok-get_page-clause-done : goal.returns-in-Ok-get_page-clause-done
returns-in-Ok-get_page-clause-done g c =
    let asked = (goal.at.returns-in-Ok-get_page-clause-done g c).After-is_full in
    let put = (goal.at.returns-in-Ok-get_page-clause-done g c).After-put_copy in
    private.copy_granted g.D.PoolDoor.took g.D.PoolDoor.is_full g.N.Naming.page_bytes c.args.self.now c.args.home c.args.at.file c.args.at.map
    c.args.index c.args.intent c.args.door.now c.requires.needs c.requires.unreserved
    c.put_copy.result c.get_page.new.self c.with_shown-page.result _ (full g asked c.if-is_full.false)
    (stamped_fresh c.put_copy.result c.self.inside.files.files c.args.self.now (sym (ap (λ (x : Mount). x.files) c.self.view_is)) (fresh g put))
    (private.granted_as g.D.PoolDoor.took c.args.home c.args.door.now c.get_page.new.self (rise g asked) (node g put) c.in-Ok-get_page.ensures.ok) (bytes g put) (left g put)

pub returns-in-Ok-get_page-clause-same : goal.returns-in-Ok-get_page-clause-same
returns-in-Ok-get_page-clause-same g c = place_touched c.args.self.now _ c.args.at.file c.args.at.map c.args.index _ c.requires.file
    (left g (goal.at.returns-in-Ok-get_page-clause-same g c).After-put_copy)

pub returns-in-Err-clause-done : goal.returns-in-Err-clause-done
returns-in-Err-clause-done g c =
    let asked = (goal.at.returns-in-Err-clause-done g c).After-is_full in
    let same = mount_left c.self.inside.share c.get_page.new.share c.self.inside.inodes c.self.inside.files.files c.make_room.new.self.files
    (ap (λ (x : share.Subpool). x.max) c.in-Err.ensures.unchanged) (ap (λ (x : share.Subpool). x.min) c.in-Err.ensures.unchanged)
    (ap (λ (x : Files). x.files) c.in-Ok.ensures.ok) in
    private.copy_denied g.D.PoolDoor.took g.D.PoolDoor.is_full g.N.Naming.page_bytes c.args.self.now c.args.home c.args.at.file c.args.at.map
    c.args.index c.args.intent c.args.door.now c.requires.needs c.requires.unreserved
    c.get_page.new.self _ c.in-Err.refusal (full g asked c.if-is_full.false) (private.denied_as g.D.PoolDoor.took c.args.home c.args.door.now
    c.get_page.new.self (rise g asked) c.in-Err.refusal _ c.in-Err.ensures.err) (same ∙ c.self.view_is)
