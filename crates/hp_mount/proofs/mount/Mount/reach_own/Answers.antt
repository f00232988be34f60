use Rattle.std.proofs.Common.{map as mapped, Bool, ℕ, ◌≡◌, false, Ok, Err, Some, refl, sym, ap, subst, ◌∙◌, Result, flat_map}
use Rattle.hp_laws.proofs.Variants.{GrantPage, Live, NoPages, OutOfMemory, Refusal, Write}
use Rattle.hp_model.proofs.Words.{Copy, File, Mount, Page, copy_of, file_in, is_among, is_held_once, map_in, no_pages, place_at, robbed, stamps_of, with_file, with_map}
use Rattle.hp_model.specs.pool.Grant as grant
use Rattle.hp_mount_door.specs.Door.{IsDoorRefusal, with_granted}
use Rattle.hp_lookup.proofs.Words.{Files, IsLeft, file_at, parted_at, taken_back_at}
use Rattle.hp_file.specs.States.{AreAgreed}
use Rattle.hp_mount_files.proofs.Lent.{owner_lent}
use Rattle.hp_mount_laws.specs.Reach.{IsFileTouched, with_place_at}
use Rattle.hp_mount_laws.specs.Kept.{IsKept, mount_from}
use Rattle.hp_mount.proofs.Copying as keeps
use Rattle.hp_mount_laws.proofs.Keeping.{full_as, mount_left, rise_as}
use Rattle.hp_mount_laws.proofs.Private as private
use Rattle.hp_mount_laws.proofs.Private.{back_touched, copy_value, place_touched, stamped_fresh}
use Rattle.hp_mount_laws.proofs.Shared.{same_touched}
use Rattle.hp_subpool.specs.Subpool as share
use Rattle.hp_laws.proofs.counts.Copies.{live_of}
use Rattle.hp_mount.proofs.mount.Mount.reach_own.Given.{Over}
use Rattle.hp_mount.proofs.Here.{state_here}
use Rattle.hp_lookup.specs.declared.copy_state.CopyState.TheVariants.{HeldBySeveral}
use Rattle.hp_mount.proofs.mount.Mount.reach_own.Goals as goal
use Rattle.hp_mount.proofs.mount.Mount.reach_own.Goals.{After-is_full}

-- the copy that several hold, and what was asked of the share
module _ (g : Over) (c : After-is_full g) where
  abbrev m : Mount
  m = c.args.self.now

  abbrev f : File
  f = file_in m c.args.at.file

  abbrev shown : File
  shown = file_at c.self.inside.files.files c.args.at.file

  abbrev old : Copy
  old = c.requires.several.0

  live : (consumed : Bool) × (place_at (map_in f c.args.at.map) c.args.index ≡ Live consumed (Some old))
  live = live_of (place_at (map_in f c.args.at.map) c.args.index) old c.requires.several.1

  place : place_at (map_in shown c.args.at.map) c.args.index ≡ Live (live).0 (Some old)
  place = ap (λ (x : Mount). place_at (map_in (file_in x c.args.at.file) c.args.at.map) c.args.index) c.self.view_is ∙ (live).1

  agreed : AreAgreed shown
  agreed = subst (λ (x : Mount). AreAgreed (file_in x c.args.at.file)) (sym c.self.view_is) c.requires.agreed

  owner : {b : Bool} → c.is_owner-is_owner.result ≡ b → (map_in f c.args.at.map).owner ≡ b
  owner e = sym (ap (λ (x : Mount). (map_in (file_in x c.args.at.file) c.args.at.map).owner) c.self.view_is) ∙ sym (c.is_owner-is_owner.ensures ∙ owner_lent c.map.ensures) ∙ e

  full : {b : Bool} → c.is_full.result ≡ b → grant.is_full m 1 ≡ b
  full e = full_as c.self.inside.share c.self.inside.files c.self.inside.inodes m c.self.invariant c.self.view_is 1 1 c.is_full.result refl c.is_full.ensures ∙ e

  rise : share.rise c.self.inside.share 1 ≡ grant.rise m 1
  rise = rise_as c.self.inside.share c.self.inside.files c.self.inside.inodes m c.self.invariant c.self.view_is 1

  -- a page of its own
  module _ (stamp : ℕ) (page : Page) (new : share.Subpool) (w : Files) (fresh : is_among stamp (flat_map stamps_of c.self.inside.files.files) ≡ false)
      (share : new ≡ with_granted c.self.inside.share)
      (parted : (consumed : Bool) (x : Copy) → place_at (map_in shown c.args.at.map) c.args.index ≡ Live consumed (Some x) →
      w ≡ parted_at c.args.at.file c.args.at.map c.args.index consumed stamp page c.self.inside.files) where
    new_is : new ≡ with_granted c.self.inside.share
    new_is = share

    several : is_held_once shown old.stamp ≡ false
    several = ap (λ (x : Mount). is_held_once (file_in x c.args.at.file) old.stamp) c.self.view_is ∙ c.requires.several.2

    own_kept : IsKept new w (mount_from new c.self.inside.inodes w.files)
    own_kept = keeps.parted_kept c.self.inside.share c.self.inside.files c.self.inside.inodes m c.self.invariant c.self.view_is c.args.at.file c.args.at.map c.args.index c.requires.file c.requires.map
        (live).0 old place agreed new w stamp page fresh several new_is (parted (live).0 old place)

    own_left : mount_from new c.self.inside.inodes w.files ≡ with_place_at m c.args.at.file c.args.at.map c.args.index (Live (live).0 (Some (record { stamp = stamp; page = page })))
    own_left = keeps.parted_left c.self.inside.share c.self.inside.files c.self.inside.inodes m c.self.invariant c.self.view_is c.args.at.file c.args.at.map c.args.index c.requires.file c.requires.map
        (live).0 old place agreed new w stamp page fresh several new_is (parted (live).0 old place)

  -- the copy taken back from all others
  module _ (new : share.Subpool) (w : Files) (same : new ≡ c.self.inside.share) (left : IsLeft 0 c.self.inside.files w)
      (files : (x : Copy) → copy_of (place_at (map_in shown c.args.at.map) c.args.index) ≡ Some x → w.files ≡ taken_back_at c.args.at.file c.args.at.map x.stamp c.self.inside.files.files) where
    back_kept : IsKept new w (mount_from new c.self.inside.inodes w.files)
    back_kept = keeps.back_kept c.self.inside.share c.self.inside.files c.self.inside.inodes m c.self.invariant c.self.view_is c.args.at.file c.args.at.map c.args.index c.requires.file c.requires.map
        (live).0 old place agreed new w same (files old (ap copy_of place)) left

    back_left : mount_from new c.self.inside.inodes w.files ≡ with_file m c.args.at.file (with_map (record f { maps = mapped (robbed old.stamp) f.maps }) c.args.at.map (map_in f c.args.at.map))
    back_left = keeps.back_left c.self.inside.share c.self.inside.files c.self.inside.inodes m c.self.invariant c.self.view_is c.args.at.file c.args.at.map c.args.index c.requires.file c.requires.map
        (live).0 old place agreed new w same (files old (ap copy_of place)) left

    back_same : IsFileTouched m (mount_from new c.self.inside.inodes w.files) c.args.at.file
    back_same = back_touched m _ c.args.at.file c.args.at.map old.stamp (map_in f c.args.at.map) c.requires.file back_left

  -- refused: all is as it was
  refused_left : (new : share.Subpool) → new ≡ c.self.inside.share → mount_from new c.self.inside.inodes c.self.inside.files.files ≡ m
  refused_left new same = mount_left c.self.inside.share new c.self.inside.inodes c.self.inside.files.files c.self.inside.files.files
      (ap (λ (x : share.Subpool). x.max) same) (ap (λ (x : share.Subpool). x.min) same) refl ∙ c.self.view_is

pub part-requires-clause-several : goal.part-requires-clause-several
part-requires-clause-several g c = state_here c.self.view_is c.args.at.file c.args.at.map c.args.index HeldBySeveral c.requires.several

pub returns-then-not-is_owner-clause-done : goal.returns-then-not-is_owner-clause-done
returns-then-not-is_owner-clause-done g c =
    let a = (goal.at.returns-then-not-is_owner-clause-done g c).After-is_full in
    private.other_full g.D.PoolDoor.took g.D.PoolDoor.is_full g.N.Naming.page_bytes c.args.self.now c.args.home c.args.at.file c.args.at.map
    c.args.index Write c.args.door.now c.requires.private (live g a).0 (old g a) (live g a).1 refl c.requires.several.2
    (owner g a c.if-not-is_owner.true) (full g a c.if-is_full.true)

pub invariant_of-self : goal.invariant_of-self
invariant_of-self g c = back_kept g (goal.at.invariant_of-self g c).After-is_full c.self.inside.share c.take_back.new.self refl c.take_back.ensures.left c.take_back.ensures.files

pub returns-then-is_full-clause-done : goal.returns-then-is_full-clause-done
returns-then-is_full-clause-done g c =
    let a = (goal.at.returns-then-is_full-clause-done g c).After-is_full in
    private.owner_full g.D.PoolDoor.took g.D.PoolDoor.is_full g.N.Naming.page_bytes c.args.self.now c.args.home c.args.at.file c.args.at.map
    c.args.index Write c.args.door.now c.requires.private (live g a).0 (old g a) (live g a).1 refl c.requires.several.2
    (owner g a c.if-not-is_owner.false) _ (full g a c.if-is_full.true) (back_left g a c.self.inside.share c.take_back.new.self refl c.take_back.ensures.left c.take_back.ensures.files)

pub returns-then-is_full-clause-same : goal.returns-then-is_full-clause-same
returns-then-is_full-clause-same g c = back_same g (goal.at.returns-then-is_full-clause-same g c).After-is_full c.self.inside.share
    c.take_back.new.self refl c.take_back.ensures.left c.take_back.ensures.files

pub invariant_of-self-in-Ok : goal.invariant_of-self-in-Ok
invariant_of-self-in-Ok g c = own_kept g (goal.at.invariant_of-self-in-Ok g c).After-is_full c.part.result c.with_shown-page.result
    c.get_page.new.share c.part.new.self c.part.ensures.fresh c.in-Ok.ensures.share c.part.ensures.parted

pub returns-in-Ok-clause-done : goal.returns-in-Ok-clause-done
returns-in-Ok-clause-done g c =
    let a = (goal.at.returns-in-Ok-clause-done g c).After-is_full in
    let node = sym (ap (λ (p : Page). p.node) c.with_shown-page.ensures) in
    private.own_granted g.D.PoolDoor.took g.D.PoolDoor.is_full g.N.Naming.page_bytes c.args.self.now c.args.home c.args.at.file c.args.at.map
    c.args.index Write c.args.door.now c.requires.private (live g a).0 (old g a) (live g a).1 refl c.requires.several.2
    c.part.result c.get_page.new.self c.with_shown-page.result _ (full g a c.if-is_full.false)
    (stamped_fresh c.part.result c.self.inside.files.files c.args.self.now (sym (ap (λ (x : Mount). x.files) c.self.view_is)) c.part.ensures.fresh)
    (private.granted_as g.D.PoolDoor.took c.args.home c.args.door.now c.get_page.new.self (rise g a) node c.in-Ok.ensures.ok)
    (ap (λ (p : Page). p.bytes) c.with_shown-page.ensures ∙ copy_value g.N.Naming.page_bytes (shown g a) (map_in (shown g a) c.args.at.map) c.args.index (old g a) (ap copy_of (place g a)))
    (own_left g a c.part.result c.with_shown-page.result c.get_page.new.share c.part.new.self c.part.ensures.fresh c.in-Ok.ensures.share c.part.ensures.parted)

pub returns-in-Ok-clause-same : goal.returns-in-Ok-clause-same
returns-in-Ok-clause-same g c =
    let a = (goal.at.returns-in-Ok-clause-same g c).After-is_full in
    place_touched c.args.self.now _ c.args.at.file c.args.at.map c.args.index _ c.requires.file
    (own_left g a c.part.result c.with_shown-page.result c.get_page.new.share c.part.new.self c.part.ensures.fresh c.in-Ok.ensures.share c.part.ensures.parted)

pub invariant_of-self-in-NoPages : goal.invariant_of-self-in-NoPages
invariant_of-self-in-NoPages g c = back_kept g (goal.at.invariant_of-self-in-NoPages g c).After-is_full c.get_page.new.share
    c.take_back-in-NoPages.new.self c.in-Err.ensures.unchanged c.take_back-in-NoPages.ensures.left c.take_back-in-NoPages.ensures.files

pub returns-in-NoPages-clause-done : goal.returns-in-NoPages-clause-done
returns-in-NoPages-clause-done g c =
    let a = (goal.at.returns-in-NoPages-clause-done g c).After-is_full in
    let was = g.D.PoolDoor.took c.args.door.now (GrantPage c.args.home (share.rise c.self.inside.share 1)) no_pages c.get_page.new.self in
    private.owner_denied g.D.PoolDoor.took g.D.PoolDoor.is_full g.N.Naming.page_bytes c.args.self.now c.args.home c.args.at.file c.args.at.map
    c.args.index Write c.args.door.now c.requires.private (live g a).0 (old g a) (live g a).1 refl c.requires.several.2
    (owner g a c.if-not-is_owner-2.false) c.get_page.new.self _ (full g a c.if-is_full.false)
    (private.denied_as g.D.PoolDoor.took c.args.home c.args.door.now c.get_page.new.self (rise g a) NoPages ⊥
    (subst (λ x. IsDoorRefusal x was ((c.get_page.new.self ≡ c.args.door.now) × g.D.PoolDoor.is_full c.get_page.new.self)) c.in-NoPages.is
    c.in-Err.ensures.err))
    (back_left g a c.get_page.new.share c.take_back-in-NoPages.new.self c.in-Err.ensures.unchanged c.take_back-in-NoPages.ensures.left c.take_back-in-NoPages.ensures.files)

pub returns-in-NoPages-clause-same : goal.returns-in-NoPages-clause-same
returns-in-NoPages-clause-same g c = back_same g (goal.at.returns-in-NoPages-clause-same g c).After-is_full c.get_page.new.share
    c.take_back-in-NoPages.new.self c.in-Err.ensures.unchanged c.take_back-in-NoPages.ensures.left c.take_back-in-NoPages.ensures.files

pub returns-then-not-is_owner-2-clause-done : goal.returns-then-not-is_owner-2-clause-done
returns-then-not-is_owner-2-clause-done g c =
    let a = (goal.at.returns-then-not-is_owner-2-clause-done g c).After-is_full in
    private.own_denied g.D.PoolDoor.took g.D.PoolDoor.is_full g.N.Naming.page_bytes c.args.self.now c.args.home c.args.at.file c.args.at.map
    c.args.index Write c.args.door.now c.requires.private (live g a).0 (old g a) (live g a).1 refl c.requires.several.2
    c.get_page.new.self _ c.in-Err.refusal (full g a c.if-is_full.false) (λ none. owner g a c.if-not-is_owner-2.true)
    (private.denied_as g.D.PoolDoor.took c.args.home c.args.door.now c.get_page.new.self (rise g a) c.in-Err.refusal _ c.in-Err.ensures.err)
    (refused_left g a c.get_page.new.share c.in-Err.ensures.unchanged)

not_ok : {e : Refusal} → ◌≡◌ {A = Result (Unit {0}) Refusal} (Err e) (Ok tt) → ⊥
not_ok e = cc

refusal_is : {e x : Refusal} → ◌≡◌ {A = Result (Unit {0}) Refusal} (Err e) (Err x) → e ≡ x
refusal_is e = cc

-- a door never lacks memory
door_not_memory : (e : Refusal) (denied full : Type 0) → IsDoorRefusal e denied full → e ≡ OutOfMemory → ⊥
door_not_memory e denied full refused is = subst (λ x. IsDoorRefusal x denied full) is refused

pub returns-in_default : goal.returns-in_default
returns-in_default g c =
    let a = (goal.at.returns-in_default g c).After-is_full in
    let same = refused_left g a c.get_page.new.share c.in-Err.ensures.unchanged in
    record {
      done = private.own_denied g.D.PoolDoor.took g.D.PoolDoor.is_full g.N.Naming.page_bytes c.args.self.now c.args.home c.args.at.file c.args.at.map
          c.args.index Write c.args.door.now c.requires.private (live g a).0 (old g a) (live g a).1 refl c.requires.several.2
          c.get_page.new.self _ c.in-Err.refusal (full g a c.if-is_full.false) (λ none. absurd (c.in_default.not-NoPages none))
          (private.denied_as g.D.PoolDoor.took c.args.home c.args.door.now c.get_page.new.self (rise g a) c.in-Err.refusal _ c.in-Err.ensures.err) same;
      left = c.in-Err.ensures.left;
      memory = λ e. door_not_memory c.in-Err.refusal _ _ c.in-Err.ensures.err (refusal_is e);
      same = same_touched c.args.self.now _ c.args.at.file same;
      once = λ e. absurd (not_ok e);
    }
