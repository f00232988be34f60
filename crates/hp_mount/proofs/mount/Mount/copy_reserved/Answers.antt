use Rattle.std.proofs.Common.{◌≡◌, ℕ, ◌||◌, Bool, true, false, None, Some, sym, ap, subst, ◌∙◌, arith, flat_map}
use Rattle.hp_laws.proofs.Variants.{Live, TakePage}
use Rattle.hp_model.proofs.Words.{Mount, Page, copy_of, file_in, granted_at, is_among, is_live, map_in, place_at, stamps_of, value}
use Rattle.hp_mount_door.specs.Door.{IsDoorRefusal, with_page}
use Rattle.hp_mount_laws.specs.Done.{IsAccessed}
use Rattle.std.proofs.lemmas.Result.{err_from_is_err_and}
use Rattle.hp_mount_laws.specs.Reach.{has_reserve, with_place_at}
use Rattle.hp_mount.proofs.Copying as keeps
use Rattle.hp_mount_laws.proofs.Private as private
use Rattle.hp_mount_laws.proofs.Private.{place_touched, stamped_fresh}
use Rattle.hp_subpool.specs.Subpool as share
use Rattle.hp_mount_laws.specs.Kept.{IsKept, mount_from}
use Rattle.hp_lookup.proofs.Words.{Files, copied_at, file_at}
use Rattle.hp_mount.proofs.mount.Mount.copy_reserved.Given.{Over}
use Rattle.hp_mount.proofs.Here.{place_here}
use Rattle.hp_mount.proofs.mount.Mount.copy_reserved.Goals as goal
use Rattle.hp_mount.proofs.mount.Mount.copy_reserved.Goals.{After-self}

-- the owner's reservation, as the fields show it
module _ (g : Over) (c : After-self g) where
  place : place_at (map_in (file_at c.self.inside.files.files c.args.at.file) c.args.at.map) c.args.index ≡ Live c.requires.needs.consumed None
  place = ap (λ (x : Mount). place_at (map_in (file_in x c.args.at.file) c.args.at.map) c.args.index) c.self.view_is ∙ c.requires.needs.place

  reserved : has_reserve (map_in (file_at c.self.inside.files.files c.args.at.file) c.args.at.map) c.args.index ≡ true
  reserved = ap (λ (x : Mount). has_reserve (map_in (file_in x c.args.at.file) c.args.at.map) c.args.index) c.self.view_is ∙ c.requires.reserved

  -- the copy that is put in
  module _ (stamp : ℕ) (page : Page) (new : share.Subpool) (w : Files) (fresh : is_among stamp (flat_map stamps_of c.self.inside.files.files) ≡ false)
      (taken : new ≡ with_page c.self.inside.share)
      (copied : (consumed : Bool) → place_at (map_in (file_at c.self.inside.files.files c.args.at.file) c.args.at.map) c.args.index ≡ Live consumed None
      → w ≡ copied_at c.args.at.file c.args.at.map c.args.index ((map_in (file_at c.self.inside.files.files c.args.at.file) c.args.at.map).owner || consumed) stamp page c.self.inside.files) where
    new_is : new ≡ with_page c.self.inside.share
    new_is = taken

    kept : IsKept new w (mount_from new c.self.inside.inodes w.files)
    kept = keeps.reserved_kept c.self.inside.share c.self.inside.files c.self.inside.inodes c.args.self.now c.self.invariant c.self.view_is
        c.args.at.file c.args.at.map c.args.index c.requires.file c.requires.map
        stamp page fresh c.requires.needs.consumed place new w reserved new_is (copied c.requires.needs.consumed place)

    left : mount_from new c.self.inside.inodes w.files ≡ with_place_at c.args.self.now c.args.at.file c.args.at.map c.args.index (Live true (Some (record { stamp = stamp; page = page })))
    left = keeps.reserved_left c.self.inside.share c.self.inside.files c.self.inside.inodes c.args.self.now c.self.invariant c.self.view_is
        c.args.at.file c.args.at.map c.args.index c.requires.file c.requires.map
        stamp page fresh c.requires.needs.consumed place new w reserved new_is (copied c.requires.needs.consumed place)

pub put_copy-requires-clause-live : goal.put_copy-requires-clause-live
put_copy-requires-clause-live g c = ap is_live (place_here c.self.view_is c.args.at.file c.args.at.map c.args.index c.requires.needs.place)

pub put_copy-requires-clause-bare : goal.put_copy-requires-clause-bare
put_copy-requires-clause-bare g c = ap copy_of (place_here c.self.view_is c.args.at.file c.args.at.map c.args.index c.requires.needs.place)

pub take_page-requires-clause-held : goal.take_page-requires-clause-held
take_page-requires-clause-held g c =
    let a = (goal.at.take_page-requires-clause-held g c).After-self in
    keeps.owner_held c.self.inside.share c.self.inside.files c.self.inside.inodes c.args.self.now c.self.invariant c.self.view_is c.args.at.file
    c.args.at.map c.args.index c.requires.file c.requires.map c.requires.needs.consumed (place g a) (reserved g a)

pub put_copy-requires-clause-room : goal.put_copy-requires-clause-room
put_copy-requires-clause-room g c =
    let a = (goal.at.put_copy-requires-clause-room g c).After-self in
    let held =
    keeps.owner_held c.self.inside.share c.self.inside.files c.self.inside.inodes c.args.self.now c.self.invariant c.self.view_is c.args.at.file
    c.args.at.map c.args.index c.requires.file c.requires.map c.requires.needs.consumed (place g a) (reserved g a)
    in
    omega (arith, held, c.self.invariant.room)

pub invariant_of-self-2 : goal.invariant_of-self-2
invariant_of-self-2 g c = kept g (goal.at.invariant_of-self-2 g c).After-self c.put_copy.result c.with_shown-page.result c.take_page.new.share
    c.put_copy.new.self c.put_copy.ensures.fresh c.in_ok-got.ensures.share c.put_copy.ensures.copied

pub returns-clause-done : goal.returns-clause-done
returns-clause-done g c =
    let a = (goal.at.returns-clause-done g c).After-self in
    let node = sym (ap (λ (p : Page). p.node) c.with_shown-page.ensures) in
    private.copy_reserved g.D.PoolDoor.took g.D.PoolDoor.is_full g.N.Naming.page_bytes c.args.self.now c.args.home c.args.at.file c.args.at.map
    c.args.index c.args.intent c.args.door.now c.requires.needs
    c.put_copy.result c.take_page.new.self c.with_shown-page.result _ c.requires.reserved
    (stamped_fresh c.put_copy.result c.self.inside.files.files c.args.self.now (sym (ap (λ (x : Mount). x.files) c.self.view_is)) c.put_copy.ensures.fresh)
    (subst (λ n. g.D.PoolDoor.took c.args.door.now (TakePage c.args.home) (granted_at n) c.take_page.new.self) node c.in_ok-got.ensures.ok)
    (ap (λ (p : Page). p.bytes) c.with_shown-page.ensures ∙ ap (λ (x : Mount).
    value g.N.Naming.page_bytes (file_in x c.args.at.file) (map_in (file_in x c.args.at.file) c.args.at.map) c.args.index) c.self.view_is)
    (left g a c.put_copy.result c.with_shown-page.result c.take_page.new.share c.put_copy.new.self c.put_copy.ensures.fresh c.in_ok-got.ensures.share c.put_copy.ensures.copied)

pub returns-clause-same : goal.returns-clause-same
returns-clause-same g c =
    let a = (goal.at.returns-clause-same g c).After-self in
    place_touched c.args.self.now _ c.args.at.file c.args.at.map c.args.index _ c.requires.file
    (left g a c.put_copy.result c.with_shown-page.result c.take_page.new.share c.put_copy.new.self c.put_copy.ensures.fresh c.in_ok-got.ensures.share c.put_copy.ensures.copied)

pub returns-in_err-got-clause-done : goal.returns-in_err-got-clause-done
returns-in_err-got-clause-done g c =
    let o = c.self.inside in
    let m = c.args.self.now in
    let back = err_from_is_err_and c.from_residual.result c.from_residual.ensures.1 in
    let now : Mount = mount_from c.take_page.new.share o.inodes o.files.files in
    subst (λ q. IsAccessed g.D.PoolDoor.took g.D.PoolDoor.is_full g.N.Naming.page_bytes c.args.home c.args.at c.args.index c.args.intent m c.args.door.now q now c.take_page.new.self) (sym back.1)
    (private.reserved_full g.D.PoolDoor.took g.D.PoolDoor.is_full g.N.Naming.page_bytes m c.args.home c.args.at.file c.args.at.map c.args.index
    c.args.intent c.args.door.now c.requires.needs c.take_page.new.self now back.0 c.requires.reserved
    (subst (λ x. IsDoorRefusal x ⊥ ((c.take_page.new.self ≡ c.args.door.now) × g.D.PoolDoor.is_full c.take_page.new.self)) (sym back.2) c.in_err-got.ensures.err)
    (ap (λ (x : share.Subpool). mount_from x o.inodes o.files.files) c.in_err-got.ensures.unchanged ∙ c.self.view_is))
