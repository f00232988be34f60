use Rattle.std.proofs.Common.{ℕ, ◌≤◌, ◌≡◌, ◌∙◌, ap, false, sym, arith}
use Rattle.hp_model.proofs.Words.{Mount, file_forked}
use Rattle.hp_lookup.proofs.Words.{Files}
use Rattle.hp_subpool.specs.Subpool.{Subpool}
use Rattle.hp_mount_laws.specs.Kept.{IsKept, mount_from}
use Rattle.hp_mount_laws.proofs.Forking.{few_maps, forks, many, no_memory, too_many}
use Rattle.hp_mount_laws.proofs.Giving.{gave_through, keeps}
use Rattle.hp_mount_laws.proofs.Leaving.{fewer}
use Rattle.hp_mount.proofs.mount.Mount.fork_maps.Given.{Over}
use Rattle.hp_mount.proofs.mount.Mount.fork_maps.Goals as goal
use Rattle.hp_mount.proofs.mount.Mount.fork_maps.Goals.{After-forks_too_many}

-- the files with other room for what is held
roomy : {s : Subpool} {v : Files} {m : Mount} → IsKept s v m → (room : ℕ) → s.held ≤ room → IsKept s (record v { room = room }) m
roomy is room enough = record { pages = is.pages; used = is.used; room = enough; going = is.going; few = is.few }

pub invariant_of-self-2 : goal.invariant_of-self-2
invariant_of-self-2 g c = keeps (roomy c.self.invariant c.held-held.result (omega (arith, c.held-held.ensures)))
    c.in-Ok.ensures.left c.in-Ok.ensures.files c.give_back.ensures.share c.give_back.ensures.going (fewer (file_forked c.args.parent c.args.child) c.self.inside.files.files)

-- there are not too many, as the fields show the mount
module _ (g : Over) (c : After-forks_too_many g) where
  under : c.forks_too_many.result ≡ false → many (mount_from c.self.inside.share c.self.inside.inodes c.self.inside.files.files) c.args.parent c.args.child ≡ false
  under few = ap (λ (x : Mount). many x c.args.parent c.args.child) c.self.view_is ∙ sym c.forks_too_many.ensures ∙ few

pub fork-requires-clause-maps : goal.fork-requires-clause-maps
fork-requires-clause-maps g c =
    let o = c.self.inside in
    few_maps (mount_from o.share o.inodes o.files.files) c.args.parent c.args.child
    (under g (goal.at.fork-requires-clause-maps g c).After-forks_too_many c.if-forks_too_many.false)

pub returns-then-forks_too_many-clause-done : goal.returns-then-forks_too_many-clause-done
returns-then-forks_too_many-clause-done g c size k =
    too_many g.D.PoolDoor.took g.D.PoolDoor.is_full c.args.self.now c.args.parent c.args.child c.args.door.now
    (sym c.forks_too_many.ensures ∙ c.if-forks_too_many.true)

pub returns-in_default-clause-done : goal.returns-in_default-clause-done
returns-in_default-clause-done g c size k =
    let same = sym (ap (λ (w : Files). mount_from c.self.inside.share c.self.inside.inodes w.files) c.in_default.ensures.err ∙ c.self.view_is) in
    rw (← same) (no_memory g.D.PoolDoor.took g.D.PoolDoor.is_full c.args.self.now c.args.parent c.args.child c.args.door.now (sym c.forks_too_many.ensures ∙ c.if-forks_too_many.false))

pub returns-clause-done : goal.returns-clause-done
returns-clause-done g c size k =
    let o = c.self.inside in
    let m : Mount = mount_from o.share o.inodes o.files.files in
    rw (← c.self.view_is) (forks g.D.PoolDoor.took g.D.PoolDoor.is_full m c.args.parent c.args.child c.args.door.now
    (under g (goal.at.returns-clause-done g c).After-forks_too_many c.if-forks_too_many.false) (mount_from c.give_back.new.share o.inodes c.give_back.new.self.files) c.give_back.new.door
    (gave_through (roomy c.self.invariant c.held-held.result (omega (arith, c.held-held.ensures)))
    c.in-Ok.ensures.left c.in-Ok.ensures.files c.give_back.ensures.share c.give_back.ensures.going c.give_back.ensures.given))
