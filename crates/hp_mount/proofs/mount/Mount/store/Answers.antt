use Rattle.std.proofs.lemmas.Grind.{common_steps}
use Rattle.std.proofs.Common.{◌≡◌, Some, length, subst, arith}
use Rattle.hp_laws.proofs.Variants.{Write}
use Rattle.hp_model.proofs.Words.{and_then}
use Rattle.hp_mount_files.proofs.Lent.{shared_lent}
use Rattle.hp_mount.specs.declared.mount.reach.Asked.TheVariants.{Bytes}
use Rattle.hp_mount.specs.Found.{IsPlaced, why_not}
use Rattle.hp_mount.proofs.Commands.{early_not_memory, follows, not_begun, stores, why_is_early}
use Rattle.hp_mount.proofs.mount.Mount.store.Goals as goal

pub store_shared-requires-clause-placed : goal.store_shared-requires-clause-placed
store_shared-requires-clause-placed g c =
    subst (λ n. IsPlaced c.args.self.now c.args.access.now (Bytes c.args.offset (length c.args.bytes.now)) n c.in-Ok.at) c.requires.page_bytes c.in-Ok.ensures.placed

pub store_shared-requires-clause-shared : goal.store_shared-requires-clause-shared
store_shared-requires-clause-shared g c = grind (arith, common_steps, shared_lent)

pub store_private-requires-clause-placed : goal.store_private-requires-clause-placed
store_private-requires-clause-placed g c =
    subst (λ n. IsPlaced c.args.self.now c.args.access.now (Bytes c.args.offset (length c.args.bytes.now)) n c.in-Ok.at) c.requires.page_bytes c.in-Ok.ensures.placed

pub store_private-requires-clause-private : goal.store_private-requires-clause-private
store_private-requires-clause-private g c = grind (arith, common_steps, shared_lent)

pub returns-in-Err-clause-done : goal.returns-in-Err-clause-done
returns-in-Err-clause-done g c k =
    let size = g.N.Naming.page_bytes in
    let asked = Bytes c.args.offset (length c.args.bytes.now) in
    let cont = stores size c.args.access.now.index c.args.offset c.args.bytes.now in
    not_begun g.D.PoolDoor.took g.D.PoolDoor.is_full c.args.self.now c.args.door.now size c.args.home c.args.access.now Write asked (λ s p. and_then (cont s) p)
    (follows g.D.PoolDoor.took g.D.PoolDoor.is_full c.args.self.now c.args.door.now cont) c.in-Err.refusal
    (subst (λ n. why_not c.args.self.now c.args.access.now asked n ≡ Some c.in-Err.refusal) c.requires.page_bytes c.in-Err.ensures.refused)

pub returns-in-Err-clause-memory : goal.returns-in-Err-clause-memory
returns-in-Err-clause-memory g c backed = grind (arith, common_steps, early_not_memory, why_is_early)
