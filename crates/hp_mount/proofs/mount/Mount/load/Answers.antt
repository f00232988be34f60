use Rattle.std.proofs.lemmas.Grind.{common_steps}
use Rattle.std.proofs.Common.{◌≡◌, Some, take, drop, ap, subst, ◌∙◌, arith}
use Rattle.hp_laws.proofs.Variants.{Read}
use Rattle.hp_model.proofs.Words.{Mount, and_then, file_in, map_in, value}
use Rattle.hp_mount_files.specs.Lent.{IsReadable}
use Rattle.hp_mount.specs.declared.mount.reach.Asked.TheVariants.{Bytes}
use Rattle.hp_mount.specs.Found.{IsPlaced, why_not}
use Rattle.hp_mount.proofs.Commands.{backed_not_memory, denied, early_not_memory, follows, loads, not_begun, why_is_early}
use Rattle.hp_mount.proofs.Loading.{loaded, loaded_found}
use Rattle.hp_mount.proofs.mount.Mount.load.Goals as goal

pub returns-in-Err-clause-done : goal.returns-in-Err-clause-done
returns-in-Err-clause-done g c k =
    let size = g.N.Naming.page_bytes in
    let asked = Bytes c.args.offset c.args.count in
    let cont = loads size c.args.access.now.index c.args.offset c.args.count in
    not_begun g.D.PoolDoor.took g.D.PoolDoor.is_full c.args.self.now c.args.door.now size c.args.home c.args.access.now Read asked (λ s p. and_then (cont s) p)
    (follows g.D.PoolDoor.took g.D.PoolDoor.is_full c.args.self.now c.args.door.now cont) c.in-Err.refusal
    (subst (λ n. why_not c.args.self.now c.args.access.now asked n ≡ Some c.in-Err.refusal) c.requires.page_bytes c.in-Err.ensures.refused)

pub returns-in-Err-clause-memory : goal.returns-in-Err-clause-memory
returns-in-Err-clause-memory g c backed = grind (arith, common_steps, early_not_memory, why_is_early)

pub returns-in-Some-clause-done : goal.returns-in-Some-clause-done
returns-in-Some-clause-done g c =
    let size = g.N.Naming.page_bytes in
    let m = c.args.self.now in
    let a = c.args.access.now in
    let at = c.in-Ok.at in
    loaded_found g.D.PoolDoor.took g.D.PoolDoor.is_full size c.args.home m c.args.door.now a c.args.offset c.args.count at
    (subst (λ n. IsPlaced m a (Bytes c.args.offset c.args.count) n at) c.requires.page_bytes c.in-Ok.ensures.placed) c.part_of.result
    (subst (λ (x : Mount). IsReadable a.index (file_in x at.file) (map_in (file_in x at.file) at.map)) c.self.view_is c.in-Some.ensures.readable) c.part_of.ensures.all
    (c.part_of.ensures.bytes ∙ ap (λ bs. take c.args.count (drop c.args.offset bs)) (c.in-Some.ensures.shown
    ∙ ap (λ (x : Mount). value size (file_in x at.file) (map_in (file_in x at.file) at.map) a.index) c.self.view_is))

pub returns-in-Ok-reach-clause-done : goal.returns-in-Ok-reach-clause-done
returns-in-Ok-reach-clause-done g c =
    let m = c.args.self.now in
    let a = c.args.access.now in
    let at = c.in-Ok.at in
    loaded g.D.PoolDoor.took g.D.PoolDoor.is_full g.N.Naming.page_bytes c.args.home m c.args.door.now a c.args.offset c.args.count at
    (subst (λ n. IsPlaced m a (Bytes c.args.offset c.args.count) n at) c.requires.page_bytes c.in-Ok.ensures.placed)
    c.reach.result c.reach.new.self c.reach.new.door c.shown_bytes.result c.in-Ok-reach.is c.reach.ensures.same c.reach.ensures.done c.shown_bytes.ensures.all c.shown_bytes.ensures.shown

pub returns-in-Err-reach-clause-done : goal.returns-in-Err-reach-clause-done
returns-in-Err-reach-clause-done g c k =
    let size = g.N.Naming.page_bytes in
    let asked = Bytes c.args.offset c.args.count in
    let cont = loads size c.args.access.now.index c.args.offset c.args.count in
    denied g.D.PoolDoor.took g.D.PoolDoor.is_full c.args.self.now c.args.door.now size c.args.home c.args.access.now Read asked (λ s p. and_then (cont s) p)
    (follows g.D.PoolDoor.took g.D.PoolDoor.is_full c.args.self.now c.args.door.now cont) c.in-Ok.at
    (subst (λ n. IsPlaced c.args.self.now c.args.access.now asked n c.in-Ok.at) c.requires.page_bytes c.in-Ok.ensures.placed)
    c.in-Err-reach.refusal c.reach.result c.reach.new.self c.reach.new.door c.in-Err-reach.is c.reach.ensures.done

pub returns-in-Err-reach-clause-memory : goal.returns-in-Err-reach-clause-memory
returns-in-Err-reach-clause-memory g c = grind (arith, common_steps, backed_not_memory)
