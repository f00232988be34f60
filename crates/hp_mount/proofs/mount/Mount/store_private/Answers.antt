use Rattle.std.proofs.lemmas.Grind.{common_steps}
use Rattle.std.proofs.Common.{refl, sym, ◌∙◌, arith}
use Rattle.hp_laws.proofs.counts.Copies.{live_of}
use Rattle.hp_model.proofs.Words.{file_in, map_in, place_at}
use Rattle.hp_mount_laws.specs.Reach.{spot_at}
use Rattle.hp_mount.proofs.Commands.{backed_not_memory, private_written}
use Rattle.hp_mount.proofs.Storing.{stored, not_stored}
use Rattle.hp_mount.proofs.mount.Mount.store_private.Goals as goal

pub returns-clause-done : goal.returns-clause-done
returns-clause-done g c =
    let n = c.reach_private-reached.new.self in
    let same = c.reach_private-reached.ensures.same in
    let once = c.reach_private-reached.ensures.once refl c.in_default.is in
    let live = live_of (place_at (map_in (file_in n c.args.at.file) c.args.at.map) c.args.access.now.index) once.0 once.1 in
    let placed = c.requires.placed in
    stored g.D.PoolDoor.took g.D.PoolDoor.is_full g.N.Naming.page_bytes c.args.home c.args.self.now c.args.door.now c.args.access.now c.args.offset c.args.bytes.now c.args.at placed
    c.reach_private-reached.result n c.write_copy.new.self
    c.reach_private-reached.new.door c.in_default.is c.reach_private-reached.ensures.done
    (c.write_copy.ensures ∙ sym (private_written n (spot_at c.args.self.now c.args.at.file c.args.at.map) c.args.access.now.index c.args.offset c.args.bytes.now live.0 once.0 c.requires.private
    (omega (arith, placed.file, same.files)) (omega (arith, placed.map, same.maps)) live.1))

pub returns-in-Err-clause-done : goal.returns-in-Err-clause-done
returns-in-Err-clause-done g c =
    not_stored g.D.PoolDoor.took g.D.PoolDoor.is_full g.N.Naming.page_bytes c.args.home c.args.self.now c.args.door.now c.args.access.now c.args.offset c.args.bytes.now c.args.at c.requires.placed
    c.in-Err.refusal c.reach_private-reached.result
    c.reach_private-reached.new.self c.reach_private-reached.new.door c.in-Err.is c.reach_private-reached.ensures.done

pub returns-in-Err-clause-memory : goal.returns-in-Err-clause-memory
returns-in-Err-clause-memory g c = grind (arith, common_steps, backed_not_memory)
