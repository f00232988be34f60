use Rattle.std.proofs.Common.{◌<◌, ◌≤◌, length, refl, sym, ap, subst, arith}
use Rattle.hp_laws.proofs.counts.Copies.{live_of}
use Rattle.hp_model.proofs.Words.{Mount, file_in, map_in, place_at, place_written, with_map, with_place}
use Rattle.hp_lookup.specs.declared.copy_state.CopyState.TheVariants as state
use Rattle.hp_lookup.proofs.Words.{Files, file_at}
use Rattle.hp_file.specs.States.{IsCopyState}
use Rattle.hp_mount.proofs.Commands.{private_grows}
use Rattle.hp_mount_laws.proofs.Keeping.{grown}
use Rattle.hp_mount.proofs.mount.Mount.write_copy.Goals as goal

pub invariant_of-self : goal.invariant_of-self
invariant_of-self g c =
    let o = c.self.inside in
    let k = c.args.at.file in
    let j = c.args.at.map in
    let i = c.args.index in
    let f = file_at o.files.files k in
    let file = subst (λ (x : Mount). k < length x.files) (sym c.self.view_is) c.requires.file in
    let map = subst (λ (x : Mount). j < length (file_in x k).maps) (sym c.self.view_is) c.requires.map in
    let once = subst (λ (x : Mount). IsCopyState state.HeldOnce (file_in x k) (place_at (map_in (file_in x k) j) i)) (sym c.self.view_is) c.requires.once in
    let live = live_of (place_at (map_in f j) i) once.0 once.1 in
    grown o.share o.files o.inodes c.self.invariant k file o.share c.write_copy.new.self
    (with_map f j (with_place (map_in f j) i (place_written c.args.offset c.args.bytes.now (place_at (map_in f j) i)))) 0 0 0
    (private_grows f j i c.args.offset c.args.bytes.now live.0 once.0 map live.1) refl refl (omega (arith)) (omega (arith))
    (subst (λ n. o.share.held ≤ n) (sym (ap (λ (x : Files). x.room) c.write_copy.ensures)) c.self.invariant.room)
    (ap (λ (x : Files). x.going) c.write_copy.ensures) (ap (λ (x : Files). x.files) c.write_copy.ensures)
