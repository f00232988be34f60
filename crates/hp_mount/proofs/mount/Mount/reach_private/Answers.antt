use Rattle.std.proofs.Common.{subst}
use Rattle.hp_model.proofs.Words.{Mount, file_in, map_in, place_at}
use Rattle.hp_lookup.specs.declared.copy_state.CopyState.TheVariants as state
use Rattle.hp_file.specs.States.{IsCopyState}
use Rattle.hp_mount_laws.proofs.Private as private
use Rattle.hp_laws.proofs.counts.Copies.{live_of}
use Rattle.hp_mount.proofs.mount.Mount.reach_private.Goals as goal

pub reach_own-requires-clause-several : goal.reach_own-requires-clause-several
reach_own-requires-clause-several g c =
    subst (λ (x : Mount). IsCopyState state.HeldBySeveral (file_in x c.args.at.file) (place_at (map_in (file_in x c.args.at.file) c.args.at.map) c.args.index)) c.self.view_is
    c.in-HeldBySeveral.ensures.state

pub returns-in-HeldOnce-clause-done : goal.returns-in-HeldOnce-clause-done
returns-in-HeldOnce-clause-done g c =
    let k = c.args.at.file in
    let j = c.args.at.map in
    let i = c.args.index in
    let m = c.args.self.now in
    let state = subst (λ (x : Mount). IsCopyState state.HeldOnce (file_in x k) (place_at (map_in (file_in x k) j) i)) c.self.view_is c.in-HeldOnce.ensures.state in
    let live = live_of (place_at (map_in (file_in m k) j) i) state.0 state.1 in
    private.once_written g.D.PoolDoor.took g.D.PoolDoor.is_full g.N.Naming.page_bytes m c.args.home k j i c.args.intent c.args.door.now c.requires.private live.0 state.0 live.1 state.2

pub returns-in-Read-clause-done : goal.returns-in-Read-clause-done
returns-in-Read-clause-done g c =
    let k = c.args.at.file in
    let j = c.args.at.map in
    let i = c.args.index in
    let m = c.args.self.now in
    let state = subst (λ (x : Mount). IsCopyState state.HeldBySeveral (file_in x k) (place_at (map_in (file_in x k) j) i)) c.self.view_is c.in-HeldBySeveral.ensures.state in
    let live = live_of (place_at (map_in (file_in m k) j) i) state.0 state.1 in
    private.copy_read g.D.PoolDoor.took g.D.PoolDoor.is_full g.N.Naming.page_bytes m c.args.home k j i c.args.intent c.args.door.now c.requires.private live.0 state.0 live.1 c.in-Read.is
