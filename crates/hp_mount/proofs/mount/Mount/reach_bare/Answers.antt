use Rattle.std.proofs.lemmas.Grind.{common_steps}
use Rattle.std.proofs.Common.{sym, ap, ◌∙◌, arith}
use Rattle.hp_model.proofs.Words.{Mount, cell_at, file_in, map_in, place_at}
use Rattle.hp_mount_files.proofs.Lent.{unmapped_lent, reserve_lent}
use Rattle.hp_mount_laws.proofs.Private as private
use Rattle.hp_mount_laws.specs.Reach.{shows_page}
use Rattle.hp_file.proofs.PutCopy.{bare_place}
use Rattle.hp_mount.proofs.Here.{needs_copy}
use Rattle.hp_mount.proofs.mount.Mount.reach_bare.Goals as goal

pub copy_reserved-requires-clause-needs : goal.copy_reserved-requires-clause-needs
copy_reserved-requires-clause-needs g c = grind (arith, common_steps, unmapped_lent, needs_copy)

pub copy_reserved-requires-clause-reserved : goal.copy_reserved-requires-clause-reserved
copy_reserved-requires-clause-reserved g c = grind (arith, common_steps, reserve_lent)

pub copy_granted-requires-clause-needs : goal.copy_granted-requires-clause-needs
copy_granted-requires-clause-needs g c = grind (arith, common_steps, unmapped_lent, needs_copy)

pub copy_granted-requires-clause-unreserved : goal.copy_granted-requires-clause-unreserved
copy_granted-requires-clause-unreserved g c = grind (arith, common_steps, reserve_lent)

pub returns-then-is_marked-clause-done : goal.returns-then-is_marked-clause-done
returns-then-is_marked-clause-done g c =
    let k = c.args.at.file in
    let j = c.args.at.map in
    let i = c.args.index in
    let m = c.args.self.now in
    let bare = bare_place (place_at (map_in (file_in m k) j) i) c.requires.live c.requires.bare in
    let marked = sym (ap (λ (x : Mount). (map_in (file_in x k) j).unmapped) c.self.view_is) ∙ sym (c.is_marked.ensures ∙ unmapped_lent c.map.ensures) ∙ c.if-is_marked.true in
    private.cut_off g.D.PoolDoor.took g.D.PoolDoor.is_full g.N.Naming.page_bytes m c.args.home k j i c.args.intent c.args.door.now c.requires.private bare.0 bare.1 marked

pub returns-then-shows_page-clause-done : goal.returns-then-shows_page-clause-done
returns-then-shows_page-clause-done g c =
    let k = c.args.at.file in
    let j = c.args.at.map in
    let i = c.args.index in
    let m = c.args.self.now in
    let bare = bare_place (place_at (map_in (file_in m k) j) i) c.requires.live c.requires.bare in
    let kept = sym (ap (λ (x : Mount). (map_in (file_in x k) j).unmapped) c.self.view_is) ∙ sym (c.is_marked.ensures ∙ unmapped_lent c.map.ensures) ∙ c.if-is_marked.false in
    private.page_read g.D.PoolDoor.took g.D.PoolDoor.is_full g.N.Naming.page_bytes m c.args.home k j i c.args.intent c.args.door.now c.requires.private bare.0 bare.1 kept
    (sym (ap (λ (x : Mount). shows_page c.args.intent (cell_at (file_in x k) i)) c.self.view_is) ∙ sym c.shows_page.ensures ∙ c.if-shows_page.true)
