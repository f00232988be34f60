use Rattle.std.proofs.Common.{subst, arith}
use Rattle.hp_lookup.proofs.Words.{Files, IsFound, tally_of}
use Rattle.hp_lookup.proofs.Unique.{map_here}
use Rattle.hp_mount_files.proofs.files.Files.is_map_at.Goals as goal

pub returns : goal.returns
returns g c is =
    let s = c.self.inside in
    let at = c.args.at in
    subst (λ (v : Files). IsFound v.files c.args.task c.args.number at.file at.map) c.self.view_is
    (map_here s.pages.store s.maps (tally_of s.hints) s.list.files c.self.invariant.keyed c.args.task c.args.number at.file at.map c.index.result.now
    (omega (arith, c.if-at-len.false, c.len.ensures)) c.index.ensures (c.is_map_at.ensures.within is) (c.is_map_at.ensures.map is))
