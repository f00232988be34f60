use Rattle.std.proofs.Common.{subst, sym, ◌∙◌, arith}
use Rattle.hp_lookup.proofs.Words.{Files, IsNamed, tally_of}
use Rattle.hp_lookup.proofs.Unique.{named_here}
use Rattle.hp_mount_files.proofs.files.Files.is_file_at.Goals as goal

pub returns : goal.returns
returns g c is =
    let s = c.self.inside in
    subst (λ (v : Files). IsNamed v.files c.args.name.now c.args.at) c.self.view_is
    (named_here s.pages.store s.maps (tally_of s.hints) s.list.files c.self.invariant.keyed c.args.name.now c.args.at c.index.result.now
    (omega (arith, c.if-at-len.false, c.len.ensures)) c.index.ensures (sym c.is_named.ensures ∙ is))
