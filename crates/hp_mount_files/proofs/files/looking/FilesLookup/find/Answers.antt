use Rattle.std.proofs.Common.{subst}
use Rattle.hp_lookup.proofs.Words.{Files, IsFound, IsMissing, tally_of}
use Rattle.hp_lookup.proofs.Unique.{map_here, no_map_here}
use Rattle.hp_mount_files.proofs.files.looking.FilesLookup.find.Goals as goal

pub returns-in_default-clause-none : goal.returns-in_default-clause-none
returns-in_default-clause-none g c =
    let s = c.self.inside in
    subst (λ (v : Files). IsMissing v.files c.args.task c.args.number) c.self.view_is
    (no_map_here s.pages.store s.maps (tally_of s.hints) s.list.files c.self.invariant.keyed c.args.task c.args.number (c.self.invariant.noted.keys c.args.task c.args.number c.in_default.ensures))

pub returns-then-is_map_at-clause-some : goal.returns-then-is_map_at-clause-some
returns-then-is_map_at-clause-some g c =
    let s = c.self.inside in
    let at = c.place-at.result in
    subst (λ (v : Files). IsFound v.files c.args.task c.args.number at.file at.map) c.self.view_is
    (map_here s.pages.store s.maps (tally_of s.hints) s.list.files c.self.invariant.keyed c.args.task c.args.number at.file at.map c.in-Some-tagged_at.file.now
    c.in-Some-tagged_at.ensures.within c.in-Some-tagged_at.ensures.value (c.is_map_at.ensures.within c.if-is_map_at.true) (c.is_map_at.ensures.map c.if-is_map_at.true))
