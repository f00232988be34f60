use Rattle.std.proofs.Common.{◌≡◌, None, subst, sym, ◌∙◌}
use Rattle.hp_model.proofs.Words.{found, has_name}
use Rattle.hp_lookup.proofs.Words.{Files, IsNamed, tally_of}
use Rattle.hp_lookup.proofs.Unique.{named_here, no_name_here}
use Rattle.hp_mount_files.proofs.files.looking.FilesLookup.named.Goals as goal

pub returns-in_default-clause-none : goal.returns-in_default-clause-none
returns-in_default-clause-none g c =
    let s = c.self.inside in
    subst (λ (v : Files). found (has_name c.args.name.now) v.files ≡ None) c.self.view_is
    (no_name_here s.pages.store s.maps (tally_of s.hints) s.list.files c.self.invariant.keyed c.args.name.now (c.self.invariant.noted.names c.args.name.now c.in_default.ensures))

pub returns-then-is_named-clause-some : goal.returns-then-is_named-clause-some
returns-then-is_named-clause-some g c =
    let s = c.self.inside in
    subst (λ (v : Files). IsNamed v.files c.args.name.now c.at-at.result) c.self.view_is
    (named_here s.pages.store s.maps (tally_of s.hints) s.list.files c.self.invariant.keyed c.args.name.now c.at-at.result c.in-Some-tagged_at.file.now
    c.in-Some-tagged_at.ensures.within c.in-Some-tagged_at.ensures.value (sym c.is_named.ensures ∙ c.if-is_named.true))
