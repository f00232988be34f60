use Rattle.std.proofs.lemmas.Grind.{common_steps}
use Rattle.std.proofs.Common.{sym, subst, arith}
use Rattle.std.proofs.lemmas.List.{length-append, take_all, take_more}
use Rattle.std.proofs.lemmas.List.Elements.{All-nil}
use Rattle.hp_mount_files.proofs.Listing.{AreShort, names_in, names_more, names_none, names_same, names_shown, short_more}
use Rattle.hp_lookup.proofs.Views.{files_len}
use Rattle.hp_mount_files.proofs.files.Files.names.Goals.{in-Some+in_ok-copied, in_default}
use Rattle.hp_mount_files.proofs.files.Files.names.Goals as goal

pub loop-at-init : goal.loop-at-init
loop-at-init g c = grind (arith, common_steps, All-nil, AreShort, names_none)

pub push_reserved-requires : goal.push_reserved-requires
push_reserved-requires g c = omega (arith, c.loop-at.invariant.filled, c.loop-at.invariant.room, c.loop-at-test.true, c.len-at-end.ensures)

pub loop-at-preserved : goal.loop-at-preserved
loop-at-preserved g c = grind (arith, common_steps, length-append, take_more, AreShort, names_in, names_more, names_same, short_more, in-Some+in_ok-copied, in_default)

pub returns-clause-names : goal.returns-clause-names
returns-clause-names g c = grind (arith, common_steps, take_all, names_in, names_shown)

pub returns-clause-few : goal.returns-clause-few
returns-clause-few g c = grind (arith, common_steps, files_len)

pub returns-clause-short : goal.returns-clause-short
returns-clause-short g c = subst AreShort (sym c.new.ensures) c.loop-at.invariant.short
