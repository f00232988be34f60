use Rattle.hp_mapping.proofs.Packed.{bare_in, copied_in}
use Rattle.std.proofs.Common.{sym}
use Rattle.hp_mapping.proofs.packed_place.copy_in.Goals as goal

pub returns-then-place-eq0 : goal.returns-then-place-eq0
returns-then-place-eq0 c = rw (← c.place.view_is) (sym (bare_in c.place.inside.code c.if-place-eq0.true))

pub returns : goal.returns
returns c = rw (← c.place.view_is, c.new.ensures) (sym (copied_in c.place.inside.code c.if-place-eq0.false))
