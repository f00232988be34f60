use Rattle.std.proofs.Common.{ℕ, ap, subst, sym, ◌∙◌, arith}
use Rattle.hp_mapping.specs.Mapped.{IsClear, reserves_in}
use Rattle.hp_model.proofs.Words.{Mapping, without_range}
use Rattle.hp_lookup.proofs.Words.{in_map}
use Rattle.hp_file.proofs.Counting.{dropped_as}
use Rattle.hp_file.proofs.Leaves.{left_holds, punched_clear, punched_left, punched_reserves}
use Rattle.hp_file.proofs.dropping.leave_range.Goals as goal

pub unmap-requires-clause-clear : goal.unmap-requires-clause-clear
unmap-requires-clause-clear g c = subst (λ (m : Mapping ℕ). IsClear c.args.a c.args.b m) (sym c.drop_copies.ensures.map) (punched_clear c.args.a c.args.b c.args.map.now)

pub returns-clause-map : goal.returns-clause-map
returns-clause-map g c = c.unmap.ensures.left ∙ ap (without_range c.args.a c.args.b) c.drop_copies.ensures.map ∙ punched_left c.args.a c.args.b c.args.map.now

pub returns-clause-dropping : goal.returns-clause-dropping
returns-clause-dropping g c =
    let a = c.args.a in
    let b = c.args.b in
    let old = c.args.map.now in
    dropped_as c.drop_copies.ensures.dropping (λ n.
    let new = ap (in_map n) (c.unmap.ensures.left ∙ ap (without_range a b) c.drop_copies.ensures.map ∙ punched_left a b old) in
    let same = left_holds n a b old in
    let was = ap (in_map n) c.drop_copies.ensures.map in
    omega (arith, new, same, was))

pub returns-clause-freed : goal.returns-clause-freed
returns-clause-freed g c = c.unmap.ensures.freed ∙ ap (reserves_in c.args.a c.args.b) c.drop_copies.ensures.map ∙ punched_reserves c.args.a c.args.b c.args.map.now
