use Rattle.std.proofs.lemmas.Grind.{common_steps}
use Rattle.std.proofs.Common.{ℕ, ◌∙◌, arith}
use Rattle.hp_lookup.proofs.Words.{in_map}
use Rattle.hp_file.proofs.Counting.{one_dropped, one_held}
use Rattle.hp_file.proofs.Drops.{IsCopyTaken, copy_taken, uncopied}
use Rattle.hp_file.proofs.dropping.drop_copies.Goals as goal

pub drop_holder-requires-clause-held : goal.drop_holder-requires-clause-held
drop_holder-requires-clause-held g c = grind (arith, common_steps, one_held, IsCopyTaken, copy_taken)

pub loop-number-smaller : goal.loop-number-smaller
loop-number-smaller g c = grind (arith, common_steps, IsCopyTaken, copy_taken)

pub loop-number-preserved : goal.loop-number-preserved
loop-number-preserved g c =
    let was = c.loop-number in
    let number : ℕ = c.in-Some.number in
    let t : IsCopyTaken c.args.a c.args.b was.map c.take_copy.new.self number = copy_taken c.args.a c.args.b number was.map c.take_copy.new.self c.in-Some.ensures.some in (
      one_dropped c.requires was.invariant.0 number (λ n. in_map n c.take_copy.new.self) t.parts c.drop_holder.ensures.dropped c.drop_holder.ensures.counted,
      t.same ∙ was.invariant.1,
    )

pub returns-clause-map : goal.returns-clause-map
returns-clause-map g c = grind (arith, common_steps, uncopied)
