use Rattle.std.proofs.Common.{ℕ, ap, arith, sym, ◌∙◌, sum_by}
use Rattle.hp_lookup.proofs.Words.{in_cell}
use Rattle.hp_file.proofs.Counting.{dropped_as, one_dropped, one_held}
use Rattle.hp_file.proofs.Drops.{IsTaken, taken, unchanged, untaken}
use Rattle.hp_file.proofs.dropping.drop_pages.Goals as goal

pub drop_holder-requires-clause-held : goal.drop_holder-requires-clause-held
drop_holder-requires-clause-held g c =
    let was = c.loop-number in
    let number : ℕ = c.in-Some.number in
    let t : IsTaken c.args.a c.args.b was.inode c.take_page.new.self number =
    taken c.args.a c.args.b was.inode c.take_page.new.self c.take_page.result c.take_page.ensures.page c.take_page.ensures.cells number
    c.in-Some.is in
    one_held c.requires was.invariant.0 number (λ n. sum_by (in_cell n) c.take_page.new.self) t.parts

pub loop-number-smaller : goal.loop-number-smaller
loop-number-smaller g c =
    let was = c.loop-number in
    let number : ℕ = c.in-Some.number in
    let t : IsTaken c.args.a c.args.b was.inode c.take_page.new.self number =
    taken c.args.a c.args.b was.inode c.take_page.new.self c.take_page.result c.take_page.ensures.page c.take_page.ensures.cells number
    c.in-Some.is in
    t.fewer

pub loop-number-preserved : goal.loop-number-preserved
loop-number-preserved g c =
    let was = c.loop-number in
    let number : ℕ = c.in-Some.number in
    let t : IsTaken c.args.a c.args.b was.inode c.take_page.new.self number =
    taken c.args.a c.args.b was.inode c.take_page.new.self c.take_page.result c.take_page.ensures.page c.take_page.ensures.cells number
    c.in-Some.is in (
      one_dropped c.requires was.invariant.0 number (λ n. sum_by (in_cell n) c.take_page.new.self) t.parts
          c.drop_holder.ensures.dropped c.drop_holder.ensures.counted,
      t.same ∙ was.invariant.1,
    )

pub returns-clause-cells : goal.returns-clause-cells
returns-clause-cells g c =
    let was = c.loop-number in
    let left = untaken c.args.a c.args.b was.inode c.take_page.new.self c.take_page.result c.take_page.ensures.page c.take_page.ensures.cells
    c.in_default.is (c.take_page.ensures.none c.in_default.is) in
    sym left ∙ was.invariant.1

pub returns-clause-dropping : goal.returns-clause-dropping
returns-clause-dropping g c =
    let was = c.loop-number in
    let same = unchanged c.args.a c.args.b was.inode c.take_page.new.self c.take_page.result c.take_page.ensures.page c.take_page.ensures.cells c.in_default.is in
    dropped_as was.invariant.0 (λ n. (let left = ap (sum_by (in_cell n)) same in omega (arith, left)))
