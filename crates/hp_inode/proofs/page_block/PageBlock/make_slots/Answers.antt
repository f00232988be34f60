use Rattle.std.proofs.lemmas.Grind.{common_steps}
use Rattle.std.proofs.Common.{◌/◌, ◌%◌, refl, arith}
use Rattle.std.proofs.lemmas.Bool.{lt-ltb}
use Rattle.hp_inode.proofs.Tables.{table_alike}
use Rattle.hp_inode.proofs.page_block.PageBlock.make_slots.Goals as goal

pub invariant_of-self-in_err-make_places-2 : goal.invariant_of-self-in_err-make_places-2
invariant_of-self-in_err-make_places-2 c =
    let s = c.self.inside in
    let was = c.self.invariant in
    let above = c.make_places.ensures in
    let did = c.make_places-then-a-b.ensures in
    let ok = c.in_ok-make_places.ensures.ok in
    let end = c.div_ceil-end.ensures in
    table_alike s.chunks s.chunks s.words.items s.marks.items c.make_places-then-a-b.new.words.items c.make_places.new.words.items was
    (omega (arith, was.few, above.few, end, c.requires)) (omega (arith, was.places, above.more, did.few, ok, end)) (omega (arith, was.wide, did.more)) (λ i. refl) did.marks above.marks

pub invariant_of-self-in-Continue-branch-3 : goal.invariant_of-self-in-Continue-branch-3
invariant_of-self-in-Continue-branch-3 c =
    let s = c.self.inside in
    let was = c.self.invariant in
    let above = c.make_places.ensures in
    let did = c.make_places-then-a-b.ensures in
    let ok = c.in_ok-make_places.ensures.ok in
    let end = c.div_ceil-end.ensures in
    table_alike s.chunks c.make.new.self s.words.items s.marks.items c.make_places-then-a-b.new.words.items c.make_places.new.words.items was
    (omega (arith, was.few, above.few, end, c.requires)) (omega (arith, was.places, above.more, did.few, ok, end))
    (omega (arith, was.wide, did.more, c.make.ensures.len, c.in_ok-make_places-2.ensures.ok, end)) (λ i. c.make.ensures.pages (i / 64) (i % 64) (omega arith)) did.marks above.marks

pub invariant_of-self-in_err-make : goal.invariant_of-self-in_err-make
invariant_of-self-in_err-make c =
    let s = c.self.inside in
    let was = c.self.invariant in
    let above = c.make_places.ensures in
    let did = c.make_places-then-a-b.ensures in
    let ok = c.in_ok-make_places.ensures.ok in
    let end = c.div_ceil-end.ensures in
    table_alike s.chunks c.make.new.self s.words.items s.marks.items c.make_places-then-a-b.new.words.items c.make_places.new.words.items was
    (omega (arith, was.few, above.few, end, c.requires)) (omega (arith, was.places, above.more, did.few, ok, end))
    (omega (arith, was.wide, did.more, c.make.ensures.len, c.in_ok-make_places-2.ensures.ok, end)) (λ i. c.make.ensures.pages (i / 64) (i % 64) (omega arith)) did.marks above.marks

pub returns-in_ok-make-clause-made : goal.returns-in_ok-make-clause-made
returns-in_ok-make-clause-made c k low high = grind (arith, common_steps, lt-ltb)
