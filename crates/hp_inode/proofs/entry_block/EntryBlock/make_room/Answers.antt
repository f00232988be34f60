use Rattle.std.proofs.Common.{arith}
use Rattle.hp_inode.proofs.Spread.{grown_entries}
use Rattle.hp_inode.proofs.entry_block.EntryBlock.make_room.Goals as goal

pub invariant_of-self-in_err-make_places-2 : goal.invariant_of-self-in_err-make_places-2
invariant_of-self-in_err-make_places-2 c =
    grown_entries c.self.inside.words.items c.self.inside.marks.items c.make_places-2.new.words.items c.make_places.new.words.items c.self.invariant
    (omega (arith, c.make_places-2.ensures.more)) (omega (
      arith,
      c.self.invariant.places,
      c.make_places-2.ensures.few,
      c.make_places.ensures.more,
      c.in_ok-make_places.ensures.ok,
    )) (omega (arith, c.self.invariant.few, c.make_places.ensures.few))
    c.make_places-2.ensures.marks c.make_places.ensures.marks

pub invariant_of-self-2 : goal.invariant_of-self-2
invariant_of-self-2 c =
    grown_entries c.self.inside.words.items c.self.inside.marks.items c.make_places-2.new.words.items c.make_places.new.words.items c.self.invariant
    (omega (arith, c.make_places-2.ensures.more)) (omega (
      arith,
      c.self.invariant.places,
      c.make_places-2.ensures.few,
      c.make_places.ensures.more,
      c.in_ok-make_places.ensures.ok,
    )) (omega (arith, c.self.invariant.few, c.make_places.ensures.few))
    c.make_places-2.ensures.marks c.make_places.ensures.marks
