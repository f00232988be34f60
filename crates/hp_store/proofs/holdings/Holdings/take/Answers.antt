use Rattle.std.proofs.Common.{◌≡◌, is_some, length, None, vec_len, sym, ap, ◌∙◌, arith, rules}
use Rattle.std.proofs.lemmas.List.{length-set}
use Rattle.hp_store.proofs.Counted.{counted_set, held_within, holders_within, page_read, page_there, set-holdings}
use Rattle.hp_store.proofs.holdings.Holdings.take.Goals as goal

pub index_mut-requires : goal.index_mut-requires
index_mut-requires g c =
    let e : length c.self.inside.holders.items ≡ vec_len c.self.inside.holders = search rules in
    omega (arith, e, holders_within _ _ c.self.invariant.counted c.args.at (rw (← c.self.view_is) at c.requires))

pub index_mut-slot-requires : goal.index_mut-slot-requires
index_mut-slot-requires g c =
    let e : length c.self.inside.pages.items ≡ vec_len c.self.inside.pages = search rules in
    omega (arith, e, held_within _ _ c.self.invariant.counted c.args.at (rw (← c.self.view_is) at c.requires))

pub unwrap-requires : goal.unwrap-requires
unwrap-requires g c =
    let some = rw (← c.self.view_is) at c.requires in
    rw c.take.ensures.value (page_there _ _ c.self.invariant.counted c.args.at c.index_mut-slot.result.now some c.index_mut-slot.ensures.value)

pub invariant_of-self : goal.invariant_of-self
invariant_of-self g c =
    record {
      counted = counted_set _ _ c.self.invariant.counted c.args.at c.take.new.self 0 (ap is_some c.take.ensures.after);
      within = omega (arith, length-set c.self.inside.pages.items c.args.at c.take.new.self, c.self.invariant.within);
      pages_room = c.self.invariant.pages_room;
      holders_room = c.self.invariant.holders_room;
      pages_few = c.self.invariant.pages_few;
      holders_few = c.self.invariant.holders_few;
    }

pub returns-clause-page : goal.returns-clause-page
returns-clause-page g c =
    let some = rw (← c.self.view_is) at c.requires in
    rw (
      ← c.self.view_is,
      page_read _ _ c.self.invariant.counted c.args.at c.index_mut-slot.result.now some c.index_mut-slot.ensures.value
          c.unwrap.result (sym c.take.ensures.value ∙ c.unwrap.ensures),
    )

pub returns-clause-taken : goal.returns-clause-taken
returns-clause-taken g c = rw (← c.self.view_is, c.take.ensures.after, set-holdings c.self.inside.pages.items c.self.inside.holders.items c.args.at None 0)
