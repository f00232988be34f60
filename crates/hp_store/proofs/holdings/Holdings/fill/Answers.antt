use Rattle.std.proofs.Common.{◌≡◌, is_some, length, None, Some, vec_len, ap, arith, rules}
use Rattle.std.proofs.lemmas.List.{get_or_read, length-set}
use Rattle.hp_store.proofs.Counted.{counted_set, long, none_page, same_length, set-holdings}
use Rattle.hp_store.proofs.holdings.Holdings.fill.Goals as goal

pub index_mut-requires : goal.index_mut-requires
index_mut-requires g c =
    let e : length c.self.inside.pages.items ≡ vec_len c.self.inside.pages = search rules in
    omega (arith, e, rw (← c.self.view_is) at c.requires.within, long _ _ c.self.invariant.counted)

pub unreachable-requires : goal.unreachable-requires
unreachable-requires g c =
    let less = rw (long _ _ c.self.invariant.counted) at (rw (← c.self.view_is) at c.requires.within) in
    let none = none_page _ _ c.self.invariant.counted c.args.at (rw (← c.self.view_is) at c.requires.empty) in
    let read = get_or_read c.self.inside.pages.items c.args.at c.index_mut.result.now less c.index_mut.ensures.value None in
    cc (none, read, c.replace.ensures.value, c.in-Some.is)

pub index_mut-requires-2 : goal.index_mut-requires-2
index_mut-requires-2 g c =
    let e : length c.self.inside.holders.items ≡ vec_len c.self.inside.holders = search rules in
    omega (arith, e, rw (← c.self.view_is) at c.requires.within, long _ _ c.self.invariant.counted, same_length _ _ c.self.invariant.counted)

pub invariant_of-self : goal.invariant_of-self
invariant_of-self g c =
    record {
      counted = counted_set _ _ c.self.invariant.counted c.args.at c.replace.new.dest 1 (ap is_some c.replace.ensures.after);
      within = omega (arith, length-set c.self.inside.pages.items c.args.at c.replace.new.dest, c.self.invariant.within);
      pages_room = c.self.invariant.pages_room;
      holders_room = c.self.invariant.holders_room;
      pages_few = c.self.invariant.pages_few;
      holders_few = c.self.invariant.holders_few;
    }

pub returns : goal.returns
returns g c = rw (← c.self.view_is, c.replace.ensures.after, set-holdings c.self.inside.pages.items c.self.inside.holders.items c.args.at (Some c.args.page) 1)
