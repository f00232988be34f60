use Rattle.std.proofs.Common.{◌≡◌, ap, arith, ◌∙◌, [], rules, subst, sym}
use Rattle.hp_order.specs.Order.{AreBelow}
use Rattle.hp_store.specs.Store.{Store}
use Rattle.std.proofs.lemmas.List.{nil_from_length}
use Rattle.hp_own_pool.proofs.Returning.{all_counted, one_counted}
use Rattle.hp_locked.proofs.nodes.NodeLocks.gather.Goals as goal

pub loop-page-preserved : goal.loop-page-preserved
loop-page-preserved g c = (
  one_counted _ _ _ _ _ c.in-Some.page c.in-Some.ensures.going (rw c.give.ensures.claim at c.add.ensures.below) (rw c.give.ensures.claim at c.add.ensures.added) c.loop-page.invariant.0,
  ap (λ (s : Store). record s { going = [] }) c.next_going.ensures.rest ∙ c.loop-page.invariant.1,
  c.give.ensures.turn ∙ c.loop-page.invariant.2,
)

pub give-requires : goal.give-requires
give-requires g c = subst (AreBelow 2) (sym c.loop-page.invariant.2) c.requires

pub returns : goal.returns
returns g c =
    let none : c.loop-page.going.going ≡ [] = nil_from_length c.loop-page.going.going (let some = c.in_default.ensures.some in grind (arith, some)) in
    let all = all_counted c.args.going.now.going c.loop-page.going.going c.loop-page.parcel none c.loop-page.invariant.0 in
    record { claims = all.0; all = all.1; going = search rules; turn = c.loop-page.invariant.2 }
