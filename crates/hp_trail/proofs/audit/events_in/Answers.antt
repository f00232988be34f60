use Rattle.std.proofs.Common.{◌≡◌, ◌<◌, ℕ, [], ◌∷◌, ◌++◌, List, length, sym, ap, ◌∙◌, subst, arith, slice_index_or, slice_set}
use Rattle.hp_laws.proofs.Variants.{Event, Receipt}
use Rattle.hp_trail.specs.Walk.{lists}
use Rattle.hp_trail.proofs.Emptying.{IsEmptying, emptied, none_there, some_left, there}
use Rattle.hp_trail.proofs.Indexing.{lists_long, lists_read, lists_set}
use Rattle.hp_trail.proofs.audit.events_in.Goals as goal

pub index_mut-requires : goal.index_mut-requires
index_mut-requires c =
    let receipts : List (List Receipt) = lists c.args.receipts.items in
    let s : ℕ = c.in-Some.session in
    let h = c.loop-session.invariant c.requires.0 c.requires.1 c.requires.2 in
    let below : s < length receipts =
    there receipts c.requires.0 c.requires.1 c.loop-session.order.items c.pop.new.self.items s (lists c.loop-session.receipts.items) c.loop-session.events.items h c.in-Some.ensures.items in
    omega (arith, below, h.count, lists_long c.loop-session.receipts.items, c.loop-session.receipts.ok.0)

pub loop-session-preserved : goal.loop-session-preserved
loop-session-preserved c items told by =
    let receipts : List (List Receipt) = lists c.args.receipts.items in
    let s : ℕ = c.in-Some.session in
    let left : List (List Receipt) = lists c.loop-session.receipts.items in
    let h = c.loop-session.invariant items told by in
    let below : s < length receipts =
    there receipts items told c.loop-session.order.items c.pop.new.self.items s left c.loop-session.events.items h c.in-Some.ensures.items in
    let within : s < length c.loop-session.receipts.items = omega (arith, below, h.count, lists_long c.loop-session.receipts.items) in
    let here : slice_index_or left s [] ≡ c.index_mut.result.now.items = lists_read c.loop-session.receipts.items s c.index_mut.result.now within c.index_mut.ensures.value in
    subst (λ (xs : List (List Receipt)). IsEmptying items (length receipts) c.pop.new.self.items xs c.push.new.self.items) (sym (lists_set c.loop-session.receipts.items s c.pop-in-Some.new.self))
    (subst (λ (es : List Event). IsEmptying items (length receipts) c.pop.new.self.items (slice_set left s c.pop-in-Some.new.self.items) es)
    (sym (c.in_ok-push.ensures.items ∙ ap (λ e. c.loop-session.events.items ++ e ∷ []) c.into_event.ensures))
    (emptied receipts items told c.loop-session.order.items c.pop.new.self.items s left c.loop-session.events.items h c.in-Some.ensures.items c.pop-in-Some.new.self.items c.in-Some-pop.receipt
    (here ∙ c.in-Some-pop.ensures.items)))

pub loop-session-preserved-in_default-pop : goal.loop-session-preserved-in_default-pop
loop-session-preserved-in_default-pop c items told by =
    let receipts : List (List Receipt) = lists c.args.receipts.items in
    let s : ℕ = c.in-Some.session in
    let left : List (List Receipt) = lists c.loop-session.receipts.items in
    let h = c.loop-session.invariant items told by in
    let below : s < length receipts =
    there receipts items told c.loop-session.order.items c.pop.new.self.items s left c.loop-session.events.items h c.in-Some.ensures.items in
    let within : s < length c.loop-session.receipts.items = omega (arith, below, h.count, lists_long c.loop-session.receipts.items) in
    let here : slice_index_or left s [] ≡ c.index_mut.result.now.items = lists_read c.loop-session.receipts.items s c.index_mut.result.now within c.index_mut.ensures.value in
    let none : length c.index_mut.result.now.items ≡ 0 = omega (arith, c.index_mut.result.now.ok.0, c.in_default-pop.ensures.cases.0) in
    absurd (some_left receipts items told c.loop-session.order.items c.pop.new.self.items s left c.loop-session.events.items h c.in-Some.ensures.items
    (here ∙ none_there c.index_mut.result.now.items none))
