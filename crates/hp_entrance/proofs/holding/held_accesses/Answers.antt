use Rattle.std.proofs.Common.{◌≡◌, ◌≤◌, ◌-◌, ◌∙◌, List, length, slice_set, sym, subst, arith}
use borrow.Rule.Slice.PartMut.{put_mid, same_len_mid}
use Rattle.hp_laws.proofs.Variants.{Receipt}
use Rattle.hp_events.specs.Queues.{AreFirstHanded}
use Rattle.hp_entrance.proofs.Held.{next_handed, several_handed, unchanged_handed}
use Rattle.hp_entrance.proofs.holding.held_accesses.Goals as goal

pub returns-then-some-gt0-clause-first : goal.returns-then-some-gt0-clause-first
returns-then-some-gt0-clause-first g c =
    let i = c.loop-done.invariant in
    let at = c.loop-done.done in
    let now = c.loop-done.queue in
    let same = c.loop-done.auto.queue in
    let here = c.loop-done-test.true in
    let some = c.held_run-some in
    let within : at ≤ length now = omega (arith, here, same) in
    several_handed g.N.Naming.page_bytes c.args.at at some.result c.args.member.now.receipts c.loop-done.member.receipts some.new.member.receipts c.args.queue.now now
    some.new.queue within same i.left i.handed some.ensures.first

pub returns-in-None-clause-first : goal.returns-in-None-clause-first
returns-in-None-clause-first g c =
    let i = c.loop-done.invariant in
    let at = c.loop-done.done in
    let now = c.loop-done.queue in
    let same = c.loop-done.auto.queue in
    let here = c.loop-done-test.true in
    let some = c.held_run-some in
    let few = c.if-some-gt0.false in
    let made = c.held_access.new.queued in
    let within : at ≤ length now = omega (arith, here, same) in
    let none : some.result ≡ 0 = omega (arith, few) in
    let size = g.N.Naming.page_bytes in
    let behind = put_mid at (length now - at) now some.new.queue in
    subst (λ (told : List Receipt). AreFirstHanded size c.args.at at c.args.queue.now (slice_set behind at made) c.args.member.now.receipts told) (sym c.in-None.ensures.untold)
    (unchanged_handed size c.args.at at some.result c.args.member.now.receipts c.loop-done.member.receipts some.new.member.receipts c.args.queue.now now
    some.new.queue within same i.left i.handed some.ensures.first none made c.index-queue-done.result c.in-None.ensures.left)

pub returns-in-Some-true-clause-first : goal.returns-in-Some-true-clause-first
returns-in-Some-true-clause-first g c =
    let i = c.loop-done.invariant in
    let at = c.loop-done.done in
    let now = c.loop-done.queue in
    let same = c.loop-done.auto.queue in
    let here = c.loop-done-test.true in
    let some = c.held_run-some in
    let few = c.if-some-gt0.false in
    let within : at ≤ length now = omega (arith, here, same) in
    let none : some.result ≡ 0 = omega (arith, few) in
    next_handed g.N.Naming.page_bytes c.args.at at some.result c.args.member.now.receipts c.loop-done.member.receipts some.new.member.receipts c.args.queue.now now
    some.new.queue within same i.left i.handed some.ensures.first none c.held_access.new.queued c.index-queue-done.result c.held_access.new.member.receipts here
    (same_len_mid at (length now - at) now some.new.queue some.auto.queue ∙ same) c.in-Some-true.ensures.done

pub loop-done-preserved : goal.loop-done-preserved
loop-done-preserved g c =
    let i = c.loop-done.invariant in
    let at = c.loop-done.done in
    let now = c.loop-done.queue in
    let same = c.loop-done.auto.queue in
    let here = c.loop-done-test.true in
    let some = c.held_run-some in
    let few = c.if-some-gt0.false in
    let within : at ≤ length now = omega (arith, here, same) in
    let none : some.result ≡ 0 = omega (arith, few) in
    let next = next_handed g.N.Naming.page_bytes c.args.at at some.result c.args.member.now.receipts c.loop-done.member.receipts some.new.member.receipts c.args.queue.now now
    some.new.queue within same i.left i.handed some.ensures.first none c.held_access.new.queued c.index-queue-done.result c.held_access.new.member.receipts here
    (same_len_mid at (length now - at) now some.new.queue some.auto.queue ∙ same) c.in-Some-false.ensures.done in
    record {
      handed = next.handed;
      left = next.left;
      number = c.held_access.ensures.number ∙ some.ensures.number;
      owner = c.held_access.ensures.owner ∙ some.ensures.owner ∙ i.owner;
      room = c.held_access.ensures.room ∙ some.ensures.room ∙ i.room;
      turn = c.held_access.ensures.turn;
    }
