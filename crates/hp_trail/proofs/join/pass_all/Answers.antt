use Rattle.std.proofs.Common.{◌≡◌, ℕ, List, length, refl, sym, subst, arith}
use Rattle.std.proofs.lemmas.List.{nil_from_length}
use Rattle.hp_laws.proofs.Variants.{Receipt}
use Rattle.hp_model.proofs.Words.{Trails}
use Rattle.hp_trail.specs.Tellers.{AreRight, HaveSections, teller}
use Rattle.hp_trail.specs.Walk.{AreCovered, IsWoken, cursor}
use Rattle.hp_trail.proofs.Joining.{smaller, turned, turned_back}
use Rattle.hp_trail.proofs.join.pass_all.Goals as goal

pub loop-session-init : goal.loop-session-init
loop-session-init c = record { trails = refl; receipts' = refl; walked = c.requires.walked; covered = c.requires.covered }

pub pass-requires-clause-right : goal.pass-requires-clause-right
pass-requires-clause-right c =
    subst (λ (x : Trails). AreRight x c.loop-session.walk.receipts) (sym c.loop-session.invariant.trails)
    (subst (λ (rs : List (List Receipt)). AreRight c.args.walk.now.trails rs) (sym c.loop-session.invariant.receipts') c.requires.told.right)

pub pass-requires-clause-sections : goal.pass-requires-clause-sections
pass-requires-clause-sections c =
    subst (λ (x : Trails). HaveSections x c.loop-session.walk.receipts) (sym c.loop-session.invariant.trails)
    (subst (λ (rs : List (List Receipt)). HaveSections c.args.walk.now.trails rs) (sym c.loop-session.invariant.receipts')
    (λ s i r k a has part asks. (c.requires.told.section s i r k a has part asks).0))

pub loop-session-preserved-in_default-pass : goal.loop-session-preserved-in_default-pass
loop-session-preserved-in_default-pass c =
    let t = c.args.walk.now.trails in
    let receipts = c.args.walk.now.receipts in
    turned_back t receipts c.args.tellers.now c.requires.told c.loop-session.walk c.pass.new.self c.in-Some.session c.loop-session.order.items c.loop-session.work.items c.pop.new.self.items
    c.loop-session.invariant c.in-Some.ensures.items c.in_default-pass.ensures

pub loop-session-preserved : goal.loop-session-preserved
loop-session-preserved c =
    let t = c.args.walk.now.trails in
    let receipts = c.args.walk.now.receipts in
    turned t receipts c.args.tellers.now c.requires.told c.loop-session.walk c.pass.new.self c.in-Some.session c.loop-session.order.items c.loop-session.work.items c.pop.new.self.items
    c.loop-session.invariant c.in-Some.ensures.items c.in-Some-pass.part c.in-Some-pass.ensures c.push.new.self.items c.wake.new.work.items c.wake-in-Some.new.work.items
    c.in_ok-push.ensures.items
    (subst (λ (xs : List ℕ). IsWoken (teller c.args.tellers.now c.in-Some-pass.part (cursor c.pass.new.self.cursors c.in-Some-pass.part)) xs
    c.wake.new.work.items) c.in_ok-push-2.ensures.items c.in_ok-wake.ensures)
    c.in_ok-wake-2.ensures

pub loop-session-smaller : goal.loop-session-smaller
loop-session-smaller c =
    let t = c.args.walk.now.trails in
    let receipts = c.args.walk.now.receipts in
    smaller t receipts c.args.tellers.now c.requires.told c.loop-session.walk c.pass.new.self c.in-Some.session c.loop-session.order.items c.loop-session.work.items c.pop.new.self.items
    c.loop-session.invariant c.in-Some.ensures.items c.in-Some-pass.part c.in-Some-pass.ensures c.push.new.self.items c.wake.new.work.items c.wake-in-Some.new.work.items
    c.in_ok-push.ensures.items
    (subst (λ (xs : List ℕ). IsWoken (teller c.args.tellers.now c.in-Some-pass.part (cursor c.pass.new.self.cursors c.in-Some-pass.part)) xs
    c.wake.new.work.items) c.in_ok-push-2.ensures.items c.in_ok-wake.ensures)
    c.in_ok-wake-2.ensures

pub returns-clause-covered : goal.returns-clause-covered
returns-clause-covered c =
    let none : length c.loop-session.work.items ≡ 0 = omega (arith, c.loop-session.work.ok.0, c.in_default.ensures.cases.0) in
    subst (λ (xs : List ℕ). AreCovered c.args.walk.now.trails c.args.walk.now.receipts c.loop-session.walk.cursors xs) (nil_from_length c.loop-session.work.items none) c.loop-session.invariant.covered
