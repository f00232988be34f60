use Rattle.std.proofs.Common.{inl, inr, ℕ, [], ◌∷◌, ◌++◌, List, length, refl, sym, ◌∙◌, subst, arith, Contains, MatchOption}
use Rattle.std.proofs.lemmas.Bool.Decides.{eqb_tells}
use Rattle.std.proofs.lemmas.List.Elements.{Contains-append_left, Contains-push}
use Rattle.hp_laws.proofs.Variants.{Receipt}
use Rattle.hp_model.proofs.Words.{Differ, Trails}
use Rattle.hp_trail.specs.Tellers.{AreTold, TellerRows}
use Rattle.hp_trail.specs.Walk.{AreCovered, HasReceiptsLeft, HaveEnded, JoinsBy, WalkedBy, Walking, lists, trails_of}
use Rattle.hp_trail.proofs.Covering.{all_wait}
use Rattle.hp_trail.proofs.Indexing.{lists_long}
use Rattle.hp_trail.proofs.Stuck.{ended_joins, stuck_differs}
use Rattle.hp_trail.proofs.Walking.{started_by}
use Rattle.hp_trail.proofs.join.join.Goals as goal

pub loop-session-preserved : goal.loop-session-preserved
loop-session-preserved c s l =
    subst (λ (xs : List ℕ). Contains xs s) (sym c.in_ok-push.ensures.items)
    (elim (eqb_tells s c.loop-session.session) [
      | inl w ↦ subst (λ (n : ℕ). Contains (c.loop-session.work.items ++ c.loop-session.session ∷ []) n) (sym w.1) (Contains-push c.loop-session.work.items c.loop-session.session)
      | inr w ↦ (let ne = w.1 in Contains-append_left c.loop-session.work.items (c.loop-session.session ∷ []) s (c.loop-session.invariant s (omega (arith, l, ne))))
    ])

pub pass_all-requires-clause-told : goal.pass_all-requires-clause-told
pass_all-requires-clause-told c =
    let t : Trails = trails_of c.args.trails.tasks.now c.args.trails.slots.now c.args.trails.pool.now in
    let receipts : List (List Receipt) = lists c.args.receipts.now in
    let told : AreTold t receipts c.in-Some.tellers = subst (λ o. MatchOption o (Differ t receipts) (λ (w : TellerRows). AreTold t receipts w)) c.in-Some.is c.in_ok-tellers.ensures in
    subst (λ (w : Walking). AreTold w.trails w.receipts c.in-Some.tellers) (sym c.in_ok-walk.ensures) told

pub pass_all-requires-clause-walked : goal.pass_all-requires-clause-walked
pass_all-requires-clause-walked c =
    subst (λ (w : Walking). WalkedBy w.trails w.receipts w.cursors c.reserve.new.self.items) (sym c.in_ok-walk.ensures)
    (started_by _ _ (length c.args.trails.slots.now) (length c.args.receipts.now) _ c.reserve.new.self.items refl (c.in_ok-reserve.ensures.items ∙ c.new-order.ensures.items))

pub pass_all-requires-clause-covered : goal.pass_all-requires-clause-covered
pass_all-requires-clause-covered c =
    subst (λ (w : Walking). AreCovered w.trails w.receipts w.cursors c.loop-session.work.items) (sym c.in_ok-walk.ensures)
    (λ s l. inl (c.loop-session.invariant s (omega (arith, l, lists_long c.args.receipts.now, c.loop-session-test.false))))

pub returns-then-not-has_ended : goal.returns-then-not-has_ended
returns-then-not-has_ended c =
    let t : Trails = trails_of c.args.trails.tasks.now c.args.trails.slots.now c.args.trails.pool.now in
    let receipts : List (List Receipt) = lists c.args.receipts.now in
    let told : AreTold t receipts c.in-Some.tellers = subst (λ o. MatchOption o (Differ t receipts) (λ (w : TellerRows). AreTold t receipts w)) c.in-Some.is c.in_ok-tellers.ensures in
    let walk = c.in_ok-walk.walk in
    let cursors = c.pass_all.new.walk.cursors in
    let passed = c.in_ok-pass_all.ensures in
    let left : HasReceiptsLeft walk.receipts cursors = subst (λ (rs : List (List Receipt)). HasReceiptsLeft rs cursors) passed.receipts (c.if-not-has_ended.ensures.left refl) in
    subst (λ (w : Walking). Differ w.trails w.receipts) c.in_ok-walk.ensures
    (stuck_differs walk.trails walk.receipts cursors passed.walked.0 passed.walked.1 c.in-Some.tellers
    (subst (λ (w : Walking). AreTold w.trails w.receipts c.in-Some.tellers) (sym c.in_ok-walk.ensures) told)
    (all_wait walk.trails walk.receipts cursors [] refl passed.covered) left)

pub returns : goal.returns
returns c =
    let t : Trails = trails_of c.args.trails.tasks.now c.args.trails.slots.now c.args.trails.pool.now in
    let receipts : List (List Receipt) = lists c.args.receipts.now in
    let told : AreTold t receipts c.in-Some.tellers = subst (λ o. MatchOption o (Differ t receipts) (λ (w : TellerRows). AreTold t receipts w)) c.in-Some.is c.in_ok-tellers.ensures in
    let walk = c.in_ok-walk.walk in
    let cursors = c.pass_all.new.walk.cursors in
    let passed = c.in_ok-pass_all.ensures in
    let ended : HaveEnded walk.receipts cursors = subst (λ (rs : List (List Receipt)). HaveEnded rs cursors) passed.receipts (c.if-not-has_ended.ensures.ended refl) in
    subst (λ (w : Walking). JoinsBy w.trails w.receipts c.pass_all.new.order.items) c.in_ok-walk.ensures
    (ended_joins walk.trails walk.receipts cursors c.pass_all.new.order.items c.in-Some.tellers passed.walked
    (subst (λ (w : Walking). AreTold w.trails w.receipts c.in-Some.tellers) (sym c.in_ok-walk.ensures) told) ended)
