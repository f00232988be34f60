use Rattle.std.proofs.Common.{◌≡◌, ℕ, [], length, refl, sym, ap, ◌∙◌, subst, arith, slice_index_or}
use Rattle.hp_model.proofs.Words.{Trails}
use Rattle.hp_trail.specs.Tellers.{AreListed, Fit, TellerRows}
use Rattle.hp_trail.specs.Walk.{lists, trails_of}
use Rattle.hp_trail.proofs.Indexing.{lists_long, lists_read, read_at}
use Rattle.hp_trail.proofs.Listing.{all_told, fit_none, gap_differs, listed_more, listed_none, next_session, refused_differ}
use Rattle.hp_trail.proofs.tellers.Tellers.list.Goals as goal

pub loop-session-init : goal.loop-session-init
loop-session-init c =
    let t : Trails = trails_of c.args.trails.tasks.now c.args.trails.slots.now c.args.trails.pool.now in
    record {
      fit = subst (λ (w : TellerRows). Fit t w) (sym c.in_ok-tellers.ensures) (fit_none t);
      listed = subst (λ (w : TellerRows). AreListed t (lists c.args.receipts.now) 0 0 w) (sym c.in_ok-tellers.ensures) (listed_none t (lists c.args.receipts.now));
    }

pub returns-then-not-add : goal.returns-then-not-add
returns-then-not-add c =
    let t : Trails = trails_of c.args.trails.tasks.now c.args.trails.slots.now c.args.trails.pool.now in
    let has =
    read_at c.args.receipts.now c.loop-session.session c.loop-receipt.receipt-index c.index-receipts-session.result c.deref-receipt-items.result.now c.receipt-item.result c.loop-session-test.true
    c.index-receipts-session.is c.deref-receipt-items.ensures.value c.loop-receipt-test.true c.receipt-item.is in
    refused_differ t (lists c.args.receipts.now) c.loop-session.session c.loop-receipt.receipt-index c.receipt-item.result c.loop-receipt.tellers has c.loop-receipt.invariant.listed
    (c.if-not-add.ensures.refused refl)

pub loop-receipt-preserved : goal.loop-receipt-preserved
loop-receipt-preserved c =
    let t : Trails = trails_of c.args.trails.tasks.now c.args.trails.slots.now c.args.trails.pool.now in
    let has =
    read_at c.args.receipts.now c.loop-session.session c.loop-receipt.receipt-index c.index-receipts-session.result c.deref-receipt-items.result.now c.receipt-item.result c.loop-session-test.true
    c.index-receipts-session.is c.deref-receipt-items.ensures.value c.loop-receipt-test.true c.receipt-item.is in
    let added = c.if-not-add.ensures.added refl in
    record {
      fit = added.fit;
      listed =
          listed_more t (lists c.args.receipts.now) c.loop-session.session c.loop-receipt.receipt-index c.receipt-item.result c.loop-receipt.tellers
          c.add.new.self has c.loop-receipt.invariant.listed added;
    }

pub loop-session-preserved : goal.loop-session-preserved
loop-session-preserved c =
    let t : Trails = trails_of c.args.trails.tasks.now c.args.trails.slots.now c.args.trails.pool.now in
    let receipts = lists c.args.receipts.now in
    let long : length (slice_index_or receipts c.loop-session.session []) ≡ length c.deref-receipt-items.result.now =
    ap length (lists_read c.args.receipts.now c.loop-session.session c.index-receipts-session.result c.loop-session-test.true c.index-receipts-session.is ∙ sym c.deref-receipt-items.ensures.value) in
    let at_end : c.loop-receipt.receipt-index ≡ length (slice_index_or receipts c.loop-session.session []) = omega (arith, long) in
    record {
      fit = c.loop-receipt.invariant.fit;
      listed =
          next_session t receipts c.loop-session.session c.loop-receipt.tellers
          (subst (λ (n : ℕ). AreListed t receipts c.loop-session.session n c.loop-receipt.tellers) at_end c.loop-receipt.invariant.listed);
    }

pub returns-then-has_gap : goal.returns-then-has_gap
returns-then-has_gap c =
    let t : Trails = trails_of c.args.trails.tasks.now c.args.trails.slots.now c.args.trails.pool.now in
    let receipts = lists c.args.receipts.now in
    let at_end : c.loop-session.session ≡ length receipts = omega (arith, lists_long c.args.receipts.now) in
    gap_differs t receipts c.loop-session.tellers c.loop-session.invariant.fit (subst (λ (n : ℕ). AreListed t receipts n 0 c.loop-session.tellers) at_end c.loop-session.invariant.listed)
    (c.if-has_gap.ensures.gap refl)

pub returns : goal.returns
returns c =
    let t : Trails = trails_of c.args.trails.tasks.now c.args.trails.slots.now c.args.trails.pool.now in
    let receipts = lists c.args.receipts.now in
    let at_end : c.loop-session.session ≡ length receipts = omega (arith, lists_long c.args.receipts.now) in
    all_told t receipts c.loop-session.tellers c.loop-session.invariant.fit (subst (λ (n : ℕ). AreListed t receipts n 0 c.loop-session.tellers) at_end c.loop-session.invariant.listed)
    (c.if-has_gap.ensures.none refl)
