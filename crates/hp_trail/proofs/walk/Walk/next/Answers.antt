use Rattle.std.proofs.Common.{◌≡◌, ◌∙◌, ℕ, None, get_or, ap, subst, refl, arith}
use Rattle.hp_trail.specs.Walk.{HasNext, IsNext, Walking, cursor_at}
use Rattle.hp_trail.proofs.Fetching.{none_after, none_at, one_there}
use Rattle.hp_trail.proofs.walk.Walk.next.Goals as goal

pub returns-in_err-cursor : goal.returns-in_err-cursor
returns-in_err-cursor c =
    let cursors = c.self.inside.session_cursors.items in
    rw c.from_residual.ensures (subst (λ (w : Walking). IsNext w c.args.session None) c.self.view_is
    (none_at c.self.inside.receipts.now c.args.session (cursor_at cursors c.args.session) (omega (arith, c.in_err-cursor.ensures.lookup.3, c.deref.ensures.len, c.self.invariant.1))))

pub returns-in_err-get : goal.returns-in_err-get
returns-in_err-get c =
    let cursors = c.self.inside.session_cursors.items in
    rw c.from_residual-in_err-get.ensures (subst (λ (w : Walking). IsNext w c.args.session None) c.self.view_is
    (none_at c.self.inside.receipts.now c.args.session (cursor_at cursors c.args.session) c.in_err-get.ensures.lookup.3))

pub returns-in_err-receipt : goal.returns-in_err-receipt
returns-in_err-receipt c =
    let s : ℕ = c.args.session in
    let cursors = c.self.inside.session_cursors.items in
    let found = c.in_ok-get.ensures.lookup in
    let place : c.in_ok-cursor.field-0.now ≡ cursor_at cursors s = c.in_ok-cursor.ensures.lookup.3.1 0 ∙ ap (λ xs. get_or xs s 0) c.deref.ensures.value in
    rw c.from_residual-in_err-receipt.ensures (subst (λ (w : Walking). IsNext w s None) c.self.view_is
    (none_after c.self.inside.receipts.now s (cursor_at cursors s) c.in_ok-get.field-0.now c.deref-2.result.now c.in_ok-cursor.field-0.now found.3.0 found.1
    c.deref-2.ensures.value place c.in_err-receipt.ensures.lookup.3))

pub returns : goal.returns
returns c =
    let s : ℕ = c.args.session in
    let cursors = c.self.inside.session_cursors.items in
    let found = c.in_ok-get.ensures.lookup in
    let receipt = c.in_ok-receipt.ensures.lookup in
    let place : c.in_ok-cursor.field-0.now ≡ cursor_at cursors s = c.in_ok-cursor.ensures.lookup.3.1 0 ∙ ap (λ xs. get_or xs s 0) c.deref.ensures.value in (
      c.in_ok-receipt.receipt.now,
      subst (λ (w : Walking). HasNext w s c.in_ok-receipt.receipt.now) c.self.view_is
          (one_there c.self.inside.receipts.now s (cursor_at cursors s) c.in_ok-get.field-0.now c.deref-2.result.now c.in_ok-cursor.field-0.now found.3.0
          found.1 c.deref-2.ensures.value place c.in_ok-receipt.receipt.now receipt.3.0 receipt.1),
      refl,
      refl,
    )
