use Rattle.std.proofs.Common.{◌≡◌, ◌≢◌, ◌<◌, length, inl, inr, refl, ap, arith, slice_index_or}
use Rattle.std.proofs.lemmas.Bool.{false≢true}
use Rattle.hp_trail.specs.Tellers.{Claims, Finds, Misses, entry_of_slot}
use Rattle.hp_trail.proofs.Claiming.{finds, list_read, moved, no_trail, other_misses, past_misses}
use Rattle.hp_trail.proofs.Indexing.{lists_set}
use Rattle.hp_trail.proofs.tellers.add_slot.Goals as goal

pub returns-in_default-clause-added : goal.returns-in_default-clause-added
returns-in_default-clause-added c e = absurd (false≢true e)

pub returns-in_default-clause-refused : goal.returns-in_default-clause-refused
returns-in_default-clause-refused c e = inl (inl (no_trail c.args.slots.now c.args.slot c.args.receipt.now c.in_default.ensures.lookup.0))

pub returns-in_default-get-clause-added : goal.returns-in_default-get-clause-added
returns-in_default-get-clause-added c e = absurd (false≢true e)

pub returns-in_default-get-clause-refused : goal.returns-in_default-get-clause-refused
returns-in_default-get-clause-refused c e =
    let slot = c.in-Some.ensures.lookup in
    let entry = entry_of_slot c.args.slot in
    inl (inl (moved c.args.slots.now c.args.slot c.in-Some.trail.now c.deref.result.now slot.3.0 slot.1 c.deref.ensures.value (λ xs. Misses entry xs c.args.receipt.now)
    (past_misses entry c.deref.result.now c.args.receipt.now c.in_default-get.ensures.lookup.0)))

pub returns-then-not-tells_slot-clause-added : goal.returns-then-not-tells_slot-clause-added
returns-then-not-tells_slot-clause-added c e = absurd (false≢true e)

pub returns-then-not-tells_slot-clause-refused : goal.returns-then-not-tells_slot-clause-refused
returns-then-not-tells_slot-clause-refused c e =
    let slot = c.in-Some.ensures.lookup in
    let found = c.in-Some-get.ensures.lookup in
    let entry = entry_of_slot c.args.slot in
    inl (inl (moved c.args.slots.now c.args.slot c.in-Some.trail.now c.deref.result.now slot.3.0 slot.1 c.deref.ensures.value (λ xs. Misses entry xs c.args.receipt.now)
    (other_misses entry c.deref.result.now c.args.receipt.now c.in-Some-get.entry.now found.3.0 found.1 (c.if-not-tells_slot.ensures.other refl))))

pub index_mut-requires : goal.index_mut-requires
index_mut-requires c = omega (arith, c.requires.count, c.in-Some.ensures.lookup.3.0)

pub claim-requires-clause-place : goal.claim-requires-clause-place
claim-requires-clause-place c =
    let slot = c.in-Some.ensures.lookup in
    let trail = list_read c.args.slots.now c.args.slot c.in-Some.trail.now c.deref.result.now slot.3.0 slot.1 c.deref.ensures.value in
    let row = list_read c.args.rows.now.items c.args.slot c.index_mut.result.now _ (omega (arith, c.requires.count, slot.3.0)) c.index_mut.ensures.value refl in
    omega (arith, ap length row, c.requires.rows, ap length trail, c.in-Some-get.ensures.lookup.3.0)

pub claim-requires-clause-session : goal.claim-requires-clause-session
claim-requires-clause-session c = c.requires.session

pub returns-then-not-claim-clause-added : goal.returns-then-not-claim-clause-added
returns-then-not-claim-clause-added c e = absurd (false≢true e)

pub returns-then-not-claim-clause-refused : goal.returns-then-not-claim-clause-refused
returns-then-not-claim-clause-refused c e =
    let slot = c.in-Some.ensures.lookup in
    let found = c.in-Some-get.ensures.lookup in
    let entry = entry_of_slot c.args.slot in
    let there = moved c.args.slots.now c.args.slot c.in-Some.trail.now c.deref.result.now slot.3.0 slot.1 c.deref.ensures.value (λ xs. Finds entry xs c.args.receipt.now c.in-Some-get.entry.now)
    (finds entry c.deref.result.now c.args.receipt.now c.in-Some-get.entry.now found.3.0 found.1 (c.if-not-tells_slot.ensures.same refl)) in
    let below : c.args.slot < length c.args.rows.now.items = omega (arith, c.requires.count, slot.3.0) in
    inl (inr (
      c.in-Some-get.entry.now,
      there,
      moved c.args.rows.now.items c.args.slot c.index_mut.result.now c.index_mut.result.now.items below c.index_mut.ensures.value refl (λ xs. slice_index_or xs c.args.receipt.now.place 0 ≢ 0)
          (c.if-not-claim.ensures.taken refl),
    ))

pub claim_section-requires-clause-row : goal.claim_section-requires-clause-row
claim_section-requires-clause-row c = c.requires.pool

pub claim_section-requires-clause-session : goal.claim_section-requires-clause-session
claim_section-requires-clause-session c = c.requires.session

pub returns-clause-added : goal.returns-clause-added
returns-clause-added c e =
    let slot = c.in-Some.ensures.lookup in
    let found = c.in-Some-get.ensures.lookup in
    let entry = entry_of_slot c.args.slot in
    let below : c.args.slot < length c.args.rows.now.items = omega (arith, c.requires.count, slot.3.0) in
    record {
      entry = c.in-Some-get.entry.now;
      finds = moved c.args.slots.now c.args.slot c.in-Some.trail.now c.deref.result.now slot.3.0 slot.1 c.deref.ensures.value (λ xs. Finds entry xs c.args.receipt.now c.in-Some-get.entry.now)
          (finds entry c.deref.result.now c.args.receipt.now c.in-Some-get.entry.now found.3.0 found.1 (c.if-not-tells_slot.ensures.same refl));
      claimed = c.claim.new.row.items;
      claims = moved c.args.rows.now.items c.args.slot c.index_mut.result.now c.index_mut.result.now.items below c.index_mut.ensures.value refl
          (λ xs. Claims xs c.args.receipt.now.place c.args.session c.claim.new.row.items) (c.if-not-claim.ensures.claims refl);
      moves = lists_set c.args.rows.now.items c.args.slot c.claim.new.row;
      section = c.claim_section.ensures.claims e;
    }

pub returns-clause-refused : goal.returns-clause-refused
returns-clause-refused c e =
    let slot = c.in-Some.ensures.lookup in
    let found = c.in-Some-get.ensures.lookup in
    let entry = entry_of_slot c.args.slot in
    let there = moved c.args.slots.now c.args.slot c.in-Some.trail.now c.deref.result.now slot.3.0 slot.1 c.deref.ensures.value (λ xs. Finds entry xs c.args.receipt.now c.in-Some-get.entry.now)
    (finds entry c.deref.result.now c.args.receipt.now c.in-Some-get.entry.now found.3.0 found.1 (c.if-not-tells_slot.ensures.same refl)) in
    let below : c.args.slot < length c.args.rows.now.items = omega (arith, c.requires.count, slot.3.0) in
    inr (
      c.in-Some-get.entry.now,
      there,
      moved c.args.rows.now.items c.args.slot c.index_mut.result.now c.index_mut.result.now.items below c.index_mut.ensures.value refl (λ xs. slice_index_or xs c.args.receipt.now.place 0 ≡ 0)
          (c.if-not-claim.ensures.claims refl).free,
      c.claim_section.ensures.refused e,
    )
