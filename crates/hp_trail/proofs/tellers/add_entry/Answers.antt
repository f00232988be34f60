use Rattle.std.proofs.Common.{◌∙◌, inl, sym, refl, arith}
use Rattle.std.proofs.lemmas.Bool.{false≢true}
use Rattle.hp_trail.proofs.Claiming.{past_misses, other_misses, noted, noted_before}
use Rattle.hp_trail.proofs.tellers.add_entry.Goals as goal

pub returns-in_default-clause-added : goal.returns-in_default-clause-added
returns-in_default-clause-added g c e = absurd (false≢true e)

pub returns-in_default-clause-refused : goal.returns-in_default-clause-refused
returns-in_default-clause-refused g c e = inl (past_misses g.E.Told.entry c.args.trail.now c.args.receipt.now c.in_default.ensures.lookup.0)

pub claim-requires-clause-place : goal.claim-requires-clause-place
claim-requires-clause-place g c = omega (arith, c.requires.row, c.in-Some.ensures.lookup.3.0)

pub claim-requires-clause-session : goal.claim-requires-clause-session
claim-requires-clause-session g c = c.requires.session

pub returns-then-is_told-clause-added : goal.returns-then-is_told-clause-added
returns-then-is_told-clause-added g c e =
    let found = c.in-Some.ensures.lookup in
    noted g.E.Told.entry c.args.trail.now c.args.receipt.now c.in-Some.entry.now found.3.0 found.1 c.args.row.now.items c.claim.new.row.items c.args.session
    (c.if-is_told.ensures.same refl) (c.claim.ensures.claims e)

pub returns-then-is_told-clause-refused : goal.returns-then-is_told-clause-refused
returns-then-is_told-clause-refused g c e =
    let found = c.in-Some.ensures.lookup in
    noted_before g.E.Told.entry c.args.trail.now c.args.receipt.now c.in-Some.entry.now found.3.0 found.1 c.args.row.now.items (c.if-is_told.ensures.same refl)
    (c.claim.ensures.taken e)

pub returns-else-is_told-clause-added : goal.returns-else-is_told-clause-added
returns-else-is_told-clause-added g c e = absurd (false≢true (sym c.if-is_told.false ∙ e))

pub returns-else-is_told-clause-refused : goal.returns-else-is_told-clause-refused
returns-else-is_told-clause-refused g c e =
    let found = c.in-Some.ensures.lookup in
    inl (other_misses g.E.Told.entry c.args.trail.now c.args.receipt.now c.in-Some.entry.now found.3.0 found.1 (c.if-is_told.ensures.other refl))
