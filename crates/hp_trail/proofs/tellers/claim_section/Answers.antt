use Rattle.std.proofs.Common.{◌∙◌, sym, refl, subst, arith}
use Rattle.std.proofs.lemmas.Bool.{false≢true}
use Rattle.hp_trail.specs.Tellers.{ClaimsSection}
use Rattle.hp_trail.proofs.Claiming.{section_past, section_noted, section_noted_before, section_other}
use Rattle.hp_trail.proofs.tellers.claim_section.Goals as goal

pub returns-in_default-clause-claims : goal.returns-in_default-clause-claims
returns-in_default-clause-claims c e =
    let row = c.args.row.now.items in
    subst (λ o. ClaimsSection c.args.pool.now row o c.args.session row) (sym c.in_default.is) refl

pub returns-in_default-clause-refused : goal.returns-in_default-clause-refused
returns-in_default-clause-refused c e = absurd (false≢true (sym e))

pub returns-in_default-get-clause-claims : goal.returns-in_default-get-clause-claims
returns-in_default-get-clause-claims c e = absurd (false≢true e)

pub returns-in_default-get-clause-refused : goal.returns-in_default-get-clause-refused
returns-in_default-get-clause-refused c e = section_past c.args.pool.now c.args.row.now.items c.args.asked c.in-Some.asked c.in-Some.is c.in_default-get.ensures.lookup.0

pub claim-requires-clause-place : goal.claim-requires-clause-place
claim-requires-clause-place c = omega (arith, c.requires.row, c.in-Some-get.ensures.lookup.3.0)

pub claim-requires-clause-session : goal.claim-requires-clause-session
claim-requires-clause-session c = c.requires.session

pub returns-then-is_section-clause-claims : goal.returns-then-is_section-clause-claims
returns-then-is_section-clause-claims c e =
    let found = c.in-Some-get.ensures.lookup in
    section_noted c.args.pool.now c.args.row.now.items c.args.asked c.in-Some.asked c.in-Some.is c.in-Some-get.entry.now found.3.0 found.1 c.claim.new.row.items c.args.session
    (c.if-is_section.ensures.same refl) (c.claim.ensures.claims e)

pub returns-then-is_section-clause-refused : goal.returns-then-is_section-clause-refused
returns-then-is_section-clause-refused c e =
    let found = c.in-Some-get.ensures.lookup in
    section_noted_before c.args.pool.now c.args.row.now.items c.args.asked c.in-Some.asked c.in-Some.is c.in-Some-get.entry.now found.3.0 found.1
    (c.if-is_section.ensures.same refl) (c.claim.ensures.taken e)

pub returns-else-is_section-clause-claims : goal.returns-else-is_section-clause-claims
returns-else-is_section-clause-claims c e = absurd (false≢true (sym c.if-is_section.false ∙ e))

pub returns-else-is_section-clause-refused : goal.returns-else-is_section-clause-refused
returns-else-is_section-clause-refused c e =
    let found = c.in-Some-get.ensures.lookup in
    section_other c.args.pool.now c.args.row.now.items c.args.asked c.in-Some.asked c.in-Some.is c.in-Some-get.entry.now found.3.0 found.1
    (c.if-is_section.ensures.other refl)
