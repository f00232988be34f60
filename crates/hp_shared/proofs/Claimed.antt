-- Claims that wait to be handed out.
use Rattle.std.proofs.Common.{◌≡◌, ◌<◌, Option, None, Some, [], ◌∷◌, length, replicate, arith, refl, sym, ap, ◌∙◌}
use Rattle.std.proofs.lemmas.List.{length-append}
use Rattle.hp_permit.specs.Claim.{Claim}
use Rattle.hp_shared.specs.Runs.{AreClaims, nodes_in}

some_wait : (c : Claim) → 0 < c.amount → replicate c.amount c.node ≡ [] → ⊥
some_wait c some none = (let long = ap length none in grind (arith, some, long))

-- where no page waits there is no claim
pub none_first : (first last : Option Claim) → AreClaims first last → nodes_in first last ≡ [] → first ≡ None
none_first None last are none = refl
none_first (Some c) None are none = absurd (some_wait c are none)
none_first (Some c) (Some d) are none = absurd (let long = sym (length-append (replicate c.amount c.node) (d.node ∷ [])) ∙ ap length none in omega (arith, long))
