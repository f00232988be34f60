-- The seats of all parts, given away one by one.
use Rattle.std.proofs.Common.{◌≡◌, ◌≢◌, ℕ, suc, ◌+◌, ◌*◌, ◌<◌, List, [], ◌∷◌, sym, ap, ◌∙◌, subst, arith, replicate}
use Rattle.hp_history.specs.declared.held.Held.{Held}
use Rattle.hp_history.specs.declared.held.Held.TheVariants.{Pool, Opener, Slot}
use Rattle.hp_history.specs.declared.law.Shape.{Shape}
use Rattle.hp_history.specs.History.{CanGo, Each, all_parts, first_of_view, parts_of, rest_of_view, held_from}
use Rattle.hp_laws.proofs.Variants.{SlotEntry}

-- the slots from k on are none of the parts before
slots_apart : (q k : ℕ) → q < 2 * k + 3 → (ess : List (List SlotEntry)) → Each (λ g. Each (λ p. Each (λ q. p ≢ q) (q ∷ [])) (parts_of g)) (held_from k ess)
slots_apart q k below [] = tt
slots_apart q k below (es ∷ ess) = ((((λ same. absurd (omega (arith, same, below))), tt), tt), slots_apart q (k + 1) (omega (arith, below)) ess)

pub tasks_go : (sh : Shape) → CanGo (all_parts sh)
tasks_go sh =
    ((((λ same. absurd (omega (arith, same))), tt), tt), ((((λ same. absurd (omega (arith, same))), tt), tt), slots_apart 0 0 (omega arith) (replicate sh.slots [])))

pub pool_goes : (ess : List (List SlotEntry)) → CanGo (Pool [] ∷ Opener 0 ∷ held_from 0 ess)
pool_goes ess = ((((λ same. absurd (omega (arith, same))), tt), tt), slots_apart 1 0 (omega arith) ess)

pub opener_goes : (ess : List (List SlotEntry)) → CanGo (Opener 0 ∷ held_from 0 ess)
opener_goes ess = slots_apart 2 0 (omega arith) ess

-- the first of the slots
module _ (k m n : ℕ) (v : List Held) (is : v ≡ held_from k (replicate m [])) (more : m ≡ suc n) where
  some : v ≡ Slot k [] ∷ held_from (k + 1) (replicate n [])
  some = is ∙ ap (λ x. held_from k (replicate x [])) more

  pub slot_goes : CanGo v
  slot_goes = subst CanGo (sym some) (slots_apart (2 * k + 3) (k + 1) (omega arith) (replicate n []))

  pub slot_first : first_of_view v ≡ Slot k [] ∷ []
  slot_first = ap first_of_view some

  pub slots_rest : rest_of_view v ≡ held_from (k + 1) (replicate n [])
  slots_rest = ap rest_of_view some

-- what is left of them in a seat
pub slots_left : {X : Type 0} (now was : List Held × List X) (k m n j : ℕ) → now ≡ (rest_of_view was.0, was.1) → was ≡ (held_from k (replicate m []), []) → m ≡ suc n → j ≡ k + 1
    → now ≡ (held_from j (replicate n []), [])
slots_left now was k m n j view is more next =
    view ∙ ((λ i. (slots_rest k m n was.0 (ap (λ x. x.0) is) more i, (is i).1)) ∙ ap (λ x. (held_from x (replicate n []), [])) (sym next))
