-- A section leaves nr and overcommit; and a fork that is undone is refused.
use Rattle.std.proofs.Common.{arith, ◌≡◌, ℕ, Ok, Err, List, [], ◌∷◌}
use Rattle.hp_laws.proofs.Variants.{Answer, PoolAnswer, Refusal, Section}
use Rattle.hp_model.proofs.Words.{IsScript, Pool, State, has_maps_of, section, slot_at, undone}
use Rattle.hp_laws.proofs.steps.Outcomes.{either_way}
use Rattle.hp_model.proofs.RowMoves.{puts_are}

abbrev pub Numbers : Pool → PoolAnswer × Pool → Type 0
Numbers p q = (q.1.nr ≡ p.nr) × (q.1.overcommit ≡ p.overcommit)

pub section_numbers : (p : Pool) (x : Section) → Numbers p (section p x)
section_numbers p x = grind (arith, puts_are)

pub undone_refused : (done : List ℕ) (child : ℕ) (r : Refusal) (a : Answer) (u t : State) → IsScript u (undone done child r) (Ok a) t → ⊥
undone_refused [] child r a u t is = (let never : Ok a ≡ Err r = is.3.0 in cc)
undone_refused (k ∷ ks) child r a u t is = either_way (has_maps_of child (slot_at u k)) (λ it. undone_refused ks child r a it.1 t it.3) (λ it. undone_refused ks child r a u t it) is
