-- The tests of a plan, one after another, and a plan that is another at each choice.
use Rattle.std.proofs.Common.{◌≡◌, Bool, true, false, cond, List, [], ◌∷◌, Some, None, Ok, Err, refl, ap, subst}
use Rattle.hp_laws.proofs.Variants.{PoolAnswer, Refusal, Section}
use Rattle.hp_model.specs.declared.refusal.Refusal.TheVariants as r
use Rattle.hp_model.proofs.Words.{Choice, Plan, Reply, Slot, ThroughDoor, refuse, unless}
use Rattle.hp_mount_laws.specs.Done.{Enters, Tried}
use Rattle.hp_mount_laws.specs.Reach.{first_of}

pub tests_pass : (ts : List (Bool × Refusal)) (p : Plan) → first_of ts ≡ None → unless ts p ≡ p
tests_pass [] p e = refl
tests_pass (t ∷ ts) p e = passes t.0 e (tests_pass ts p)
  where
    passes : (b : Bool) → cond b (Some t.1) (first_of ts) ≡ None → (first_of ts ≡ None → unless ts p ≡ p) → cond b (refuse t.1) (unless ts p) ≡ p
    passes true e rest = cc
    passes false e rest = rest e

pub tests_fail : (ts : List (Bool × Refusal)) (p : Plan) (e : Refusal) → first_of ts ≡ Some e → unless ts p ≡ refuse e
tests_fail [] p x e = cc
tests_fail (t ∷ ts) p x e = fails t.0 e (tests_fail ts p x)
  where
    fails : (b : Bool) → cond b (Some t.1) (first_of ts) ≡ Some x → (first_of ts ≡ Some x → unless ts p ≡ refuse x) → cond b (refuse t.1) (unless ts p) ≡ refuse x
    fails true e rest = (let same : t.1 ≡ x = cc in ap refuse same)
    fails false e rest = rest e

-- plans that are the same at each choice
pub tried_as : {X : Type 0} (took : X → Section → PoolAnswer → X → Type 0) (full : X → Type 0) (p q : Choice → Plan) → ((c : Choice) → p c ≡ q c) →
    (old : Slot) (door : X) (reply : Reply) (new : Slot) (left : X) → Tried took full p old door reply new left →
    Tried took full q old door reply new left
tried_as took full p q same old door (Err r.TraceFull) new left h = (h.0, h.1, (h.2.0, h.2.1, subst Enters (same h.2.0) h.2.2))
tried_as took full p q same old door (Ok a) new left h = (h.0, h.1, subst (λ x. ThroughDoor took x old door (Ok a) new left) (same h.0) h.2)
tried_as took full p q same old door (Err other) new left h = (h.0, h.1, subst (λ x. ThroughDoor took x old door (Err other) new left) (same h.0) h.2)
