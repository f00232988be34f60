-- Where tasks have their homes after a change of the table.
use Rattle.std.proofs.Common.{arith, ◌≡◌, ℕ, ◌==◌, Bool, true, false, None, Some, Ok, [], ◌∷◌, refl, ◌∙◌, if◌then◌else◌}
use Rattle.std.proofs.lemmas.Bool.{eq-eqb, eqb-true, false_from_ne_true}
use Rattle.hp_laws.proofs.Variants.{Answer}
use Rattle.hp_model.specs.declared.event.TableEvent.TheVariants as table
use Rattle.hp_model.proofs.Words.{Table, added, home_of, is_known, removed, table_event}

pub home_added : (table : Table) (new home task : ℕ) → is_known table new ≡ false → home_of (added table new home) task ≡ (if new == task then Some home else home_of table task)
home_added [] new home task e = grind arith
home_added (x ∷ xs) new home task e =
    by_tests (x.0 == task) refl (x.0 == new) refl (λ known. home_added xs new home task known)
  where
    by_tests : (b : Bool) → (x.0 == task) ≡ b → (c : Bool) → (x.0 == new) ≡ c
        → (is_known xs new ≡ false → home_of (added xs new home) task ≡ (if new == task then Some home else home_of xs task))
        → home_of (added (x ∷ xs) new home) task ≡ (if new == task then Some home else home_of (x ∷ xs) task)
    by_tests b is true at rest = (let known : is_known (x ∷ xs) new ≡ true = rw at refl in cc)
    by_tests b is c at rest = grind (arith, false_from_ne_true, eq-eqb, eqb-true)

pub home_removed : (table : Table) (gone task : ℕ) → home_of (removed table gone) task ≡ (if gone == task then None else home_of table task)
home_removed [] gone task = grind arith
home_removed (x ∷ xs) gone task = by_tests (x.0 == gone) refl (gone == task) refl (x.0 == task) refl (home_removed xs gone task)
  where
    by_tests : (a : Bool) → (x.0 == gone) ≡ a → (b : Bool) → (gone == task) ≡ b → (c : Bool) → (x.0 == task) ≡ c
        → home_of (removed xs gone) task ≡ (if gone == task then None else home_of xs task)
        → home_of (removed (x ∷ xs) gone) task ≡ (if gone == task then None else home_of (x ∷ xs) task)
    by_tests true left true same c at rest = rw (left, same) (rest ∙ rw same refl)
    by_tests a other b other' c at rest = grind (arith, eq-eqb, eqb-true)

-- a child that is added is not its parent
pub child_is_another : (nodes parent child : ℕ) (t u : Table) (a : Answer) → table_event nodes t (table.FindAndAdd parent child) ≡ (Ok a, u) → parent ≡ child → ⊥
child_is_another nodes parent child t u a h same = grind arith
