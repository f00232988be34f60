-- An access through a marked map, where it has no copy, is not answered: by the tests.
use Rattle.std.proofs.Common.{◌≡◌, ℕ, ◌++◌, Bool, true, false, None, Option, Some, Ok, Err, List, [], ◌∷◌, length, refl, arith}
use Rattle.hp_laws.proofs.Variants.{Answer, NoSuchMap, NoSuchSlot, NoSuchTask, Refusal}
use Rattle.hp_model.specs.declared.step.Step.{Step}
use Rattle.hp_model.specs.declared.step.Step.TheVariants as step
use Rattle.hp_model.proofs.Words.{IsRefusedBy, MeetsTests, Mount, Reply, Slot, Spot, State, byte_tests, cut_off_test, fault_tests, first_failed, home_of, if_there, is_cut_off, is_map, slot_at, spot}
use Rattle.hp_model.proofs.Words.{spot_on}
use Rattle.hp_laws.specs.Follows.{IsStopped}

passed : (ts : List (Bool × Refusal)) (b : Bool) (r : Refusal) → first_failed (ts ++ (b, r) ∷ []) ≡ None → b ≡ false
passed [] true r e = cc
passed [] false r e = refl
passed (t ∷ ts) b r e = grind (arith, passed ts b r)

module _ (task number i : ℕ) (a : Answer) (tests : Mount → Spot → List (Bool × Refusal)) where
  by_failed : (o : Option Refusal) (b : Bool) → (o ≡ None → b ≡ false) → IsRefusedBy o (Ok a) → b ≡ false
  by_failed None b h is = h refl
  by_failed (Some r) b h is = (let never : Ok a ≡ Err r = is in cc)

  by_spot : (m : Mount) (o : Option Spot) → IsRefusedBy (if_there o NoSuchMap (λ p. first_failed (tests m p ++ cut_off_test i p))) (Ok a) → is_cut_off o i ≡ false
  by_spot m None is = refl
  by_spot m (Some p) is = by_failed (first_failed (tests m p ++ cut_off_test i p)) (is_cut_off (Some p) i) (λ e. passed (tests m p) (is_cut_off (Some p) i) _ e) is

  by_home : (h : Option ℕ) (x : Slot)
      → IsRefusedBy (if_there h NoSuchTask (λ home. if_there x NoSuchSlot (λ m. if_there (spot m (is_map task number)) NoSuchMap (λ p. first_failed (tests m p ++ cut_off_test i p))))) (Ok a)
      → is_cut_off (spot_on x task number) i ≡ false
  by_home None x is = (let never : Ok a ≡ Err NoSuchTask = is in cc)
  by_home (Some home) None is = refl
  by_home (Some home) (Some m) is = by_spot m (spot m (is_map task number)) is

pub stopped : (s : State) (x : Step) (reply : Reply) → MeetsTests s x reply → IsStopped s x reply
stopped s (step.Fault task k number i intent) (Ok a) is = by_home task number i a (λ m p. fault_tests i p) (home_of s.table task) (slot_at s k) is
stopped s (step.Load task k number i offset count) (Ok a) is = by_home task number i a (λ m p. byte_tests s.page_size i offset count p) (home_of s.table task) (slot_at s k) is
stopped s (step.Store task k number i offset bytes) (Ok a) is =
    by_home task number i a (λ m p. byte_tests s.page_size i offset (length bytes) p) (home_of s.table task) (slot_at s k) is
stopped s x reply is = grind arith
