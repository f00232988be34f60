-- Pages and reservations that go back, by what code did.
use Rattle.std.proofs.Common.{◌≡◌, ℕ, suc, zero, ◌+◌, ◌-◌, ◌<◌, ◌==◌, ◌&&◌, Bool, true, false, List, ◌∷◌, Some, None, Ok, map, refl, sym, ap, subst, ◌∙◌, arith, count_by, sum}
use Rattle.std.specs.List.{range_with_len}
use Rattle.std.proofs.lemmas.Bool.{and_parts, cond_both, eqb-true}
use Rattle.hp_laws.proofs.Variants.{Answer, Done, GiveBack, PoolAnswer, Section}
use Rattle.hp_model.proofs.Words.{Answered, Ask, Finish, Mount, Page, Slot, ThroughDoor, committed_of, fall_of, gives, granted_at, pages_at, puts_of, slot_pages_at}
use Rattle.hp_mount_door.specs.Door.{GivesBack, by_node}

module _ {X : Type 0} (took : X → Section → PoolAnswer → X → Type 0) (answer : Answer) (old new : Slot) (pages : List Page) (commitments : ℕ)
    (door left : X) (nodes : (n : ℕ) → count_by (λ (page : Page). page.node == n) pages ≡ slot_pages_at n old - slot_pages_at n new)
    (falls : commitments ≡ fall_of old new)
    (given : GivesBack took pages commitments door left) where
  abbrev puts : List ℕ
  puts = puts_of old new

  puts_are : by_node pages ≡ puts
  puts_are = each 4 0
    where
      each : (k a : ℕ) → map (λ n. count_by (λ (page : Page). page.node == n) pages) (range_with_len a k) ≡ map (λ n. slot_pages_at n old - slot_pages_at n new) (range_with_len a k)
      each zero a = refl
      each (suc k) a = ap (λ x. x ∷ map (λ n. count_by (λ (page : Page). page.node == n) pages) (range_with_len (a + 1) k)) (nodes a)
          ∙ ap (λ xs. (slot_pages_at a old - slot_pages_at a new) ∷ xs) (each k (a + 1))

  abbrev test : Bool
  test = (sum puts == 0) && (fall_of old new == 0)

  pub gave : ThroughDoor took (gives answer old new) old door (Ok answer) new left
  gave = cond_both test (Finish (Answered answer new)) (Ask (λ nr. GiveBack puts (fall_of old new)) (λ a. Answered answer new)) (λ plan. ThroughDoor took plan old door (Ok answer) new left)
      (λ none.
      let parts = and_parts (sum puts == 0) (fall_of old new == 0) none in
      let no_puts : sum puts ≡ 0 = eqb-true (sum puts) 0 parts.0 in
      let no_fall : fall_of old new ≡ 0 = eqb-true (fall_of old new) 0 parts.1 in
      let same = ap sum puts_are in
      ((refl, refl), given.none (omega (arith, no_puts, no_fall, same, falls))))
      (λ some. (
        granted_at 0,
        subst (λ d. took door (GiveBack puts d) (granted_at 0) left) falls
            (subst (λ xs. took door (GiveBack xs commitments) (granted_at 0) left) puts_are (given.some (something some))),
        (refl, refl),
      ))
    where
      something : test ≡ false → 0 < sum (by_node pages) + commitments
      something e = by (sum (by_node pages)) commitments refl refl
        where
          clash : true ≡ false → ⊥
          clash e = cc

          by : (a b : ℕ) → sum (by_node pages) ≡ a → commitments ≡ b → 0 < sum (by_node pages) + commitments
          by zero zero a_is b_is = absurd (clash (sym (ap (λ n. (n == 0) && (fall_of old new == 0)) (ap sum (sym puts_are) ∙ a_is) ∙ ap (λ n. n == 0) (sym falls ∙ b_is)) ∙ e))
          by zero (suc b) a_is b_is = omega (arith, b_is)
          by (suc a) b a_is b_is = omega (arith, a_is)

-- a mount that ends
pub ended : {X : Type 0} (took : X → Section → PoolAnswer → X → Type 0) (m : Mount) (pages : List Page) (commitments : ℕ) (door left : X) →
    ((n : ℕ) → count_by (λ (page : Page). page.node == n) pages ≡ pages_at n m) → commitments ≡ committed_of m
    → GivesBack took pages commitments door left → ThroughDoor took (gives Done (Some m) None) (Some m) door (Ok Done) None left
ended took m pages commitments door left nodes committed given = gave took Done (Some m) None pages commitments door left
    (λ n. (let same = nodes n in omega (arith, same))) (omega (arith, committed)) given
