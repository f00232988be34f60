-- Lists of names that compare as equal are the same.
use Rattle.std.proofs.Common.{arith, ◌≡◌, ◌≢◌, ℕ, Bool, true, false, ◌&&◌, List, [], ◌∷◌, refl, ap, ◌∙◌, nat_eq}
use Rattle.std.proofs.lemmas.Grind.{common_steps}
use Rattle.std.specs.Cmp.Lexicographic.{pointwise}
use Rattle.std.proofs.lemmas.Bool.{eqb-true, eq-eqb, and_parts}

pub same_list : {X : Type 0} (R : X → X → Bool) → ((x y : X) → R x y ≡ true → x ≡ y) → (xs ys : List X) → pointwise R xs ys ≡ true → xs ≡ ys
same_list R h [] [] e = refl
same_list R h [] (y ∷ ys) e = cc
same_list R h (x ∷ xs) [] e = cc
same_list R h (x ∷ xs) (y ∷ ys) e =
    let both = and_parts (R x y) (pointwise R xs ys) e in
    ap (λ z. z ∷ xs) (h x y both.0) ∙ ap (λ zs. y ∷ zs) (same_list R h xs ys both.1)

pub same_names : (xs ys : List (List ℕ)) → pointwise (pointwise nat_eq) xs ys ≡ true → xs ≡ ys
same_names = same_list (pointwise nat_eq) (same_list nat_eq (λ x y e. eqb-true x y e))

pub own_list : {X : Type 0} (R : X → X → Bool) → ((x : X) → R x x ≡ true) → (xs : List X) → pointwise R xs xs ≡ true
own_list R h [] = refl
own_list R h (x ∷ xs) = (λ i. h x i && own_list R h xs i)

pub own_rows : {X : Type 0} (R : X → X → Bool) → ((x : X) → R x x ≡ true) → (xs ys : List X) → pointwise R xs ys ≡ false → xs ≡ ys → ⊥
own_rows R h xs ys e is = grind (arith, common_steps, own_list)

pub other_names : (xs ys : List (List ℕ)) → pointwise (pointwise nat_eq) xs ys ≡ false → xs ≢ ys
other_names = own_rows (pointwise nat_eq) (own_list nat_eq (λ x. eq-eqb x x refl))
