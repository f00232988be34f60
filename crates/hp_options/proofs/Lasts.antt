-- The last of a list.
use Rattle.std.proofs.Common.{◌≡◌, ℕ, List, [], ◌∷◌, ◌-◌, ◌∙◌, ap, arith, suc, length, refl, slice_index_or}
use Rattle.hp_model.proofs.Words.{last_of}

pub last_is : (xs : List ℕ) → slice_index_or xs (length xs - 1) 0 ≡ last_of xs
last_is [] = refl
last_is (x ∷ []) = refl
last_is (x ∷ y ∷ ys) =
    let next : length (x ∷ y ∷ ys) - 1 ≡ suc (length (y ∷ ys) - 1) = omega arith in
    ap (λ i. slice_index_or (x ∷ y ∷ ys) i 0) next ∙ last_is (y ∷ ys)
