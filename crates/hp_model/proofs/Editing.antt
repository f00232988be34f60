-- An edit of a range, place by place.
use Rattle.std.proofs.lemmas.Grind.{common_steps}
use Rattle.std.proofs.Common.{◌≡◌, ℕ, zero, suc, ◌+◌, ◌-◌, ◌<◌, ◌≤◌, List, [], ◌∷◌, ◌++◌, length, take, drop, map, get_or, set, refl, ap, ◌∙◌, arith, append_assoc, sum_by}
use Rattle.std.proofs.lemmas.List.{get_or-take, get_or-drop, get_or_append_left, get_or-append_right, length-take, length-drop}
use Rattle.std.proofs.lemmas.List.{length-map, take-set, drop-set, drop_more, set_split, get_or-map}
use Rattle.hp_model.proofs.Words.{edit_at, edit_range, part}

module _ {X : Type 0} (f : X → X) (a b : ℕ) (xs : List X) where
  parts : edit_range f a b xs ≡ take a xs ++ (map f (take (b - a) (drop a xs)) ++ drop (b - a) (drop a xs))
  parts = append_assoc (take a xs) (map f (take (b - a) (drop a xs))) (drop (b - a) (drop a xs))

  module _ (k : ℕ) (d : X) where
    pub get_or-edit_below : k < a → k < length xs → get_or (edit_range f a b xs) k d ≡ get_or xs k d
    get_or-edit_below below lt = grind (arith, common_steps)

    after : a ≤ k → a ≤ length xs → get_or (edit_range f a b xs) k d ≡ get_or (map f (take (b - a) (drop a xs)) ++ drop (b - a) (drop a xs)) (k - a) d
    after from le = ap (λ ys. get_or ys k d) parts ∙ get_or-append_right (take a xs) (map f (take (b - a) (drop a xs)) ++ drop (b - a) (drop a xs)) a k d (omega (arith, le, length-take a xs)) from

    pub get_or-edit_in : a ≤ k → k < b → k < length xs → get_or (edit_range f a b xs) k d ≡ f (get_or xs k d)
    get_or-edit_in from high lt =
        after from (omega (arith, from, lt))
        ∙ get_or_append_left (map f (take (b - a) (drop a xs))) (drop (b - a) (drop a xs)) d (k - a)
        (omega (arith, from, high, lt, length-map (take (b - a) (drop a xs)) f, length-take (b - a) (drop a xs), length-drop a xs))
        ∙ get_or-map f (take (b - a) (drop a xs)) (k - a) d d (omega (arith, from, high, lt, length-take (b - a) (drop a xs), length-drop a xs))
        ∙ ap f (get_or-take (b - a) (drop a xs) (k - a) d (omega (arith, from, high)) ∙ get_or-drop a xs (k - a) d ∙ ap (λ j. get_or xs j d) {x = a + (k - a)} {y = k} (omega (arith, from)))

    pub get_or-edit_within : a ≤ k → k < b → b ≤ length xs → get_or (edit_range f a b xs) k d ≡ f (get_or xs k d)
    get_or-edit_within from high le = get_or-edit_in from high (omega (arith, high, le))

    pub get_or-edit_past : a ≤ k → b ≤ k → k < length xs → get_or (edit_range f a b xs) k d ≡ get_or xs k d
    get_or-edit_past from past lt =
        after from (omega (arith, from, lt))
        ∙ get_or-append_right (map f (take (b - a) (drop a xs))) (drop (b - a) (drop a xs)) (b - a) (k - a) d
        (omega (arith, from, past, lt, length-map (take (b - a) (drop a xs)) f, length-take (b - a) (drop a xs), length-drop a xs))
        (omega (arith, from, past))
        ∙ get_or-drop (b - a) (drop a xs) (k - a - (b - a)) d ∙ get_or-drop a xs ((b - a) + (k - a - (b - a))) d
        ∙ ap (λ j. get_or xs j d) {x = a + ((b - a) + (k - a - (b - a)))} {y = k} (omega (arith, from, past))

-- one index
module _ {X : Type 0} (xs : List X) (i : ℕ) where
  one : i + 1 - i ≡ 1
  one = omega arith

  pub part_one : (d : X) → i < length xs → part i (i + 1) xs ≡ get_or xs i d ∷ []
  part_one d lt = rw (drop_more xs i d lt, one) refl

  pub edit_one : (x y : X) → i < length xs → edit_range (λ z. y) i (i + 1) (set xs i x) ≡ set xs i y
  edit_one x y lt = grind (arith, common_steps, take-set, drop-set, one, set_split)

-- ---- lengths and sums

pub length-edit_range : {X : Type 0} (f : X → X) (a b : ℕ) (xs : List X) → length (edit_range f a b xs) ≡ length xs
length-edit_range f a b xs = grind (arith, common_steps)

-- a sum over a change of a range: the part before, the changed part, the part after
pub sum_by-edit_range : {X : Type 0} (g : X → ℕ) (f : X → X) (a b : ℕ) (xs : List X)
    → sum_by g (edit_range f a b xs) ≡ sum_by g (take a xs) + sum_by g (map f (take (b - a) (drop a xs))) + sum_by g (drop (b - a) (drop a xs))
sum_by-edit_range g f a b xs = grind (arith, common_steps)

pub length-edit_at : {X : Type 0} (f : X → X) (xs : List X) (i : ℕ) → length (edit_at f xs i) ≡ length xs
length-edit_at f [] i = refl
length-edit_at f (x ∷ xs) zero = refl
length-edit_at f (x ∷ xs) (suc i) = ap suc (length-edit_at f xs i)
