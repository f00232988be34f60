-- A list is cut at each element that passes.
use Rattle.std.proofs.Common.{◌≡◌, List, [], ◌∷◌, ◌++◌, length, refl, sym, ◌∙◌, ap, arith, Bool, true, false}
use Rattle.std.proofs.lemmas.List.Splits.{slice_split-cons_yes, slice_split-cons_no, length-slice_split}
use Rattle.std.specs.List.{slice_split, onto_first}

pub not_empty : {X : Type 0} (p : X → Bool) (xs : List X) → slice_split p xs ≡ [] → ⊥
not_empty p xs h = let n : length (slice_split p xs) ≡ 0 = ap length h in omega (arith, length-slice_split p xs)

first_go : {X : Type 0} (p : X → Bool) (xs : List X) (ps : List (List X)) → slice_split p xs ≡ ps → (first : List X) × (more : List (List X)) × (slice_split p xs ≡ first ∷ more)
first_go p xs [] e = absurd (not_empty p xs e)
first_go p xs (first ∷ more) e = (first, more, e)

-- there is a first piece
pub first_piece : {X : Type 0} (p : X → Bool) (xs : List X) → (first : List X) × (more : List (List X)) × (slice_split p xs ≡ first ∷ more)
first_piece p xs = first_go p xs (slice_split p xs) refl

-- the pieces of two lists in one: the last of the first goes on in the first of the second
abbrev pub joined : {X : Type 0} → List (List X) → List (List X) → List (List X)
joined [] bs = bs
joined (a ∷ []) [] = a ∷ []
joined (a ∷ []) (b ∷ bs) = (a ++ b) ∷ bs
joined (a ∷ c ∷ front) bs = a ∷ joined (c ∷ front) bs

join_yes : {X : Type 0} (front bs : List (List X)) (f : List X) (m : List (List X)) → front ≡ f ∷ m → [] ∷ joined front bs ≡ joined ([] ∷ front) bs
join_yes [] bs f m e = cc
join_yes (a ∷ front) bs f m e = refl

join_no : {X : Type 0} (x : X) (front bs : List (List X)) (f : List X) (m : List (List X)) (g : List X) (n : List (List X)) → front ≡ f ∷ m →
    bs ≡ g ∷ n → onto_first x (joined front bs) ≡ joined (onto_first x front) bs
join_no x [] bs f m g n e h = cc
join_no x (a ∷ []) [] f m g n e h = cc
join_no x (a ∷ []) (b ∷ bs) f m g n e h = refl
join_no x (a ∷ c ∷ front) bs f m g n e h = refl

join_nil : {X : Type 0} (bs : List (List X)) (g : List X) (n : List (List X)) → bs ≡ g ∷ n → bs ≡ joined ([] ∷ []) bs
join_nil [] g n e = cc
join_nil (b ∷ bs) g n e = refl

append_go : {X : Type 0} (p : X → Bool) (x : X) (xs ys : List X) (b : Bool) → p x ≡ b →
    slice_split p (xs ++ ys) ≡ joined (slice_split p xs) (slice_split p ys) →
    slice_split p (x ∷ (xs ++ ys)) ≡ joined (slice_split p (x ∷ xs)) (slice_split p ys)
append_go {X} p x xs ys true t ih =
    let f = first_piece p xs in
    slice_split-cons_yes p x (xs ++ ys) t ∙ ap (λ (front : List (List X)). [] ∷ front) ih ∙ join_yes (slice_split p xs) (slice_split p ys) f.0 f.1 f.2
    ∙ ap (λ (front : List (List X)). joined front (slice_split p ys)) (sym (slice_split-cons_yes p x xs t))
append_go {X} p x xs ys false t ih =
    let f = first_piece p xs in
    let g = first_piece p ys in
    slice_split-cons_no p x (xs ++ ys) t ∙ ap (onto_first x) ih ∙ join_no x (slice_split p xs) (slice_split p ys) f.0 f.1 g.0 g.1 f.2 g.2
    ∙ ap (λ (front : List (List X)). joined front (slice_split p ys)) (sym (slice_split-cons_no p x xs t))

pub slice_split-append : {X : Type 0} (p : X → Bool) (xs ys : List X) → slice_split p (xs ++ ys) ≡ joined (slice_split p xs) (slice_split p ys)
slice_split-append p [] ys = let f = first_piece p ys in join_nil (slice_split p ys) f.0 f.1 f.2
slice_split-append p (x ∷ xs) ys = append_go p x xs ys (p x) refl (slice_split-append p xs ys)
