-- What a look at one place of a list tells after a change that the look does not see, or of one place.
use Rattle.std.proofs.lemmas.Grind.{common_steps}
use Rattle.std.proofs.Common.{◌≡◌, ℕ, zero, suc, ◌-◌, ◌<◌, ◌≤◌, arith, List, [], ◌∷◌, ◌++◌, length, take, drop, map, replicate, get_or, set, refl, sym, ap, ◌∙◌, subst, append_assoc}
use Rattle.std.proofs.lemmas.Bool.{cases_eq}
use Rattle.std.proofs.lemmas.List.{get_or-set_same, get_or-set_other, take-append-drop}
use Rattle.hp_model.proofs.Words.{edit_at, edit_range}

-- ---- a range of elements is changed

module _ {X : Type 0} (R : X → X → Type 0) (same : (x : X) → R x x) (d : X) where
  related_after : (xs ys zs : List X) → ((j : ℕ) → R (get_or ys j d) (get_or zs j d)) → (j : ℕ) → R (get_or (xs ++ ys) j d) (get_or (xs ++ zs) j d)
  related_after [] ys zs h j = h j
  related_after (x ∷ xs) ys zs h zero = same x
  related_after (x ∷ xs) ys zs h (suc j) = related_after xs ys zs h j

  related_mapped : (f : X → X) → ((x : X) → R (f x) x) → (xs ys : List X) (j : ℕ) → R (get_or (map f xs ++ ys) j d) (get_or (xs ++ ys) j d)
  related_mapped f h [] ys j = same (get_or ys j d)
  related_mapped f h (x ∷ xs) ys zero = h x
  related_mapped f h (x ∷ xs) ys (suc j) = related_mapped f h xs ys j

  -- each is related to what it was
  pub related_edit_range : (f : X → X) → ((x : X) → R (f x) x) → (a b : ℕ) (xs : List X) (j : ℕ) → R (get_or (edit_range f a b xs) j d) (get_or xs j d)
  related_edit_range f h a b xs j =
      let r : List X = drop a xs in
      let k : ℕ = b - a in
      let whole : take a xs ++ (take k r ++ drop k r) ≡ xs = ap (λ ys. take a xs ++ ys) (take-append-drop k r) ∙ take-append-drop a xs in
      let changed : List X = take a xs ++ (map f (take k r) ++ drop k r) in
      subst (λ ys. R (get_or ys j d) (get_or xs j d)) (sym (append_assoc (take a xs) (map f (take k r)) (drop k r)))
      (subst (λ ys. R (get_or changed j d) (get_or ys j d)) whole
      (related_after (take a xs) (map f (take k r) ++ drop k r) (take k r ++ drop k r) (related_mapped f h (take k r) (drop k r)) j))

pub get_map : {X : Type 0} (h : X → X) (d : X) → h d ≡ d → (xs : List X) (j : ℕ) → get_or (map h xs) j d ≡ h (get_or xs j d)
get_map h d e xs j = grind (arith, common_steps)

-- ---- looks

module _ {X Y : Type 0} (g : X → Y) (d : X) where
  -- one element is another, which looks the same
  pub same_put : (xs : List X) (k : ℕ) (y : X) → k < length xs → g y ≡ g (get_or xs k d) → (j : ℕ) → g (get_or (set xs k y) j d) ≡ g (get_or xs j d)
  same_put xs k y l e j = grind (arith, cases_eq, get_or-set_same, get_or-set_other)

  -- elements more that look like none
  pub same_more : (xs ys : List X) → ((j : ℕ) → g (get_or ys j d) ≡ g d) → (j : ℕ) → g (get_or (xs ++ ys) j d) ≡ g (get_or xs j d)
  same_more xs ys h j = grind (arith, common_steps)

  pub same_one : (x : X) → g x ≡ g d → (j : ℕ) → g (get_or (x ∷ []) j d) ≡ g d
  same_one x e j = grind arith

  pub same_none : (n j : ℕ) → g (get_or (replicate n d) j d) ≡ g d
  same_none n j = grind (arith, common_steps)

-- ---- an edit of one element

pub edit_other : {X : Type 0} (f : X → X) (d : X) (xs : List X) (k j : ℕ) → (j ≡ k → ⊥) → get_or (edit_at f xs k) j d ≡ get_or xs j d
edit_other f d [] k j other = refl
edit_other f d (x ∷ xs) zero (suc j) other = refl
edit_other f d (x ∷ xs) (suc k) (suc j) other = edit_other f d xs k j (λ same. other (ap suc same))
edit_other f d (x ∷ xs) k zero other = grind arith

pub edit_here : {X : Type 0} (f : X → X) (d : X) → f d ≡ d → (xs : List X) (k : ℕ) → get_or (edit_at f xs k) k d ≡ f (get_or xs k d)
edit_here f d e [] k = sym e
edit_here f d e (x ∷ xs) zero = refl
edit_here f d e (x ∷ xs) (suc k) = edit_here f d e xs k

pub edit_set : {X : Type 0} (f : X → X) (d : X) (xs : List X) (k : ℕ) → k < length xs → edit_at f xs k ≡ set xs k (f (get_or xs k d))
edit_set f d [] k l = absurd (omega (arith, l))
edit_set f d (x ∷ xs) zero l = refl
edit_set f d (x ∷ xs) (suc k) l = ap (λ ys. x ∷ ys) (edit_set f d xs k (omega (arith, l)))

pub edit_past : {X : Type 0} (f : X → X) (xs : List X) (k : ℕ) → length xs ≤ k → edit_at f xs k ≡ xs
edit_past f [] k l = refl
edit_past f (x ∷ xs) zero l = absurd (omega (arith, l))
edit_past f (x ∷ xs) (suc k) l = ap (λ ys. x ∷ ys) (edit_past f xs k (omega (arith, l)))

-- an edit that a look does not see
pub same_edit : {X Y : Type 0} (g : X → Y) (d : X) (f : X → X) → ((x : X) → g (f x) ≡ g x) → (xs : List X) (k j : ℕ) → g (get_or (edit_at f xs k) j d) ≡ g (get_or xs j d)
same_edit g d f h [] k j = refl
same_edit g d f h (x ∷ xs) zero (suc j) = refl
same_edit g d f h (x ∷ xs) (suc k) (suc j) = same_edit g d f h xs k j
same_edit g d f h (x ∷ xs) k zero = grind arith
