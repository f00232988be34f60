-- What an index reads.
use Rattle.std.proofs.lemmas.Grind.{common_steps}
use Rattle.std.proofs.Common.{◌≡◌, ◌≢◌, ◌⊎◌, ℕ, zero, suc, ◌+◌, ◌<◌, ◌≤◌, true, false, Some, List, [], ◌∷◌, ◌++◌, length, map, take, replicate, refl, sym, ap, ◌∙◌, arith, eqb, slice_get}
use Rattle.std.proofs.Common.{slice_index_or, slice_set}
use Rattle.std.specs.Global.{Vec}
use Rattle.std.proofs.lemmas.Bool.{eq-eqb, eqb-true, false≢true}
use Rattle.std.proofs.lemmas.List.{get_or-set_same, length-set, map_more}
use Rattle.hp_trail.specs.Tellers.{Claims, blank}
use Rattle.hp_trail.specs.Walk.{lists}

pub lists_long : {X : Type 0} (vs : List (Vec X)) → length (lists vs) ≡ length vs
lists_long vs = grind (arith, common_steps)

pub some_is : {X : Type 0} (a b : X) → Some a ≡ Some b → a ≡ b
some_is a b e = cc

pub lists_read : {X : Type 0} (vs : List (Vec X)) (k : ℕ) (v : Vec X) → k < length vs → v ≡ slice_index_or vs k v → slice_index_or (lists vs) k [] ≡ v.items
lists_read vs k v l e = grind (arith, common_steps)

pub lists_set : {X : Type 0} (vs : List (Vec X)) (k : ℕ) (v : Vec X) → lists (slice_set vs k v) ≡ slice_set (lists vs) k v.items
lists_set [] k v = refl
lists_set (x ∷ xs) zero v = refl
lists_set (x ∷ xs) (suc k) v = ap (λ ys. x.items ∷ ys) (lists_set xs k v)

-- an element is there below the end alone
pub row_there : {X : Type 0} (xss : List (List X)) (k i : ℕ) → i < length (slice_index_or xss k []) → k < length xss
row_there xss k i l = grind (arith, common_steps)

pub get_there : {X : Type 0} (xs : List X) (i : ℕ) (x : X) → slice_get xs i ≡ Some x → i < length xs
get_there [] i x e = cc
get_there (y ∷ ys) zero x e = omega arith
get_there (y ∷ ys) (suc i) x e = let h = get_there ys i x e in omega (arith, h)

pub there_get : {X : Type 0} (xs : List X) (i : ℕ) → i < length xs → (x : X) × (slice_get xs i ≡ Some x)
there_get [] i l = absurd (omega (arith, l))
there_get (x ∷ xs) zero l = (x, refl)
there_get (x ∷ xs) (suc i) l = there_get xs i (omega (arith, l))

-- ---- a place that is claimed

pub claim_same : (row row' : List ℕ) (place s : ℕ) → Claims row place s row' → slice_index_or row' place 0 ≡ s + 1
claim_same row row' place s c = ap (λ xs. slice_index_or xs place 0) c.now ∙ get_or-set_same row place (s + 1) 0 c.within

pub claim_other : (row row' : List ℕ) (place s n : ℕ) → Claims row place s row' → (slice_index_or row' n 0 ≡ slice_index_or row n 0) ⊎ (n ≡ place)
claim_other row row' place s n c = grind (arith, common_steps)

pub claim_long : (row row' : List ℕ) (place s : ℕ) → Claims row place s row' → length row' ≡ length row
claim_long row row' place s c = ap length c.now ∙ length-set row place (s + 1)

pub element_at : {X : Type 0} (xs : List X) (s : ℕ) (x : X) → s < length xs → x ≡ slice_index_or xs s x → slice_get xs s ≡ Some x
element_at [] s x l e = absurd (omega (arith, l))
element_at (y ∷ ys) zero x l e = ap Some (sym e)
element_at (y ∷ ys) (suc s) x l e = element_at ys s x (omega (arith, l)) e

pub map_snoc : {X Y : Type 0} (f : X → Y) (xs : List X) (x : X) → map f (xs ++ x ∷ []) ≡ map f xs ++ f x ∷ []
map_snoc f xs x = grind (arith, common_steps)

-- one trail more has its row
pub one_row_more : {X : Type 0} (rows new : List (Vec ℕ)) (slots : List (Vec X)) (i : ℕ) (v : Vec ℕ) (x : Vec X) → i < length slots → x ≡ slice_index_or slots i x
    → v.items ≡ replicate (length x.items) 0 → new ≡ rows ++ v ∷ [] → lists rows ≡ map blank (take i (lists slots))
    → lists new ≡ map blank (take (i + 1) (lists slots))
one_row_more {X} rows new slots i v x l read zeros is so_far = grind (arith, common_steps, lists_long, map_snoc, lists_read, map_more)

-- ---- rows without a zero

pub filled : (row : List ℕ) → ((k d : ℕ) → 0 ≤ k → k < length row → eqb (slice_index_or row k d) 0 ≡ false) → (i : ℕ) → i < length row → slice_index_or row i 0 ≢ 0
filled row none i l e = false≢true (sym (none i 0 (omega arith) l) ∙ eq-eqb (slice_index_or row i 0) 0 e)

pub empty_at : (row : List ℕ) (x : ℕ) → ((d : ℕ) → eqb (slice_index_or row x d) 0 ≡ true) → slice_index_or row x 0 ≡ 0
empty_at row x is = eqb-true (slice_index_or row x 0) 0 (is 0)

pub zeros_at : (n k : ℕ) → ◌≡◌ {A = ℕ} (slice_index_or (replicate n 0) k 0) 0
zeros_at n k = grind (arith, common_steps)

-- an element of one of the lists
pub read_at : {X : Type 0} (vs : List (Vec X)) (s i : ℕ) (v : Vec X) (xs : List X) (x : X) → s < length vs → v ≡ slice_index_or vs s v → xs ≡ v.items → i < length xs
    → x ≡ slice_index_or xs i x → slice_get (slice_index_or (lists vs) s []) i ≡ Some x
read_at vs s i v xs x l is same below at = ap (λ ys. slice_get ys i) (lists_read vs s v l is ∙ sym same) ∙ element_at xs i x below at

pub number_at : (xs : List ℕ) (s n : ℕ) → s < length xs → n ≡ slice_index_or xs s n → slice_index_or xs s 0 ≡ n
number_at xs s n l e = grind (arith, common_steps)
