-- Changes of the cells of a file and of the places of a map, index by index.
use Rattle.std.proofs.Common.{arith, ◌≡◌, ◌⊎◌, inl, inr, subst, ℕ, zero, suc, ◌+◌, ◌-◌, ◌<◌, Bool, true, false, List, [], ◌∷◌, ◌++◌, length, take, drop, map, refl, sym, ap, ◌∙◌, if◌then◌else◌}
use Rattle.std.proofs.Common.{slice_index_or, slice_set, ◌==◌, nat_lt}
use Rattle.std.proofs.lemmas.Bool.{eq-eqb, eqb-true, false_from_ne_true, ltb-false}
use Rattle.std.proofs.lemmas.List.{set-get_or}
use Rattle.hp_laws.proofs.Variants.{Cell, Place, Gone}
use Rattle.hp_model.proofs.Words.{Copy, File, Map, Mount, Page, edit_at, edit_range, is_in, with_file, place_at}
use Rattle.hp_model.specs.machine.Footprint.{at_each, with_places}
use Rattle.hp_laws.proofs.counts.MountMoves.{IsFileAt}

abbrev span : {X : Type 0} → (X → X) → (u w : ℕ) → List X → List X
span f u w xs = take u xs ++ map f (take w (drop u xs)) ++ drop w (drop u xs)

span_nil : {X : Type 0} (f : X → X) (u w : ℕ) → [] ≡ span f u w []
span_nil f zero zero = refl
span_nil f zero (suc w) = refl
span_nil f (suc u) zero = refl
span_nil f (suc u) (suc w) = refl

-- before the range, in it, and after it
abbrev Where : (t : Bool) (u w v y : ℕ) → Type 0
Where t u w v y = ((t ≡ false) × (u ≡ suc v) × (w ≡ y)) ⊎ (((t ≡ true) × (u ≡ 0) × (v ≡ 0) × (w ≡ suc y)) ⊎ ((t ≡ false) × (u ≡ 0) × (v ≡ 0) × (w ≡ 0) × (y ≡ 0)))

span_next : {X : Type 0} (f : X → X) (t : Bool) (u w v y : ℕ) (x : X) (xs rest : List X) → rest ≡ span f v y xs → Where t u w v y → (if t then f x else x) ∷ rest ≡ span f u w (x ∷ xs)
span_next f t u w v y x xs rest same (inl e) =
    subst (λ t. (if t then f x else x) ∷ rest ≡ span f u w (x ∷ xs)) (sym e.0)
    (subst (λ u. x ∷ rest ≡ span f u w (x ∷ xs)) (sym e.1) (subst (λ w. x ∷ rest ≡ x ∷ span f v w xs) (sym e.2) (ap (λ r. x ∷ r) same)))
span_next f t u w v y x xs rest same (inr (inl e)) =
    subst (λ t. (if t then f x else x) ∷ rest ≡ span f u w (x ∷ xs)) (sym e.0)
    (subst (λ u. f x ∷ rest ≡ span f u w (x ∷ xs)) (sym e.1) (subst (λ w. f x ∷ rest ≡ span f 0 w (x ∷ xs)) (sym e.3) (ap (λ r. f x ∷ r) (subst (λ v. rest ≡ span f v y xs) e.2 same))))
span_next f t u w v y x xs rest same (inr (inr e)) =
    subst (λ t. (if t then f x else x) ∷ rest ≡ span f u w (x ∷ xs)) (sym e.0)
    (subst (λ u. x ∷ rest ≡ span f u w (x ∷ xs)) (sym e.1) (subst (λ w. x ∷ rest ≡ span f 0 w (x ∷ xs)) (sym e.3)
    (ap (λ r. x ∷ r) (subst (λ v. rest ≡ span f v 0 xs) e.2 (subst (λ y. rest ≡ span f v y xs) e.4 same)))))

where_is : (a b n : ℕ) → Where (is_in a b n) (a - n) ((b - n) - (a - n)) (a - (n + 1)) ((b - (n + 1)) - (a - (n + 1)))
where_is a b n = grind arith

pub each_in : {X : Type 0} (f : X → X) (a b n : ℕ) (xs : List X) → at_each (λ i x. if is_in a b i then f x else x) n xs ≡ span f (a - n) ((b - n) - (a - n)) xs
each_in f a b n [] = span_nil f (a - n) ((b - n) - (a - n))
each_in f a b n (x ∷ xs) = span_next f (is_in a b n) _ _ _ _ x xs _ (each_in f a b (n + 1) xs) (where_is a b n)

pub map_all : {X Y : Type 0} (g h : X → Y) → ((x : X) → g x ≡ h x) → (xs : List X) → map g xs ≡ map h xs
map_all g h e [] = refl
map_all g h e (x ∷ xs) = ap (λ y. y ∷ map g xs) (e x) ∙ ap (λ ys. h x ∷ ys) (map_all g h e xs)

-- a change of a map's places in a range of the file's indices
pub places_in : (f : Place Copy → Place Copy) (a b : ℕ) (m : Map) → record m { places = edit_range f (a - m.start) (b - m.start) m.places } ≡ with_places (λ i p. if is_in a b i then f p else p) m
places_in f a b m = ap (λ ps. record m { places = ps }) (sym (each_in f a b m.start m.places))

pub cells_in : (f : Cell Page → Cell Page) (a b : ℕ) (cells : List (Cell Page)) → edit_range f a b cells ≡ at_each (λ i c. if is_in a b i then f c else c) 0 cells
cells_in f a b cells =
    let none : (n : ℕ) → n - 0 ≡ n = λ n. omega arith in
    ap (λ u. span f u (b - a) cells) (sym (none a)) ∙ ap (λ w. span f (a - 0) w cells) (let e : b - a ≡ (b - 0) - (a - 0) = omega arith in e) ∙ sym (each_in f a b 0 cells)

-- ---- element by element

-- a look at one
pub each_of : {X Y : Type 0} (g : X → Y) (f : ℕ → X → X) (d : X) → ((n : ℕ) → g (f n d) ≡ g d) → (n : ℕ) (xs : List X) (j k : ℕ) → k ≡ n + j
    → g (slice_index_or (at_each f n xs) j d) ≡ g (f k (slice_index_or xs j d))
each_of g f d none n [] j k e = sym (none k)
each_of g f d none n (x ∷ xs) zero k e = ap (λ i. g (f i x)) (let same : n ≡ k = omega (arith, e) in same)
each_of g f d none n (x ∷ xs) (suc j) k e = each_of g f d none (n + 1) xs j k (omega (arith, e))

pub length-each : {X : Type 0} (f : ℕ → X → X) (n : ℕ) (xs : List X) → length (at_each f n xs) ≡ length xs
length-each f n [] = refl
length-each f n (x ∷ xs) = ap suc (length-each f (n + 1) xs)

pub placed_each : (g : ℕ → Place Copy → Place Copy) → ((n : ℕ) → g n Gone ≡ Gone) → (y : Map) (i : ℕ) → place_at (with_places g y) i ≡ g i (place_at y i)
placed_each g none y i = by_low (nat_lt i y.start) refl
  where
    by_low : (b : Bool) → nat_lt i y.start ≡ b
        → (if b then Gone else slice_index_or (at_each g y.start y.places) (i - y.start) Gone) ≡ g i (if b then Gone else slice_index_or y.places (i - y.start) Gone)
    by_low true low = sym (none i)
    by_low false low = (let past = ltb-false i y.start low in each_of (λ p. p) g Gone none y.start y.places (i - y.start) i (omega (arith, past)))

pub at_each_same : {X : Type 0} (f g : ℕ → X → X) (d : X) (j : ℕ) (xs : List X)
    → ((i n : ℕ) → n ≡ j + i → i < length xs → f n (slice_index_or xs i d) ≡ g n (slice_index_or xs i d)) → at_each f j xs ≡ at_each g j xs
at_each_same f g d j [] h = refl
at_each_same f g d j (x ∷ xs) h =
    ap (λ y. y ∷ at_each f (j + 1) xs) (h 0 j (omega arith) (omega arith))
    ∙ ap (λ ys. g j x ∷ ys) (at_each_same f g d (j + 1) xs (λ i n e l. h (suc i) n (omega (arith, e)) (omega (arith, l))))

pub at_each_none : {X : Type 0} (j : ℕ) (xs : List X) → at_each (λ i x. x) j xs ≡ xs
at_each_none j [] = refl
at_each_none j (x ∷ xs) = ap (λ ys. x ∷ ys) (at_each_none (j + 1) xs)

pub map_at : {X Y : Type 0} (g h : X → Y) (d : X) (xs : List X) → ((l : ℕ) → l < length xs → g (slice_index_or xs l d) ≡ h (slice_index_or xs l d)) → map g xs ≡ map h xs
map_at g h d [] same = refl
map_at g h d (x ∷ xs) same =
    ap (λ y. y ∷ map g xs) (same 0 (omega arith)) ∙ ap (λ ys. h x ∷ ys) (map_at g h d xs (λ l low. same (suc l) (omega (arith, low))))

pub at_each_is : {X : Type 0} (f : ℕ → X → X) (d : X) (j : ℕ) (xs ys : List X) → length ys ≡ length xs
    → ((i n : ℕ) → n ≡ j + i → i < length xs → slice_index_or ys i d ≡ f n (slice_index_or xs i d)) → ys ≡ at_each f j xs
at_each_is f d j [] [] many h = refl
at_each_is f d j (x ∷ xs) (y ∷ ys) many h =
    ap (λ z. z ∷ ys) (h 0 j (omega arith) (omega arith))
    ∙ ap (λ zs. f j x ∷ zs) (at_each_is f d (j + 1) xs ys (omega (arith, many)) (λ i n e l. h (suc i) n (omega (arith, e)) (omega (arith, l))))
at_each_is f d j [] (y ∷ ys) many h = absurd (omega (arith, many))
at_each_is f d j (x ∷ xs) [] many h = absurd (omega (arith, many))

-- one is put in the place of what it was changed to
pub put_each : {X : Type 0} (h : X → X) (y : X) (k j : ℕ) (xs : List X) → slice_set (map h xs) k y ≡ at_each (λ i x. if i == j + k then y else h x) j xs
put_each h y k j [] = refl
put_each {X = X} h y zero j (x ∷ xs) =
    let here : (j == j + zero) ≡ true = eq-eqb j (j + zero) (omega arith) in
    sym (ap (λ b. (if b then y else h x) ∷ map h xs) here) ∙ ap (λ ys. (if j == j + zero then y else h x) ∷ ys) (after xs (j + 1) (omega arith))
  where
    after : (ys : List X) (l : ℕ) → j < l → map h ys ≡ at_each (λ i z. if i == j + zero then y else h z) l ys
    after [] l low = refl
    after (z ∷ zs) l low =
        let none : (l == j + zero) ≡ false = false_from_ne_true (l == j + zero) (λ e. (let same = eqb-true l (j + zero) e in absurd (omega (arith, same, low)))) in
        sym (ap (λ b. (if b then y else h z) ∷ map h zs) none) ∙ ap (λ ws. (if l == j + zero then y else h z) ∷ ws) (after zs (l + 1) (omega (arith, low)))
put_each h y (suc k) j (x ∷ xs) =
    let none : (j == j + suc k) ≡ false = false_from_ne_true (j == j + suc k) (λ e. (let same = eqb-true j (j + suc k) e in absurd (omega (arith, same)))) in
    let next : (j + 1) + k ≡ j + suc k = omega arith in
    ap (λ ys. h x ∷ ys) (put_each h y k (j + 1) xs ∙ ap (λ n. at_each (λ i z. if i == n then y else h z) (j + 1) xs) next)
    ∙ sym (ap (λ b. (if b then y else h x) ∷ at_each (λ i z. if i == j + suc k then y else h z) (j + 1) xs) none)

pub put_all : {X : Type 0} (h : X → X) (y : X) (k : ℕ) (xs : List X) → slice_set (map h xs) k y ≡ at_each (λ i x. if i == k then y else h x) 0 xs
put_all h y k xs = put_each h y k 0 xs ∙ (let same : 0 + k ≡ k = omega arith in ap (λ n. at_each (λ i x. if i == n then y else h x) 0 xs) same)

-- an edit of what was put
pub edit_put : {X : Type 0} (f : X → X) (xs : List X) (k : ℕ) (y : X) → edit_at f (slice_set xs k y) k ≡ slice_set xs k (f y)
edit_put f [] k y = refl
edit_put f (x ∷ xs) zero y = refl
edit_put f (x ∷ xs) (suc k) y = ap (λ ys. x ∷ ys) (edit_put f xs k y)

-- a file in its own place
pub file_itself : (m : Mount) (k : ℕ) (f : File) → IsFileAt m k f → with_file m k f ≡ m
file_itself m k f at =
    ap (λ (files : List File). record m { files = files }) (ap (λ x. slice_set m.files k x) (sym (at.is f)) ∙ set-get_or m.files k f)
