-- A range of places that left.
use Rattle.std.proofs.Common.{min, None, Bool, if◌then◌else◌, ◌≡◌, ℕ, zero, suc, ◌+◌, ◌-◌, ◌<◌, ◌≤◌, List, [], ◌∷◌, ◌++◌, length, take, drop, map, slice_index_or, refl, sym, ◌∙◌, ap, arith, cond}
use Rattle.std.proofs.Common.{sum_by, count_by}
use Rattle.std.proofs.lemmas.List.{same_lists, get_or_default, take-append-drop}
use Rattle.std.proofs.lemmas.List.Sums.{sum_by-append}
use Rattle.hp_model.specs.declared.place.Place.{Place}
use Rattle.hp_model.specs.declared.place.Place.TheVariants.{Gone}
use Rattle.hp_model.proofs.Words.{Mapping, copy_of, edit_range, is_unconsumed, part, place_at}
use Rattle.hp_mapping.specs.Mapped.{IsClear, reserves_in}
use Rattle.std.proofs.lemmas.Bool.Decides.{nat_tests}
use Rattle.std.proofs.lemmas.Grind.{common_steps}

same_places : (old new : List (Place ℕ)) → length new ≡ length old → ((k : ℕ) → slice_index_or new k Gone ≡ slice_index_or old k Gone) → new ≡ old
same_places old new len same =
    same_lists new old len (λ k d below. get_or_default new k d Gone below ∙ same k ∙ get_or_default old k Gone d (omega arith))

-- n places from a on
left_places : (a n : ℕ) (old new : List (Place ℕ)) → length new ≡ length old
    → ((k : ℕ) → k < a → slice_index_or new k Gone ≡ slice_index_or old k Gone)
    → ((k : ℕ) → a ≤ k → k < a + n → slice_index_or new k Gone ≡ Gone)
    → ((k : ℕ) → a + n ≤ k → slice_index_or new k Gone ≡ slice_index_or old k Gone)
    → new ≡ take a old ++ map (λ p. Gone) (take n (drop a old)) ++ drop n (drop a old)
left_places zero zero old new len below gone rest = same_places old new len (λ k. rest k (omega arith))
left_places zero (suc n) [] [] len below gone rest = refl
left_places zero (suc n) [] (y ∷ ys) len below gone rest = absurd (omega arith)
left_places zero (suc n) (x ∷ xs) [] len below gone rest = absurd (omega arith)
left_places zero (suc n) (x ∷ xs) (y ∷ ys) len below gone rest =
    let head : y ≡ Gone = gone 0 (omega arith) (omega arith) in
    let tail : ys ≡ map (λ p. Gone) (take n xs) ++ drop n xs = left_places zero n xs ys (omega arith) (λ k less. absurd (omega arith))
    (λ k le less. gone (suc k) (omega arith) (omega arith)) (λ k le. rest (suc k) (omega arith)) in
    cc
left_places (suc a) zero [] [] len below gone rest = refl
left_places (suc a) (suc n) [] [] len below gone rest = refl
left_places (suc a) n [] (y ∷ ys) len below gone rest = absurd (omega arith)
left_places (suc a) n (x ∷ xs) [] len below gone rest = absurd (omega arith)
left_places (suc a) n (x ∷ xs) (y ∷ ys) len below gone rest =
    let head : y ≡ x = below 0 (omega arith) in
    let tail = left_places a n xs ys (omega arith) (λ k less. below (suc k) (omega arith)) (λ k le less. gone (suc k) (omega arith) (omega arith)) (λ k le. rest (suc k) (omega arith)) in
    cc

-- the places from a up to b left, and the others stayed
pub left_range : (a b : ℕ) (old new : List (Place ℕ)) → a ≤ b → length new ≡ length old
    → ((k : ℕ) → k < a → slice_index_or new k Gone ≡ slice_index_or old k Gone)
    → ((k : ℕ) → a ≤ k → k < b → slice_index_or new k Gone ≡ Gone)
    → ((k : ℕ) → b ≤ k → slice_index_or new k Gone ≡ slice_index_or old k Gone)
    → new ≡ edit_range (λ p. Gone) a b old
left_range a b old new order len below gone rest =
    left_places a (b - a) old new len below (λ k le less. gone k le (omega arith)) (λ k le. rest k (omega arith))

abbrev reserve_of : Place ℕ → ℕ
reserve_of p = cond (is_unconsumed p) 1 0

none_gone : (xs : List (Place ℕ)) → sum_by reserve_of (map (λ p. Gone) xs) ≡ 0
none_gone [] = refl
none_gone (x ∷ xs) = none_gone xs

-- the reservations that a range frees
pub freed_range : (a b : ℕ) (xs : List (Place ℕ)) → sum_by reserve_of (edit_range (λ p. Gone) a b xs) + sum_by reserve_of (part a b xs) ≡ sum_by reserve_of xs
freed_range a b xs =
    let front = take a xs in
    let mid = take (b - a) (drop a xs) in
    let back = drop (b - a) (drop a xs) in
    let whole : xs ≡ front ++ (mid ++ back) = sym (ap (λ ys. front ++ ys) (take-append-drop (b - a) (drop a xs)) ∙ take-append-drop a xs) in
    let all = ap (sum_by reserve_of) whole in
    let gone : List (Place ℕ) = map (λ p. Gone) mid in
    omega (
      arith,
      all,
      sum_by-append reserve_of front (mid ++ back),
      sum_by-append reserve_of mid back,
      sum_by-append reserve_of (front ++ gone) back,
      sum_by-append reserve_of front gone,
      none_gone mid,
    )

-- the same range, clipped to the places that there are
pub clipped_part : (a b : ℕ) (xs : List (Place ℕ)) → part (min a (length xs)) (min b (length xs)) xs ≡ part a b xs
clipped_part a b xs = grind (arith, common_steps)

pub at_start : (m : Mapping ℕ) (k : ℕ) → place_at m (m.start + k) ≡ slice_index_or m.places k Gone
at_start m k = grind (arith, common_steps, nat_tests)

-- no copy in the range, said of the places
pub clear_places : (a b from to : ℕ) (m : Mapping ℕ) (xs : List (Place ℕ)) → m.places ≡ xs → IsClear a b m → from ≡ min (a - m.start) (length m.places) → to ≡ min (b - m.start) (length m.places)
    → (k : ℕ) → from ≤ k → k < to → copy_of (slice_index_or xs k Gone) ≡ None
clear_places a b from to m xs e clear f t k le less = rw e at (rw (at_start m k) at (clear (m.start + k) (omega arith) (omega arith)))

-- the reservations of the range, said of the places
pub freed_reserves : (a b from to : ℕ) (m : Mapping ℕ) (xs : List (Place ℕ)) (owned : Bool) → m.places ≡ xs → m.owner ≡ owned →
    from ≡ min (a - m.start) (length m.places) → to ≡ min (b - m.start) (length m.places)
    → reserves_in a b m ≡ (if owned then count_by is_unconsumed (part from to xs) else 0)
freed_reserves a b from to m xs owned e o f t = rw (o, ← e, f, t) (ap (λ ys. if owned then count_by is_unconsumed ys else 0) (sym (clipped_part (a - m.start) (b - m.start) m.places)))
