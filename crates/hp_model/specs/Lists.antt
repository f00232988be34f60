-- Words on lists that the other definitions share.
--     edit_at f xs i      xs with f applied to the element at i
--     edit_range f a b xs      xs with f applied to the elements from a up to b
--     part a b xs      the elements from a up to b
--     found test xs      the first element that passes, with its place
--     iterate n f x      f applied n times
--     distinct xs      the numbers of xs, each once
--     least_unused xs      the least number from 1 on that is not in xs
use Rattle.std.specs.Prelude.{ℕ, zero, suc, ◌+◌, ◌-◌, Bool, not, ◌==◌, List, [], ◌∷◌, ◌++◌, length, take, drop, map, if◌then◌else◌}
use Rattle.std.specs.Prelude.{Option, None, Some}
use Rattle.std.specs.Option.{option_map}
use Rattle.std.specs.List.{range_with_len, list_any, position_or_len}

abbrev pub edit_at : {X : Type 0} → (X → X) → List X → ℕ → List X
edit_at f [] i = []
edit_at f (x ∷ xs) zero = f x ∷ xs
edit_at f (x ∷ xs) (suc i) = x ∷ edit_at f xs i

abbrev pub edit_range : {X : Type 0} → (X → X) → ℕ → ℕ → List X → List X
edit_range f a b xs = take a xs ++ map f (take (b - a) (drop a xs)) ++ drop (b - a) (drop a xs)

abbrev pub part : {X : Type 0} → ℕ → ℕ → List X → List X
part a b xs = take (b - a) (drop a xs)

abbrev pub one_on : {X : Type 0} → ℕ × X → ℕ × X
one_on p = (p.0 + 1, p.1)

abbrev pub found : {X : Type 0} → (X → Bool) → List X → Option (ℕ × X)
found test [] = None
found test (x ∷ xs) = if test x then Some (0, x) else option_map one_on (found test xs)

abbrev pub iterate : {X : Type 0} → ℕ → (X → X) → X → X
iterate zero f x = x
iterate (suc n) f x = iterate n f (f x)

abbrev pub is_among : ℕ → List ℕ → Bool
is_among n xs = list_any (λ x. x == n) xs

abbrev pub distinct : List ℕ → List ℕ
distinct [] = []
distinct (x ∷ xs) = if is_among x xs then distinct xs else x ∷ distinct xs

-- one of the first length xs + 1 numbers is not in xs
abbrev pub least_unused : List ℕ → ℕ
least_unused xs = 1 + position_or_len (λ n. not (is_among n xs)) (range_with_len 1 (length xs + 1))
