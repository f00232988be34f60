-- What is read of a line.
use Rattle.std.specs.Prelude.{◌≡◌, ℕ, ◌+◌, ◌-◌, ◌^◌, ◌++◌, ◌&&◌, nat_lt, nat_le, if◌then◌else◌, List, [], ◌∷◌, length, take, drop, Result, Ok, Err}
use Rattle.std.specs.Option.{ok_or}
use Rattle.std.specs.Str.{all_ascii_digits}
use Rattle.std.specs.Str.Parse.{digits_value_after}
use Rattle.hp_model.specs.declared.refusal.Refusal.{Refusal}
use Rattle.hp_model.specs.declared.refusal.Refusal.TheVariants.{BadLine}
use Rattle.hp_model.specs.files.Options.{when}
use Rattle.hp_model.specs.text.Words.{Read, end_at, hex_at, pieces_of_line, ◌>>=◌}

-- what a function read, seen by `view`, is what the definition reads
abbrev pub IsReadAs : {X Y : Type 0} → (X → Y) → Result X Refusal → Result Y Refusal → Type 0
IsReadAs view (Ok x) read = read ≡ Ok (view x)
IsReadAs view (Err e) read = read ≡ Err e

-- the same of a reader, which leaves these pieces
abbrev pub Takes : {X Y : Type 0} → (X → Y) → Result X Refusal → List (List ℕ) → Read Y → Type 0
Takes view (Ok x) left read = read ≡ Ok (view x, left)
Takes view (Err e) left read = read ≡ Err e

-- the pieces of what stands from a place on, and none past the end
abbrev pub pieces_from : ℕ → List ℕ → List (List ℕ)
pieces_from at line = if nat_le at (length line) then pieces_of_line (drop at line) else []

-- the bytes from a place to another
abbrev pub between : (from to : ℕ) → List ℕ → List ℕ
between from to line = take (to - from) (drop from line)

-- the pieces whose first begins with these bytes, and goes on in the first of these
abbrev pub piece_with : List ℕ → List (List ℕ) → List (List ℕ)
piece_with front [] = front ∷ []
piece_with front (piece ∷ more) = (front ++ piece) ∷ more

-- the number whose first so many digits have this value, and whose others are the first of these pieces
abbrev pub number_with : (value digits : ℕ) → List ℕ → List (List ℕ) → Read ℕ
number_with value digits piece more =
    ok_or (when (nat_lt 0 (digits + length piece) && nat_le (digits + length piece) 20 && all_ascii_digits piece
    && nat_lt (digits_value_after 10 value piece) (2 ^ 64)) (digits_value_after 10 value piece)) BadLine
    >>= (λ number. Ok (number, more))

abbrev pub number_after : (value digits : ℕ) → List (List ℕ) → Read ℕ
number_after value digits [] = number_with value digits [] []
number_after value digits (piece ∷ more) = number_with value digits piece more

-- the bytes of hex digits that are the last word
abbrev pub last_hex : List (List ℕ) → Result (List ℕ) Refusal
last_hex pieces = hex_at pieces >>= (λ bytes. end_at bytes.1 >>= (λ done. Ok bytes.0))
