-- The first line of a connection, by which a client is known that speaks another protocol.
use Rattle.std.specs.Prelude.{◌≡◌, ℕ, ◌∷◌, ◌++◌, [], ◌==◌, ◌&&◌, ◌||◌, Bool, true, false, if◌then◌else◌, Contains, List, nat_le, not, take}
use Rattle.std.specs.Counts.{IsPrefixLen}
use Rattle.std.specs.List.{list_all}
use Rattle.hp_serving.specs.declared.first_line.Tail.{Tail}
use Rattle.hp_serving.specs.declared.first_line.Tail.TheVariants.{Other, Space, H, Ht, Htt, Http, Slash, Digit}
use Rattle.hp_serving.specs.declared.first_line.FirstLine.{FirstLine}
use Rattle.hp_serving.specs.declared.first_line.FirstLine.TheVariants.{Open, Returned, Over, Foreign}

-- ---- what no client of the protocol sends

-- visible ASCII, or a space
abbrev pub is_plain : ℕ → Bool
is_plain byte = nat_le 32 byte && nat_le byte 126

abbrev pub is_digit : ℕ → Bool
is_digit byte = nat_le 48 byte && nat_le byte 57

-- nothing is left of the line: a line feed comes, or the end of all
abbrev pub is_ended : List ℕ → Bool
is_ended [] = true
is_ended (byte ∷ bytes) = byte == 10

-- the bytes before the first line feed, or all; a carriage return that stands last among them is none
abbrev pub first_line : List ℕ → List ℕ
first_line [] = []
first_line (byte ∷ bytes) = if byte == 10 || (byte == 13 && is_ended bytes) then [] else byte ∷ first_line bytes

-- numbers of digits, with one point between two, where a digit stands before or none does
abbrev pub is_rest_of_version : Bool → List ℕ → Bool
is_rest_of_version digit [] = digit
is_rest_of_version digit (byte ∷ bytes) =
    if is_digit byte then is_rest_of_version true bytes else ((byte == 46 && digit) && is_rest_of_version false bytes)

abbrev pub is_version : List ℕ → Bool
is_version bytes = is_rest_of_version false bytes

-- this byte, and then what passes the test
abbrev pub is_then : ℕ → (List ℕ → Bool) → List ℕ → Bool
is_then first test [] = false
is_then first test (byte ∷ bytes) = byte == first && test bytes

-- `HTTP/` and a version
abbrev pub is_protocol : List ℕ → Bool
is_protocol bytes = is_then 72 (is_then 84 (is_then 84 (is_then 80 (is_then 47 is_version)))) bytes

-- it ends in ` HTTP/` and a version
abbrev pub ends_as_request : List ℕ → Bool
ends_as_request [] = false
ends_as_request (byte ∷ bytes) = (byte == 32 && is_protocol bytes) || ends_as_request bytes

-- the first line of what a client sends has a byte outside of visible ASCII and space, or ends in ` HTTP/` and a version
abbrev pub is_foreign : List ℕ → Bool
is_foreign input = not (list_all is_plain (first_line input)) || ends_as_request (first_line input)

-- ---- the same, where the front of it was read

-- the rest of what began so makes it end in ` HTTP/` and a version
abbrev pub goes_on : Tail → List ℕ → Bool
goes_on Other rest = false
goes_on Space rest = is_protocol rest
goes_on H rest = is_then 84 (is_then 84 (is_then 80 (is_then 47 is_version))) rest
goes_on Ht rest = is_then 84 (is_then 80 (is_then 47 is_version)) rest
goes_on Htt rest = is_then 80 (is_then 47 is_version) rest
goes_on Http rest = is_then 47 is_version rest
goes_on Slash rest = is_version rest
goes_on Digit rest = is_rest_of_version true rest

-- a line ends in ` HTTP/` and a version, by what its front ends in and what is left of it
abbrev pub ends_so : Tail → List ℕ → Bool
ends_so tail rest = goes_on tail rest || ends_as_request rest

-- a connection is foreign, by what was read of its first line and what comes
abbrev pub is_foreign_from : FirstLine → List ℕ → Bool
is_foreign_from (Open tail) input = not (list_all is_plain (first_line input)) || ends_so tail (first_line input)
is_foreign_from (Returned tail) input = if is_ended input then ends_so tail [] else true
is_foreign_from Over input = false
is_foreign_from Foreign input = true

-- whatever comes, it is known
abbrev pub IsKnown : FirstLine → Type 0
IsKnown (Open tail) = ⊥
IsKnown (Returned tail) = ⊥
IsKnown Over = Unit {0}
IsKnown Foreign = Unit {0}

-- These bytes were read and are handed on: what comes behind them decides as before. Where a line has ended in them, it is decided, and the connection is one of
-- the protocol.
abbrev pub IsPassed : FirstLine → FirstLine → List ℕ → Type 0
IsPassed old new bytes =
    ((input : List ℕ) → is_foreign_from new input ≡ is_foreign_from old (bytes ++ input))
    × (Contains bytes 10 → (input : List ℕ) → is_foreign_from old (bytes ++ input) ≡ false)

-- a front of the buffer was read, and by it the connection is foreign
abbrev pub IsRefused : FirstLine → List ℕ → Type 0
IsRefused old buffer = (n : ℕ) × IsPrefixLen n buffer × (is_foreign_from old (take n buffer) ≡ true)
