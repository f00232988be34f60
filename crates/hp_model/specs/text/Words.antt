-- The words of a line, and what each may be read as.
use Rattle.std.specs.Prelude.{ℕ, List, [], ◌∷◌, length, Result, Ok, Err, Bool, ◌&&◌, ◌==◌, nat_le, nat_lt, if◌then◌else◌, codes}
use Rattle.std.specs.List.{slice_split, list_all}
use Rattle.std.specs.Option.{ok_or}
use Rattle.std.specs.Str.{bytes_eq}
use Rattle.hex.specs.Hex.{decode_of}
use Rattle.hp_model.specs.files.Options.{number_of as number_in}
use Rattle.hp_model.specs.declared.refusal.Refusal.{Refusal}
use Rattle.hp_model.specs.declared.refusal.Refusal.TheVariants.{BadLine}
use Rattle.hp_model.specs.declared.step.Intent.{Intent}
use Rattle.hp_model.specs.declared.step.Intent.TheVariants.{Read as ToRead, Write}
use Rattle.hp_model.specs.declared.step.Reserving.{Reserving}
use Rattle.hp_model.specs.declared.step.Reserving.TheVariants.{Reserve, NoReserve}
use Rattle.hp_model.specs.declared.step.Sharing.{Sharing}
use Rattle.hp_model.specs.declared.step.Sharing.TheVariants.{Shared, Private}

-- what stands between the spaces of a line
abbrev pub pieces_of_line : List ℕ → List (List ℕ)
pieces_of_line line = slice_split (λ b. b == 32) line

-- A reader takes the first piece, and answers what it says and the pieces after it, or that the line is bad.
abbrev pub Read : Type 0 → Type 0
Read A = Result (A × List (List ℕ)) Refusal

infixl 10 ◌>>=◌
abbrev pub ◌>>=◌ : {A B : Type 0} → Result A Refusal → (A → Result B Refusal) → Result B Refusal
(Ok x) >>= next = next x
(Err e) >>= next = Err e

unfoldable pub piece_at : List (List ℕ) → Read (List ℕ)
piece_at [] = Err BadLine
piece_at (piece ∷ more) = Ok (piece, more)

-- nothing stands after the step
unfoldable pub end_at : List (List ℕ) → Result (Unit {0}) Refusal
end_at [] = Ok tt
end_at (piece ∷ more) = Err BadLine

-- ---- words

-- the printed ASCII characters
abbrev pub is_word_byte : ℕ → Bool
is_word_byte c = nat_le 33 c && nat_le c 126

abbrev pub is_word : List ℕ → Bool
is_word piece = nat_lt 0 (length piece) && list_all is_word_byte piece

abbrev pub word_of : List ℕ → Result (List ℕ) Refusal
word_of piece = if is_word piece then Ok piece else Err BadLine

-- a name or options, whatever they hold
unfoldable pub word_at : List (List ℕ) → Read (List ℕ)
word_at pieces = do
  piece ← piece_at pieces
  word ← word_of piece.0
  Ok (word, piece.1)

-- ---- numbers

-- 1 to 20 digits whose value is below 2^64, as in a mount's options
abbrev pub number_read : List ℕ → Result ℕ Refusal
number_read piece = ok_or (number_in piece) BadLine

unfoldable pub number_at : List (List ℕ) → Read ℕ
number_at pieces = do
  piece ← piece_at pieces
  number ← number_read piece.0
  Ok (number, piece.1)

-- ---- hex

-- an even number of hex digits, in either case, and two at least
abbrev pub bytes_of_hex : List ℕ → Result (List ℕ) Refusal
bytes_of_hex piece = if nat_lt 0 (length piece) then elim (decode_of piece) [ Ok bytes ↦ Ok bytes | Err e ↦ Err BadLine ] else Err BadLine

unfoldable pub hex_at : List (List ℕ) → Read (List ℕ)
hex_at pieces = do
  piece ← piece_at pieces
  bytes ← bytes_of_hex piece.0
  Ok (bytes, piece.1)

-- ---- keywords

abbrev pub sharing_of : List ℕ → Result Sharing Refusal
sharing_of piece =
    if bytes_eq piece (codes "shared") then Ok Shared
    else if bytes_eq piece (codes "private") then Ok Private
    else Err BadLine

unfoldable pub sharing_at : List (List ℕ) → Read Sharing
sharing_at pieces = do
  piece ← piece_at pieces
  sharing ← sharing_of piece.0
  Ok (sharing, piece.1)

abbrev pub intent_of : List ℕ → Result Intent Refusal
intent_of piece =
    if bytes_eq piece (codes "read") then Ok ToRead
    else if bytes_eq piece (codes "write") then Ok Write
    else Err BadLine

unfoldable pub intent_at : List (List ℕ) → Read Intent
intent_at pieces = do
  piece ← piece_at pieces
  intent ← intent_of piece.0
  Ok (intent, piece.1)

-- nothing more, or `noreserve` and nothing more
unfoldable pub reserving_at : List (List ℕ) → Result Reserving Refusal
reserving_at [] = Ok Reserve
reserving_at (piece ∷ []) = if bytes_eq piece (codes "noreserve") then Ok NoReserve else Err BadLine
reserving_at (piece ∷ next ∷ more) = Err BadLine
