-- Bytes that are read from hex digits.
use Rattle.std.specs.Prelude.{◌≡◌, ℕ, List, Bool, true, false, MatchResult}
use Rattle.hex.specs.Hex.{decode_pairs}

-- these are the bytes of the digits, or some byte there is no digit
abbrev pub Decodes : List ℕ → List ℕ → Bool → Type 0
Decodes digits bytes good = MatchResult (decode_pairs 0 digits) (λ all. (good ≡ true) × (bytes ≡ all)) (λ e. good ≡ false)
