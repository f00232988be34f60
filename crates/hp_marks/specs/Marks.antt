-- Marks on numbers, a bit for each, 64 in a word.
--     marked words k      k has a mark
--     IsFirstFrom words n i      the first number with a mark, of those from n on, is i
use Rattle.std.specs.Prelude.{ℕ, ◌≡◌, ◌==◌, ◌/◌, ◌%◌, ◌<◌, ◌≤◌, Bool, true, false, List, Option, MatchOption}
use Rattle.std.specs.List.{slice_index_or}
use Rattle.std.specs.Int.{bit_at}

abbrev pub marked : List ℕ → ℕ → Bool
marked words k = bit_at (slice_index_or words (k / 64) 0) (k % 64) == 1

pub record IsFirstFrom (words : List ℕ) (n i : ℕ) : Type 0 where
  pub from : n ≤ i
  pub here : marked words i ≡ true
  pub none_before : (k : ℕ) → n ≤ k → k < i → marked words k ≡ false

-- the first of those from n on, or none where there is none
abbrev pub FindsFrom : List ℕ → ℕ → Option ℕ → Type 0
FindsFrom words n found = MatchOption found ((k : ℕ) → n ≤ k → marked words k ≡ false) (IsFirstFrom words n)

-- the first of those from one number up to another, or none where there is none
pub record IsFirstWithin (words : List ℕ) (from end i : ℕ) : Type 0 where
  pub below : i < end
  pub first : IsFirstFrom words from i

abbrev pub FindsWithin : List ℕ → ℕ → ℕ → Option ℕ → Type 0
FindsWithin words from end found = MatchOption found ((k : ℕ) → from ≤ k → k < end → marked words k ≡ false) (IsFirstWithin words from end)
