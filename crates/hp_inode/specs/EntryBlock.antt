-- The indices that are entered, as marks in words.
--     count_in words a b, missing_in words a b      how many from a up to b are marked, and how many aren't
--     IsEntries words marks      the marks say which words may have a bit
use Rattle.std.specs.Prelude.{ℕ, ◌≡◌, ◌-◌, ◌*◌, ◌/◌, ◌<◌, ◌≤◌, ◌^◌, true, false, ◌&&◌, not, List, length, Option, MatchOption}
use Rattle.std.specs.List.{range_with_len, count_by}
use Rattle.hp_model.specs.beside.Ranges.{within}
use Rattle.hp_marks.specs.Marks.{marked}

abbrev pub count_in : List ℕ → ℕ → ℕ → ℕ
count_in words a b = count_by (marked words) (range_with_len a (b - a))

abbrev pub missing_in : List ℕ → ℕ → ℕ → ℕ
missing_in words a b = count_by (λ i. not (marked words i)) (range_with_len a (b - a))

pub record IsEntries (words marks : List ℕ) : Type 0 where
  pub few : length marks < 2 ^ 32
  pub places : length words ≤ 64 * length marks
  pub within : (w : ℕ) → marked marks w ≡ true → w < length words
  pub none : (k : ℕ) → marked marks (k / 64) ≡ false → marked words k ≡ false

-- no mark from one number up to another
abbrev pub IsBlank : List ℕ → ℕ → ℕ → Type 0
IsBlank words low high = (k : ℕ) → low ≤ k → k < high → marked words k ≡ false

-- of the words from at up to end, the first that may have a mark
pub record IsNextWord (words : List ℕ) (at end w : ℕ) : Type 0 where
  pub from : at ≤ w
  pub within : w < length words
  pub below : w < end
  pub none_before : IsBlank words (64 * at) (64 * w)

abbrev pub FindsWord : List ℕ → ℕ → ℕ → Option ℕ → Type 0
FindsWord words at end found = MatchOption found (IsBlank words (64 * at) (64 * end)) (IsNextWord words at end)

-- so many of the indices from a up to b were taken out of the old words, and no others
pub record IsRemoved (a b : ℕ) (old new : List ℕ) (count : ℕ) : Type 0 where
  pub counted : count ≡ count_in old a b
  pub left : (k : ℕ) → marked new k ≡ (marked old k && not (within a b k))
