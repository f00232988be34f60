-- Entries and pages in blocks of 65,536 indices; past the last block there are none.
--     entered_at words i      whether the index is entered
--     page_at rows i, has_slot_at rows i      the page of an index, and whether there is a slot for it
--     has_place words i      whether the index can be entered with no memory
use Rattle.std.specs.Prelude.{ℕ, ◌≡◌, ◌-◌, ◌*◌, ◌/◌, ◌%◌, ◌<◌, ◌≤◌, Bool, not, List, [], length, nat_lt, Option, None}
use Rattle.std.specs.List.{slice_index_or, range_with_len, count_by}
use Rattle.hp_marks.specs.Marks.{marked}
use Rattle.hp_inode.specs.Rows.{Rows, page_in, has_slot}

-- indices of a block
abbrev pub block_size : ℕ
block_size = 65536

-- blocks of a file
abbrev pub most_blocks : ℕ
most_blocks = 65536

-- the block of an index
abbrev pub block_at : {X : Type 0} → List (List X) → ℕ → List X
block_at blocks i = slice_index_or blocks (i / block_size) []

abbrev pub WordBlocks : Type 0
WordBlocks = List (List ℕ)

abbrev pub RowBlocks : Type 0
RowBlocks = List Rows

abbrev pub entered_at : WordBlocks → ℕ → Bool
entered_at words i = marked (block_at words i) (i % block_size)

abbrev pub has_word_for : WordBlocks → ℕ → Bool
has_word_for words i = nat_lt (i % block_size) (64 * length (block_at words i))

abbrev pub page_at : RowBlocks → ℕ → Option ℕ
page_at rows i = page_in (block_at rows i) (i % block_size)

abbrev pub has_slot_at : RowBlocks → ℕ → Bool
has_slot_at rows i = has_slot (block_at rows i) (i % block_size)

-- how many from a up to b are entered, and how many aren't
abbrev pub entered_count : WordBlocks → ℕ → ℕ → ℕ
entered_count words a b = count_by (entered_at words) (range_with_len a (b - a))

abbrev pub missing_count : WordBlocks → ℕ → ℕ → ℕ
missing_count words a b = count_by (λ i. not (entered_at words i)) (range_with_len a (b - a))

-- few blocks, and no page past a block's end
pub record AreBlocks (rows : RowBlocks) : Type 0 where
  pub few : length rows ≤ most_blocks
  pub within : (j k : ℕ) → block_size ≤ k → page_in (slice_index_or rows j []) k ≡ None

-- blocks, with no page from index `from` up to `to`
pub record IsRowTable (rows : RowBlocks) (from to : ℕ) : Type 0 where
  pub blocks : AreBlocks rows
  pub none_in : (k : ℕ) → from ≤ k → k < to → page_at rows k ≡ None
