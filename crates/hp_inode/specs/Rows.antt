-- The rows of a page table: for each chunk of 64 indices no slot yet, or one slot for each.
--     slot_in rows j k      the page in slot k of chunk j
--     page_in rows i, has_slot rows i      the page of an index, and whether there is a slot for it
--     IsFirstPage pages a i      the first with a page, of those from an index on
--     IsTaken old new a b i page      the first page of those from a up to b was taken out, at index i
--     MakesSlot page has i old new result      index i has a slot now, if there was memory
--     IsTable rows words marks      the words and their marks say where there are pages
use Rattle.std.specs.Prelude.{ℕ, ◌≡◌, ◌*◌, ◌/◌, ◌%◌, ◌<◌, ◌≤◌, ◌^◌, Bool, true, false, List, [], length, nat_lt, Option, None, Some, IsSome, MatchOption, Result, OnOk}
use Rattle.std.specs.Option.{is_some}
use Rattle.std.specs.List.{slice_index_or}
use Rattle.hp_marks.specs.Marks.{marked}

abbrev pub Rows : Type 0
Rows = List (List (Option ℕ))

abbrev pub slot_in : Rows → ℕ → ℕ → Option ℕ
slot_in rows j k = slice_index_or (slice_index_or rows j []) k None

abbrev pub page_in : Rows → ℕ → Option ℕ
page_in rows i = slot_in rows (i / 64) (i % 64)

abbrev pub has_slot : Rows → ℕ → Bool
has_slot rows i = nat_lt (i % 64) (length (slice_index_or rows (i / 64) []))

pub record IsFirstPage (pages : ℕ → Option ℕ) (a i : ℕ) : Type 0 where
  pub from : a ≤ i
  pub here : IsSome (pages i)
  pub none_before : (k : ℕ) → a ≤ k → k < i → pages k ≡ None

-- the first page of the indices from a up to b, at index i, is gone, and all others stay
pub record IsPageTaken (old new : ℕ → Option ℕ) (a b i page : ℕ) : Type 0 where
  pub first : IsFirstPage old a i
  pub below : i < b
  pub was : old i ≡ Some page
  pub here : new i ≡ None
  pub others : (k : ℕ) → (k ≡ i → ⊥) → new k ≡ old k

-- a table has a bit for each index with a page, in words of which each chunk has one, and a mark at those that have a bit
pub record IsTable (rows : Rows) (words marks : List ℕ) : Type 0 where
  pub few : length marks < 2 ^ 32
  pub places : length words ≤ 64 * length marks
  pub wide : length rows ≤ length words
  pub pages : (i : ℕ) → marked words i ≡ is_some (page_in rows i)
  pub some : (j : ℕ) → marked marks j ≡ true → ((i : ℕ) → i / 64 ≡ j → marked words i ≡ false) → ⊥
  pub none : (i : ℕ) → marked marks (i / 64) ≡ false → marked words i ≡ false

-- an index has a slot now, if there was memory for it; no page changed, and no slot is gone
pub record MakesSlot {R E : Type 0} (page : R → ℕ → Option ℕ) (has : R → ℕ → Bool) (i : ℕ) (old new : R) (result : Result (Unit {0}) E) : Type 0 where
  pub pages : (k : ℕ) → page new k ≡ page old k
  pub kept : (k : ℕ) → has old k ≡ true → has new k ≡ true
  pub made : OnOk result (has new i ≡ true)

-- the first index with a page, of those from a on, or none where there is none
abbrev pub FindsPage : Rows → ℕ → Option ℕ → Type 0
FindsPage rows a found = MatchOption found ((k : ℕ) → a ≤ k → page_in rows k ≡ None) (IsFirstPage (page_in rows) a)

-- an index with its page, of those from a up to b, or none where none has one
abbrev pub TakesFirst : (ℕ → Option ℕ) → (ℕ → Option ℕ) → ℕ → ℕ → Option (ℕ × ℕ) → Type 0
TakesFirst old new a b taken = MatchOption taken ((k : ℕ) → a ≤ k → k < b → old k ≡ None) (λ p. IsPageTaken old new a b p.0 p.1)
