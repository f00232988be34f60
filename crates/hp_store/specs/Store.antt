-- What contracts see of a store of pages.
use Rattle.std.specs.Prelude.{ℕ, ◌≡◌, ◌+◌, ◌-◌, ◌==◌, List, [], ◌∷◌, ◌++◌, length, replicate, take, drop, slice_set, slice_index_or, if◌then◌else◌}
use Rattle.std.specs.Prelude.{Option, None, Some}
use Rattle.std.specs.Option.{option_map}
use Rattle.std.specs.List.{sum_by}
use Rattle.hp_model.specs.files.Page.{Page}

-- a page under a number: its node, its bytes, and how many hold the number
pub record Holding : Type 0 where
  pub node : ℕ
  pub bytes : List ℕ
  pub holders : ℕ

-- what stands under each number, the pages that nobody holds any more, and how many pages can still
-- be put in with no memory
pub record Store : Type 0 where
  pub pages : List (Option Holding)
  pub going : List Page
  pub room : ℕ

abbrev pub page_at : Store → ℕ → Option Holding
page_at s at = slice_index_or s.pages at None

abbrev pub holders_of : Option Holding → ℕ
holders_of None = 0
holders_of (Some h) = h.holders

abbrev pub bytes_of : Option Holding → List ℕ
bytes_of None = []
bytes_of (Some h) = h.bytes

-- a page that is put in has one holder
abbrev pub first_held : Page → Holding
first_held p = record { node = p.node; bytes = p.bytes; holders = 1 }

abbrev pub held_once_more : Holding → Holding
held_once_more h = record h { holders = h.holders + 1 }

abbrev pub held_once_less : Holding → Holding
held_once_less h = record h { holders = h.holders - 1 }

abbrev pub held_page : Holding → Page
held_page h = record { node = h.node; bytes = h.bytes }

abbrev pub written_in : ℕ → List ℕ → Holding → Holding
written_in offset bytes h = record h { bytes = take offset h.bytes ++ bytes ++ drop (offset + length bytes) h.bytes }

abbrev pub with_page : ℕ → Option Holding → Store → Store
with_page at page s = record s { pages = slice_set s.pages at page }

abbrev pub inserted : ℕ → Page → Store → Store
inserted at page s = record (with_page at (Some (first_held page)) s) { room = s.room - 1 }

abbrev pub shared : ℕ → Store → Store
shared at s = with_page at (option_map held_once_more (page_at s at)) s

-- a holder less. With the last one the page goes
abbrev pub dropped_by : ℕ → Option Holding → Store → Store
dropped_by at None s = s
dropped_by at (Some h) s =
    if h.holders == 1
    then record (with_page at None s) { going = s.going ++ held_page h ∷ [] }
    else with_page at (Some (held_once_less h)) s

abbrev pub dropped : ℕ → Store → Store
dropped at s = dropped_by at (page_at s at) s

abbrev pub overwritten : ℕ → ℕ → List ℕ → Store → Store
overwritten at offset bytes s = with_page at (option_map (written_in offset bytes) (page_at s at)) s

abbrev pub one_if_held : Option Holding → ℕ
one_if_held None = 0
one_if_held (Some h) = 1

-- how many of the slots have a page
abbrev pub held_count : List (Option Holding) → ℕ
held_count slots = sum_by one_if_held slots

-- what stands in a slot is changed
abbrev pub at_slot : (Holding → Holding) → ℕ → List (Option Holding) → List (Option Holding)
at_slot f at slots = slice_set slots at (option_map f (slice_index_or slots at None))

-- more slots, all free, behind those that were there
abbrev pub Lengthens : List (Option Holding) → List (Option Holding) → Type 0
Lengthens old new = new ≡ old ++ replicate (length new - length old) None
