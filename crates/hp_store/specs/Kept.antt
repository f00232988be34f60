-- How a store keeps its numbers and its pages. No public clause cites this module.
use Rattle.std.specs.Prelude.{◌≡◌, ◌≢◌, ℕ, ◌+◌, ◌-◌, ◌<◌, ◌≤◌, ◌^◌, List, [], ◌∷◌, ◌++◌, length, map, min, replicate, slice_index, slice_index_or, is_some, nat_lt}
use Rattle.std.specs.Prelude.{Option, None, Some}
use Rattle.std.specs.List.{sum_by}
use Rattle.std.specs.Option.{option_map}
use Rattle.hp_model.specs.files.Page.{Page}
use Rattle.hp_store.specs.Store.{Holding, held_count}

-- the slots that were ever used, and how many slots there is room for
pub record Used : Type 0 where
  pub slots : List (Option Holding)
  pub room : ℕ

-- so many slots: these come first, and those behind are free
abbrev pub with_free : ℕ → List (Option Holding) → List (Option Holding)
with_free count first = first ++ replicate (count - length first) None

abbrev pub held_by : ℕ → Page → Holding
held_by holders p = record { node = p.node; bytes = p.bytes; holders = holders }

-- the pages with their holders
abbrev pub holdings : List (Option Page) → List ℕ → List (Option Holding)
holdings [] hs = []
holdings (p ∷ ps) [] = []
holdings (p ∷ ps) (h ∷ hs) = option_map (held_by h) p ∷ holdings ps hs

abbrev pub one_if_page : Option Page → ℕ
one_if_page None = 0
one_if_page (Some p) = 1

-- how many of the places have a page
abbrev pub page_count : List (Option Page) → ℕ
page_count pages = sum_by one_if_page pages

-- a page that is there has a holder, and there is room for pages and holders, but for no more than there are frames
pub record IsCounted (pages : List (Option Page)) (holders : List ℕ) (room pages_capacity holders_capacity frames : ℕ) : Type 0 where
  pub counted : map is_some pages ≡ map (nat_lt 0) holders
  pub within : length pages ≤ room
  pub pages_room : room ≤ pages_capacity
  pub holders_room : room ≤ holders_capacity
  pub pages_few : pages_capacity ≤ frames
  pub holders_few : holders_capacity ≤ frames

-- the list has each slot without a page once
pub record IsFree (slots : List (Option Holding)) (free : List ℕ) : Type 0 where
  pub within : (k : ℕ) → k < length free → slice_index free k < length slots
  pub empty : (k : ℕ) → k < length free → slice_index_or slots (slice_index free k) None ≡ None
  pub apart : (j k : ℕ) → j < k → k < length free → slice_index free j ≢ slice_index free k
  pub counted : length free + held_count slots ≡ length slots

-- each slot that was used and is free is listed; each number has a place on that list, which has no more places than there are frames, and fits 32 bits
pub record IsNumbered (used : Used) (free : List ℕ) (free_capacity frames : ℕ) : Type 0 where
  pub listed : IsFree used.slots free
  pub within : length used.slots ≤ used.room
  pub free_room : used.room ≤ free_capacity
  pub free_few : free_capacity ≤ frames
  pub few : used.room ≤ 2 ^ 32

-- there is room for the pages that may still come, or for all frames, also in the list of those that go
pub record HasRoom (slots : List (Option Holding)) (going going_capacity room frames : ℕ) : Type 0 where
  pub slots_room : min (held_count slots + room) frames ≤ length slots
  pub going_room : min (held_count slots + room + going) frames ≤ going_capacity
  pub slots_few : length slots ≤ frames
  pub going_few : going_capacity ≤ frames
  pub few : held_count slots + room ≤ 2 ^ 32
