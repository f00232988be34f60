-- Pages whose holders go.
use Rattle.std.specs.Prelude.{◌≡◌, ℕ, ◌+◌, ◌==◌, ◌<◌, ◌≤◌, List, length, if◌then◌else◌}
use Rattle.std.specs.Prelude.{Option, None}
use Rattle.std.specs.List.{count_by, sum_by}
use Rattle.hp_model.specs.files.MountCounts.{file_pages, file_pages_at, file_reserves}
use Rattle.hp_model.specs.files.Page.{Page}
use Rattle.hp_store.specs.Store.{Holding, Store, held_count, holders_of, one_if_held, page_at}
use Rattle.hp_lookup.specs.Files.{Files}
use Rattle.hp_lookup.specs.Held.{more_in}
use Rattle.hp_lookup.specs.Numbered.{page_in}

-- 1 for a page of the node
abbrev pub at_node : ℕ → Option Holding → ℕ
at_node n o = if (page_in o).node == n then one_if_held o else 0

-- how many of the pages are of the node
abbrev pub count_at : ℕ → List Page → ℕ
count_at n pages = count_by (λ (page : Page). page.node == n) pages

-- each page has a holder
abbrev pub HasHolders : Store → Type 0
HasHolders s = (n : ℕ) → holders_of (page_at s n) ≡ 0 → page_at s n ≡ None

-- of so many holders of each number so many are left; and a page that is left by its last goes, the others stay
pub record IsDropping (total left : ℕ → ℕ) (old now : Store) : Type 0 where
  pub held : (n : ℕ) → holders_of (page_at now n) + total n ≡ holders_of (page_at old n) + left n
  pub some : HasHolders now
  pub pages : held_count now.pages + length now.going ≡ held_count old.pages + length old.going
  pub nodes : (n : ℕ) → sum_by (at_node n) now.pages + count_at n now.going ≡ sum_by (at_node n) old.pages + count_at n old.going
  pub most : (n : ℕ) → holders_of (page_at now n) ≤ holders_of (page_at old n)
  pub same : (n : ℕ) → 0 < holders_of (page_at now n) → page_in (page_at now n) ≡ page_in (page_at old n)
  pub fewer : more_in now.pages ≤ more_in old.pages
  pub room : now.room ≡ old.room

-- files that gave back: the pages that they lost go, and so many reservations are less. There is no less room
pub record IsLeft (reserves : ℕ) (old new : Files) : Type 0 where
  pub pages : length new.going + sum_by file_pages new.files ≡ length old.going + sum_by file_pages old.files
  pub nodes : (n : ℕ) → count_at n new.going + sum_by (file_pages_at n) new.files ≡ count_at n old.going + sum_by (file_pages_at n) old.files
  pub reserved : sum_by file_reserves new.files + reserves ≡ sum_by file_reserves old.files
  pub room : old.room ≤ new.room
