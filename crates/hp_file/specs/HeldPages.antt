-- Pages with their holders, as files and maps hold them, and as holders go and come.
use Rattle.std.specs.Prelude.{◌≡◌, ℕ, ◌+◌, ◌≤◌}
use Rattle.hp_store.specs.Store.{holders_of, page_at}
use Rattle.hp_lookup.specs.Dropping.{HasHolders, IsDropping}
use Rattle.hp_lookup.specs.Forking.{IsSharing}
use Rattle.hp_lookup.specs.Held.{more_in}
use Rattle.hp_file.specs.declared.held_pages.HeldPages.{HeldPages}

-- each number has so many holders at least, each page has one, and those beyond the first are counted
pub record AreHeld {N : Type 0} (least : ℕ → ℕ) (p : HeldPages N) : Type 0 where
  pub held : (n : ℕ) → least n ≤ holders_of (page_at p.store n)
  pub some : HasHolders p.store
  pub counted : p.more ≡ more_in p.store.pages

-- of so many holders of each number so many are left
pub record AreDropped {N : Type 0} (total left : ℕ → ℕ) (old now : HeldPages N) : Type 0 where
  pub dropping : IsDropping total left old.store now.store
  pub counted : now.more ≡ more_in now.store.pages

-- so many holders of each number are more, and so many of all
pub record AreShared {N : Type 0} (added : ℕ → ℕ) (count : ℕ) (old now : HeldPages N) : Type 0 where
  pub sharing : IsSharing added old.store now.store
  pub counted : now.more ≡ more_in now.store.pages
  pub more : now.more ≡ old.more + count
