-- A file and a map that are lent, whose pages are numbers of a store.
use Rattle.std.specs.Prelude.{◌≡◌, ℕ, true, false, None}
use Rattle.hp_model.specs.files.File.{File, cell_at, has_page}
use Rattle.hp_model.specs.files.Mapping.{Map, Mapping, copy_of, is_shared, place_at}
use Rattle.hp_store.specs.Store.{Store}
use Rattle.hp_lookup.specs.Numbered.{NumberedFile, file_shown, map_shown}

-- the lent file stands for this file
pub record IsLent (f : File) (lent : NumberedFile) : Type 0 where
  pub store : Store
  pub is : f ≡ file_shown store lent

-- the lent map stands for this map
pub record IsMapLent (m : Map) (lent : Mapping ℕ) : Type 0 where
  pub store : Store
  pub is : m ≡ map_shown store lent

-- a reader of the map need not ask for a page at the index: it has a copy of its own, or is not marked, and the file has a page
pub record IsReadable (i : ℕ) (f : File) (m : Map) : Type 0 where
  pub shared : is_shared m.sharing ≡ true → has_page (cell_at f i) ≡ true
  pub bare : copy_of (place_at m i) ≡ None → (m.unmapped ≡ false) × (has_page (cell_at f i) ≡ true)
