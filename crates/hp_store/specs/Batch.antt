-- What contracts see of pages on their way into a store.
use Rattle.std.specs.Prelude.{ℕ, List}
use Rattle.hp_model.specs.files.Page.{Page}

-- the pages, the next one first, and how many more there is room for
pub record Batch : Type 0 where
  pub pages : List Page
  pub room : ℕ
