-- Preallocation: pages of zeros for the indices of a range that have none.
use Rattle.std.specs.Prelude.{ℕ, ◌+◌, Bool, not, List, [], ◌∷◌, ◌++◌, drop, map, replicate, take}
use Rattle.std.specs.List.{count_by, position_or_len, slice_set}
use Rattle.hp_model.specs.declared.cell.Cell.{Cell}
use Rattle.hp_model.specs.declared.cell.Cell.TheVariants.{Present}
use Rattle.hp_model.specs.files.File.{File, at_least, has_page}
use Rattle.hp_model.specs.files.Page.{Page, zeros}
use Rattle.hp_model.specs.Lists.{part}

module _ {P : Type 0} where
  abbrev pub lacks_page : Cell P → Bool
  lacks_page c = not (has_page c)

  -- the lowest index from a on whose cell has no page
  abbrev pub next_bare : (a : ℕ) → List (Cell P) → ℕ
  next_bare a cells = a + position_or_len lacks_page (drop a cells)

  -- each page, one after another, goes to the lowest index from a on that has none
  abbrev pub cells_filled : (a : ℕ) → List P → List (Cell P) → List (Cell P)
  cells_filled a [] cells = cells
  cells_filled a (p ∷ ps) cells = cells_filled a ps (slice_set cells (next_bare a cells) (Present p))

-- the indices from a up to b that have no page, in a file that reaches to b at least
abbrev pub lacking : (a b : ℕ) → File → ℕ
lacking a b f = count_by lacks_page (part a b (at_least b f.cells))

-- the nodes of pages, of which there are so many at each node from this one on
abbrev pub nodes_from : (node : ℕ) → List ℕ → List ℕ
nodes_from node [] = []
nodes_from node (k ∷ ks) = replicate k node ++ nodes_from (node + 1) ks

-- the nodes of n pages, rising, of which there are so many at each node
abbrev pub rising_nodes : (n : ℕ) → List ℕ → List ℕ
rising_nodes n counts = take n (nodes_from 0 counts ++ replicate n 0)

abbrev pub zero_page : (size node : ℕ) → Page
zero_page size node = record { node = node; bytes = zeros size }

-- the file reaches to b at least, and has pages of zeros of these nodes from index a on
abbrev pub range_filled : (size a b : ℕ) → (nodes : List ℕ) → File → File
range_filled size a b nodes f = record f { cells = cells_filled a (map (zero_page size) nodes) (at_least b f.cells) }
