use Rattle.std.proofs.lemmas.Grind.{common_steps}
-- A file for another in which each number stands at as many places.
use Rattle.std.proofs.Common.{◌≡◌, ℕ, ◌<◌, List, length, arith, slice_set, sum_by}
use Rattle.std.proofs.lemmas.Bool.Decides.{eqb_tells}
use Rattle.std.proofs.lemmas.List.{get_or-set_same, get_or-set_other, length-set}
use Rattle.std.proofs.lemmas.List.Sums.{sum_by-set}
use Rattle.hp_store.specs.Store.{Store}
use Rattle.hp_lookup.proofs.Words.{IsHeld, NumberedFile, in_cell, in_cells, in_file, in_files, numbered_at}
use Rattle.hp_lookup.proofs.Cells.{no_file}

module _ (s : Store) (more : ℕ) (fs : List NumberedFile) (h : IsHeld s more fs) (k : ℕ) (l : k < length fs) (g : NumberedFile)
    (cells_as : (n : ℕ) → sum_by (in_cell n) g.cells ≡ sum_by (in_cell n) (numbered_at fs k).cells)
    (file_as : (n : ℕ) → in_file n g ≡ in_file n (numbered_at fs k)) where
  files_as : (n : ℕ) → in_files n (slice_set fs k g) ≡ in_files n fs
  files_as n = (let step = sum_by-set (in_file n) fs k g no_file l in let same = file_as n in omega (arith, step, same))

  own_as : (n : ℕ) → in_cells n (slice_set fs k g) ≡ in_cells n fs
  own_as n = (let step = sum_by-set (λ (x : NumberedFile). sum_by (in_cell n) x.cells) fs k g no_file l in let same = cells_as n in omega (arith, step, same))

  at_as : (n j : ℕ) → in_file n (numbered_at (slice_set fs k g) j) ≡ in_file n (numbered_at fs j)
  at_as n j = grind (arith, common_steps, get_or-set_same, no_file, get_or-set_other, eqb_tells)

  pub alike_held : IsHeld s more (slice_set fs k g)
  alike_held = grind (arith, common_steps, files_as, own_as, length-set, at_as)
