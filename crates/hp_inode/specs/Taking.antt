-- The page that is taken out of a range of cells.
use Rattle.std.specs.Prelude.{ℕ, ◌≡◌, ◌+◌, List, Option, None, MatchOption, false}
use Rattle.std.specs.List.{slice_set, All}
use Rattle.hp_model.specs.declared.cell.Cell.{Cell}
use Rattle.hp_model.specs.declared.cell.Cell.TheVariants.{Hole}
use Rattle.hp_model.specs.files.File.{has_page, page_of}
use Rattle.hp_model.specs.Lists.{found, part}

-- the first page of the cells from a up to b is taken out with its entry, or there is none
pub record TakesPage (a b : ℕ) (old new : List (Cell ℕ)) (taken : Option ℕ) : Type 0 where
  pub page : MatchOption (found has_page (part a b old)) (taken ≡ None) (λ p. taken ≡ page_of p.1)
  pub cells : MatchOption (found has_page (part a b old)) (new ≡ old) (λ p. new ≡ slice_set old (a + p.0) Hole)
  pub none : taken ≡ None → All (λ cell. has_page cell ≡ false) (part a b new)
