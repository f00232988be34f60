-- The line of a node.
use Rattle.std.specs.Prelude.{ℕ, List, [], ◌∷◌, ◌++◌, decimal}
use Rattle.hp_model.specs.text.Writing.{newline, spaced}
use Rattle.hp_model.specs.declared.answer.NodeCount.{NodeCount}

abbrev pub row_line : (node : ℕ) → NodeCount → List ℕ
row_line node row = decimal node ++ spaced (row.total ∷ row.free ∷ row.surp ∷ []) ++ newline
