use Rattle.std.proofs.Common.{◌≡◌, length}
use Rattle.hp_model.proofs.Words.{options_of, parts}
use Rattle.hp_options.specs.Seen.{wanted_seen}
use Rattle.hp_text.specs.Pieces.{from_separator, pieces_after}
use Rattle.hp_options.proofs.options.options_of.Given as goal

abbrev pub invariant-loop-left : goal.invariant-loop-left
invariant-loop-left l = options_of (wanted_seen l.wanted) (pieces_after 44 l.left) ≡ options_of (wanted_seen l.fn.start) (parts l.fn.text)

abbrev pub decreases-loop-left : goal.decreases-loop-left
decreases-loop-left l = length (from_separator 44 l.left)
