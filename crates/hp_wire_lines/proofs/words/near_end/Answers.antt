use Rattle.std.proofs.Common.{◌≡◌, ◌==◌, ◌+◌, false, get_or, arith, ap, ◌∙◌}
use Rattle.std.proofs.lemmas.Bool.Decides.{nat_tests}
use Rattle.hp_wire_lines.proofs.WordEnds.{ended_piece, ends_at_space, front_more, front_none}
use Rattle.hp_wire_lines.specs.Words.{between, piece_with, pieces_from}
use Rattle.hp_wire_lines.proofs.words.near_end.Goals as goal

pub near-init : goal.near-init
near-init c =
    let line = c.args.line.now in
    let from = c.args.from in
    let here : from ≡ from + 0 = omega arith in
    front_none line from (omega arith) ∙ ap (λ at. piece_with (between from at line) (pieces_from at line)) here

pub near-preserved : goal.near-preserved
near-preserved c =
    let line = c.args.line.now in
    let from = c.args.from in
    let i = c.near.i in
    let next : from + i + 1 ≡ from + (i + 1) = omega arith in
    let other : (get_or line (from + i) 0 == 32) ≡ false = grind (arith, nat_tests, c.if-line-from-eq32.false) in
    front_more line from (from + i) (omega arith) (omega arith) other c.near.invariant ∙ ap (λ at. piece_with (between from at line) (pieces_from at line)) next

pub returns-then-line-from-eq32 : goal.returns-then-line-from-eq32
returns-then-line-from-eq32 c =
    let line = c.args.line.now in
    let from = c.args.from in
    let at = from + c.near.i in (
      omega arith,
      omega arith,
      ended_piece (between from at line) (pieces_from from line) (pieces_from at line) (pieces_from (at + 1) line)
          c.near.invariant (ends_at_space line at (omega arith) c.if-line-from-eq32.true),
    )
