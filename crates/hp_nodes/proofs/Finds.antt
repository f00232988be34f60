use Rattle.std.proofs.Common.{ℕ, ◌≡◌, ◌+◌, ◌<◌, ◌≤◌, true, false, cond, ltb, List, length, drop, Some, None, arith, unwrap_or}
use Rattle.std.proofs.lemmas.Bool.Decides.{nat_tests}
use Rattle.std.proofs.lemmas.Grind.{common_steps}
use Rattle.std.proofs.lemmas.List.Sums.{passes_at_first, fails_before_first, prefix_len-le-length}
use Rattle.hp_model.specs.declared.node.NodeRow.{NodeRow}
use Rattle.hp_model.specs.declared.node.Kind.{Kind}
use Rattle.hp_model.specs.declared.node.Kind.TheVariants.{Free, Idle, Surplus, Persistent, FreeSurplus}
use Rattle.hp_nodes.specs.Moves.{amount}
use Rattle.hp_model.proofs.Words.{has, lowest, no_row, row_at}

pub has_amount : (kind : Kind) (r : NodeRow) → has kind r ≡ true → 0 < amount kind r
has_amount Free r h = grind (arith, nat_tests)
has_amount Idle r h = grind (arith, nat_tests)
has_amount Surplus r h = grind (arith, nat_tests)
has_amount Persistent r h = grind (arith, nat_tests)
has_amount FreeSurplus r h = grind (arith, nat_tests)

pub amount_has : (kind : Kind) (r : NodeRow) → 0 < amount kind r → has kind r ≡ true
amount_has Free r h = grind (arith, nat_tests)
amount_has Idle r h = grind (arith, nat_tests)
amount_has Surplus r h = grind (arith, nat_tests)
amount_has Persistent r h = grind (arith, nat_tests)
amount_has FreeSurplus r h = grind (arith, nat_tests)

-- where some node has one, the lowest that has is a node, and has one
pub has_lowest : (kind : Kind) (rows : List NodeRow) → lowest kind rows < length rows → 0 < amount kind (row_at rows (lowest kind rows))
has_lowest kind rows h = has_amount kind _ (passes_at_first (has kind) rows no_row h)

pub lowest_le : (kind : Kind) (rows : List NodeRow) → lowest kind rows ≤ length rows
lowest_le kind rows = prefix_len-le-length _ rows

pub has_ahead : (kind : Kind) (rows : List NodeRow) (from : ℕ) → from + lowest kind (drop from rows) < length rows → 0 < amount kind (row_at rows (from + lowest kind (drop from rows)))
has_ahead kind rows from h =
    let there : has kind (row_at (drop from rows) (lowest kind (drop from rows))) ≡ true = passes_at_first (has kind) (drop from rows) no_row (grind (arith, common_steps)) in
    let here : has kind (row_at rows (from + lowest kind (drop from rows))) ≡ true = grind (arith, common_steps) in
    has_amount kind _ here

pub found_or_len : (n p : ℕ) → p ≤ n → unwrap_or (cond (ltb p n) (Some p) None) n ≡ p
found_or_len n p h = grind (arith, nat_tests)

-- where no node has both, a node with a free page has no surplus
pub no_surplus : (rows : List NodeRow) (i : ℕ) → lowest FreeSurplus rows ≡ length rows → i < length rows → 0 < (row_at rows i).free → (row_at rows i).surp ≡ 0
no_surplus rows i none below free =
    let fails : has FreeSurplus (row_at rows i) ≡ false = fails_before_first (has FreeSurplus) rows i no_row (omega arith) in
    grind (arith, nat_tests)
