-- Which row a search picks, and what a change there leaves.
use Rattle.std.proofs.Common.{◌≡◌, ℕ, zero, suc, ◌+◌, ◌<◌, true, List, [], ◌∷◌, length, map, drop, ap, arith, sum_by, All}
use Rattle.std.proofs.lemmas.Bool.{cond_both, ltb-true}
use Rattle.std.proofs.lemmas.Grind.{common_steps}
use Rattle.std.proofs.lemmas.List.Elements.{All-cons, All-head, All-tail}
use Rattle.std.proofs.lemmas.List.Sums.{sum_by-set, passes_at_first}
use Rattle.hp_model.specs.declared.node.Kind.{Kind}
use Rattle.hp_model.specs.declared.node.NodeRow.{NodeRow}
use Rattle.hp_model.proofs.Words.{IsRow, at_row, edit_at, has, lowest, near, next_from, no_row, row_at}

-- a node that has one
pub record IsPick (kind : Kind) (rows : List NodeRow) (n : ℕ) : Type 0 where
  pub within : n < length rows
  pub has_it : has kind (row_at rows n) ≡ true

-- what is had is had by a node
pub had : (kind : Kind) (rows : List NodeRow) (n : ℕ) → has kind (row_at rows n) ≡ true → IsPick kind rows n
had kind rows n e = grind (arith, common_steps)

pub lowest_pick : (kind : Kind) (rows : List NodeRow) → lowest kind rows < length rows → IsPick kind rows (lowest kind rows)
lowest_pick kind rows l = record { within = l; has_it = passes_at_first (has kind) rows no_row l }

pub near_pick : (kind : Kind) (home : ℕ) (rows : List NodeRow) → lowest kind rows < length rows → IsPick kind rows (near kind home rows)
near_pick kind home rows l = cond_both (has kind (row_at rows home)) home (lowest kind rows) (IsPick kind rows) (λ e. had kind rows home e) (λ e. lowest_pick kind rows l)

passes_ahead : (kind : Kind) (from : ℕ) (rows : List NodeRow) → from + lowest kind (drop from rows) < length rows → has kind (row_at rows (from + lowest kind (drop from rows))) ≡ true
passes_ahead kind from rows h = grind (arith, common_steps, passes_at_first)

pub next_pick : (kind : Kind) (from : ℕ) (rows : List NodeRow) → lowest kind rows < length rows → IsPick kind rows (next_from kind from rows)
next_pick kind from rows l = grind (arith, common_steps, cond_both, ltb-true, passes_ahead, lowest_pick)

-- ---- what a change of a row leaves

pub record Edit (f : NodeRow → NodeRow) (rows : List NodeRow) (n : ℕ) : Type 0 where
  pub was : All IsRow rows → IsRow (row_at rows n)
  pub sum : (g : NodeRow → ℕ) → sum_by g (at_row f n rows) + g (row_at rows n) ≡ sum_by g rows + g (f (row_at rows n))
  pub same : (g : NodeRow → ℕ) → g (f (row_at rows n)) ≡ g (row_at rows n) → map g (at_row f n rows) ≡ map g rows
  pub moved : (g : NodeRow → ℕ) (h : ℕ → ℕ) → g (f (row_at rows n)) ≡ h (g (row_at rows n)) → map g (at_row f n rows) ≡ edit_at h (map g rows) n
  pub all : IsRow (f (row_at rows n)) → All IsRow rows → All IsRow (at_row f n rows)

pub edit : (f : NodeRow → NodeRow) (rows : List NodeRow) (n : ℕ) → n < length rows → Edit f rows n
edit f [] n l = absurd (omega (arith, l))
edit f (r ∷ rows) zero l = record {
  was = λ all. All-head IsRow r rows all;
  sum = λ g. sum_by-set g (r ∷ rows) 0 (f r) no_row l;
  same = λ g e. ap (λ x. x ∷ map g rows) e;
  moved = λ g h e. ap (λ x. x ∷ map g rows) e;
  all = λ keeps all. All-cons IsRow (f r) rows keeps (All-tail IsRow r rows all);
}
edit f (r ∷ rows) (suc n) l =
    let rest = edit f rows n (omega (arith, l)) in
    record {
      was = λ all. rest.was (All-tail IsRow r rows all);
      sum = λ g. sum_by-set g (r ∷ rows) (suc n) (f (row_at rows n)) no_row l;
      same = λ g e. ap (λ xs. g r ∷ xs) (rest.same g e);
      moved = λ g h e. ap (λ xs. g r ∷ xs) (rest.moved g h e);
      all = λ keeps all. All-cons IsRow r (at_row f n rows) (All-head IsRow r rows all) (rest.all keeps (All-tail IsRow r rows all));
    }
