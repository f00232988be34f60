-- The number of nodes never changes.
use Rattle.std.proofs.Common.{arith, ◌≡◌, ℕ, zero, suc, ◌+◌, ◌-◌, List, [], ◌∷◌, length, refl, ap, ◌∙◌}
use Rattle.std.proofs.lemmas.Grind.{common_steps}
use Rattle.std.proofs.lemmas.Bool.{cond_both}
use Rattle.std.proofs.lemmas.List.{length-map, length-set}
use Rattle.hp_laws.proofs.Variants.{Free, GrantPage, Idle, NodeRow, PoolEvent, Section, TakePage}
use Rattle.hp_model.proofs.Words.{Node, NodeRows, Pool, State, add_surplus_row, at_row, give_back_times, given_back, granted, kept_times, lower_times, lowered, near, node_of, pool_event, pool_of}
use Rattle.hp_model.proofs.Words.{put_row, puts_from, raise_times, raised, row_at, rows_of, section, surplus_times, take_row, taken_times, total_of, with_pool}

long_row : (f : NodeRow → NodeRow) (i : ℕ) (rows : List NodeRow) → length (at_row f i rows) ≡ length rows
long_row f i rows = length-set rows i (f (row_at rows i))

long_given_back : (s : NodeRows) → length (given_back s).rows ≡ length s.rows
long_given_back s = grind (arith, common_steps)

long_give_back_times : (k : ℕ) (s : NodeRows) → length (give_back_times k s).rows ≡ length s.rows
long_give_back_times zero s = refl
long_give_back_times (suc k) s = long_given_back (give_back_times k s) ∙ long_give_back_times k s

long_surplus_times : (home k : ℕ) (s : NodeRows) → length (surplus_times home k s).rows ≡ length s.rows
long_surplus_times home zero s = refl
long_surplus_times home (suc k) s = long_row add_surplus_row (near Idle home (surplus_times home k s).rows) (surplus_times home k s).rows ∙ long_surplus_times home k s

long_taken_times : (k : ℕ) (s : NodeRows) → length (taken_times 0 k s).rows ≡ length s.rows
long_taken_times zero s = refl
long_taken_times (suc k) s = long_row take_row (near Free 0 (taken_times 0 k s).rows) (taken_times 0 k s).rows ∙ long_taken_times k s

long_raised : (s : NodeRows) → length (raised s).rows ≡ length s.rows
long_raised s = grind (arith, common_steps)

long_raise_times : (k : ℕ) (s : NodeRows) → length (raise_times k s).rows ≡ length s.rows
long_raise_times zero s = refl
long_raise_times (suc k) s = long_raised (raise_times k s) ∙ long_raise_times k s

long_lowered : (reserved : ℕ) (s : NodeRows) → length (lowered reserved s).rows ≡ length s.rows
long_lowered reserved s = grind (arith, common_steps)

long_lower_times : (reserved k : ℕ) (s : NodeRows) → length (lower_times reserved k s).rows ≡ length s.rows
long_lower_times reserved zero s = refl
long_lower_times reserved (suc k) s = long_lowered reserved (lower_times reserved k s) ∙ long_lower_times reserved k s

long_kept_times : (node k : ℕ) (p : Pool) → length (kept_times node k p).nodes.rows ≡ length p.nodes.rows
long_kept_times node zero p = refl
long_kept_times node (suc k) p = long_row put_row node (kept_times node k p).nodes.rows ∙ long_kept_times node k p

long_puts : (node : ℕ) (ks : List ℕ) (p : Pool) → length (puts_from node ks p).nodes.rows ≡ length p.nodes.rows
long_puts node [] p = refl
long_puts node (k ∷ ks) p = long_puts (node + 1) ks (kept_times node k p) ∙ long_kept_times node k p

long_granted : (home d : ℕ) (p : Pool) → length (granted home d p).nodes.rows ≡ length p.nodes.rows
long_granted home d p = long_surplus_times home (p.committed + d - total_of p.nodes.rows) p.nodes

pub long_section : (p : Pool) (s : Section) → length (section p s).1.nodes.rows ≡ length p.nodes.rows
long_section p (TakePage home) = long_row take_row (near Free home p.nodes.rows) p.nodes.rows
long_section p (GrantPage home d) = grind (arith, common_steps, cond_both, long_row, long_granted)
long_section p s = grind (arith, long_surplus_times, long_taken_times, long_give_back_times, long_puts)

pub long_event : (p : Pool) (e : PoolEvent) → length (pool_event p e).1.nodes.rows ≡ length p.nodes.rows
long_event p e = grind (arith, long_lower_times, long_raise_times, cond_both)

pub long_rows : (s : State) (a : ℕ) (ns : List Node) → length (rows_of s a ns) ≡ length ns
long_rows s a [] = refl
long_rows s a (n ∷ ns) = ap suc (long_rows s (a + 1) ns)

pub long_with_pool : (s : State) (q : Pool) → length q.nodes.rows ≡ length (pool_of s).nodes.rows → length (with_pool s q).nodes ≡ length s.nodes
long_with_pool s q e = length-map q.nodes.rows node_of ∙ e ∙ long_rows s 0 s.nodes
