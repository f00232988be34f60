-- Rows of all nodes, with those of zeros past them.
use Rattle.std.proofs.lemmas.Grind.{common_steps}
use Rattle.std.proofs.Common.{◌≡◌, ℕ, ◌-◌, ◌≤◌, List, ◌++◌, length, map, replicate, take, arith}
use Rattle.std.proofs.lemmas.List.{length-map, take_all, take-replicate}
use Rattle.std.proofs.Math.Seq.{take-append-add}
use Rattle.hp_laws.proofs.Variants.{NodeCount}
use Rattle.hp_model.proofs.Words.{Pool, no_count, node_count, node_counts}

pub padded : (p : Pool) (rows : List NodeCount) (n : ℕ) → length p.nodes.rows ≤ 4 → n ≡ length p.nodes.rows
    → rows ≡ map node_count (take n p.nodes.rows) ++ replicate (4 - n) no_count → rows ≡ node_counts p
padded p rows n few whole is = grind (arith, common_steps, length-map, take_all, take-replicate, take-append-add)
