use Rattle.std.proofs.Common.{◌≡◌, ℕ, length, replicate, ap, arith}
use Rattle.std.proofs.lemmas.List.{length-replicate}
use Rattle.hp_mapping.proofs.Chunked.{all_fresh, chunked_fresh}
use Rattle.hp_mapping.proofs.sparse.Sparse.new.Goals as goal

pub invariant_of-result : goal.invariant_of-result
invariant_of-result c =
    let n = c.div_ceil-chunks.result in
    let homes : c.in_ok-homes.homes.items ≡ replicate n 0 = c.in_ok-homes.ensures.items_if_clones_equal (λ y clone. clone) in
    let long = c.in_ok-homes.ensures.len in (
      rw (homes, c.push_fresh.ensures.items, c.in_ok-places.ensures.items) (chunked_fresh n),
      omega
          (arith, c.push_fresh.ensures.capacity, c.in_ok-places.ensures.exact, ap length homes, length-replicate {A = ℕ} n 0),
      omega
          (arith, ap length homes, length-replicate {A = ℕ} n 0, c.div_ceil-chunks.ensures),
      omega
          (arith, ap length homes, length-replicate {A = ℕ} n 0, c.div_ceil-chunks.ensures, c.requires),
    )

pub returns : goal.returns
returns c =
    let n = c.div_ceil-chunks.result in
    let homes : c.in_ok-homes.homes.items ≡ replicate n 0 = c.in_ok-homes.ensures.items_if_clones_equal (λ y clone. clone) in
    rw (homes, c.push_fresh.ensures.items, c.in_ok-places.ensures.items) (all_fresh c.args.count n)
