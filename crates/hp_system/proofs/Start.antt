-- The machine at the start.
use Rattle.std.proofs.Common.{◌≡◌, ℕ, suc, ◌+◌, ◌<◌, ◌≤◌, List, [], ◌∷◌, ◌++◌, None, length, map, replicate, refl, sym, ◌∙◌, ap, subst, arith, All}
use Rattle.std.proofs.lemmas.List.{replicate-append-replicate}
use Rattle.hp_model.proofs.Words.{IsSettledState, Slot, idle_node, idle_row, node_of, pool_of, slots_from, start, state_of}
use Rattle.hp_laws.proofs.settled.StaysSettled.{start_is_settled}
use Rattle.hp_system.proofs.Carries.{IsKept}
use Rattle.hp_own_pool.proofs.Starting.{start_pool}
use Rattle.hp_pool.specs.Sums.{idle_pool}

-- one slot without a mount more
pub none_more : (x : Slot) (n : ℕ) → (x ∷ replicate {A = Slot} n None) ++ None ∷ [] ≡ x ∷ replicate {A = Slot} (suc n) None
none_more x n = ap (λ ys. x ∷ ys) (replicate-append-replicate n 1 None ∙ ap (λ k. replicate {A = Slot} k None) (let more : n + 1 ≡ suc n = omega arith in more))

idle_nodes : (frames : List ℕ) → map node_of (map idle_row frames) ≡ map idle_node frames
idle_nodes [] = refl
idle_nodes (f ∷ fs) = ap (λ xs. idle_node f ∷ xs) (idle_nodes fs)

pub start_is : (frames : List ℕ) (size n : ℕ) → state_of size [] (slots_from n) (idle_pool frames) ≡ start frames size n
start_is frames size n = ap (λ xs. record (start frames size n) { nodes = xs }) (idle_nodes frames)

pub start_kept : (frames : List ℕ) (size bytes n : ℕ) → size ≡ bytes → 0 < size → length frames ≤ 4 → All (λ f. f ≤ 65536) frames → IsKept size bytes [] (slots_from n) (idle_pool frames)
start_kept frames size bytes n same some few small = record {
  size = same;
  some = some;
  tied = ap pool_of (start_is frames size n) ∙ start_pool frames size n;
  settled = subst IsSettledState (sym (start_is frames size n)) (start_is_settled frames size n few small);
}
