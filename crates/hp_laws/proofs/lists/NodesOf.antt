-- The nodes of pages of which there are so many at each node.
use Rattle.std.proofs.lemmas.Grind.{common_steps}
use Rattle.std.proofs.Common.{◌≡◌, ℕ, zero, suc, ◌+◌, ◌<◌, Bool, true, false, ◌==◌, List, [], ◌∷◌, ◌++◌, length, replicate, refl, cond, arith, sum, slice_index_or, count_by}
use Rattle.std.proofs.lemmas.Bool.{eq-eqb, ne_eqb}
use Rattle.std.proofs.lemmas.List.{length-append, length-replicate, length-take}
use Rattle.std.proofs.lemmas.List.Sums.{sum_by-append, sum_by-cons}
use Rattle.std.proofs.Math.Seq.{take-append_seam}
use Rattle.hp_model.proofs.Words.{nodes_from, rising_nodes}
use Rattle.hp_model.proofs.Counting.{count_cons}
use Rattle.hp_laws.proofs.lists.AtMostOne.{bit}

-- how many of them are this one
abbrev pub count_of : ℕ → List ℕ → ℕ
count_of n nodes = count_by (λ k. k == n) nodes

pub length-nodes_of : (n : ℕ) (counts : List ℕ) → length (rising_nodes n counts) ≡ n
length-nodes_of n counts = grind (arith, length-append, length-replicate, length-take)

length-nodes_from : (node : ℕ) (counts : List ℕ) → length (nodes_from node counts) ≡ sum counts
length-nodes_from node [] = refl
length-nodes_from node (k ∷ ks) =
    let both = length-append (replicate k node) (nodes_from (node + 1) ks) in
    let here = length-replicate {A = ℕ} k node in
    omega (arith, both, here, length-nodes_from (node + 1) ks, sum_by-cons (λ (x : ℕ). x) k ks)

-- where the counts say of all pages where they are
pub nodes_all : (n : ℕ) (counts : List ℕ) → sum counts ≡ n → rising_nodes n counts ≡ nodes_from 0 counts
nodes_all n counts is = grind (arith, common_steps, length-nodes_from, take-append_seam)

-- ---- how many are at a node

count_same : (n node : ℕ) (b : Bool) → (node == n) ≡ b → (k : ℕ) → count_of n (replicate k node) ≡ cond b k 0
count_same n node true is zero = refl
count_same n node b is k = grind (arith, common_steps, bit, count_cons)

pub count_join : (n : ℕ) (xs ys : List ℕ) → count_of n (xs ++ ys) ≡ count_of n xs + count_of n ys
count_join n xs ys = sum_by-append (λ k. cond (k == n) 1 0) xs ys

counted_past : (n node : ℕ) (counts : List ℕ) → n < node → count_of n (nodes_from node counts) ≡ 0
counted_past n node [] l = refl
counted_past n node (k ∷ ks) l =
    let here = count_same n node false (ne_eqb node n (λ same. omega (arith, l, same))) k in
    omega (arith, count_join n (replicate k node) (nodes_from (node + 1) ks), here, counted_past n (node + 1) ks (omega (arith, l)))

pub counted_from : (node j n : ℕ) (counts : List ℕ) → n ≡ node + j → count_of n (nodes_from node counts) ≡ slice_index_or counts j 0
counted_from node zero n [] e = refl
counted_from node (suc j) n [] e = refl
counted_from node zero n (k ∷ ks) e =
    let here = count_same n node true (eq-eqb node n (omega (arith, e))) k in
    omega (arith, count_join n (replicate k node) (nodes_from (node + 1) ks), here, counted_past n (node + 1) ks (omega (arith, e)))
counted_from node (suc j) n (k ∷ ks) e =
    let here = count_same n node false (ne_eqb node n (λ same. omega (arith, e, same))) k in
    omega (arith, count_join n (replicate k node) (nodes_from (node + 1) ks), here, counted_from (node + 1) j n ks (omega (arith, e)))
