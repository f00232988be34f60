-- What gives pages back, as counts of them.
use Rattle.std.proofs.Common.{◌≡◌, ℕ, zero, suc, ◌+◌, ◌-◌, ◌<◌, ◌≤◌, ◌==◌, false, cond, List, [], ◌∷◌, ◌++◌, length, refl, sym, ap, subst, ◌∙◌, arith, count_by, sum}
use Rattle.std.proofs.lemmas.Bool.{eq-eqb}
use Rattle.std.proofs.lemmas.List.{length-append}
use Rattle.std.proofs.lemmas.List.Sums.{sum_by-append, sum_by-cons}
use Rattle.hp_model.proofs.Words.{IsSettled, Page, Pool, puts_from, released, to_return, trimmed}
use Rattle.hp_model.specs.pool.PoolCounts.{used as in_use}
use Rattle.hp_model.proofs.RowMoves.{puts_are}
use Rattle.hp_mount_door.specs.Door.{IsReady, by_node}
use Rattle.hp_own_pool.proofs.Returning.{all_given, both_given, settled_ready, share_given}
use Rattle.hp_subpool.specs.Subpool.{Subpool, committed_of, fall, used}

-- ---- pages that are counted so

abbrev copies : ℕ → ℕ → List Page
copies node zero = []
copies node (suc k) = record { node = node; bytes = [] } ∷ copies node k

abbrev pages_of : (a b c d : ℕ) → List Page
pages_of a b c d = copies 0 a ++ (copies 1 b ++ (copies 2 c ++ copies 3 d))

abbrev at_node : ℕ → List Page → ℕ
at_node n pages = count_by (λ (page : Page). page.node == n) pages

own_copies : (node k : ℕ) → at_node node (copies node k) ≡ k
own_copies node zero = refl
own_copies node (suc k) =
    let here : ◌≡◌ {A = ℕ} (cond (node == node) 1 0) 1 = ap (λ b. cond b 1 0) (eq-eqb node node refl) in
    omega (arith, here, sum_by-cons (λ (x : Page). cond (x.node == node) 1 0) (record { node = node; bytes = [] }) (copies node k), own_copies node k)

other_copies : (n node k : ℕ) → (node == n) ≡ false → at_node n (copies node k) ≡ 0
other_copies n node zero e = refl
other_copies n node (suc k) e =
    let here : ◌≡◌ {A = ℕ} (cond (node == n) 1 0) 0 = ap (λ b. cond b 1 0) e in
    omega (arith, here, sum_by-cons (λ (x : Page). cond (x.node == n) 1 0) (record { node = node; bytes = [] }) (copies node k), other_copies n node k e)

copies_long : (node k : ℕ) → length (copies node k) ≡ k
copies_long node zero = refl
copies_long node (suc k) = ap suc (copies_long node k)

parts_at : (n a b c d : ℕ) → at_node n (pages_of a b c d) ≡ at_node n (copies 0 a) + (at_node n (copies 1 b) + (at_node n (copies 2 c) + at_node n (copies 3 d)))
parts_at n a b c d =
    let one : at_node n (pages_of a b c d) ≡ at_node n (copies 0 a) + at_node n (copies 1 b ++ (copies 2 c ++ copies 3 d)) =
    sum_by-append (λ (x : Page). cond (x.node == n) 1 0) (copies 0 a) (copies 1 b ++ (copies 2 c ++ copies 3 d)) in
    let two : at_node n (copies 1 b ++ (copies 2 c ++ copies 3 d)) ≡ at_node n (copies 1 b) + at_node n (copies 2 c ++ copies 3 d) =
    sum_by-append (λ (x : Page). cond (x.node == n) 1 0) (copies 1 b) (copies 2 c ++ copies 3 d) in
    let three : at_node n (copies 2 c ++ copies 3 d) ≡ at_node n (copies 2 c) + at_node n (copies 3 d) = sum_by-append (λ (x : Page). cond (x.node == n) 1 0) (copies 2 c) (copies 3 d) in
    one ∙ ap (λ x. at_node n (copies 0 a) + x) (two ∙ ap (λ x. at_node n (copies 1 b) + x) three)

pages_long : (a b c d : ℕ) → length (pages_of a b c d) ≡ a + b + c + d
pages_long a b c d =
    let one : length (pages_of a b c d) ≡ length (copies 0 a) + length (copies 1 b ++ (copies 2 c ++ copies 3 d)) = length-append (copies 0 a) (copies 1 b ++ (copies 2 c ++ copies 3 d)) in
    let two : length (copies 1 b ++ (copies 2 c ++ copies 3 d)) ≡ length (copies 1 b) + length (copies 2 c ++ copies 3 d) = length-append (copies 1 b) (copies 2 c ++ copies 3 d) in
    let three : length (copies 2 c ++ copies 3 d) ≡ length (copies 2 c) + length (copies 3 d) = length-append (copies 2 c) (copies 3 d) in
    let all : length (copies 0 a) + (length (copies 1 b) + (length (copies 2 c) + length (copies 3 d))) ≡ a + b + c + d =
    omega (arith, copies_long 0 a, copies_long 1 b, copies_long 2 c, copies_long 3 d) in
    one ∙ ap (λ x. length (copies 0 a) + x) (two ∙ ap (λ x. length (copies 1 b) + x) three) ∙ all

abbrev four : ℕ → ℕ → ℕ → ℕ → List ℕ
four a b c d = a ∷ b ∷ c ∷ d ∷ []

pages_are : (a b c d : ℕ) → by_node (pages_of a b c d) ≡ a ∷ b ∷ c ∷ d ∷ []
pages_are a b c d =
    let p : List Page = pages_of a b c d in
    let at0 : at_node 0 p ≡ a = omega (arith, parts_at 0 a b c d, own_copies 0 a, other_copies 0 1 b refl, other_copies 0 2 c refl, other_copies 0 3 d refl) in
    let at1 : at_node 1 p ≡ b = omega (arith, parts_at 1 a b c d, other_copies 1 0 a refl, own_copies 1 b, other_copies 1 2 c refl, other_copies 1 3 d refl) in
    let at2 : at_node 2 p ≡ c = omega (arith, parts_at 2 a b c d, other_copies 2 0 a refl, other_copies 2 1 b refl, own_copies 2 c, other_copies 2 3 d refl) in
    let at3 : at_node 3 p ≡ d = omega (arith, parts_at 3 a b c d, other_copies 3 0 a refl, other_copies 3 1 b refl, other_copies 3 2 c refl, own_copies 3 d) in
    ap (λ x. four x (at_node 1 p) (at_node 2 p) (at_node 3 p)) at0 ∙ ap (λ x. four a x (at_node 2 p) (at_node 3 p)) at1 ∙ ap (λ x. four a b x (at_node 3 p)) at2 ∙ ap (λ x. four a b c x) at3

-- some pages that are so many of each node
pub pages_for : (xs : List ℕ) → length xs ≡ 4 → (pages : List Page) × (by_node pages ≡ xs) × (length pages ≡ sum xs)
pages_for [] l = absurd (omega (arith, l))
pages_for (a ∷ []) l = absurd (omega (arith, l))
pages_for (a ∷ b ∷ []) l = absurd (omega (arith, l))
pages_for (a ∷ b ∷ c ∷ []) l = absurd (omega (arith, l))
pages_for (a ∷ b ∷ c ∷ d ∷ []) l = (pages_of a b c d, pages_are a b c d, (let all : sum (a ∷ b ∷ c ∷ d ∷ []) ≡ a + b + c + d = omega arith in omega (arith, pages_long a b c d, all)))
pages_for (a ∷ b ∷ c ∷ d ∷ e ∷ rest) l = absurd (omega (arith, l))

-- ---- what they leave

module _ (xs : List ℕ) (long : length xs ≡ 4) (p q : Pool) (k : ℕ) (ready : IsReady p) where
  pub ready_after : IsSettled q → q ≡ trimmed (released k (puts_from 0 xs p)) → IsReady q
  ready_after is moved =
      let some = pages_for xs long in
      settled_ready some.0 k p q ready is (subst (λ (ys : List ℕ). q ≡ trimmed (released k (puts_from 0 ys p))) (sym some.1) moved)

  pub same_after : q ≡ trimmed (released k (puts_from 0 xs p)) → sum xs + k ≡ 0 → q ≡ p
  same_after moved none =
      let some = pages_for xs long in
      let given = all_given some.0 k p q ready (subst (λ (ys : List ℕ). q ≡ trimmed (released k (puts_from 0 ys p))) (sym some.1) moved) in
      given.none (subst (λ (ys : List ℕ). sum ys + k ≡ 0) (sym some.1) none)

module _ (xs : List ℕ) (long : length xs ≡ 4) (s next : Subpool) (base p left q : Pool) where
  abbrev Put : ℕ → List ℕ → Type 0
  Put n ys = (next ≡ record s { pages = s.pages - n }) × (p ≡ released (fall s n) (puts_from 0 ys base))

  abbrev Both : ℕ → ℕ → List ℕ → Type 0
  Both k n ys = Put n ys → n ≤ s.pages → left ≡ released (fall next k) p → q ≡ trimmed left → q ≡ trimmed (released (fall s (n + k)) (puts_from 0 ys base))

  pub both_moved : (k : ℕ) → Both k (sum xs) xs
  both_moved k =
      let some = pages_for xs long in
      subst (λ n. Both k n xs) some.2 (subst (λ ys. Both k (length some.0) ys) some.1 (λ put within left_is is. both_given s next some.0 base p left q put.0 put.1 k within left_is is))

  abbrev Whole : (held : ℕ) → Subpool → Pool → ℕ → List ℕ → Type 0
  Whole held last closed n ys =
      Put n ys → n ≡ s.pages → held ≡ used next → last ≡ record next { held = next.held - held } → left ≡ released (fall next held) p → closed ≡ released last.min left → q ≡ trimmed closed
      → q ≡ trimmed (released (committed_of s) (puts_from 0 ys base))

  pub all_moved : (held : ℕ) (last : Subpool) (closed : Pool) → Whole held last closed (sum xs) xs
  all_moved held last closed =
      let some = pages_for xs long in
      subst (λ n. Whole held last closed n xs) some.2 (subst (λ ys. Whole held last closed (length some.0) ys) some.1
      (λ put all held_is last_is left_is closed_is is. share_given s next some.0 base p left q put.0 put.1 held last closed all held_is last_is left_is closed_is is))

-- ---- less is left that could be given back

pub lowers : (xs : List ℕ) (k : ℕ) (p q : Pool) → q ≡ trimmed (released k (puts_from 0 xs p)) → in_use q + sum xs ≡ in_use p →
    (sum xs ≡ 0 → k ≤ p.committed) → 0 < sum xs + k → to_return q < to_return p
lowers xs k p q is used covers some = go (sum xs) used covers some
  where
    less : q.committed ≡ (puts_from 0 xs p).committed - k
    less = ap (λ (x : Pool). x.committed) is

    same : (puts_from 0 xs p).committed ≡ p.committed
    same = ap (λ (x : Pool). x.committed) (puts_are xs p)

    go : (n : ℕ) → in_use q + n ≡ in_use p → (n ≡ 0 → k ≤ p.committed) → 0 < n + k → to_return q < to_return p
    go zero u c e = (let covered = c refl in omega (arith, u, e, covered, less, same))
    go (suc n) u c e = omega (arith, u, less, same)

-- where no page goes back, what the reservations held was committed
pub puts_cover : (s next : Subpool) (xs : List ℕ) (k : ℕ) (base p : Pool) → next ≡ record s { pages = s.pages - sum xs } →
    p ≡ released (fall s (sum xs)) (puts_from 0 xs base) → fall next k ≤ p.committed
    → sum xs ≡ 0 → fall s (sum xs + k) ≤ base.committed
puts_cover s next xs k base p next_is p_is covers none =
    let less = ap (λ (x : Pool). x.committed) p_is in
    let same = ap (λ (x : Pool). x.committed) (puts_are xs base) in
    let falls : fall next k ≡ fall (record s { pages = s.pages - sum xs }) k = ap (λ (x : Subpool). fall x k) next_is in
    let one : s.pages - sum xs ≡ s.pages = omega (arith, none) in
    let two : sum xs + k ≡ k = omega (arith, none) in
    let there : fall (record s { pages = s.pages - sum xs }) k ≡ fall s k = ap (λ n. fall (record s { pages = n }) k) one in
    let here : fall s (sum xs + k) ≡ fall s k = ap (fall s) two in
    omega (arith, less, same, falls, there, here, covers)

-- and what the share had
pub close_covers : (s next : Subpool) (xs : List ℕ) (held : ℕ) (last : Subpool) (base p left : Pool) → next ≡ record s { pages = s.pages - sum xs } →
    p ≡ released (fall s (sum xs)) (puts_from 0 xs base)
    → sum xs ≡ s.pages → held ≡ used next → last ≡ record next { held = next.held - held } → left ≡ released (fall next held) p →
    fall next held ≤ p.committed → last.min ≤ left.committed → sum xs ≡ 0 → committed_of s ≤ base.committed
close_covers s next xs held last base p left next_is p_is all held_is last_is left_is covers rest none =
    let less = ap (λ (x : Pool). x.committed) p_is in
    let same = ap (λ (x : Pool). x.committed) (puts_are xs base) in
    let then = ap (λ (x : Pool). x.committed) left_is in
    let pages_are = ap (λ (x : Subpool). x.pages + 0) next_is in
    let held_are = ap (λ (x : Subpool). x.held + 0) next_is in
    let min_is = ap (λ (x : Subpool). x.min + 0) next_is in
    let last_min = ap (λ (x : Subpool). x.min + 0) last_is in
    omega (arith, less, same, then, pages_are, held_are, min_is, last_min, all, held_is, covers, rest, none)
