-- A section that commits nothing more, and neither takes nor puts a page, leaves a settled pool as it was.
use Rattle.std.proofs.Common.{arith, ◌≡◌, ◌⊎◌, ⊎_elim, inl, inr, ℕ, zero, suc, ◌+◌, ◌<◌, ◌≤◌, ◌==◌, Bool, true, false, List, [], ◌∷◌, length, drop}
use Rattle.std.proofs.Common.{max, refl, sym, ap, ◌∙◌, count_by, if◌then◌else◌, slice_index_or}
use Rattle.std.proofs.lemmas.Bool.{cases_lt, cond_both, eq-eqb}
use Rattle.std.proofs.lemmas.List.{set_past}
use Rattle.hp_laws.proofs.Variants.{FillPages, GiveBack, Grant, GrantAndReturn, GrantPage, PoolAnswer, ReadAndGiveBack, ReadAndGrant, Section, TakePage}
use Rattle.hp_model.proofs.Words.{IsSettledPool, Pool, at_row, can_grant, filled_by, granted, granted_at, kept_times, no_pages, nr_answer, page_taken, pages_taken}
use Rattle.hp_model.proofs.Words.{puts_from, put_row, released, rising_nodes, section}
use Rattle.hp_model.proofs.Words.{take_node, takes_of, total_of, trimmed}
use Rattle.hp_model.proofs.Counting.{count_cons}
use Rattle.hp_laws.specs.Balance.{given_at, lowered_by, raised_by, taken_at}
use Rattle.hp_laws.proofs.steps.RefusalsKeep.{granted_none, settled_already}

abbrev pub is_return : Section → Bool
is_return (GrantAndReturn d) = true
is_return other = false

granted_nothing : (home : ℕ) (p : Pool) → total_of p.nodes.rows ≡ max p.nr p.committed → granted home 0 p ≡ p
granted_nothing home p total = grind arith

-- ---- pages taken

take_nothing : (home : ℕ) (p : Pool) → length p.nodes.rows ≤ 4 → (take_node home p < 4 → ⊥) → page_taken home p ≡ p
take_nothing home p few none =
    let far : 4 ≤ take_node home p = ⊎_elim (λ (l : take_node home p < 4). absurd (none l)) (λ (l : 4 ≤ take_node home p). l) (cases_lt (take_node home p) 4) in
    ap (λ rows. record p { nodes = record p.nodes { rows = rows } }) (set_past p.nodes.rows (take_node home p) _ (omega (arith, few, far)))

abbrev one_if : Bool → ℕ
one_if b = if b then 1 else 0

is_one : (n : ℕ) → one_if (n == n) ≡ 0 → ⊥
is_one n e = absurd (omega (arith, e, ap one_if (eq-eqb n n refl)))

head_counts : (k : ℕ) (xs : List ℕ) → count_by (λ j. j == k) (k ∷ xs) ≡ 0 → ⊥
head_counts k xs e = absurd (omega (arith, e, count_cons (λ j. j == k) k xs, ap one_if (eq-eqb k k refl)))

rising_none : (n a b c d : ℕ) → ((k : ℕ) → k < 4 → count_by (λ j. j == k) (rising_nodes n (a ∷ b ∷ c ∷ d ∷ [])) ≡ 0) → n ≡ 0
rising_none zero a b c d h = refl
rising_none (suc n) (suc a) b c d h = absurd (head_counts 0 (drop 1 (rising_nodes (suc n) (suc a ∷ b ∷ c ∷ d ∷ []))) (h 0 (omega arith)))
rising_none (suc n) zero (suc b) c d h = absurd (head_counts 1 (drop 1 (rising_nodes (suc n) (zero ∷ suc b ∷ c ∷ d ∷ []))) (h 1 (omega arith)))
rising_none (suc n) zero zero (suc c) d h = absurd (head_counts 2 (drop 1 (rising_nodes (suc n) (zero ∷ zero ∷ suc c ∷ d ∷ []))) (h 2 (omega arith)))
rising_none (suc n) zero zero zero (suc d) h = absurd (head_counts 3 (drop 1 (rising_nodes (suc n) (zero ∷ zero ∷ zero ∷ suc d ∷ []))) (h 3 (omega arith)))
rising_none (suc n) zero zero zero zero h = absurd (head_counts 0 (drop 1 (rising_nodes (suc n) (zero ∷ zero ∷ zero ∷ zero ∷ []))) (h 0 (omega arith)))

-- ---- pages put

kept_past : (node k : ℕ) (p : Pool) → length p.nodes.rows ≤ node → kept_times node k p ≡ p
kept_past node zero p far = refl
kept_past node (suc k) p far =
    ap (λ (q : Pool). record q { nodes = record q.nodes { rows = at_row put_row node q.nodes.rows } }) (kept_past node k p far)
    ∙ ap (λ rows. record p { nodes = record p.nodes { rows = rows } }) (set_past p.nodes.rows node _ far)

puts_none : (j : ℕ) (ks : List ℕ) (p : Pool) → ((i : ℕ) → i < length ks → (slice_index_or ks i 0 ≡ 0) ⊎ (length p.nodes.rows ≤ j + i)) → puts_from j ks p ≡ p
puts_none j [] p h = refl
puts_none j (k ∷ ks) p h =
    let first : kept_times j k p ≡ p =
    ⊎_elim (λ (none : k ≡ 0). ap (λ n. kept_times j n p) none) (λ (far : length p.nodes.rows ≤ j + 0). kept_past j k p (omega (arith, far))) (h 0 (omega arith)) in
    ap (puts_from (j + 1) ks) first
    ∙ puts_none (j + 1) ks p (λ i low. ⊎_elim (λ (none : slice_index_or ks i 0 ≡ 0). inl none) (λ (far : length p.nodes.rows ≤ j + suc i). inr (omega (arith, far))) (h (suc i) (omega (arith, low))))

-- ---- sections

module _ (p : Pool) (st : IsSettledPool p) (few : length p.nodes.rows ≤ 4) where
  abbrev Quiet : Section → PoolAnswer × Pool → Type 0
  Quiet x q = raised_by x q.0 ≡ lowered_by x q.0 → ((n : ℕ) → n < 4 → taken_at n x q.0 ≡ given_at n x) → q.1 ≡ p

  took : (home d : ℕ) → d ≡ 0 → ((n : ℕ) → n < 4 → one_if (take_node home (granted home d p) == n) ≡ 0) → page_taken home (granted home d p) ≡ p
  took home d none pages =
      let same : granted home d p ≡ p = ap (λ d. granted home d p) none ∙ granted_nothing home p st.total in
      ap (page_taken home) same
      ∙ take_nothing home p few (λ low. (let node : take_node home (granted home d p) ≡ take_node home p = ap (take_node home) same in
      is_one (take_node home (granted home d p)) (pages (take_node home (granted home d p)) (omega (arith, low, node)))))

  pub quiet : (x : Section) → is_return x ≡ false → Quiet x (section p x)
  quiet (Grant home d) back =
      cond_both (can_grant d p) (granted_at 0, granted home d p) (no_pages, p) (Quiet (Grant home d))
      (λ yes none pages. ap (λ d. granted home d p) none ∙ granted_nothing home p st.total) (λ no none pages. refl)
  quiet (GrantPage home d) back =
      cond_both (can_grant d p) (granted_at (take_node home (granted home d p)), page_taken home (granted home d p)) (no_pages, p) (Quiet (GrantPage home d))
      (λ yes none pages. took home d none pages) (λ no none pages. refl)
  quiet (TakePage home) back = λ none pages. take_nothing home p few (λ low. is_one (take_node home p) (pages (take_node home p) low))
  quiet (FillPages d n) back =
      cond_both (can_grant d p) (filled_by (takes_of n (granted 0 d p)), pages_taken n (granted 0 d p)) (no_pages, p) (Quiet (FillPages d n))
      (λ yes none pages. ap (λ m. pages_taken m (granted 0 d p)) (rising_none n _ _ _ _ pages) ∙ ap (λ d. granted 0 d p) none ∙ granted_none p st.total) (λ no none pages. refl)
  quiet (GiveBack puts k) back = λ none pages.
      (let same : puts_from 0 puts p ≡ p =
      puts_none 0 puts p (λ i low. ⊎_elim (λ (l : i < 4). inl (sym (pages i l))) (λ (l : 4 ≤ i). inr (omega (arith, l, few))) (cases_lt i 4)) in
      ap (λ q. trimmed (released k q)) same ∙ ap (λ d. trimmed (released d p)) (sym none) ∙ settled_already p st)
  quiet (ReadAndGrant d) back =
      cond_both (can_grant d p) (nr_answer true p, granted 0 d p) (nr_answer false p, p) (Quiet (ReadAndGrant d))
      (λ yes none pages. ap (λ d. granted 0 d p) none ∙ granted_none p st.total) (λ no none pages. refl)
  quiet (ReadAndGiveBack k) back = λ none pages. ap (λ d. trimmed (released d p)) (sym none) ∙ settled_already p st
  quiet (GrantAndReturn d) back = cc
