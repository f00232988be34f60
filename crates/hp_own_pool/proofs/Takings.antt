-- Pages that are taken node by node are taken as they are one after another, and come out by rising nodes.
use Rattle.std.proofs.Common.{◌≡◌, ℕ, zero, suc, ◌+◌, ◌-◌, ◌*◌, ◌<◌, cond, eqb, List, [], ◌∷◌, ◌++◌, length, replicate, take, refl, sym, ap, ◌∙◌, arith, ◌==◌, if◌then◌else◌, slice_index, slice_set}
use Rattle.std.proofs.Common.{count_by, sum}
use Rattle.std.proofs.lemmas.Bool.Decides.{nat_tests}
use Rattle.std.proofs.lemmas.List.{length-append, length-replicate, length-set}
use Rattle.std.proofs.lemmas.List.Folds.{sum_by-replicate}
use Rattle.std.proofs.lemmas.List.Sums.{sum_by-append, sum_by-cons}
use Rattle.std.proofs.Math.Seq.{take-append_seam}
use Rattle.hp_model.proofs.Words.{IsSettled, NodeRows, Page, Pool, nodes_from, pages_taken, rising_nodes, row_at, taken, taken_times, takes_at, takes_of, used}
use Rattle.hp_model.proofs.Counting.{count_map}
use Rattle.hp_subpool.specs.Subpool.{Subpool}
use Rattle.hp_mount_door.specs.Door.{by_node, IsReady}
use Rattle.hp_mount_door.specs.Filling.{AreRising, nodes_in, with_pages}
use Rattle.hp_own_pool.proofs.Returning.{four_are}

-- ---- claims

-- so many pages are taken from the first pool and the first share on, by these counts
pub record AreTaken (p q : Pool) (s t : Subpool) (done : ℕ) (counts : List ℕ) : Type 0 where
  pub pool : q ≡ pages_taken done p
  pub share : t ≡ with_pages done s
  pub four : length counts ≡ 4
  pub each : (k : ℕ) → used (row_at q.nodes.rows k) ≡ used (row_at p.nodes.rows k) + slice_index counts k
  pub sums : sum counts ≡ done

times_more : (home m n : ℕ) (s : NodeRows) → taken_times home n (taken_times home m s) ≡ taken_times home (m + n) s
times_more home m zero s = ap (λ k. taken_times home k s) {x = m} {y = m + 0} (omega arith)
times_more home m (suc n) s = ap (taken home) (times_more home m n s) ∙ ap (λ k. taken_times home k s) {x = suc (m + n)} {y = m + suc n} (omega arith)

raised : (counts : List ℕ) (node k n : ℕ) → node < length counts → slice_index (slice_set counts node (slice_index counts node + k)) n ≡ slice_index counts n + cond (eqb node n) k 0
raised [] node k n l = absurd (omega (arith, l))
raised (c ∷ cs) zero k zero l = refl
raised (c ∷ cs) zero k (suc n) l = grind (arith, nat_tests)
raised (c ∷ cs) (suc node) k zero l = grind (arith, nat_tests)
raised (c ∷ cs) (suc node) k (suc n) l = (let rest = raised cs node k n (omega (arith, l)) in grind (arith, nat_tests))

raised_sum : (counts : List ℕ) (node k : ℕ) → node < length counts → sum (slice_set counts node (slice_index counts node + k)) ≡ sum counts + k
raised_sum [] node k l = absurd (omega (arith, l))
raised_sum (c ∷ cs) zero k l = omega (arith, sum_by-cons (λ x. x) (c + k) cs, sum_by-cons (λ x. x) c cs)
raised_sum (c ∷ cs) (suc node) k l =
    (let rest = raised_sum cs node k (omega (arith, l)) in omega (arith, rest, sum_by-cons (λ x. x) c (slice_set cs node (slice_index cs node + k)), sum_by-cons (λ x. x) c cs))

none_at : (k : ℕ) → slice_index (0 ∷ 0 ∷ 0 ∷ 0 ∷ []) k ≡ 0
none_at zero = refl
none_at (suc zero) = refl
none_at (suc (suc zero)) = refl
none_at (suc (suc (suc zero))) = refl
none_at (suc (suc (suc (suc k)))) = refl

same_share : (s : Subpool) (held pages : ℕ) → held ≡ s.held → pages ≡ s.pages → record s { held = held; pages = pages } ≡ s
same_share s held pages h p = ap (λ n. record s { held = n; pages = pages }) h ∙ ap (λ n. record s { pages = n }) p

pub none_taken : (p : Pool) (s : Subpool) (counts : List ℕ) → counts ≡ 0 ∷ 0 ∷ 0 ∷ 0 ∷ [] → AreTaken p p s s 0 counts
none_taken p s counts is = record {
  pool = refl;
  share = sym (same_share s (s.held - 0) (s.pages + 0) (omega arith) (omega arith));
  four = ap length is;
  each = λ k. (let none = ap (λ xs. slice_index xs k) is ∙ none_at k in omega (arith, none));
  sums = ap sum is;
}

-- one claim more
pub more_taken : (p q r : Pool) (s t u : Subpool) (done k node : ℕ) (counts next : List ℕ) → AreTaken p q s t done counts → r ≡ pages_taken k q → u ≡ with_pages k t
    → ((n : ℕ) → used (row_at r.nodes.rows n) ≡ used (row_at q.nodes.rows n) + (if node == n then k else 0))
    → node < 4 → next ≡ slice_set counts node (slice_index counts node + k) → AreTaken p r s u (done + k) next
more_taken p q r s t u done k node counts next h r_is u_is more below next_is =
    let within : node < length counts = omega (arith, below, h.four) in
    record {
      pool = r_is ∙ ap (pages_taken k) h.pool ∙ ap (λ (x : NodeRows). record p { nodes = x }) (times_more 0 done k p.nodes);
      share = u_is ∙ ap (with_pages k) h.share
          ∙ ap (λ n. record s { held = n; pages = s.pages + done + k }) {x = s.held - done - k} {y = s.held - (done + k)} (omega arith)
          ∙ ap (λ n. record s { held = s.held - (done + k); pages = n }) {x = s.pages + done + k} {y = s.pages + (done + k)} (omega arith);
      four = ap length next_is ∙ length-set counts node _ ∙ h.four;
      each = λ n. (let here = ap (λ xs. slice_index xs n) next_is ∙ raised counts node k n within in omega (arith, more n, h.each n, here));
      sums = (let all = ap sum next_is ∙ raised_sum counts node k within in omega (arith, all, h.sums));
    }

-- all of them
pub all_taken : (p q : Pool) (s t : Subpool) (done : ℕ) (counts : List ℕ) → AreTaken p q s t done counts → counts ≡ takes_of done p
all_taken p q s t done counts h =
    four_are counts (takes_at p.nodes (taken_times 0 done p.nodes)) h.four
    (λ k l. (let same = ap (λ (x : Pool). used (row_at x.nodes.rows k)) h.pool in omega (arith, same, h.each k)))

taken_len : (home n : ℕ) (s : NodeRows) → length (taken_times home n s).rows ≡ length s.rows
taken_len home zero s = refl
taken_len home (suc n) s = length-set (taken_times home n s).rows _ _ ∙ taken_len home n s

pub filled_ready : (n : ℕ) (p q : Pool) → q ≡ pages_taken n p → (IsSettled p → IsSettled q) → IsReady p → IsReady q
filled_ready n p q is stays ready =
    let nodes = ready.nodes in
    let same = ap (λ (x : Pool). length x.nodes.rows) is ∙ taken_len 0 n p.nodes in
    record { settled = stays ready.settled; nodes = omega (arith, nodes, same) }

-- ---- pages

abbrev in_order : (a b c d : ℕ) → List ℕ
in_order a b c d = nodes_from 0 (a ∷ b ∷ c ∷ d ∷ [])

counted : (a b c d n : ℕ) → count_by (λ m. m == n) (in_order a b c d) ≡ a * cond (eqb 0 n) 1 0 + (b * cond (eqb 1 n) 1 0 + (c * cond (eqb 2 n) 1 0 + d * cond (eqb 3 n) 1 0))
counted a b c d n =
    let f : ℕ → ℕ = λ m. cond (eqb m n) 1 0 in
    let three = sum_by-append f (replicate d 3) [] in
    let two = sum_by-append f (replicate c 2) (replicate d 3 ++ []) in
    let one = sum_by-append f (replicate b 1) (replicate c 2 ++ (replicate d 3 ++ [])) in
    let all = sum_by-append f (replicate a 0) (replicate b 1 ++ (replicate c 2 ++ (replicate d 3 ++ []))) in
    omega (arith, all, one, two, three, sum_by-replicate f a 0, sum_by-replicate f b 1, sum_by-replicate f c 2, sum_by-replicate f d 3)

in_order_length : (a b c d : ℕ) → length (in_order a b c d) ≡ sum (a ∷ b ∷ c ∷ d ∷ [])
in_order_length a b c d =
    let three = length-append {A = ℕ} (replicate d 3) [] in
    let two = length-append {A = ℕ} (replicate c 2) (replicate d 3 ++ []) in
    let one = length-append {A = ℕ} (replicate b 1) (replicate c 2 ++ (replicate d 3 ++ [])) in
    let all = length-append {A = ℕ} (replicate a 0) (replicate b 1 ++ (replicate c 2 ++ (replicate d 3 ++ []))) in
    let none : length {A = ℕ} [] ≡ 0 = refl in
    let sums : sum (a ∷ b ∷ c ∷ d ∷ []) ≡ a + b + c + d = omega arith in
    omega (arith, sums, all, one, two, three, none, length-replicate {A = ℕ} a 0, length-replicate {A = ℕ} b 1, length-replicate {A = ℕ} c 2, length-replicate {A = ℕ} d 3)

-- so many pages of each node, in order, are counted so
counted_by_node : (a b c d : ℕ) (pages : List Page) → nodes_in pages ≡ in_order a b c d → by_node pages ≡ a ∷ b ∷ c ∷ d ∷ []
counted_by_node a b c d pages is =
    sym (four_are (a ∷ b ∷ c ∷ d ∷ []) (λ n. count_by (λ (page : Page). page.node == n) pages) refl
    (λ n l. each n l ∙ sym (sym (count_map (λ m. m == n) (λ (page : Page). page.node) pages) ∙ ap (count_by (λ m. m == n)) is ∙ counted a b c d n)))
  where
    each : (n : ℕ) → n < 4 → slice_index (a ∷ b ∷ c ∷ d ∷ []) n ≡ a * cond (eqb 0 n) 1 0 + (b * cond (eqb 1 n) 1 0 + (c * cond (eqb 2 n) 1 0 + d * cond (eqb 3 n) 1 0))
    each zero l = omega arith
    each (suc zero) l = omega arith
    each (suc (suc zero)) l = omega arith
    each (suc (suc (suc zero))) l = omega arith
    each (suc (suc (suc (suc n)))) l = absurd (omega (arith, l))

-- and their nodes rise
rising : (a b c d count : ℕ) (pages : List Page) → nodes_in pages ≡ in_order a b c d → sum (a ∷ b ∷ c ∷ d ∷ []) ≡ count → AreRising count pages
rising a b c d count pages is all =
    let counts = counted_by_node a b c d pages is in
    let long : length (in_order a b c d) ≡ count = in_order_length a b c d ∙ all in
    is ∙ sym (ap (rising_nodes count) counts ∙ ap (λ n. take n (in_order a b c d ++ replicate count 0)) (sym long) ∙ take-append_seam (in_order a b c d) (replicate count 0))

-- pages are added of the highest node first
pub all_in_order : (a b c d : ℕ) (counts : List ℕ) (empty three two one all : List Page) → empty ≡ [] → counts ≡ a ∷ b ∷ c ∷ d ∷ []
    → nodes_in three ≡ replicate d 3 ++ nodes_in empty → nodes_in two ≡ replicate c 2 ++ nodes_in three → nodes_in one ≡ replicate b 1 ++ nodes_in two
    → nodes_in all ≡ replicate a 0 ++ nodes_in one → (by_node all ≡ counts) × AreRising (sum counts) all
all_in_order a b c d counts empty three two one all none are at_three at_two at_one at_all =
    let order : nodes_in all ≡ in_order a b c d =
    at_all ∙ ap (λ xs. replicate a 0 ++ xs) (at_one ∙ ap (λ xs. replicate b 1 ++ xs) (at_two ∙ ap (λ xs. replicate c 2 ++ xs) (at_three ∙ ap (λ ps. replicate d 3 ++ nodes_in ps) none))) in
    (counted_by_node a b c d all order ∙ sym are, rising a b c d (sum counts) all order (ap sum (sym are)))
