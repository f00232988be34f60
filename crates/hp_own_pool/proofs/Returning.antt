-- Pages that go back in parts go back as they do at once.
use Rattle.std.proofs.Common.{◌≡◌, ℕ, zero, suc, ◌+◌, ◌-◌, ◌<◌, ◌≤◌, Bool, cond, eqb, List, [], ◌∷◌, ◌++◌, length, map, max, refl, sym, ap, subst, ◌∙◌, arith, ◌==◌, nat_lt, slice_index, slice_set}
use Rattle.std.proofs.Common.{OnErr, OnOk, Result, Ok, Err, count_by, sum}
use Rattle.std.specs.List.{range_with_len}
use Rattle.std.proofs.lemmas.Bool.{cond_both}
use Rattle.std.proofs.lemmas.Bool.Decides.{nat_tests}
use Rattle.std.proofs.lemmas.List.{length-append, length-set}
use Rattle.std.proofs.lemmas.List.Sums.{sum_by-cons, sum_by_push}
use Rattle.hp_model.specs.declared.node.NodeRow.{NodeRow}
use Rattle.hp_model.proofs.Words.{IsSettled, NodeRows, Page, Pool, at_row, give_back_row, give_back_times, given_back, granted, granted_at, kept_times, lowest, page_kept, page_taken, promote_row}
use Rattle.hp_model.proofs.Words.{puts_from, released, section, shrink_row, surp_of, surplus_times, total_of, trimmed}
use Rattle.hp_model.specs.declared.node.Kind.TheVariants.{Free, FreeSurplus, Surplus}
use Rattle.hp_model.specs.declared.refusal.Refusal.{Refusal}
use Rattle.hp_model.proofs.RowMoves.{put_rows, puts_are}
use Rattle.hp_subpool.specs.Subpool.{Subpool, committed_of, fall, used}
use Rattle.hp_mount_door.specs.Door.{by_node, GivesBack, IsReady}

-- ---- as many rows

pub surplus_len : (home k : ℕ) (s : NodeRows) → length (surplus_times home k s).rows ≡ length s.rows
surplus_len home zero s = refl
surplus_len home (suc k) s = length-set (surplus_times home k s).rows _ _ ∙ surplus_len home k s

pub given_len : (k : ℕ) (s : NodeRows) → length (give_back_times k s).rows ≡ length s.rows
given_len zero s = refl
given_len (suc k) s = one (give_back_times k s) ∙ given_len k s
  where
    one : (s : NodeRows) → length (given_back s).rows ≡ length s.rows
    one s =
        let both : ℕ = lowest FreeSurplus s.rows in
        let apart : List NodeRow = at_row shrink_row (lowest Free s.rows) s.rows in
        cond_both (nat_lt both (length s.rows)) (at_row give_back_row both s.rows) (at_row promote_row (lowest Surplus s.rows) apart) (λ (rows : List NodeRow). length rows ≡ length s.rows)
        (λ t. length-set s.rows _ _) (λ t. length-set apart _ _ ∙ length-set s.rows _ _)

pub granted_ready : (r : Result (Unit {0}) Refusal) (A B : Type 0) (home k : ℕ) (p q : Pool) → OnOk r (A × (q ≡ granted home k p)) → OnErr r (B × (q ≡ p)) → IsSettled q → IsReady p → IsReady q
granted_ready (Ok done) A B home k p q ok err is ready =
    let nodes = ready.nodes in
    let same = ap (λ (x : Pool). length x.nodes.rows) ok.1 ∙ surplus_len home (p.committed + k - total_of p.nodes.rows) p.nodes in
    record { settled = is; nodes = omega (arith, nodes, same) }
granted_ready (Err e) A B home k p q ok err is ready = subst IsReady (sym err.1) ready

pub taken_ready : (home : ℕ) (p q : Pool) → q ≡ page_taken home p → (IsSettled p → IsSettled q) → IsReady p → IsReady q
taken_ready home p q is stays ready =
    let nodes = ready.nodes in
    let same = ap (λ (x : Pool). length x.nodes.rows) is ∙ length-set p.nodes.rows _ _ in
    record { settled = stays ready.settled; nodes = omega (arith, nodes, same) }

-- ---- rows

-- the values from 0 on
abbrev firsts : (k : ℕ) → (ℕ → ℕ) → List ℕ
firsts zero f = []
firsts (suc k) f = f 0 ∷ firsts k (λ n. f (suc n))

put_nothing : (ks : List ℕ) (rows : List NodeRow) → sum ks ≡ 0 → put_rows ks rows ≡ rows
put_nothing [] rows e = refl
put_nothing (k ∷ ks) [] e = refl
put_nothing (k ∷ ks) (r ∷ rows) e =
    let parts = sum_by-cons (λ x. x) k ks in
    ap (λ x. record r { free = x } ∷ put_rows ks rows) (omega (arith, e, parts)) ∙ ap (λ rs. r ∷ rs) (put_nothing ks rows (omega (arith, e, parts)))

-- ---- the pool

falls_both : (x y z c : ℕ) → z ≤ y → y ≤ x → c - (x - y) - (y - z) ≡ c - (x - z)
falls_both x y z c l h = omega (arith, l, h)

-- pages are given up in two parts as they are at once
falls_are : (s : Subpool) (k r c : ℕ) → k ≤ s.pages → c - fall s k - fall (record s { pages = s.pages - k }) r ≡ c - fall s (k + r)
falls_are s k r c l =
    let u : ℕ = s.pages + s.held in
    let first : s.pages - k + s.held ≡ u - k = omega (arith, l) in
    let second : u - k - r ≡ u - (k + r) = omega arith in
    ap (λ v. c - fall s k - (max v s.min - max (v - r) s.min)) first ∙ ap (λ v. c - fall s k - (max (u - k) s.min - max v s.min)) second
    ∙ falls_both (max u s.min) (max (u - k) s.min) (max (u - (k + r)) s.min) c (omega arith) (omega arith)

-- pages that are put before a release, or after it
kept_released : (node k c : ℕ) (p : Pool) → kept_times node k (released c p) ≡ released c (kept_times node k p)
kept_released node zero c p = refl
kept_released node (suc k) c p = ap (page_kept node) (kept_released node k c p)

-- what is put at one more node
more_put : (s now next : Subpool) (base p q : Pool) (done k node : ℕ) → done ≤ s.pages → (now ≡ record s { pages = s.pages - done }) × (p ≡ released (fall s done) base)
    → next ≡ record now { pages = now.pages - k } → q ≡ released (fall now k) (kept_times node k p)
    → (next ≡ record s { pages = s.pages - (done + k) }) × (q ≡ released (fall s (done + k)) (kept_times node k base))
more_put s now next base p q done k node within was next_is q_is =
    let less : s.pages - done - k ≡ s.pages - (done + k) = omega arith in
    let mid : Subpool = record s { pages = s.pages - done } in
    let put : Pool = kept_times node k base in (
      next_is ∙ ap (λ (x : Subpool). record x { pages = x.pages - k }) was.0 ∙ ap (λ n. record s { pages = n }) less,
      q_is ∙ ap (λ x. released (fall x k) (kept_times node k p)) was.0 ∙ ap (λ x. released (fall mid k) (kept_times node k x)) was.1
          ∙ ap (released (fall mid k)) (kept_released node k (fall s done) base) ∙ ap (λ c. record put { committed = c }) (falls_are s done k put.committed within),
    )

-- so many at each of four nodes, one node after another
pub four_put : (s s1 s2 s3 s4 : Subpool) (p p1 p2 p3 p4 : Pool) (a b c d : ℕ) → sum (a ∷ b ∷ c ∷ d ∷ []) ≤ s.pages
    → s1 ≡ record s { pages = s.pages - a } → p1 ≡ released (fall s a) (kept_times 0 a p)
    → s2 ≡ record s1 { pages = s1.pages - b } → p2 ≡ released (fall s1 b) (kept_times 1 b p1)
    → s3 ≡ record s2 { pages = s2.pages - c } → p3 ≡ released (fall s2 c) (kept_times 2 c p2)
    → s4 ≡ record s3 { pages = s3.pages - d } → p4 ≡ released (fall s3 d) (kept_times 3 d p3)
    → (s4 ≡ record s { pages = s.pages - sum (a ∷ b ∷ c ∷ d ∷ []) }) × (p4 ≡ released (fall s (sum (a ∷ b ∷ c ∷ d ∷ []))) (puts_from 0 (a ∷ b ∷ c ∷ d ∷ []) p))
four_put s s1 s2 s3 s4 p p1 p2 p3 p4 a b c d within e1 q1 e2 q2 e3 q3 e4 q4 =
    let all : sum (a ∷ b ∷ c ∷ d ∷ []) ≡ a + b + c + d = omega arith in
    let two = more_put s s1 s2 (kept_times 0 a p) p1 p2 a b 1 (omega (arith, within, all)) (e1, q1) e2 q2 in
    let three = more_put s s2 s3 (kept_times 1 b (kept_times 0 a p)) p2 p3 (a + b) c 2 (omega (arith, within, all)) two e3 q3 in
    let four = more_put s s3 s4 (kept_times 2 c (kept_times 1 b (kept_times 0 a p))) p3 p4 (a + b + c) d 3 (omega (arith, within, all)) three e4 q4 in
    (four.0 ∙ ap (λ n. record s { pages = s.pages - n }) (sym all), four.1 ∙ ap (λ n. released (fall s n) (puts_from 0 (a ∷ b ∷ c ∷ d ∷ []) p)) (sym all))

put_length : (k : ℕ) (f : ℕ → ℕ) (rows : List NodeRow) → length (put_rows (firsts k f) rows) ≡ length rows
put_length zero f rows = refl
put_length (suc k) f [] = refl
put_length (suc k) f (r ∷ rows) = ap suc (put_length k (λ n. f (suc n)) rows)

-- ---- pages are counted

abbrev is_at : ℕ → Page → Bool
is_at n page = page.node == n

-- what is counted by node, and what still is to be
pub record AreCounted (all pages : List Page) (counts : List ℕ) : Type 0 where
  pub four : length counts ≡ 4
  pub each : (n : ℕ) → n < 4 → slice_index counts n + count_by (is_at n) pages ≡ count_by (is_at n) all
  pub sums : sum counts + length pages ≡ length all

pub none_counted : (pages : List Page) → AreCounted pages pages (0 ∷ 0 ∷ 0 ∷ 0 ∷ [])
none_counted pages = record { four = refl; each = λ n below. none n below; sums = (let nothing : sum (0 ∷ 0 ∷ 0 ∷ 0 ∷ []) ≡ 0 = refl in omega (arith, nothing)) }
  where
    none : (n : ℕ) → n < 4 → slice_index (0 ∷ 0 ∷ 0 ∷ 0 ∷ []) n + count_by (is_at n) pages ≡ count_by (is_at n) pages
    none zero l = omega arith
    none (suc zero) l = omega arith
    none (suc (suc zero)) l = omega arith
    none (suc (suc (suc zero))) l = omega arith
    none (suc (suc (suc (suc n)))) l = absurd (omega (arith, l))

bumped : (counts : List ℕ) (node n : ℕ) → node < length counts → slice_index (slice_set counts node (slice_index counts node + 1)) n ≡ slice_index counts n + cond (eqb node n) 1 0
bumped [] node n l = absurd (omega (arith, l))
bumped (c ∷ cs) zero zero l = refl
bumped (c ∷ cs) zero (suc n) l = grind (arith, nat_tests)
bumped (c ∷ cs) (suc node) zero l = grind (arith, nat_tests)
bumped (c ∷ cs) (suc node) (suc n) l = (let rest = bumped cs node n (omega (arith, l)) in grind (arith, nat_tests))

bumped_sum : (counts : List ℕ) (node : ℕ) → node < length counts → sum (slice_set counts node (slice_index counts node + 1)) ≡ sum counts + 1
bumped_sum [] node l = absurd (omega (arith, l))
bumped_sum (c ∷ cs) zero l = omega (arith, sum_by-cons (λ x. x) (c + 1) cs, sum_by-cons (λ x. x) c cs)
bumped_sum (c ∷ cs) (suc node) l =
    (let rest = bumped_sum cs node (omega (arith, l)) in omega (arith, rest, sum_by-cons (λ x. x) c (slice_set cs node (slice_index cs node + 1)), sum_by-cons (λ x. x) c cs))

pub one_counted : (all pages rest : List Page) (counts next : List ℕ) (page : Page) → pages ≡ rest ++ page ∷ [] → page.node < 4 →
    next ≡ slice_set counts page.node (slice_index counts page.node + 1) → AreCounted all pages counts
    → AreCounted all rest next
one_counted all pages rest counts next page is below next_is h =
    let long = ap length is ∙ length-append rest (page ∷ []) in
    let within : page.node < length counts = omega (arith, below, h.four) in
    record {
      four = ap length next_is ∙ length-set counts page.node _ ∙ h.four;
      each = λ n l.
          (let more = ap (λ xs. slice_index xs n) next_is ∙ bumped counts page.node n within in
          let pushed = ap (count_by (is_at n)) is ∙ sum_by_push (λ x. cond (is_at n x) 1 0) rest page in
          let was = h.each n l in
          omega (arith, more, pushed, was));
      sums = (let more = ap sum next_is ∙ bumped_sum counts page.node within in omega (arith, more, long, h.sums));
    }

pub four_are : (counts : List ℕ) (f : ℕ → ℕ) → length counts ≡ 4 → ((n : ℕ) → n < 4 → slice_index counts n ≡ f n) → counts ≡ map f (range_with_len 0 4)
four_are [] f l h = absurd (omega (arith, l))
four_are (a ∷ []) f l h = absurd (omega (arith, l))
four_are (a ∷ b ∷ []) f l h = absurd (omega (arith, l))
four_are (a ∷ b ∷ c ∷ []) f l h = absurd (omega (arith, l))
four_are (a ∷ b ∷ c ∷ d ∷ []) f l h =
    ap (λ x. x ∷ b ∷ c ∷ d ∷ []) (h 0 (omega arith)) ∙ ap (λ x. f 0 ∷ x ∷ c ∷ d ∷ []) (h 1 (omega arith))
    ∙ ap (λ x. f 0 ∷ f 1 ∷ x ∷ d ∷ []) (h 2 (omega arith)) ∙ ap (λ x. f 0 ∷ f 1 ∷ f 2 ∷ x ∷ []) (h 3 (omega arith))
four_are (a ∷ b ∷ c ∷ d ∷ e ∷ rest) f l h = absurd (omega (arith, l))

pub all_counted : (all pages : List Page) (counts : List ℕ) → pages ≡ [] → AreCounted all pages counts → (counts ≡ by_node all) × (sum (by_node all) ≡ length all)
all_counted all pages counts none h =
    let are : counts ≡ by_node all = four_are counts (λ n. count_by (is_at n) all) h.four (λ n l. (let no = ap (count_by (is_at n)) none in omega (arith, no, h.each n l))) in
    (are, ap sum (sym are) ∙ (let no = ap length none in omega (arith, no, h.sums)))

-- ---- a share that ends

-- all that the mount has committed
falls_whole : (pages held min c : ℕ) → c - (max (pages + held) min - max (pages + held - pages) min) - (max held min - max (held - held) min) - min ≡ c - max (pages + held) min
falls_whole pages held min c =
    let first : pages + held - pages ≡ held = omega arith in
    let second : held - held ≡ 0 = omega arith in
    let third : max 0 min ≡ min = omega arith in
    ap (λ v. c - (max (pages + held) min - max v min) - (max held min - max (held - held) min) - min) first
    ∙ ap (λ v. c - (max (pages + held) min - max held min) - (max held min - max v min) - min) second
    ∙ ap (λ v. c - (max (pages + held) min - max held min) - (max held min - v) - min) third
    ∙ falls_all (max (pages + held) min) (max held min) min c (omega arith) (omega arith)
  where
    falls_all : (x y z c : ℕ) → z ≤ y → y ≤ x → c - (x - y) - (y - z) - z ≡ c - x
    falls_all x y z c l h = omega (arith, l, h)

-- a pool that was ready is ready when it is settled again
pub settled_ready : (pages : List Page) (k : ℕ) (p q : Pool) → IsReady p → IsSettled q → q ≡ trimmed (released k (puts_from 0 (by_node pages) p)) → IsReady q
settled_ready pages k p q ready is q_is =
    let nodes = ready.nodes in
    let put : Pool = released k (puts_from 0 (by_node pages) p) in
    let rows = puts_are (by_node pages) p in
    let same =
    ap (λ (x : Pool). length x.nodes.rows) q_is ∙ given_len (surp_of put.nodes.rows - (put.committed - put.nr)) put.nodes
    ∙ ap (λ (x : Pool). length x.nodes.rows) rows ∙ put_length 4 (λ n. count_by (is_at n) pages) p.nodes.rows in
    record { settled = is; nodes = omega (arith, nodes, same) }

-- at no node is there a page
no_nodes : (f : ℕ → ℕ) (k a : ℕ) → sum (map f (range_with_len a k)) ≡ 0 → map f (range_with_len a k) ≡ map (λ n. 0) (range_with_len a k)
no_nodes f zero a e = refl
no_nodes f (suc k) a e =
    let parts = sum_by-cons (λ (n : ℕ). n) (f a) (map f (range_with_len (a + 1) k)) in
    let here : f a ≡ 0 = omega (arith, parts, e) in
    ap (λ x. x ∷ map f (range_with_len (a + 1) k)) here ∙ ap (λ xs. 0 ∷ xs) (no_nodes f k (a + 1) (omega (arith, parts, e)))

-- nothing goes back
nothing_given : (pages : List Page) (k : ℕ) (p : Pool) → IsSettled p → by_node pages ≡ by_node [] → k ≡ 0 → trimmed (released k (puts_from 0 (by_node pages) p)) ≡ p
nothing_given pages k p was none nothing =
    let spare : surp_of p.nodes.rows - (p.committed - p.nr) ≡ 0 = omega (arith, was) in
    let empty : List ℕ = by_node [] in
    ap (λ xs. trimmed (released k (puts_from 0 xs p))) none ∙ ap (λ n. trimmed (released n (puts_from 0 empty p))) nothing
    ∙ ap (λ q. trimmed (released 0 q)) (puts_are empty p ∙ ap (λ rs. record p { nodes = record p.nodes { rows = rs } }) (put_nothing empty p.nodes.rows refl))
    ∙ ap (λ c. trimmed (record p { committed = c })) (let same : p.committed - 0 ≡ p.committed = omega arith in same)
    ∙ ap (λ n. record p { nodes = give_back_times n p.nodes }) spare

pub all_given : (pages : List Page) (k : ℕ) (p q : Pool) → IsReady p → q ≡ trimmed (released k (puts_from 0 (by_node pages) p)) → GivesBack (λ p s a q. section p s ≡ (a, q)) pages k p q
all_given pages k p q ready is = record {
  some = λ l. ap (λ x. (granted_at 0, x)) (sym is);
  none = λ e. is ∙ nothing_given pages k p ready.settled (no_nodes (λ n. count_by (is_at n) pages) 4 0 (omega (arith, e))) (omega (arith, e));
}

-- pages and reservations
module _ (s next : Subpool) (pages : List Page) (base p left q : Pool) (next_is : next ≡ record s { pages = s.pages - length pages })
    (p_is : p ≡ released (fall s (length pages)) (puts_from 0 (by_node pages) base)) where
  pub both_given : (k : ℕ) → length pages ≤ s.pages → left ≡ released (fall next k) p → q ≡ trimmed left → q ≡ trimmed (released (fall s (length pages + k)) (puts_from 0 (by_node pages) base))
  both_given k within left_is is =
      let puts : Pool = puts_from 0 (by_node pages) base in
      is ∙ ap trimmed left_is ∙ ap (λ x. trimmed (released (fall x k) p)) next_is ∙ ap (λ x. trimmed (released (fall (record s { pages = s.pages - length pages }) k) x)) p_is
      ∙ ap (λ c. trimmed (record puts { committed = c })) (falls_are s (length pages) k puts.committed within)

  -- and the minimum with them
  pub share_given : (held : ℕ) (last : Subpool) (closed : Pool) → length pages ≡ s.pages → held ≡ used next →
      last ≡ record next { held = next.held - held } → left ≡ released (fall next held) p → closed ≡ released last.min left → q ≡ trimmed closed
      → q ≡ trimmed (released (committed_of s) (puts_from 0 (by_node pages) base))
  share_given held last closed all held_is last_is left_is closed_is is =
      let puts : Pool = puts_from 0 (by_node pages) base in
      let ended : Subpool = record s { pages = s.pages - length pages } in
      let none : s.pages - s.pages + s.held ≡ s.held = omega arith in
      is ∙ ap trimmed closed_is ∙ ap (λ x. trimmed (released x.min left)) last_is ∙ ap (λ x. trimmed (released x.min left)) next_is
      ∙ ap (λ x. trimmed (released s.min x)) left_is ∙ ap (λ n. trimmed (released s.min (released (fall next n) p))) held_is
      ∙ ap (λ x. trimmed (released s.min (released (fall x (used x)) p))) next_is
      ∙ ap (λ x. trimmed (released s.min (released (fall ended (used ended)) x))) p_is
      ∙ ap (λ n. trimmed (released s.min (released (fall (record s { pages = s.pages - n }) (used (record s { pages = s.pages - n }))) (released (fall s n) puts)))) all
      ∙ ap (λ v. trimmed (record puts { committed = puts.committed - fall s s.pages - (max v s.min - max (v - v) s.min) - s.min })) none
      ∙ ap (λ c. trimmed (record puts { committed = c })) (falls_whole s.pages s.held s.min puts.committed)
