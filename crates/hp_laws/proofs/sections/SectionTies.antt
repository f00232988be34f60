-- What each section leaves, for slots that want it so.
use Rattle.std.proofs.lemmas.Grind.{common_steps}
use Rattle.std.proofs.Common.{◌≡◌, ⊎_elim, ℕ, ◌-◌, sym, zero, suc, ◌+◌, ◌<◌, ◌≤◌, Bool, true, false, ◌==◌, List, [], ◌∷◌, length, map, refl, ap, ◌∙◌, cond, arith, if◌then◌else◌, sum, slice_index_or}
use Rattle.std.specs.List.{range_with_len}
use Rattle.std.proofs.lemmas.Bool.{cases_lt, eq-eqb, ne_eqb}
use Rattle.std.proofs.lemmas.List.{get_or_past, length-map}
use Rattle.std.proofs.lemmas.List.Sums.{sum_by-cons}
use Rattle.hp_laws.specs.Balance.{raised_by, lowered_by, takes, taken_at, given_at}
use Rattle.hp_model.proofs.Words.{IsSettledPool, Pool, can_grant, edit_at, filled_by, granted, granted_at, no_pages, no_row, nr_answer, page_taken, pages_taken, puts_from, released, rising_nodes}
use Rattle.hp_model.proofs.Words.{row_at, section, take_node, takes_at, takes_of, trimmed as settled_pool, used as row_used}
use Rattle.hp_laws.proofs.Variants.{FillPages, GiveBack, Grant, GrantAndReturn, GrantPage, PoolAnswer, ReadAndGiveBack, ReadAndGrant, Section, TakePage}
use Rattle.hp_model.specs.pool.PoolCounts.{used}
use Rattle.hp_model.proofs.RowMoves.{row_frames, used_sum}
use Rattle.hp_laws.proofs.lists.NodesOf.{count_of, counted_from, nodes_all}
use Rattle.hp_laws.proofs.sections.Sections.{Leads, long_as, unchanged, committed, took_one, gave_back}

-- ---- lists by node

pub map_same : (f g : ℕ → ℕ) (a k : ℕ) → ((n : ℕ) → n < a + k → f n ≡ g n) → map f (range_with_len a k) ≡ map g (range_with_len a k)
map_same f g a zero h = refl
map_same f g a (suc k) h = ap (λ x. x ∷ map f (range_with_len (a + 1) k)) (h a (omega arith)) ∙ ap (λ xs. g a ∷ xs) (map_same f g (a + 1) k (λ n l. h n (omega (arith, l))))

map_past : (f g : ℕ → ℕ) (a k m : ℕ) → m < a → ((n : ℕ) → a ≤ n → n < a + k → g n ≡ f n + cond (m == n) 1 0) → map f (range_with_len a k) ≡ map g (range_with_len a k)
map_past f g a zero m l h = refl
map_past f g a (suc k) m l h = grind (arith, ne_eqb, map_past f g (a + 1) k m (omega (arith, l)) (λ n l r. h n (omega (arith, l)) (omega (arith, r))))

-- one more at a node of the range
map_one : (f g : ℕ → ℕ) (a k j m : ℕ) → m ≡ a + j → ((n : ℕ) → a ≤ n → n < a + k → g n ≡ f n + cond (m == n) 1 0) → edit_at (λ x. x + 1) (map f (range_with_len a k)) j ≡ map g (range_with_len a k)
map_one f g a zero j m e h = refl
map_one f g a (suc k) zero m e h = grind (arith, eq-eqb, map_past)
map_one f g a (suc k) (suc j) m e h = grind (arith, ne_eqb, map_one f g (a + 1) k j m (omega (arith, e)) (λ n l r. h n (omega (arith, l)) (omega (arith, r))))

at_range : (f : ℕ → ℕ) (a k n : ℕ) → n < k → slice_index_or (map f (range_with_len a k)) n 0 ≡ f (a + n)
at_range f a zero n l = absurd (omega (arith, l))
at_range f a (suc k) zero l = ap f (omega arith)
at_range f a (suc k) (suc n) l = at_range f (a + 1) k n (omega (arith, l)) ∙ ap f (omega arith)

pub long_range : (a k : ℕ) → length (range_with_len a k) ≡ k
long_range a zero = refl
long_range a (suc k) = omega (arith, long_range (a + 1) k)

-- ---- sections

pub relead : (p q : Pool) (c d : ℕ) (us vs : List ℕ) → Leads p q c us → c ≡ d → us ≡ vs → Leads p q d vs
relead p q c d us vs l e h = grind arith

pub used_is : (p : Pool) → IsSettledPool p → used p ≡ sum (map row_used p.nodes.rows)
used_is p s = omega (arith, used_sum p.nodes.rows s.rows)

-- what the slots want of the section: c is what is committed to them, g n the pages that they have at n
pub record IsWanted (p : Pool) (sec : Section) (a : PoolAnswer) (f g : ℕ → ℕ) (c k : ℕ) : Type 0 where
  pub few : k ≤ 4
  pub long : length p.nodes.rows ≡ k
  pub was : map row_used p.nodes.rows ≡ map f (range_with_len 0 k)
  pub commits : c + lowered_by sec a ≡ p.committed + raised_by sec a
  pub pages : (n : ℕ) → n < 4 → g n + given_at n sec ≡ f n + taken_at n sec a
  pub covered : used p + takes sec a ≤ p.committed + raised_by sec a
  pub within : sum (map g (range_with_len 0 k)) ≤ c

pub same_list : (p : Pool) (f g : ℕ → ℕ) (k : ℕ) → k ≤ 4 → map row_used p.nodes.rows ≡ map f (range_with_len 0 k) →
    ((n : ℕ) → n < 4 → g n + 0 ≡ f n + 0) → map row_used p.nodes.rows ≡ map g (range_with_len 0 k)
same_list p f g k few was pages = was ∙ map_same f g 0 k (λ n l. (let e = pages n (omega (arith, few, l)) in omega (arith, e)))

compose : (p m q : Pool) (c d : ℕ) (us vs : List ℕ) → Leads p m c us → Leads m q d vs → Leads p q d vs
compose p m q c d us vs a b = grind arith

-- the section leads there, and takes no page at a node that there isn't
abbrev pub Goal : Pool → PoolAnswer × Pool → Section → (ℕ → ℕ) → (ℕ → ℕ) → ℕ → ℕ → Type 0
Goal p q sec f g c k = IsWanted p sec q.0 f g c k → Leads p q.1 c (map g (range_with_len 0 k)) × ((n : ℕ) → k ≤ n → taken_at n sec q.0 ≡ 0)

grant_case : (p : Pool) (home d : ℕ) (b : Bool) (f g : ℕ → ℕ) (c k : ℕ) → IsSettledPool p → can_grant d p ≡ b →
    Goal p (if b then (granted_at 0, granted home d p) else (no_pages, p)) (Grant home d) f g c k
grant_case p home d true f g c k s e w = (relead p (granted home d p) _ _ _ _ (committed home d p s e) (let x = w.commits in omega (arith, x)) (same_list p f g k w.few w.was w.pages), (λ n far. refl))
grant_case p home d false f g c k s e w = (relead p p _ _ _ _ (unchanged p s) (let x = w.commits in omega (arith, x)) (same_list p f g k w.few w.was w.pages), (λ n far. refl))

read_case : (p : Pool) (d : ℕ) (b : Bool) (f g : ℕ → ℕ) (c k : ℕ) → IsSettledPool p → can_grant d p ≡ b
    → Goal p (if b then (nr_answer true p, granted 0 d p) else (nr_answer false p, p)) (ReadAndGrant d) f g c k
read_case p d true f g c k s e w = (relead p (granted 0 d p) _ _ _ _ (committed 0 d p s e) (let x = w.commits in omega (arith, x)) (same_list p f g k w.few w.was w.pages), (λ n far. refl))
read_case p d false f g c k s e w = (relead p p _ _ _ _ (unchanged p s) (let x = w.commits in omega (arith, x)) (same_list p f g k w.few w.was w.pages), (λ n far. refl))

page_leads : (p : Pool) (home : ℕ) (f g : ℕ → ℕ) (c k : ℕ) → IsSettledPool p → k ≤ 4 → map row_used p.nodes.rows ≡ map f (range_with_len 0 k) → p.committed ≡ c
    → ((n : ℕ) → n < 4 → g n + 0 ≡ f n + cond (take_node home p == n) 1 0) → used p + 1 ≤ p.committed
    → Leads p (page_taken home p) c (map g (range_with_len 0 k)) × (take_node home p < length p.nodes.rows)
page_leads p home f g c k s few was commits pages covered =
    let node : ℕ = take_node home p in
    let one = took_one home p s covered in (
      relead p (page_taken home p) _ _ _ _ one.0 commits
          (ap (λ xs. edit_at (λ x. x + 1) xs node) was ∙ map_one f g 0 k node node (omega arith) (λ n l r. (let e = pages n (omega (arith, few, r)) in omega (arith, e)))),
      one.1,
    )

other_node : (node n : ℕ) → node < n → ◌≡◌ {A = ℕ} (cond (node == n) 1 0) 0
other_node node n l = ap (λ b. cond b 1 0) (ne_eqb node n (λ same. omega (arith, l, same)))

page_case : (p : Pool) (home d : ℕ) (b : Bool) (f g : ℕ → ℕ) (c k : ℕ) → IsSettledPool p → can_grant d p ≡ b
    → Goal p (if b then (granted_at (take_node home (granted home d p)), page_taken home (granted home d p)) else (no_pages, p)) (GrantPage home d) f g c k
page_case p home d true f g c k s e w =
    let mid : Pool = granted home d p in
    let first = committed home d p s e in
    let used = used_is p s in
    let used_mid = used_is mid first.settled in
    let same = ap sum first.is_used in
    let covered = w.covered in
    let taken = page_leads mid home f g c k first.settled w.few (first.is_used ∙ w.was) (let x = w.commits in omega (arith, x)) w.pages (omega (arith, used, used_mid, same, covered)) in
    let long = w.long in
    let long_mid = long_as p mid _ _ first in
    let within = taken.1 in (compose p mid (page_taken home mid) _ _ _ _ first taken.0, (λ n far. other_node (take_node home mid) n (omega (arith, within, long, long_mid, far))))
page_case p home d false f g c k s e w = (relead p p _ _ _ _ (unchanged p s) (let x = w.commits in omega (arith, x)) (same_list p f g k w.few w.was w.pages), (λ n far. refl))

-- ---- pages of a range

abbrev used_at_row : Pool → ℕ → ℕ
used_at_row p n = row_used (row_at p.nodes.rows n)

row_list : (p : Pool) (n : ℕ) → slice_index_or (map row_used p.nodes.rows) n 0 ≡ used_at_row p n
row_list p n = grind (arith, common_steps)

-- a list is what it has at each place
by_places : (us : List ℕ) (a : ℕ) (h : ℕ → ℕ) → ((n : ℕ) → n < length us → slice_index_or us n 0 ≡ h (a + n)) → us ≡ map h (range_with_len a (length us))
by_places [] a h e = refl
by_places (u ∷ us) a h e =
    ap (λ x. x ∷ us) (e 0 (omega arith) ∙ ap h {x = a + 0} {y = a} (omega arith))
    ∙ ap (λ xs. h a ∷ xs) (by_places us (a + 1) h (λ n l. e (suc n) (omega (arith, l)) ∙ ap h {x = a + suc n} {y = a + 1 + n} (omega arith)))

-- n pages more are in use, at no node fewer
record Took (p q : Pool) (n : ℕ) : Type 0 where
  pub settled : IsSettledPool q
  pub is_committed : q.committed ≡ p.committed
  pub more : used q ≡ used p + n
  pub each : (k : ℕ) → used_at_row p k ≤ used_at_row q k
  pub frames : map row_frames q.nodes.rows ≡ map row_frames p.nodes.rows

one_more : (us : List ℕ) (i k : ℕ) → slice_index_or us k 0 ≤ slice_index_or (edit_at (λ x. x + 1) us i) k 0
one_more [] i k = omega arith
one_more (u ∷ us) zero (suc k) = omega arith
one_more (u ∷ us) (suc i) (suc k) = one_more us i k
one_more (u ∷ us) i zero = grind arith

sum_more : (us : List ℕ) (i : ℕ) → i < length us → sum (edit_at (λ x. x + 1) us i) ≡ sum us + 1
sum_more [] i l = absurd (omega (arith, l))
sum_more (u ∷ us) zero l = omega (arith, sum_by-cons (λ (x : ℕ). x) (u + 1) us, sum_by-cons (λ (x : ℕ). x) u us)
sum_more (u ∷ us) (suc i) l = grind (arith, common_steps, sum_by-cons, sum_more us i (omega (arith, l)))

took : (n : ℕ) (p : Pool) → IsSettledPool p → used p + n ≤ p.committed → Took p (pages_taken n p) n
took zero p s l = record { settled = s; is_committed = refl; more = omega arith; each = λ k. omega arith; frames = refl }
took (suc n) p s l =
    let m : Pool = pages_taken n p in
    let before = took n p s (omega (arith, l)) in
    let more = before.more in
    let same = before.is_committed in
    let one = took_one 0 m before.settled (omega (arith, more, same, l)) in
    let lead = one.0 in
    let uses = used_is m before.settled in
    let uses_then = used_is (page_taken 0 m) lead.settled in
    let within = one.1 in
    let sums = ap sum lead.is_used in
    let plus = sum_more (map row_used m.nodes.rows) (take_node 0 m) (omega (arith, within, length-map m.nodes.rows row_used)) in
    record {
      settled = lead.settled;
      is_committed = same;
      more = omega (arith, more, uses, uses_then, sums, plus);
      each = λ k.
          (let first = before.each k in
          let here = one_more (map row_used m.nodes.rows) (take_node 0 m) k in
          let is = ap (λ us. slice_index_or us k 0) lead.is_used in
          omega (arith, first, here, is, row_list m k, row_list (page_taken 0 m) k));
      frames = lead.frames ∙ before.frames;
    }

sum_differences : (us vs : List ℕ) → length us ≡ length vs → ((n : ℕ) → slice_index_or us n 0 ≤ slice_index_or vs n 0) → (a : ℕ) (h : ℕ → ℕ)
    → ((n : ℕ) → h (a + n) ≡ slice_index_or vs n 0 - slice_index_or us n 0) → (k : ℕ) → length us ≤ k → sum us + sum (map h (range_with_len a k)) ≡ sum vs
sum_differences [] [] long le a h is zero few = refl
sum_differences [] [] long le a h is (suc k) few =
    let here = is 0 in
    let at = ap h {x = a} {y = a + 0} (omega arith) in
    let rest = sum_differences [] [] refl (λ n. omega arith) (a + 1) h (λ n. ap h {x = a + 1 + n} {y = a + suc n} (omega arith) ∙ is (suc n)) k (omega arith) in
    omega (arith, here, at, rest, sum_by-cons (λ (x : ℕ). x) (h a) (map h (range_with_len (a + 1) k)))
sum_differences [] (v ∷ vs) long le a h is k few = absurd (omega (arith, long))
sum_differences (u ∷ us) [] long le a h is k few = absurd (omega (arith, long))
sum_differences (u ∷ us) (v ∷ vs) long le a h is zero few = absurd (omega (arith, few))
sum_differences (u ∷ us) (v ∷ vs) long le a h is (suc k) few =
    let here = is 0 in
    let first = le 0 in
    let at = ap h {x = a} {y = a + 0} (omega arith) in
    let rest = sum_differences us vs (omega (arith, long)) (λ n. le (suc n)) (a + 1) h (λ n. ap h {x = a + 1 + n} {y = a + suc n} (omega arith) ∙ is (suc n)) k (omega (arith, few)) in
    omega (arith, here, first, at, rest, sum_by-cons (λ (x : ℕ). x) u us, sum_by-cons (λ (x : ℕ). x) v vs, sum_by-cons (λ (x : ℕ). x) (h a) (map h (range_with_len (a + 1) k)))

-- the pages by node, together and at each
module _ (p : Pool) (n : ℕ) (few : length p.nodes.rows ≤ 4) (s : IsSettledPool p) (t : Took p (pages_taken n p) n) where
  abbrev q : Pool
  q = pages_taken n p

  long_q : length q.nodes.rows ≡ length p.nodes.rows
  long_q = sym (length-map q.nodes.rows row_frames) ∙ ap length t.frames ∙ length-map p.nodes.rows row_frames

  takes_all : sum (takes_of n p) ≡ n
  takes_all =
      let us : List ℕ = map row_used p.nodes.rows in
      let vs : List ℕ = map row_used q.nodes.rows in
      let long_us = length-map p.nodes.rows row_used in
      let long_vs = length-map q.nodes.rows row_used in
      let sums = sum_differences us vs (omega (arith, long_us, long_vs, long_q)) (λ k. (let le = t.each k in omega (arith, le, row_list p k, row_list q k)))
      0 (takes_at p.nodes q.nodes) (λ k. (let same = ap (takes_at p.nodes q.nodes) {x = 0 + k} {y = k} (omega arith) in omega (arith, same, row_list p k, row_list q k)))
      4 (omega (arith, long_us, few)) in
      let more = t.more in
      omega (arith, sums, more, used_is p s, used_is q t.settled)

  taken_there : (k : ℕ) → k < 4 → count_of k (rising_nodes n (takes_of n p)) ≡ used_at_row q k - used_at_row p k
  taken_there k l =
      ap (count_of k) (nodes_all n (takes_of n p) takes_all) ∙ counted_from 0 k k (takes_of n p) (omega arith)
      ∙ at_range (takes_at p.nodes q.nodes) 0 4 k l ∙ ap (takes_at p.nodes q.nodes) {x = 0 + k} {y = k} (omega arith)

  taken_far : (k : ℕ) → length p.nodes.rows ≤ k → count_of k (rising_nodes n (takes_of n p)) ≡ 0
  taken_far k far =
      let at = ap (count_of k) (nodes_all n (takes_of n p) takes_all) ∙ counted_from 0 k k (takes_of n p) (omega arith) in
      ⊎_elim
      (λ (l : k < 4).
      let none_p = ap row_used (get_or_past p.nodes.rows k no_row far) in
      let none_q = ap row_used (get_or_past q.nodes.rows k no_row (omega (arith, long_q, far))) in
      omega (arith, taken_there k l, none_p, none_q))
      (λ (past : 4 ≤ k). at ∙ get_or_past (takes_of n p) k 0 (omega (arith, past, length-map (range_with_len 0 4) (takes_at p.nodes q.nodes)))) (cases_lt k 4)

fill_case : (p : Pool) (d n : ℕ) (b : Bool) (f g : ℕ → ℕ) (c k : ℕ) → IsSettledPool p → can_grant d p ≡ b
    → Goal p (if b then (filled_by (takes_of n (granted 0 d p)), pages_taken n (granted 0 d p)) else (no_pages, p)) (FillPages d n) f g c k
fill_case p d n false f g c k s e w = (relead p p _ _ _ _ (unchanged p s) (let x = w.commits in omega (arith, x)) (same_list p f g k w.few w.was w.pages), (λ n far. refl))
fill_case p d n true f g c k s e w =
    let mid : Pool = granted 0 d p in
    let q : Pool = pages_taken n mid in
    let first = committed 0 d p s e in
    let used = used_is p s in
    let used_mid = used_is mid first.settled in
    let same = ap sum first.is_used in
    let covered = w.covered in
    let commits = w.commits in
    let long = w.long in
    let few = w.few in
    let long_mid = long_as p mid _ _ first in
    let all = took n mid first.settled (omega (arith, used, used_mid, same, covered)) in
    let small : length mid.nodes.rows ≤ 4 = omega (arith, long, long_mid, few) in
    let far = taken_far mid n small first.settled all in
    let wide : length q.nodes.rows ≡ k = long_q mid n small first.settled all ∙ long_mid ∙ long in
    let wide_list : length (map row_used q.nodes.rows) ≡ k = length-map q.nodes.rows row_used ∙ wide in
    let each = λ (i : ℕ) (l : i < k).
    (let was = row_list mid i in
    let old = ap (λ us. slice_index_or us i 0) (first.is_used ∙ w.was) ∙ at_range f 0 k i l ∙ ap f {x = 0 + i} {y = i} (omega arith) in
    let took_there = taken_there mid n small first.settled all i (omega (arith, l, few)) in
    let more = all.each i in
    let page = w.pages i (omega (arith, l, few)) in
    let at : ◌≡◌ {A = ℕ} (slice_index_or (map row_used q.nodes.rows) i 0) (g i) = omega (arith, was, old, took_there, more, page, row_list q i) in
    at) in
    let used_list : map row_used q.nodes.rows ≡ map g (range_with_len 0 k) =
    by_places (map row_used q.nodes.rows) 0 g (λ i l. each i (omega (arith, l, wide_list)) ∙ ap g {x = i} {y = 0 + i} (omega arith)) ∙ ap (λ j. map g (range_with_len 0 j)) wide_list in (
      record {
        settled = all.settled;
        is_committed = all.is_committed ∙ omega (arith, commits);
        is_used = used_list;
        frames = all.frames ∙ first.frames;
      },
      (λ i past. far i (omega (arith, past, long, long_mid))),
    )

given_back : (puts : List ℕ) (j : ℕ) (p : Pool) (f g : ℕ → ℕ) (c k : ℕ) → IsSettledPool p → k ≤ 4 → length p.nodes.rows ≡ k → map row_used p.nodes.rows ≡ map f (range_with_len 0 k)
    → c + j ≡ p.committed → ((n : ℕ) → n < 4 → g n + slice_index_or puts n 0 ≡ f n + 0) → sum (map g (range_with_len 0 k)) ≤ c
    → Leads p (settled_pool (released j (puts_from 0 puts p))) c (map g (range_with_len 0 k))
given_back puts j p f g c k s few long was commits pages within = grind (arith, relead, gave_back, length-map, long_range, at_range)

return_case : (p : Pool) (d : ℕ) (b : Bool) (f g : ℕ → ℕ) (c k : ℕ) → IsSettledPool p → can_grant d p ≡ b
    → Goal p (if b then (nr_answer true p, settled_pool (released d (granted 0 d p))) else (nr_answer false p, p)) (GrantAndReturn d) f g c k
return_case p d true f g c k s e w =
    let mid : Pool = granted 0 d p in
    let first = committed 0 d p s e in
    let long_mid = long_as p mid _ _ first in (
      compose p mid (settled_pool (released d mid)) _ _ _ _ first
          (given_back [] d mid f g c k first.settled w.few (long_mid ∙ w.long) (first.is_used ∙ w.was) (let x = w.commits in omega (arith, x)) w.pages w.within),
      (λ n far. refl),
    )
return_case p d false f g c k s e w = (relead p p _ _ _ _ (unchanged p s) (let x = w.commits in omega (arith, x)) (same_list p f g k w.few w.was w.pages), (λ n far. refl))

pub section_leads : (p : Pool) (sec : Section) (f g : ℕ → ℕ) (c k : ℕ) → IsSettledPool p → Goal p (section p sec) sec f g c k
section_leads p (Grant home d) f g c k s w = grant_case p home d (can_grant d p) f g c k s refl w
section_leads p (GrantPage home d) f g c k s w = page_case p home d (can_grant d p) f g c k s refl w
section_leads p (TakePage home) f g c k s w =
    let taken = page_leads p home f g c k s w.few w.was (let x = w.commits in omega (arith, x)) w.pages (let l = w.covered in omega (arith, l)) in
    let long = w.long in
    let within = taken.1 in (taken.0, (λ n far. other_node (take_node home p) n (omega (arith, within, long, far))))
section_leads p (FillPages d n) f g c k s w = fill_case p d n (can_grant d p) f g c k s refl w
section_leads p (GiveBack puts j) f g c k s w = (given_back puts j p f g c k s w.few w.long w.was (let x = w.commits in omega (arith, x)) w.pages w.within, (λ n far. refl))
section_leads p (ReadAndGrant d) f g c k s w = read_case p d (can_grant d p) f g c k s refl w
section_leads p (ReadAndGiveBack j) f g c k s w = (given_back [] j p f g c k s w.few w.long w.was (let x = w.commits in omega (arith, x)) w.pages w.within, (λ n far. refl))
section_leads p (GrantAndReturn d) f g c k s w = return_case p d (can_grant d p) f g c k s refl w
