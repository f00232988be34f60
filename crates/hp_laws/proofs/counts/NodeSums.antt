-- The pages at the nodes together are no more than the pages.
use Rattle.std.proofs.Common.{◌≡◌, ◌≢◌, ⊎_elim, subst, ℕ, zero, suc, ◌+◌, ◌<◌, ◌≤◌, Bool, true, false, ◌&&◌, ◌==◌, not, None, Some, List, [], ◌∷◌, length, map, refl, sym, ap, ◌∙◌, cond, arith}
use Rattle.std.proofs.Common.{if◌then◌else◌, sum_by, count_by, filter_map, All}
use Rattle.std.specs.List.{cons_option, range_with_len}
use Rattle.std.proofs.lemmas.Bool.{or_cases, or_left, or_right, eq-eqb, eqb-true, ne_eqb}
use Rattle.std.proofs.lemmas.List.Elements.{All-head, All-tail}
use Rattle.std.proofs.lemmas.List.Sums.{sum_by-cons}
use Rattle.hp_model.proofs.Words.{Copy, File, IsSound, IsSoundFile, Page, Slot, copies_of, distinct, file_pages, file_pages_at, has_page, is_among, is_page_at, slot_committed, slot_pages}
use Rattle.hp_model.proofs.Words.{slot_pages_at, stamp_at}
use Rattle.hp_laws.proofs.Variants.{Cell, Entered, Hole, Present}
use Rattle.hp_model.proofs.Distinct.{length_if}
use Rattle.hp_laws.proofs.counts.Copies.{agreed_file}
use Rattle.hp_laws.proofs.counts.CopiesHeld.{IsAgreed, stamps_at_are}

-- ---- sums over nodes

sum_plus : (f g : ℕ → ℕ) (ns : List ℕ) → sum_by (λ n. f n + g n) ns ≡ sum_by f ns + sum_by g ns
sum_plus f g [] = refl
sum_plus f g (n ∷ ns) = omega (arith, sum_by-cons (λ n. f n + g n) n ns, sum_by-cons f n ns, sum_by-cons g n ns, sum_plus f g ns)

sum_same : (f g : ℕ → ℕ) → ((n : ℕ) → f n ≡ g n) → (ns : List ℕ) → sum_by f ns ≡ sum_by g ns
sum_same f g h ns = grind arith

sum_none : (ns : List ℕ) → sum_by (λ n. 0) ns ≡ 0
sum_none [] = refl
sum_none (n ∷ ns) = omega (arith, sum_by-cons (λ (n : ℕ). 0) n ns, sum_none ns)

pub swap_le : {X : Type 0} (P : X → Type 0) (g : ℕ → X → ℕ) (h : X → ℕ) (ns : List ℕ) → ((x : X) → P x → sum_by (λ n. g n x) ns ≤ h x) → (xs : List X) → All P xs
    → sum_by (λ n. sum_by (g n) xs) ns ≤ sum_by h xs
swap_le P g h ns each [] all = omega (arith, sum_none ns)
swap_le P g h ns each (x ∷ xs) all =
    let split = sum_same (λ n. sum_by (g n) (x ∷ xs)) (λ n. g n x + sum_by (g n) xs) (λ n. sum_by-cons (g n) x xs) ns in
    let plus = sum_plus (λ n. g n x) (λ n. sum_by (g n) xs) ns in
    omega (arith, split, plus, each x (All-head P x xs all), swap_le P g h ns each xs (All-tail P x xs all), sum_by-cons h x xs)

-- one more at one node
sum_one : (f g : ℕ → ℕ) (node : ℕ) → ((n : ℕ) → g n ≤ f n + cond (node == n) 1 0) → (ns : List ℕ) → sum_by g ns ≤ sum_by f ns + count_by (λ n. node == n) ns
sum_one f g node h [] = omega arith
sum_one f g node h (n ∷ ns) = omega (arith, sum_by-cons g n ns, sum_by-cons f n ns, sum_by-cons (λ n. cond (node == n) 1 0) n ns, h n, sum_one f g node h ns)

sum_le : (f g : ℕ → ℕ) → ((n : ℕ) → g n ≤ f n) → (ns : List ℕ) → sum_by g ns ≤ sum_by f ns
sum_le f g h [] = omega arith
sum_le f g h (n ∷ ns) = omega (arith, sum_by-cons g n ns, sum_by-cons f n ns, h n, sum_le f g h ns)

-- ---- copies

abbrev held_at : ℕ → List Copy → List ℕ
held_at n cs = filter_map (stamp_at n) cs

abbrev Agreed : List Copy → Type 0
Agreed cs = (q m n : ℕ) → is_among q (held_at m cs) ≡ true → is_among q (held_at n cs) ≡ true → m ≡ n

among_if : (b : Bool) (q s : ℕ) (rest : List ℕ) → is_among q rest ≡ true → is_among q (cons_option (if b then Some s else None) rest) ≡ true
among_if b q s rest e = grind arith

among_here : (b : Bool) (s : ℕ) (rest : List ℕ) → b ≡ true → is_among s (cons_option (if b then Some s else None) rest) ≡ true
among_here b s rest e = grind arith

some_node : (q : ℕ) (cs : List Copy) → is_among q (map (λ c. c.stamp) cs) ≡ true → (n : ℕ) × (is_among q (held_at n cs) ≡ true)
some_node q [] e = cc
some_node q (c ∷ cs) e =
    ⊎_elim (λ l. (
      c.page.node,
      subst (λ (s : ℕ). is_among s (held_at c.page.node (c ∷ cs)) ≡ true) (eqb-true c.stamp q l)
          (among_here (c.page.node == c.page.node) c.stamp (held_at c.page.node cs) (eq-eqb c.page.node c.page.node refl)),
    ))
    (λ r. (let rest = some_node q cs r in (rest.0, among_if (c.page.node == rest.0) q c.stamp (held_at rest.0 cs) rest.1)))
    (or_cases (c.stamp == q) (is_among q (map (λ c. c.stamp) cs)) e)

one_step : (x b : Bool) (s : ℕ) (rest : List ℕ) → (x ≡ true → b ≡ true → is_among s rest ≡ true) →
    length (distinct (cons_option (if x then Some s else None) rest)) ≤ length (distinct rest) + cond (not b && x) 1 0
one_step x b s rest h = grind arith

-- whether the stamp is among the others, each node has at most what it may
copies_more : (ns : List ℕ) → ((node : ℕ) → count_by (λ n. node == n) ns ≤ 1) → (c : Copy) (cs : List Copy) → Agreed (c ∷ cs) → (b : Bool) → is_among c.stamp (map (λ c. c.stamp) cs) ≡ b
    → sum_by (λ n. length (distinct (held_at n cs))) ns ≤ length (distinct (map (λ c. c.stamp) cs))
    → sum_by (λ n. length (distinct (held_at n (c ∷ cs)))) ns ≤ length (distinct (map (λ c. c.stamp) (c ∷ cs)))
copies_more ns once c cs agreed true e rest =
    let stamps : List ℕ = map (λ c. c.stamp) cs in
    let other = some_node c.stamp cs e in
    let same : other.0 ≡ c.page.node = agreed c.stamp other.0 c.page.node (among_if (c.page.node == other.0) c.stamp c.stamp (held_at other.0 cs) other.1)
    (among_here (c.page.node == c.page.node) c.stamp (held_at c.page.node cs) (eq-eqb c.page.node c.page.node refl)) in
    let each = λ (n : ℕ). one_step (c.page.node == n) true c.stamp (held_at n cs)
    (λ is t. subst (λ (k : ℕ). is_among c.stamp (held_at k cs) ≡ true) (same ∙ eqb-true c.page.node n is) other.1) in
    let sums = sum_le (λ n. length (distinct (held_at n cs))) (λ n. length (distinct (held_at n (c ∷ cs)))) (λ n. (let l = each n in omega (arith, l))) ns in
    let long = length_if (is_among c.stamp stamps) c.stamp (distinct stamps) ∙ ap (λ b. cond b (length (distinct stamps)) (length (distinct stamps) + 1)) e in
    omega (arith, sums, long, rest)
copies_more ns once c cs agreed false e rest =
    let stamps : List ℕ = map (λ c. c.stamp) cs in
    let sums = sum_one (λ n. length (distinct (held_at n cs))) (λ n. length (distinct (held_at n (c ∷ cs)))) c.page.node
    (λ n. one_step (c.page.node == n) false c.stamp (held_at n cs) (λ is t. cc)) ns in
    let long = length_if (is_among c.stamp stamps) c.stamp (distinct stamps) ∙ ap (λ b. cond b (length (distinct stamps)) (length (distinct stamps) + 1)) e in
    omega (arith, sums, long, rest, once c.page.node)

copies_below : (ns : List ℕ) → ((node : ℕ) → count_by (λ n. node == n) ns ≤ 1) → (cs : List Copy) → Agreed cs →
    sum_by (λ n. length (distinct (held_at n cs))) ns ≤ length (distinct (map (λ c. c.stamp) cs))
copies_below ns once [] agreed = omega (arith, sum_none ns)
copies_below ns once (c ∷ cs) agreed =
    let tail : Agreed cs = λ q m n a b. agreed q m n (among_if (c.page.node == m) q c.stamp (held_at m cs) a) (among_if (c.page.node == n) q c.stamp (held_at n cs) b) in
    let rest = copies_below ns once cs tail in
    copies_more ns once c cs agreed (is_among c.stamp (map (λ c. c.stamp) cs)) refl rest

-- ---- cells, files, mounts and slots

cells_below : (ns : List ℕ) → ((node : ℕ) → count_by (λ n. node == n) ns ≤ 1) → (xs : List (Cell Page)) → sum_by (λ n. count_by (is_page_at n) xs) ns ≤ count_by has_page xs
cells_below ns once [] = omega (arith, sum_none ns)
cells_below ns once (Hole ∷ xs) = cells_below ns once xs
cells_below ns once (Entered ∷ xs) = cells_below ns once xs
cells_below ns once (Present page ∷ xs) =
    let more = sum_one (λ n. count_by (is_page_at n) xs) (λ n. count_by (is_page_at n) (Present page ∷ xs)) page.node
    (λ n. (let l = sum_by-cons (λ x. cond (is_page_at n x) 1 0) (Present page) xs in omega (arith, l))) ns in
    omega (arith, more, once page.node, cells_below ns once xs, sum_by-cons (λ x. cond (has_page x) 1 0) (Present page) xs)

file_below : (ns : List ℕ) → ((node : ℕ) → count_by (λ n. node == n) ns ≤ 1) → (f : File) → IsAgreed f → sum_by (λ n. file_pages_at n f) ns ≤ file_pages f
file_below ns once f agreed =
    let split = sum_plus (λ n. count_by (is_page_at n) f.cells) (λ n. length (distinct (held_at n (copies_of f)))) ns in
    let held : Agreed (copies_of f) = λ q m n a b. agreed q m n (sym (stamps_at_are m f q) ∙ a) (sym (stamps_at_are n f q) ∙ b) in
    omega (arith, split, cells_below ns once f.cells, copies_below ns once (copies_of f) held)

pub slot_below : (ns : List ℕ) → ((node : ℕ) → count_by (λ n. node == n) ns ≤ 1) → (s : Slot) → IsSound s → sum_by (λ n. slot_pages_at n s) ns ≤ slot_pages s
slot_below ns once None sound = omega (arith, sum_none ns)
slot_below ns once (Some m) sound =
    swap_le IsSoundFile file_pages_at file_pages ns (λ f good. file_below ns once f (agreed_file f good)) m.files sound.files

pub pages-le-committed : (s : Slot) → slot_pages s ≤ slot_committed s
pages-le-committed s = grind arith

-- a range has each node once
none_from : (node a k : ℕ) → node < a → count_by (λ n. node == n) (range_with_len a k) ≡ 0
none_from node a zero l = refl
none_from node a (suc k) l =
    let here = ap (λ b. cond b 1 0 + 0) (ne_eqb node a (λ e. omega (arith, e, l))) in
    omega (arith, sum_by-cons (λ n. cond (node == n) 1 0) a (range_with_len (a + 1) k), here, none_from node (a + 1) k (omega (arith, l)))

once_if : (b : Bool) (node a k : ℕ) → (node == a) ≡ b → count_by (λ n. node == n) (range_with_len (a + 1) k) ≤ 1 → cond b 1 0 + count_by (λ n. node == n) (range_with_len (a + 1) k) ≤ 1
once_if true node a k e rest = let is = eqb-true node a e in omega (arith, none_from node (a + 1) k (omega (arith, is)))
once_if false node a k e rest = omega (arith, rest)

pub once_in_range : (a k node : ℕ) → count_by (λ n. node == n) (range_with_len a k) ≤ 1
once_in_range a zero node = omega arith
once_in_range a (suc k) node =
    omega (arith, sum_by-cons (λ n. cond (node == n) 1 0) a (range_with_len (a + 1) k), once_if (node == a) node a k refl (once_in_range (a + 1) k node))

-- ---- and no fewer, where no page is of a node outside of the list

sum_more : (f g : ℕ → ℕ) (node : ℕ) → ((n : ℕ) → f n + cond (node == n) 1 0 ≤ g n) → (ns : List ℕ) → sum_by f ns + count_by (λ n. node == n) ns ≤ sum_by g ns
sum_more f g node h [] = omega arith
sum_more f g node h (n ∷ ns) = omega (arith, sum_by-cons g n ns, sum_by-cons f n ns, sum_by-cons (λ n. cond (node == n) 1 0) n ns, h n, sum_more f g node h ns)

held_among : (q n : ℕ) (cs : List Copy) → is_among q (held_at n cs) ≡ true → is_among q (map (λ c. c.stamp) cs) ≡ true
held_among q n [] e = e
held_among q n (c ∷ cs) e = held_if (c.page.node == n) q c.stamp (held_at n cs) (map (λ c. c.stamp) cs) (held_among q n cs) e
  where
    held_if : (b : Bool) (q s : ℕ) (held stamps : List ℕ) → (is_among q held ≡ true → is_among q stamps ≡ true) →
        is_among q (cons_option (if b then Some s else None) held) ≡ true → is_among q (s ∷ stamps) ≡ true
    held_if true q s held stamps h e = ⊎_elim (λ l. or_left (s == q) _ l) (λ r. or_right (s == q) _ (h r)) (or_cases (s == q) (is_among q held) e)
    held_if false q s held stamps h e = or_right (s == q) _ (h e)

-- a stamp that the others don't have makes one more
one_more : (x b : Bool) (s : ℕ) (rest : List ℕ) → (b ≡ false → is_among s rest ≡ false) →
    length (distinct rest) + cond (not b && x) 1 0 ≤ length (distinct (cons_option (if x then Some s else None) rest))
one_more x b s rest h = grind arith

not_held : (q n : ℕ) (cs : List Copy) (b : Bool) → is_among q (held_at n cs) ≡ b → is_among q (map (λ c. c.stamp) cs) ≡ false → is_among q (held_at n cs) ≡ false
not_held q n cs b e h = grind (arith, held_among)

abbrev Far : List ℕ → (ℕ → ℕ) → Type 0
Far ns g = (n : ℕ) → count_by (λ k. n == k) ns ≡ 0 → g n ≡ 0

listed : (ns : List ℕ) (g : ℕ → ℕ) (n k : ℕ) → Far ns g → count_by (λ j. n == j) ns ≡ k → 1 ≤ g n → 1 ≤ count_by (λ j. n == j) ns
listed ns g n k far e some = grind arith

copies_case : (ns : List ℕ) (c : Copy) (cs : List Copy) → Far ns (λ n. length (distinct (held_at n (c ∷ cs)))) → (b : Bool) → is_among c.stamp (map (λ c. c.stamp) cs) ≡ b
    → length (distinct (map (λ c. c.stamp) cs)) ≤ sum_by (λ n. length (distinct (held_at n cs))) ns
    → length (distinct (map (λ c. c.stamp) (c ∷ cs))) ≤ sum_by (λ n. length (distinct (held_at n (c ∷ cs)))) ns
copies_case ns c cs far b e rest =
    let stamps : List ℕ = map (λ c. c.stamp) cs in
    let f = λ (n : ℕ). length (distinct (held_at n cs)) in
    let g = λ (n : ℕ). length (distinct (held_at n (c ∷ cs))) in
    let each = λ (n : ℕ). one_more (c.page.node == n) b c.stamp (held_at n cs) (λ no. not_held c.stamp n cs (is_among c.stamp (held_at n cs)) refl (e ∙ no)) in
    let long = length_if (is_among c.stamp stamps) c.stamp (distinct stamps) ∙ ap (λ b. cond b (length (distinct stamps)) (length (distinct stamps) + 1)) e in
    by_case b each long
  where
    by_case : (b : Bool) → ((n : ℕ) → length (distinct (held_at n cs)) + cond (not b && (c.page.node == n)) 1 0 ≤ length (distinct (held_at n (c ∷ cs))))
        → length (distinct (map (λ c. c.stamp) (c ∷ cs))) ≡ cond b (length (distinct (map (λ c. c.stamp) cs))) (length (distinct (map (λ c. c.stamp) cs)) + 1)
        → length (distinct (map (λ c. c.stamp) (c ∷ cs))) ≤ sum_by (λ n. length (distinct (held_at n (c ∷ cs)))) ns
    by_case true each long =
        (let sums = sum_le (λ n. length (distinct (held_at n (c ∷ cs)))) (λ n. length (distinct (held_at n cs))) (λ n. (let l = each n in omega (arith, l))) ns in omega (arith, sums, long, rest))
    by_case false each long =
        let here = each c.page.node in
        let same = ap (λ x. cond x 1 0 + 0) (eq-eqb c.page.node c.page.node refl) in
        let sums = sum_more (λ n. length (distinct (held_at n cs))) (λ n. length (distinct (held_at n (c ∷ cs)))) c.page.node each ns in
        let some = listed ns (λ n. length (distinct (held_at n (c ∷ cs)))) c.page.node (count_by (λ j. c.page.node == j) ns) far refl (omega (arith, here, same)) in
        omega (arith, sums, long, rest, some)

copies_above : (ns : List ℕ) (cs : List Copy) → Far ns (λ n. length (distinct (held_at n cs))) → length (distinct (map (λ c. c.stamp) cs)) ≤ sum_by (λ n. length (distinct (held_at n cs))) ns
copies_above ns [] far = omega arith
copies_above ns (c ∷ cs) far =
    let fewer = λ (n : ℕ). one_more (c.page.node == n) true c.stamp (held_at n cs) (λ no. cc) in
    let rest = copies_above ns cs (λ n none. (let all = far n none in let l = fewer n in omega (arith, all, l))) in
    copies_case ns c cs far (is_among c.stamp (map (λ c. c.stamp) cs)) refl rest

cells_above : (ns : List ℕ) (xs : List (Cell Page)) → Far ns (λ n. count_by (is_page_at n) xs) → count_by has_page xs ≤ sum_by (λ n. count_by (is_page_at n) xs) ns
cells_above ns [] far = omega arith
cells_above ns (Hole ∷ xs) far = cells_above ns xs far
cells_above ns (Entered ∷ xs) far = cells_above ns xs far
cells_above ns (Present page ∷ xs) far =
    let each = λ (n : ℕ). sum_by-cons (λ x. cond (is_page_at n x) 1 0) (Present page) xs in
    let rest = cells_above ns xs (λ n none. (let all = far n none in let l = each n in omega (arith, all, l))) in
    let sums = sum_more (λ n. count_by (is_page_at n) xs) (λ n. count_by (is_page_at n) (Present page ∷ xs)) page.node (λ n. (let l = each n in omega (arith, l))) ns in
    let here = each page.node in
    let same = ap (λ x. cond x 1 0 + 0) (eq-eqb page.node page.node refl) in
    let some = listed ns (λ n. count_by (is_page_at n) (Present page ∷ xs)) page.node (count_by (λ j. page.node == j) ns) far refl (omega (arith, here, same)) in
    omega (arith, sums, some, rest, sum_by-cons (λ x. cond (has_page x) 1 0) (Present page) xs)

file_above : (ns : List ℕ) (f : File) → Far ns (λ n. file_pages_at n f) → file_pages f ≤ sum_by (λ n. file_pages_at n f) ns
file_above ns f far =
    let split = sum_plus (λ n. count_by (is_page_at n) f.cells) (λ n. length (distinct (held_at n (copies_of f)))) ns in
    omega (arith, split, cells_above ns f.cells (λ n none. (let all = far n none in omega (arith, all))), copies_above ns (copies_of f) (λ n none. (let all = far n none in omega (arith, all))))

pub sum_above : {X : Type 0} (ns : List ℕ) (g : ℕ → X → ℕ) (h : X → ℕ) → ((x : X) → Far ns (λ n. g n x) → h x ≤ sum_by (λ n. g n x) ns) → (xs : List X) → Far ns (λ n. sum_by (g n) xs)
    → sum_by h xs ≤ sum_by (λ n. sum_by (g n) xs) ns
sum_above ns g h each [] far = omega arith
sum_above ns g h each (x ∷ xs) far =
    let split = sum_same (λ n. sum_by (g n) (x ∷ xs)) (λ n. g n x + sum_by (g n) xs) (λ n. sum_by-cons (g n) x xs) ns in
    let plus = sum_plus (λ n. g n x) (λ n. sum_by (g n) xs) ns in
    let here = each x (λ n none. (let all = far n none in let l = sum_by-cons (g n) x xs in omega (arith, all, l))) in
    let rest = sum_above ns g h each xs (λ n none. (let all = far n none in let l = sum_by-cons (g n) x xs in omega (arith, all, l))) in
    omega (arith, split, plus, here, rest, sum_by-cons h x xs)

pub slot_above : (ns : List ℕ) (s : Slot) → Far ns (λ n. slot_pages_at n s) → slot_pages s ≤ sum_by (λ n. slot_pages_at n s) ns
slot_above ns None far = omega arith
slot_above ns (Some m) far = sum_above ns file_pages_at file_pages (file_above ns) m.files far

-- a range has each node that is in it
listed_from : (node a k : ℕ) → count_by (λ n. node == n) (range_with_len a k) ≡ 0 → a ≤ node → a + k ≤ node
listed_from node a zero e l = omega (arith, l)
listed_from node a (suc k) e l =
    let parts = sum_by-cons (λ n. cond (node == n) 1 0) a (range_with_len (a + 1) k) in
    let other : a ≢ node = λ same. (let is = ap (λ x. cond x 1 0 + 0) (eq-eqb node a (sym same)) in omega (arith, is, parts, e)) in
    let rest = listed_from node (a + 1) k (omega (arith, parts, e)) (omega (arith, l, other)) in
    omega (arith, rest)

pub far_range : (k : ℕ) (g : ℕ → ℕ) → ((n : ℕ) → k ≤ n → g n ≡ 0) → Far (range_with_len 0 k) g
far_range k g h n none = h n (let l = listed_from n 0 k none (omega arith) in omega (arith, l))
