-- Moves that go round the nodes by a cursor: a round is one more at each node that has one.
use Rattle.std.proofs.Common.{ℕ, zero, suc, ◌≡◌, ◌+◌, ◌*◌, ◌<◌, Bool, true, false, not, cond, List, [], ◌∷◌, ◌++◌, length, map, drop, take, refl, sym, subst, ap, ◌∙◌, arith, slice_set, nat_lt, nat_eq}
use Rattle.std.proofs.Common.{All, count_by}
use Rattle.std.specs.Fn.{iterate}
use Rattle.std.proofs.lemmas.Bool.{cond_both, eqb-true, cond-true, cond-false, lt-ltb, le-ltb}
use Rattle.std.proofs.lemmas.List.{length-append, length-map, length-take-le, drop_more, take-append-drop, map-append, append_assoc, append-nil}
use Rattle.std.proofs.lemmas.List.Elements.{All-head, All-tail}
use Rattle.std.proofs.lemmas.List.Sums.{sum_by-append}
use Rattle.std.proofs.Math.Seq.{set-append_seam, get_or-append_seam, drop-append_seam, drop-append-add}
use Rattle.hp_model.proofs.Counting.{count_cons}
use Rattle.hp_model.specs.declared.node.Kind.{Kind}
use Rattle.hp_model.specs.declared.node.NodeRow.{NodeRow}
use Rattle.hp_model.proofs.Words.{NodeRows, at_row, grow_row, grown, has, lowest, next_from, next_node, no_row, row_at, shrink_row, shrunk}
use Rattle.hp_model.specs.declared.node.Kind.TheVariants.{Free, Idle}
use Rattle.hp_nodes.proofs.Finds.{amount_has}
use Rattle.hp_nodes.proofs.Repeats.{times_add}
use Rattle.hp_nodes.proofs.Sums.{same_row}
use Rattle.std.proofs.lemmas.Bool.Decides.{nat_tests}
use Rattle.hp_nodes.specs.Moves.{amount, HasMany, where_has, grow_by, shrink_by}

-- the rows, and where the next search starts
abbrev pub Turn : Type 0
Turn = List NodeRow × ℕ

-- one move by the cursor
abbrev pub turn : Kind → (NodeRow → NodeRow) → Turn → Turn
turn kind g s = (at_row g (next_from kind s.1 s.0) s.0, next_node (next_from kind s.1 s.0) s.0)

module _ (kind : Kind) (g : NodeRow → NodeRow) where
  abbrev turns : ℕ → List NodeRow → ℕ → Turn
  turns n rows at = iterate (turn kind g) n (rows, at)

  as_one : (n m : ℕ) (xs ys : List NodeRow) (a b : ℕ) → n ≡ m → xs ≡ ys → a ≡ b → turns n xs a ≡ turns m ys b
  as_one n m xs ys a b p q r = cc

  -- cursors from which the same node is found
  alike : (n : ℕ) (rows : List NodeRow) (a b : ℕ) → next_from kind a rows ≡ next_from kind b rows → turns (suc n) rows a ≡ turns (suc n) rows b
  alike n rows a b e = ap (λ i. iterate (turn kind g) n (at_row g i rows, next_node i rows)) e

  -- a cursor past the last node is one at the first
  from_end : (rows : List NodeRow) → next_from kind (length rows) rows ≡ next_from kind 0 rows
  from_end rows =
      let past : nat_lt (length rows + lowest kind (drop (length rows) rows)) (length rows) ≡ false = le-ltb _ _ (omega arith) in
      cond-false _ _ _ past ∙ cond_both (nat_lt (0 + lowest kind rows) (length rows)) (0 + lowest kind rows) (lowest kind rows) (λ i. lowest kind rows ≡ i) (λ e. omega arith) (λ e. refl)

  from_after : (n : ℕ) (rows : List NodeRow) (i : ℕ) → turns (suc n) rows (next_node i rows) ≡ turns (suc n) rows (i + 1)
  from_after n rows i =
      cond_both (nat_eq (i + 1) (length rows)) 0 (i + 1) (λ a. turns (suc n) rows a ≡ turns (suc n) rows (i + 1))
      (λ e. (let last : i + 1 ≡ length rows = eqb-true _ _ e in alike n rows 0 (i + 1) (sym (from_end rows) ∙ ap (λ a. next_from kind a rows) (sym last))))
      (λ e. refl)

  hit : (pre : List NodeRow) (x : NodeRow) (post : List NodeRow) → has kind x ≡ true → turn kind g (pre ++ x ∷ post, length pre) ≡ (pre ++ g x ∷ post, next_node (length pre) (pre ++ g x ∷ post))
  hit pre x post e =
      let rows = pre ++ x ∷ post in
      let none : lowest kind (drop (length pre) rows) ≡ 0 = ap (lowest kind) (drop-append_seam pre (x ∷ post)) ∙ ap (λ t. cond (not t) (1 + lowest kind post) 0) e in
      let size = length-append pre (x ∷ post) in
      let within : nat_lt (length pre + lowest kind (drop (length pre) rows)) (length rows) ≡ true = lt-ltb _ _ (omega (arith, none, size)) in
      let found : next_from kind (length pre) rows ≡ length pre = cond-true _ _ _ within ∙ omega (arith, none) in
      let moved : at_row g (length pre) rows ≡ pre ++ g x ∷ post = ap (λ y. slice_set rows (length pre) (g y)) (get_or-append_seam pre x post no_row) ∙ set-append_seam pre x post (g x) in
      let as_long : length rows ≡ length (pre ++ g x ∷ post) = omega (arith, size, length-append pre (g x ∷ post)) in
      ap (λ i. (at_row g i rows, next_node i rows)) found ∙ ap (λ xs. (xs, next_node (length pre) rows)) moved
      ∙ ap (λ n. (pre ++ g x ∷ post, cond (nat_eq (length pre + 1) n) 0 (length pre + 1))) as_long

  miss : (pre : List NodeRow) (x : NodeRow) (post : List NodeRow) → has kind x ≡ false → next_from kind (length pre) (pre ++ x ∷ post) ≡ next_from kind (length pre + 1) (pre ++ x ∷ post)
  miss pre x post e =
      let rows = pre ++ x ∷ post in
      let here : lowest kind (drop (length pre) rows) ≡ 1 + lowest kind post = ap (lowest kind) (drop-append_seam pre (x ∷ post)) ∙ ap (λ t. cond (not t) (1 + lowest kind post) 0) e in
      let next : lowest kind (drop (length pre + 1) rows) ≡ lowest kind post = ap (lowest kind) (drop-append-add pre (x ∷ post) 1) in
      let ahead : length pre + lowest kind (drop (length pre) rows) ≡ length pre + 1 + lowest kind (drop (length pre + 1) rows) = omega (arith, here, next) in
      ap (λ a. cond (nat_lt a (length rows)) a (lowest kind rows)) ahead

  -- the cursor goes over a node, where more moves follow
  over_one : (pre : List NodeRow) (x : NodeRow) (post : List NodeRow) (m : ℕ)
      → turns (cond (has kind x) 1 0 + suc m) (pre ++ x ∷ post) (length pre) ≡ turns (suc m) (pre ++ where_has kind g x ∷ post) (length pre + 1)
  over_one pre x post m = by (has kind x) refl
    where
      by : (b : Bool) → has kind x ≡ b → turns (cond b 1 0 + suc m) (pre ++ x ∷ post) (length pre) ≡ turns (suc m) (pre ++ cond b (g x) x ∷ post) (length pre + 1)
      by true e =
          as_one (1 + suc m) (suc (suc m)) _ _ _ _ (omega arith) refl refl ∙ ap (iterate (turn kind g) (suc m)) (hit pre x post e) ∙ from_after m (pre ++ g x ∷ post) (length pre)
      by false e = as_one (0 + suc m) (suc m) _ _ _ _ (omega arith) refl refl ∙ alike m (pre ++ x ∷ post) (length pre) (length pre + 1) (miss pre x post e)

  -- and over some
  over_some : (mid pre post : List NodeRow) (m : ℕ)
      → turns (count_by (has kind) mid + suc m) (pre ++ (mid ++ post)) (length pre) ≡ turns (suc m) (pre ++ (map (where_has kind g) mid ++ post)) (length pre + length mid)
  over_some [] pre post m = as_one (0 + suc m) (suc m) _ _ _ _ (omega arith) refl (omega arith)
  over_some (x ∷ mid) pre post m =
      let y = where_has kind g x in
      let n : ℕ = count_by (has kind) mid in
      let count : count_by (has kind) (x ∷ mid) + suc m ≡ cond (has kind x) 1 0 + suc (n + m) = omega (arith, count_cons (has kind) x mid) in
      let longer : length (pre ++ y ∷ []) ≡ length pre + 1 = omega (arith, length-append pre (y ∷ [])) in
      as_one _ _ _ _ (length pre) (length pre) count refl refl
      ∙ over_one pre x (mid ++ post) (n + m)
      ∙ as_one (suc (n + m)) (n + suc m) _ _ _ _ (omega arith) (sym (append_assoc pre (y ∷ []) (mid ++ post))) (sym longer)
      ∙ over_some mid (pre ++ y ∷ []) post m
      ∙ as_one (suc m) (suc m) _ _ _ _ refl (append_assoc pre (y ∷ []) (map (where_has kind g) mid ++ post)) (omega (arith, longer))

  -- a round from behind a node that has one: one more at each that has, and the cursor is where it was
  pub round : (pre : List NodeRow) (x : NodeRow) (post : List NodeRow) → has kind x ≡ true
      → turns (count_by (has kind) (pre ++ x ∷ post)) (pre ++ x ∷ post) (next_node (length pre) (pre ++ x ∷ post))
      ≡ (map (where_has kind g) (pre ++ x ∷ post), next_node (length pre) (pre ++ x ∷ post))
  round pre x post e =
      let f : NodeRow → NodeRow = where_has kind g in
      let rows = pre ++ x ∷ post in
      let a : ℕ = count_by (has kind) pre in
      let b : ℕ = count_by (has kind) post in
      let one : cond {A = ℕ} (has kind x) 1 0 ≡ 1 = ap (λ t. cond {A = ℕ} t 1 0) e in
      let count : count_by (has kind) rows ≡ suc (a + b) = omega (arith, sum_by-append (λ r. cond (has kind r) 1 0) pre (x ∷ post), count_cons (has kind) x post, one) in
      let longer : length (pre ++ x ∷ []) ≡ length pre + 1 = omega (arith, length-append pre (x ∷ [])) in
      let split : (pre ++ x ∷ []) ++ (post ++ []) ≡ rows = append_assoc pre (x ∷ []) (post ++ []) ∙ ap (λ l. pre ++ x ∷ l) (append-nil post) in
      let half : List NodeRow = pre ++ x ∷ map f post in
      let join : (pre ++ x ∷ []) ++ (map f post ++ []) ≡ half = append_assoc pre (x ∷ []) (map f post ++ []) ∙ ap (λ l. pre ++ x ∷ l) (append-nil (map f post)) in
      let at_end : length (pre ++ x ∷ []) + length post ≡ length half = omega (arith, longer, length-append pre (x ∷ map f post), length-map post f) in
      let done : map f pre ++ g x ∷ map f post ≡ map f rows = ap (λ y. map f pre ++ y ∷ map f post) (sym (cond-true (has kind x) (g x) x e)) ∙ sym (map-append f pre (x ∷ post)) in
      let as_long : length (map f pre ++ g x ∷ map f post) ≡ length rows = ap length done ∙ length-map rows f in
      as_one _ _ _ _ (next_node (length pre) rows) (next_node (length pre) rows) count refl refl
      ∙ from_after (a + b) rows (length pre)
      ∙ as_one (suc (a + b)) (b + suc a) _ _ _ _ (omega arith) (sym split) (sym longer)
      ∙ over_some post (pre ++ x ∷ []) [] a
      ∙ as_one (suc a) (suc a) _ _ _ _ refl join at_end
      ∙ alike a half (length half) 0 (from_end half)
      ∙ as_one (suc a) (a + suc 0) _ _ 0 0 (omega arith) refl refl
      ∙ over_some pre [] (x ∷ map f post) 0
      ∙ as_one (suc 0) (suc 0) _ _ _ _ refl refl (omega (arith, length-map pre f))
      ∙ hit (map f pre) x (map f post) e
      ∙ ap (λ rs. (rs, next_node (length (map f pre)) (map f pre ++ g x ∷ map f post))) done
      ∙ ap (λ i. (map f rows, next_node i (map f pre ++ g x ∷ map f post))) (length-map pre f)
      ∙ ap (λ n. (map f rows, cond (nat_eq (length pre + 1) n) 0 (length pre + 1))) as_long

-- ---- many rounds

-- by r is r of the move g, where the row has so many of the kind
pub record IsMany (kind : Kind) (g : NodeRow → NodeRow) (by : ℕ → NodeRow → NodeRow) : Type 0 where
  pub none : (x : NodeRow) → by 0 x ≡ x
  pub next : (r : ℕ) (x : NodeRow) → g (by r x) ≡ by (r + 1) x
  pub still : (r : ℕ) (x : NodeRow) → r < amount kind x → has kind (by r x) ≡ true

module _ (kind : Kind) (g : NodeRow → NodeRow) (by : ℕ → NodeRow → NodeRow) (m : IsMany kind g by) where
  by_none : (x : NodeRow) → where_has kind (by 0) x ≡ x
  by_none x = cond_both (has kind x) (by 0 x) x (λ y. y ≡ x) (λ e. m.none x) (λ e. refl)

  all_none : (xs : List NodeRow) → map (where_has kind (by 0)) xs ≡ xs
  all_none [] = refl
  all_none (x ∷ xs) = cc (by_none x, all_none xs)

  still_has : (r : ℕ) (x : NodeRow) → HasMany kind (r + 1) x → has kind (where_has kind (by r) x) ≡ has kind x
  still_has r x enough =
      cond_both (has kind x) (by r x) x (λ y. has kind y ≡ has kind x) (λ e. (let some = enough e in m.still r x (omega (arith, some)) ∙ sym e)) (λ e. refl)

  one_more : (r : ℕ) (x : NodeRow) → HasMany kind (r + 1) x → where_has kind g (where_has kind (by r) x) ≡ where_has kind (by (r + 1)) x
  one_more r x enough = by_case (has kind x) refl
    where
      by_case : (b : Bool) → has kind x ≡ b → where_has kind g (cond b (by r x) x) ≡ cond b (by (r + 1) x) x
      by_case true e = (let some = enough e in cond-true _ _ _ (m.still r x (omega (arith, some))) ∙ m.next r x)
      by_case false e = cond-false _ _ _ e

  as_many : (r : ℕ) (xs : List NodeRow) → All (HasMany kind (r + 1)) xs → count_by (has kind) (map (where_has kind (by r)) xs) ≡ count_by (has kind) xs
  as_many r [] enough = refl
  as_many r (x ∷ xs) enough =
      let here = ap (λ t. cond {A = ℕ} t 1 0) (still_has r x (All-head (HasMany kind (r + 1)) x xs enough)) in
      omega (arith, here, as_many r xs (All-tail (HasMany kind (r + 1)) x xs enough), count_cons (has kind) x xs, count_cons (has kind) (where_has kind (by r) x) (map (where_has kind (by r)) xs))

  all_more : (r : ℕ) (xs : List NodeRow) → All (HasMany kind (r + 1)) xs → map (where_has kind g) (map (where_has kind (by r)) xs) ≡ map (where_has kind (by (r + 1))) xs
  all_more r [] enough = refl
  all_more r (x ∷ xs) enough =
      let here = one_more r x (All-head (HasMany kind (r + 1)) x xs enough) in
      let rest = all_more r xs (All-tail (HasMany kind (r + 1)) x xs enough) in
      cc

  -- so many rounds from behind a node that has one, with enough for them at each that has any
  pub rounds : (r : ℕ) (pre : List NodeRow) (x : NodeRow) (post : List NodeRow) → has kind x ≡ true → All (HasMany kind r) (pre ++ x ∷ post)
      → iterate (turn kind g) (r * count_by (has kind) (pre ++ x ∷ post)) (pre ++ x ∷ post, next_node (length pre) (pre ++ x ∷ post))
      ≡ (map (where_has kind (by r)) (pre ++ x ∷ post), next_node (length pre) (pre ++ x ∷ post))
  rounds zero pre x post e enough =
      let rows = pre ++ x ∷ post in
      ap (λ n. iterate (turn kind g) n (rows, next_node (length pre) rows)) {x = 0 * count_by (has kind) rows} {y = 0} (omega arith)
      ∙ ap (λ l. (l, next_node (length pre) rows)) (sym (all_none rows))
  rounds (suc r) pre x post e enough =
      let rows = pre ++ x ∷ post in
      let n : ℕ = count_by (has kind) rows in
      let f : NodeRow → NodeRow = where_has kind (by r) in
      let fewer : All (HasMany kind r) rows = λ k d below some. (let h = enough k d below some in omega (arith, h)) in
      let more : All (HasMany kind (r + 1)) rows = λ k d below some. (let h = enough k d below some in omega (arith, h)) in
      let T : Turn → Turn = turn kind g in
      let c : ℕ = next_node (length pre) rows in
      let here : HasMany kind (r + 1) x = subst (HasMany kind (r + 1)) (get_or-append_seam pre x post no_row) (more (length pre) no_row (omega (arith, length-append pre (x ∷ post)))) in
      let has_still : has kind (f x) ≡ true = still_has r x here ∙ e in
      let split : map f rows ≡ map f pre ++ f x ∷ map f post = map-append f pre (x ∷ post) in
      let now : List NodeRow = map f pre ++ f x ∷ map f post in
      let count : n ≡ count_by (has kind) now = sym (as_many r rows more) ∙ ap (count_by (has kind)) split in
      let as_long : length rows ≡ length now = sym (length-map rows f) ∙ ap length split in
      let cursor : c ≡ next_node (length (map f pre)) now = ap (λ k. cond (nat_eq (length pre + 1) k) 0 (length pre + 1)) as_long ∙ ap (λ i. next_node i now) (sym (length-map pre f)) in
      ap (λ k. iterate T k (rows, c)) {x = suc r * n} {y = r * n + n} (omega arith)
      ∙ times_add T (r * n) n (rows, c)
      ∙ ap (iterate T n) (rounds r pre x post e fewer)
      ∙ ap (λ k. iterate T k (map f rows, c)) count
      ∙ ap (λ l. iterate T (count_by (has kind) now) (l, c)) split
      ∙ ap (λ k. iterate T (count_by (has kind) now) (now, k)) cursor
      ∙ round kind g (map f pre) (f x) (map f post) has_still
      ∙ ap (λ k. (map (where_has kind g) now, k)) (sym cursor)
      ∙ ap (λ l. (map (where_has kind g) l, c)) (sym split)
      ∙ ap (λ l. (l, c)) (all_more r rows more)
      ∙ ap (λ k. (map (where_has kind (by k)) rows, c)) {x = r + 1} {y = suc r} (omega arith)

-- ---- the two cursors

pub grown_are : (n : ℕ) (s : NodeRows) → iterate grown n s ≡ record s { rows = (iterate (turn Idle grow_row) n (s.rows, s.growth)).0; growth = (iterate (turn Idle grow_row) n (s.rows, s.growth)).1 }
grown_are zero s = refl
grown_are (suc n) s = grown_are n (grown s)

pub shrunk_are : (n : ℕ) (s : NodeRows) → iterate shrunk n s ≡ record s {
  rows = (iterate (turn Free shrink_row) n (s.rows, s.release)).0;
  release = (iterate (turn Free shrink_row) n (s.rows, s.release)).1;
}
shrunk_are zero s = refl
shrunk_are (suc n) s = shrunk_are n (shrunk s)

is_grow : IsMany Idle grow_row grow_by
is_grow = record {
  none = λ x. same_row _ _ _ _ _ _ _ _ refl (omega arith) (omega arith) refl;
  next = λ r x. same_row _ _ _ _ _ _ _ _ refl (omega arith) (omega arith) refl;
  still = λ r x h. grind (arith, nat_tests);
}

is_shrink : IsMany Free shrink_row shrink_by
is_shrink = record {
  none = λ x. same_row _ _ _ _ _ _ _ _ refl (omega arith) (omega arith) refl;
  next = λ r x. same_row _ _ _ _ _ _ _ _ refl (omega arith) (omega arith) refl;
  still = λ r x h. grind (arith, nat_tests);
}

-- so many rounds from behind a node, by an index
rounds_at : (kind : Kind) (g : NodeRow → NodeRow) (by : ℕ → NodeRow → NodeRow) → IsMany kind g by → (r at : ℕ) (rows : List NodeRow) (c : ℕ) → c ≡ next_node at rows
    → at < length rows → 0 < amount kind (row_at rows at) → All (HasMany kind r) rows
    → iterate (turn kind g) (r * count_by (has kind) rows) (rows, c) ≡ (map (where_has kind (by r)) rows, c)
rounds_at kind g by m r at rows c behind below some enough =
    let pre = take at rows in
    let x = row_at rows at in
    let post = drop (at + 1) rows in
    let split : pre ++ x ∷ post ≡ rows = ap (λ l. pre ++ l) (sym (drop_more rows at no_row below)) ∙ take-append-drop at rows in
    let size : length pre ≡ at = length-take-le at rows (omega arith) in
    let P : List NodeRow → ℕ → Type 0 = λ l i. All (HasMany kind r) l → iterate (turn kind g) (r * count_by (has kind) l) (l, next_node i l) ≡ (map (where_has kind (by r)) l, next_node i l) in
    let whole : P (pre ++ x ∷ post) (length pre) = rounds kind g by m r pre x post (amount_has kind x some) in
    rw behind (subst (P rows) size (subst (λ l. P l (length pre)) split whole) enough)

-- so many more at each node that has any, behind whom the cursor stands
pub rounds_grown : (s : NodeRows) (r at : ℕ) → s.growth ≡ next_node at s.rows → at < length s.rows → 0 < amount Idle (row_at s.rows at) → All (HasMany Idle r) s.rows
    → iterate grown (r * count_by (has Idle) s.rows) s ≡ record s { rows = map (where_has Idle (grow_by r)) s.rows }
rounds_grown s r at behind below some enough =
    grown_are (r * count_by (has Idle) s.rows) s
    ∙ ap (λ (t : Turn). record s { rows = t.0; growth = t.1 }) (rounds_at Idle grow_row grow_by is_grow r at s.rows s.growth behind below some enough)

pub rounds_shrunk : (s : NodeRows) (r at : ℕ) → s.release ≡ next_node at s.rows → at < length s.rows → 0 < amount Free (row_at s.rows at) → All (HasMany Free r) s.rows
    → iterate shrunk (r * count_by (has Free) s.rows) s ≡ record s { rows = map (where_has Free (shrink_by r)) s.rows }
rounds_shrunk s r at behind below some enough =
    shrunk_are (r * count_by (has Free) s.rows) s
    ∙ ap (λ (t : Turn). record s { rows = t.0; release = t.1 }) (rounds_at Free shrink_row shrink_by is_shrink r at s.rows s.release behind below some enough)
