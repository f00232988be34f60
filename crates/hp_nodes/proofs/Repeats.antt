-- A move that is repeated: what each time keeps, and when so many times are one.
use Rattle.std.proofs.Common.{ℕ, zero, suc, ◌≡◌, ◌≢◌, ◌+◌, ◌<◌, ◌≤◌, true, false, List, length, ltb, refl, sym, ap, subst, ◌∙◌, arith, slice_set}
use Rattle.std.specs.Fn.{iterate}
use Rattle.std.proofs.lemmas.Bool.{lt-ltb, le-ltb, cond_both, cond-true, cond-false}
use Rattle.std.proofs.lemmas.Bool.Decides.{nat_tests}
use Rattle.std.proofs.lemmas.List.{get_or-set_same, get_or-set_other, length-set, set-set, set_comm, set-get_or}
use Rattle.std.proofs.lemmas.List.Sums.{passes_at_first, fails_before_first}
use Rattle.std.proofs.lemmas.List.Folds.{position_or_len-set}
use Rattle.hp_model.specs.declared.node.Kind.{Kind}
use Rattle.hp_model.specs.declared.node.Kind.TheVariants.{Free, Idle, Surplus, Persistent, FreeSurplus}
use Rattle.hp_model.specs.declared.node.NodeRow.{NodeRow}
use Rattle.hp_model.proofs.Words.{NodeRows, add_surplus_row, at_row, demote_row, demoted, give_back_row, given_back, has, lowest, near, no_row, promote_row, promoted, row_at, shrink_row}
use Rattle.hp_model.proofs.Words.{surplus_added, take_row, taken, taken_times}
use Rattle.hp_model.proofs.Picks.{near_pick}
use Rattle.hp_nodes.proofs.Sums.{same_row}
use Rattle.hp_nodes.specs.Moves.{amount, take_by, shrink_by, add_surplus_by, give_back_by, promote_by, demote_by}

-- the first time or the last apart
pub once_more : {X : Type 0} (f : X → X) (n : ℕ) (x : X) → f (iterate f n x) ≡ iterate f n (f x)
once_more f zero x = refl
once_more f (suc n) x = once_more f n (f x)

pub times_add : {X : Type 0} (f : X → X) (m n : ℕ) (x : X) → iterate f (m + n) x ≡ iterate f n (iterate f m x)
times_add f zero n x = ap (λ k. iterate f k x) {x = 0 + n} {y = n} (omega arith)
times_add f (suc m) n x = ap (λ k. iterate f k x) {x = suc m + n} {y = suc (m + n)} (omega arith) ∙ times_add f m n (f x)

-- the first of some moves apart
pub first_of : {X : Type 0} (f : X → X) (n : ℕ) (x : X) → iterate f n (f x) ≡ iterate f (n + 1) x
first_of f n x = ap (λ k. iterate f k x) {x = suc n} {y = n + 1} (omega arith)

-- what each time keeps
pub keeps : {X : Type 0} (f : X → X) (P : ℕ → X → Type 0) (n : ℕ) (x : X) → P 0 x → ((j : ℕ) → j < n → (y : X) → P j y → P (j + 1) (f y)) → P n (iterate f n x)
keeps f P zero x start step = start
keeps f P (suc n) x start step =
    let before : P n (iterate f n x) = keeps f P n x start (λ j h. step j (omega arith)) in
    let one : P (n + 1) (f (iterate f n x)) = step n (omega arith) (iterate f n x) before in
    let now : P (suc n) (f (iterate f n x)) = subst (λ k. P k (f (iterate f n x))) {x = n + 1} {y = suc n} (omega arith) one in
    subst (P (suc n)) (once_more f n x) now

-- ---- moves of one node

abbrev pub with_row : NodeRows → ℕ → NodeRow → NodeRows
with_row s i r = record s { rows = slice_set s.rows i r }

-- moves that choose one node each time are one; y has its row after each
pub one_node : (f : NodeRows → NodeRows) (y : ℕ → NodeRow) (s : NodeRows) (i n : ℕ) → y 0 ≡ row_at s.rows i
    → ((j : ℕ) → j < n → f (with_row s i (y j)) ≡ with_row s i (y (j + 1))) → iterate f n s ≡ with_row s i (y n)
one_node f y s i n start step =
    let first : s ≡ with_row s i (y 0) = ap (λ rs. record s { rows = rs }) (sym (set-get_or s.rows i no_row) ∙ ap (slice_set s.rows i) (sym start)) in
    keeps f (λ j t. t ≡ with_row s i (y j)) n s first (λ j h t e. ap f e ∙ step j h)

-- the node that is chosen is the one that was
pub again : (g : NodeRow → NodeRow) (s : NodeRows) (i k : ℕ) (x y : NodeRow) → i < length s.rows → k ≡ i → g x ≡ y
    → record s { rows = at_row g k (slice_set s.rows i x) } ≡ with_row s i y
again g s i k x y h e is =
    let rs = slice_set s.rows i x in
    let row : g (row_at rs i) ≡ y = ap g (get_or-set_same s.rows i x no_row h) ∙ is in
    ap (λ n. record s { rows = at_row g n rs }) e ∙ ap (λ r. record s { rows = slice_set rs i r }) row ∙ ap (λ l. record s { rows = l }) (set-set s.rows i x y)

-- while the lowest that has one still has, it stays the lowest
pub lowest_stays : (kind : Kind) (s : NodeRows) (y : NodeRow) → has kind (row_at s.rows (lowest kind s.rows)) ≡ true → has kind y ≡ true →
    lowest kind (slice_set s.rows (lowest kind s.rows) y) ≡ lowest kind s.rows
lowest_stays kind s y was is = position_or_len-set (has kind) s.rows (lowest kind s.rows) y no_row (is ∙ sym was)

pub promoted_at : (s : NodeRows) (n : ℕ) (y : NodeRow) → lowest Surplus s.rows < length s.rows → n ≤ (row_at s.rows (lowest Surplus s.rows)).surp
    → y ≡ promote_by n (row_at s.rows (lowest Surplus s.rows)) → iterate promoted n s ≡ with_row s (lowest Surplus s.rows) y
promoted_at s n y h enough is =
    let i = lowest Surplus s.rows in
    let r = row_at s.rows i in
    let was : has Surplus r ≡ true = passes_at_first (has Surplus) s.rows no_row h in
    let start : promote_by 0 r ≡ r = ap (λ k. record r { surp = k }) (omega arith) in
    one_node promoted (λ j. promote_by j r) s i n start
    (λ j l. (let still : has Surplus (promote_by j r) ≡ true = grind (arith, nat_tests) in
    again promote_row s i _ (promote_by j r) (promote_by (j + 1) r) h (lowest_stays Surplus s (promote_by j r) was still) (ap (λ k. record r { surp = k }) (omega arith))))
    ∙ ap (with_row s i) (sym is)

pub demoted_at : (s : NodeRows) (n : ℕ) (y : NodeRow) → lowest Persistent s.rows < length s.rows → n ≤ amount Persistent (row_at s.rows (lowest Persistent s.rows))
    → y ≡ demote_by n (row_at s.rows (lowest Persistent s.rows)) → iterate demoted n s ≡ with_row s (lowest Persistent s.rows) y
demoted_at s n y h enough is =
    let i = lowest Persistent s.rows in
    let r = row_at s.rows i in
    let was : has Persistent r ≡ true = passes_at_first (has Persistent) s.rows no_row h in
    let start : demote_by 0 r ≡ r = ap (λ k. record r { surp = k }) (omega arith) in
    one_node demoted (λ j. demote_by j r) s i n start
    (λ j l. (let still : has Persistent (demote_by j r) ≡ true = grind (arith, nat_tests) in
    again demote_row s i _ (demote_by j r) (demote_by (j + 1) r) h (lowest_stays Persistent s (demote_by j r) was still) (ap (λ k. record r { surp = k }) (omega arith))))
    ∙ ap (with_row s i) (sym is)

pub both_at : (s : NodeRows) (n : ℕ) (y : NodeRow) → lowest FreeSurplus s.rows < length s.rows → n ≤ amount FreeSurplus (row_at s.rows (lowest FreeSurplus s.rows))
    → y ≡ give_back_by n (row_at s.rows (lowest FreeSurplus s.rows)) → iterate given_back n s ≡ with_row s (lowest FreeSurplus s.rows) y
both_at s n y h enough is =
    let i = lowest FreeSurplus s.rows in
    let r = row_at s.rows i in
    let was : has FreeSurplus r ≡ true = passes_at_first (has FreeSurplus) s.rows no_row h in
    let start : give_back_by 0 r ≡ r = same_row _ _ _ _ _ _ _ _ refl (omega arith) (omega arith) (omega arith) in
    one_node given_back (λ j. give_back_by j r) s i n start
    (λ j l. (let still : has FreeSurplus (give_back_by j r) ≡ true = grind (arith, nat_tests) in
    let stays = lowest_stays FreeSurplus s (give_back_by j r) was still in
    let here : lowest FreeSurplus (slice_set s.rows i (give_back_by j r)) < length (slice_set s.rows i (give_back_by j r)) = omega (arith, stays, length-set s.rows i (give_back_by j r), h) in
    let next : give_back_row (give_back_by j r) ≡ give_back_by (j + 1) r = same_row _ _ _ _ _ _ _ _ refl (omega arith) (omega arith) (omega arith) in
    ap (λ rs. record s { rows = rs }) (cond-true _ _ _ (lt-ltb _ _ here)) ∙ again give_back_row s i _ (give_back_by j r) (give_back_by (j + 1) r) h stays next))
    ∙ ap (with_row s i) (sym is)

-- the home node stays the nearest while it has one, and the lowest where home has none
near_stays : (kind : Kind) (home : ℕ) (rows : List NodeRow) (y : NodeRow) → near kind home rows < length rows → has kind (row_at rows (near kind home rows)) ≡ true → has kind y ≡ true
    → near kind home (slice_set rows (near kind home rows) y) ≡ near kind home rows
near_stays kind home rows y =
    cond_both (has kind (row_at rows home)) home (lowest kind rows)
    (λ i. i < length rows → has kind (row_at rows i) ≡ true → has kind y ≡ true → near kind home (slice_set rows i y) ≡ i)
    (λ at_home below was is. cond-true _ _ _ (ap (has kind) (get_or-set_same rows home y no_row below) ∙ is))
    (λ not_home below was is.
    let apart : home ≢ lowest kind rows = λ e. (let b = ap (λ k. has kind (row_at rows k)) e in cc) in
    let still : has kind (row_at (slice_set rows (lowest kind rows) y) home) ≡ false = ap (has kind) (get_or-set_other rows (lowest kind rows) home y no_row apart) ∙ not_home in
    cond-false _ _ _ still ∙ position_or_len-set (has kind) rows (lowest kind rows) y no_row (is ∙ sym was))

pub added_at : (home : ℕ) (s : NodeRows) (n : ℕ) (y : NodeRow) → lowest Idle s.rows < length s.rows → n ≤ amount Idle (row_at s.rows (near Idle home s.rows))
    → y ≡ add_surplus_by n (row_at s.rows (near Idle home s.rows)) → iterate (surplus_added home) n s ≡ with_row s (near Idle home s.rows) y
added_at home s n y h enough is =
    let i = near Idle home s.rows in
    let r = row_at s.rows i in
    let pick = near_pick Idle home s.rows h in
    let start : add_surplus_by 0 r ≡ r = same_row _ _ _ _ _ _ _ _ refl (omega arith) (omega arith) (omega arith) in
    one_node (surplus_added home) (λ j. add_surplus_by j r) s i n start
    (λ j l. (let still : has Idle (add_surplus_by j r) ≡ true = grind (arith, nat_tests) in
    let next : add_surplus_row (add_surplus_by j r) ≡ add_surplus_by (j + 1) r = same_row _ _ _ _ _ _ _ _ refl (omega arith) (omega arith) (omega arith) in
    again add_surplus_row s i _ (add_surplus_by j r) (add_surplus_by (j + 1) r) pick.within (near_stays Idle home s.rows (add_surplus_by j r) pick.within pick.has_it still) next))
    ∙ ap (with_row s i) (sym is)

taken_are : (home n : ℕ) (s : NodeRows) → iterate (taken home) n s ≡ taken_times home n s
taken_are home zero s = refl
taken_are home (suc n) s = sym (once_more (taken home) n s) ∙ ap (taken home) (taken_are home n s)

pub taken_at : (home : ℕ) (s : NodeRows) (n : ℕ) (y : NodeRow) → lowest Free s.rows < length s.rows → n ≤ (row_at s.rows (near Free home s.rows)).free
    → y ≡ take_by n (row_at s.rows (near Free home s.rows)) → taken_times home n s ≡ with_row s (near Free home s.rows) y
taken_at home s n y h enough is =
    let i = near Free home s.rows in
    let r = row_at s.rows i in
    let pick = near_pick Free home s.rows h in
    let start : take_by 0 r ≡ r = ap (λ k. record r { free = k }) (omega arith) in
    sym (taken_are home n s)
    ∙ one_node (taken home) (λ j. take_by j r) s i n start
    (λ j l. (let still : has Free (take_by j r) ≡ true = grind (arith, nat_tests) in
    again take_row s i _ (take_by j r) (take_by (j + 1) r) pick.within (near_stays Free home s.rows (take_by j r) pick.within pick.has_it still) (ap (λ k. record r { free = k }) (omega arith))))
    ∙ ap (with_row s i) (sym is)

-- ---- moves of two nodes

abbrev pub with_rows : NodeRows → ℕ → NodeRow → ℕ → NodeRow → NodeRows
with_rows s i x k y = record s { rows = slice_set (slice_set s.rows i x) k y }

apart_once : (s : NodeRows) (i k : ℕ) (x y : NodeRow) → i < length s.rows → k < length s.rows → k ≢ i
    → length s.rows ≤ lowest FreeSurplus (with_rows s i x k y).rows → lowest Free (with_rows s i x k y).rows ≡ i → lowest Surplus (with_rows s i x k y).rows ≡ k
    → given_back (with_rows s i x k y) ≡ with_rows s i (shrink_row x) k (promote_row y)
apart_once s i k x y i_in k_in apart none i_is k_is =
    let rows = s.rows in
    let now = slice_set (slice_set rows i x) k y in
    let left = slice_set (slice_set rows i (shrink_row x)) k y in
    let as_many : length now ≡ length rows = length-set (slice_set rows i x) k y ∙ length-set rows i x in
    let not_both : ltb (lowest FreeSurplus now) (length now) ≡ false = le-ltb _ _ (omega (arith, as_many, none)) in
    let x_is : row_at now i ≡ x = get_or-set_other (slice_set rows i x) k i y no_row (λ e. apart (sym e)) ∙ get_or-set_same rows i x no_row i_in in
    let first : at_row shrink_row i now ≡ left =
    ap (λ r. slice_set now i (shrink_row r)) x_is ∙ set_comm (slice_set rows i x) k i y (shrink_row x) apart ∙ ap (λ l. slice_set l k y) (set-set rows i x (shrink_row x)) in
    let k_still : k < length (slice_set rows i (shrink_row x)) = omega (arith, k_in, length-set rows i (shrink_row x)) in
    let y_is : row_at left k ≡ y = get_or-set_same (slice_set rows i (shrink_row x)) k y no_row k_still in
    let second : at_row promote_row k left ≡ slice_set (slice_set rows i (shrink_row x)) k (promote_row y) =
    ap (λ r. slice_set left k (promote_row r)) y_is ∙ set-set (slice_set rows i (shrink_row x)) k y (promote_row y) in
    let all : at_row promote_row (lowest Surplus now) (at_row shrink_row (lowest Free now) now) ≡ slice_set (slice_set rows i (shrink_row x)) k (promote_row y) =
    ap (λ m. at_row promote_row m (at_row shrink_row (lowest Free now) now)) k_is ∙ ap (λ m. at_row promote_row k (at_row shrink_row m now)) i_is ∙ ap (at_row promote_row k) first ∙ second in
    ap (λ l. record s { rows = l }) (cond-false _ _ _ not_both ∙ all)

-- two rows change, and what is had stays as it was
two_stay : (kind : Kind) (rows : List NodeRow) (i k : ℕ) (x y : NodeRow) → k ≢ i → has kind x ≡ has kind (row_at rows i) → has kind y ≡ has kind (row_at rows k)
    → lowest kind (slice_set (slice_set rows i x) k y) ≡ lowest kind rows
two_stay kind rows i k x y apart x_has y_has =
    let other : has kind y ≡ has kind (row_at (slice_set rows i x) k) = y_has ∙ ap (has kind) (sym (get_or-set_other rows i k x no_row apart)) in
    position_or_len-set (has kind) (slice_set rows i x) k y no_row other ∙ position_or_len-set (has kind) rows i x no_row x_has

-- where no node has both, the node of the free pages is not that of the surplus
pub apart_still : (rows : List NodeRow) (n i k : ℕ) → (row_at rows i).surp ≡ 0 → 0 < n → n ≤ (row_at rows k).surp → n ≤ (row_at (at_row (shrink_by n) i rows) k).surp
apart_still rows n i k bare some enough =
    let apart : k ≢ i = λ e. (let same = ap (λ m. (row_at rows m).surp) e in absurd (omega (arith, same, bare, some, enough))) in
    let stays : row_at (at_row (shrink_by n) i rows) k ≡ row_at rows k = get_or-set_other rows i k (shrink_by n (row_at rows i)) no_row apart in
    omega (arith, enough, ap (λ r. r.surp) stays)

-- where no node has both, one gives its free pages back, and another's surplus pages become persistent
pub apart_at : (s : NodeRows) (n i k : ℕ) → i ≡ lowest Free s.rows → k ≡ lowest Surplus s.rows → lowest FreeSurplus s.rows ≡ length s.rows → i < length s.rows → k < length s.rows
    → n ≤ (row_at s.rows i).free → n ≤ (row_at s.rows k).surp → iterate given_back n s ≡ record s { rows = at_row (promote_by n) k (at_row (shrink_by n) i s.rows) }
apart_at s n i k i_at k_at none f u free_enough surplus_enough =
    let rows = s.rows in
    let r = row_at rows i in
    let q = row_at rows k in
    let is_free : has Free r ≡ true = ap (λ m. has Free (row_at rows m)) i_at ∙ passes_at_first (has Free) rows no_row (omega (arith, i_at, f)) in
    let is_surplus : has Surplus q ≡ true = ap (λ m. has Surplus (row_at rows m)) k_at ∙ passes_at_first (has Surplus) rows no_row (omega (arith, k_at, u)) in
    let not_r : has FreeSurplus r ≡ false = fails_before_first (has FreeSurplus) rows i no_row (omega (arith, none, f)) in
    let not_q : has FreeSurplus q ≡ false = fails_before_first (has FreeSurplus) rows k no_row (omega (arith, none, u)) in
    let bare : r.surp ≡ 0 = grind (arith, nat_tests) in
    let in_use : q.free ≡ 0 = grind (arith, nat_tests) in
    let some : 0 < q.surp = grind (arith, nat_tests) in
    let apart : k ≢ i = λ e. (let same = ap (λ m. (row_at rows m).surp) e in absurd (omega (arith, same, bare, some))) in
    let none_moved : shrink_by 0 r ≡ r = same_row _ _ _ _ _ _ _ _ refl (omega arith) (omega arith) refl in
    let none_promoted : promote_by 0 q ≡ q = same_row _ _ _ _ _ _ _ _ refl refl refl (omega arith) in
    let back : slice_set (slice_set rows i r) k q ≡ rows = ap (λ l. slice_set l k q) (set-get_or rows i no_row) ∙ set-get_or rows k no_row in
    let first : s ≡ with_rows s i (shrink_by 0 r) k (promote_by 0 q) =
    ap (λ l. record s { rows = l }) (sym back) ∙ ap (λ z. with_rows s i z k q) (sym none_moved) ∙ ap (with_rows s i (shrink_by 0 r) k) (sym none_promoted) in
    keeps given_back (λ j t. t ≡ with_rows s i (shrink_by j r) k (promote_by j q)) n s first
    (λ j l t e.
    let a : NodeRow = shrink_by j r in
    let b : NodeRow = promote_by j q in
    let no_both : length rows ≤ lowest FreeSurplus (with_rows s i a k b).rows = omega (arith, none, two_stay FreeSurplus rows i k a b apart (grind (arith, nat_tests)) (grind (arith, nat_tests))) in
    let i_is : lowest Free (with_rows s i a k b).rows ≡ i = two_stay Free rows i k a b apart (grind (arith, nat_tests)) refl ∙ sym i_at in
    let k_is : lowest Surplus (with_rows s i a k b).rows ≡ k = two_stay Surplus rows i k a b apart refl (grind (arith, nat_tests)) ∙ sym k_at in
    let a_next : shrink_row a ≡ shrink_by (j + 1) r = same_row _ _ _ _ _ _ _ _ refl (omega arith) (omega arith) refl in
    let b_next : promote_row b ≡ promote_by (j + 1) q = same_row _ _ _ _ _ _ _ _ refl refl refl (omega arith) in
    ap given_back e ∙ apart_once s i k a b f u apart no_both i_is k_is ∙ ap (λ z. with_rows s i z k (promote_row b)) a_next ∙ ap (with_rows s i (shrink_by (j + 1) r) k) b_next)
    ∙ ap (λ z. with_rows s i (shrink_by n r) k (promote_by n z)) (sym (get_or-set_other rows i k (shrink_by n r) no_row apart))
