-- What a change of each node that has one keeps, and how the sums change by it.
use Rattle.std.proofs.Common.{ℕ, ◌≡◌, ◌+◌, ◌*◌, ◌<◌, Bool, true, false, cond, List, [], ◌∷◌, ◌++◌, length, map, take, drop, inl, inr, get_or, refl, sym, ap, ◌∙◌, arith, slice_set, slice_index_or, All}
use Rattle.std.proofs.Common.{count_by, sum_by}
use Rattle.std.proofs.lemmas.Bool.{cond_both, cases_lt}
use Rattle.std.proofs.Math.Seq.{set-append_seam, get_or-append_seam}
use Rattle.std.proofs.lemmas.List.{append_assoc, drop_more, take-append-le, take_all, take_more, map-append, length-take-le, length-map, get_or-map, get_or_past}
use Rattle.std.proofs.lemmas.List.Elements.{All-head, All-tail, All-map}
use Rattle.std.proofs.lemmas.List.Sums.{sum_by-cons}
use Rattle.hp_model.proofs.Counting.{count_cons}
use Rattle.hp_model.specs.declared.node.Kind.{Kind}
use Rattle.hp_model.specs.declared.node.Kind.TheVariants.{Free, Idle}
use Rattle.hp_model.specs.declared.node.NodeRow.{NodeRow}
use Rattle.hp_model.proofs.Words.{IsRow, has, no_row, row_at, sum_row, used}
use Rattle.hp_nodes.specs.Kept.{IsKept}
use Rattle.hp_nodes.specs.Moves.{HasMany, where_has, grow_by, shrink_by}
use Rattle.hp_nodes.proofs.Sums.{same_row}

-- a number of each node that has one goes up, or down
each_sum : (kind : Kind) (f : NodeRow → NodeRow) (v : NodeRow → ℕ) (up down : ℕ) (rows : List NodeRow) → All (λ x. has kind x ≡ true → v (f x) + down ≡ v x + up) rows
    → sum_by v (map (where_has kind f) rows) + down * count_by (has kind) rows ≡ sum_by v rows + up * count_by (has kind) rows
each_sum kind f v up down [] moved = omega arith
each_sum kind f v up down (x ∷ xs) moved =
    let Moves : NodeRow → Type 0 = λ x. has kind x ≡ true → v (f x) + down ≡ v x + up in
    let one : v (where_has kind f x) + down * cond (has kind x) 1 0 ≡ v x + up * cond (has kind x) 1 0 = by_case (has kind x) (All-head Moves x xs moved) in
    let rest = each_sum kind f v up down xs (All-tail Moves x xs moved) in
    let count = count_cons (has kind) x xs in
    let after = sum_by-cons v (where_has kind f x) (map (where_has kind f) xs) in
    let before = sum_by-cons v x xs in
    let downs = ap (λ n. down * n) count in
    let ups = ap (λ n. up * n) count in
    omega arith
  where
    by_case : (b : Bool) → (b ≡ true → v (f x) + down ≡ v x + up) → v (cond b (f x) x) + down * cond b 1 0 ≡ v x + up * cond b 1 0
    by_case true h = (let e = h refl in omega arith)
    by_case false h = omega arith

pub grow_each_sums : (rows : List NodeRow) (r : ℕ) → sum_row (map (where_has Idle (grow_by r)) rows) ≡ grow_by (r * count_by (has Idle) rows) (sum_row rows)
grow_each_sums rows r =
    let f = each_sum Idle (grow_by r) (λ x. x.frames) 0 0 rows (λ k d below e. refl) in
    let t = each_sum Idle (grow_by r) (λ x. x.total) r 0 rows (λ k d below e. omega arith) in
    let n = each_sum Idle (grow_by r) (λ x. x.free) r 0 rows (λ k d below e. omega arith) in
    let u = each_sum Idle (grow_by r) (λ x. x.surp) 0 0 rows (λ k d below e. refl) in
    same_row _ _ _ _ _ _ _ _ (omega (arith, f)) (omega (arith, t)) (omega (arith, n)) (omega (arith, u))

pub shrink_each_sums : (rows : List NodeRow) (r : ℕ) → All IsRow rows → All (HasMany Free r) rows →
    sum_row (map (where_has Free (shrink_by r)) rows) ≡ shrink_by (r * count_by (has Free) rows) (sum_row rows)
shrink_each_sums rows r sound enough =
    let f = each_sum Free (shrink_by r) (λ x. x.frames) 0 0 rows (λ k d below e. refl) in
    let t = each_sum Free (shrink_by r) (λ x. x.total) 0 r rows (λ k d below e. (let some = enough k d below e in let row = sound k d below in omega (arith, some, row.free_in))) in
    let n = each_sum Free (shrink_by r) (λ x. x.free) 0 r rows (λ k d below e. (let some = enough k d below e in omega (arith, some))) in
    let u = each_sum Free (shrink_by r) (λ x. x.surp) 0 0 rows (λ k d below e. refl) in
    same_row _ _ _ _ _ _ _ _ (omega (arith, f)) (omega (arith, t)) (omega (arith, n)) (omega (arith, u))

-- a row stays sound, and its pages in use stay
record Stays (x y : NodeRow) : Type 0 where
  sound : IsRow y
  same : used y ≡ used x
  as_many : y.frames ≡ x.frames

kept_each : {m : ℕ → ℕ} (rows : List NodeRow) (growth release : ℕ) (claims : List ℕ) (f : NodeRow → NodeRow) → IsKept m rows growth release claims → All (λ x. Stays x (f x)) rows
    → IsKept m (map f rows) growth release claims
kept_each rows growth release claims f h stays =
    let as_long : length (map f rows) ≡ length rows = length-map rows f in
    record {
      some = omega (arith, as_long, h.some);
      few = omega (arith, as_long, h.few);
      growth_in = omega (arith, as_long, h.growth_in);
      release_in = omega (arith, as_long, h.release_in);
      sound = All-map IsRow f rows (λ k d below. (stays k d below).sound);
      four = h.four;
      counted = λ k below. omega (arith, same_used k, h.counted k below);
      framed = λ k below. same_frames k ∙ h.framed k below;
    }
  where
    same_used : (k : ℕ) → used (row_at (map f rows) k) ≡ used (row_at rows k)
    same_used k =
        elim (cases_lt k (length rows)) as (λ _. used (row_at (map f rows) k) ≡ used (row_at rows k)) [
          | inl here ↦ ap used (get_or-map f rows k no_row no_row here) ∙ (stays k no_row here).same
          | inr past ↦ ap used (get_or_past (map f rows) k no_row (omega (arith, length-map rows f))) ∙ sym (ap used (get_or_past rows k no_row past))
        ]

    same_frames : (k : ℕ) → (row_at (map f rows) k).frames ≡ (row_at rows k).frames
    same_frames k =
        elim (cases_lt k (length rows)) as (λ _. (row_at (map f rows) k).frames ≡ (row_at rows k).frames) [
          | inl here ↦ ap (λ r. r.frames) (get_or-map f rows k no_row no_row here) ∙ (stays k no_row here).as_many
          | inr past ↦ ap (λ r. r.frames) (get_or_past (map f rows) k no_row (omega (arith, length-map rows f)) ∙ sym (get_or_past rows k no_row past))
        ]

pub kept_grow_each : {m : ℕ → ℕ} (rows : List NodeRow) (growth release : ℕ) (claims : List ℕ) (r : ℕ) → IsKept m rows growth release claims → All (HasMany Idle r) rows
    → IsKept m (map (where_has Idle (grow_by r)) rows) growth release claims
kept_grow_each rows growth release claims r h enough =
    kept_each rows growth release claims (where_has Idle (grow_by r)) h
    (λ k d below. (let x : NodeRow = get_or rows k d in
    let row : IsRow x = h.sound k d below in
    cond_both (has Idle x) (grow_by r x) x (Stays x)
    (λ e. (let some = enough k d below e in
    record {
      sound = record {
        free_in = omega (arith, row.free_in);
        surp_in = omega (arith, row.surp_in);
        total_in = omega (arith, some, row.total_in);
        few = row.few;
      };
      same = omega arith;
      as_many = refl;
    }))
    (λ e. record { sound = row; same = refl; as_many = refl })))

pub kept_shrink_each : {m : ℕ → ℕ} (rows : List NodeRow) (growth release : ℕ) (claims : List ℕ) (r : ℕ) → IsKept m rows growth release claims → All (HasMany Free r) rows → All (λ x. x.surp ≡ 0) rows
    → IsKept m (map (where_has Free (shrink_by r)) rows) growth release claims
kept_shrink_each rows growth release claims r h enough bare =
    kept_each rows growth release claims (where_has Free (shrink_by r)) h
    (λ k d below. (let x : NodeRow = get_or rows k d in
    let row : IsRow x = h.sound k d below in
    let none : x.surp ≡ 0 = bare k d below in
    cond_both (has Free x) (shrink_by r x) x (Stays x)
    (λ e. (let some = enough k d below e in
    record {
      sound = record {
        free_in = omega (arith, row.free_in);
        surp_in = omega (arith, none);
        total_in = omega (arith, row.total_in);
        few = row.few;
      };
      same = omega (arith, some, row.free_in);
      as_many = refl;
    }))
    (λ e. record { sound = row; same = refl; as_many = refl })))

-- ---- the loop over the nodes

-- the rows before the place i are changed
abbrev pub changed_before : ℕ → (NodeRow → NodeRow) → List NodeRow → List NodeRow
changed_before i f rows = map f (take i rows) ++ drop i rows

-- the next row is read as it was
pub read_at : (f : NodeRow → NodeRow) (rows now : List NodeRow) (i : ℕ) (item : NodeRow) → i < length rows → now ≡ changed_before i f rows
    → slice_index_or now i item ≡ row_at rows i
read_at f rows now i item below is =
    let pre = map f (take i rows) in
    let post = drop (i + 1) rows in
    let size : length pre ≡ i = length-map (take i rows) f ∙ length-take-le i rows (omega arith) in
    ap (λ l. slice_index_or l i item) (is ∙ ap (λ l. pre ++ l) (drop_more rows i no_row below))
    ∙ ap (λ k. slice_index_or (pre ++ row_at rows i ∷ post) k item) (sym size)
    ∙ get_or-append_seam pre (row_at rows i) post item

-- it is changed too
pub changed_next : (f : NodeRow → NodeRow) (rows now : List NodeRow) (i : ℕ) (y : NodeRow) → i < length rows → now ≡ changed_before i f rows → y ≡ f (row_at rows i)
    → slice_set now i y ≡ changed_before (i + 1) f rows
changed_next f rows now i y below is y_is =
    let pre = map f (take i rows) in
    let x = row_at rows i in
    let post = drop (i + 1) rows in
    let size : length pre ≡ i = length-map (take i rows) f ∙ length-take-le i rows (omega arith) in
    let more : pre ++ f x ∷ [] ≡ map f (take (i + 1) rows) = sym (map-append f (take i rows) (x ∷ [])) ∙ sym (ap (map f) (take_more rows i no_row below)) in
    ap (λ l. slice_set l i y) (is ∙ ap (λ l. pre ++ l) (drop_more rows i no_row below))
    ∙ ap (λ k. slice_set (pre ++ x ∷ post) k y) (sym size)
    ∙ set-append_seam pre x post y
    ∙ ap (λ z. pre ++ z ∷ post) y_is
    ∙ sym (append_assoc pre (f x ∷ []) post)
    ∙ ap (λ l. l ++ post) more

-- the nodes, once each was changed
pub each_written : (f : NodeRow → NodeRow) (n : ℕ) (new mid old : List NodeRow) → length new ≡ n → new ≡ map f mid → mid ≡ old → take n (new ++ drop (length new) old) ≡ map f old
each_written f n new mid old long is same = take-append-le n new (drop (length new) old) (omega arith) ∙ take_all n new (omega arith) ∙ is ∙ ap (map f) same
