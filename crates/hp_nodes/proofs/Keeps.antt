use Rattle.std.proofs.Common.{ℕ, ◌≡◌, ◌≢◌, ◌+◌, ◌-◌, ◌<◌, ◌≤◌, ◌==◌, List, length, inl, inr, ap, refl, sym, subst, ◌∙◌, zero, suc, [], ◌∷◌, map, arith, slice_set, slice_index, All, if◌then◌else◌}
use Rattle.std.proofs.Common.{eq-eqb}
use Rattle.std.proofs.lemmas.Grind.{common_steps}
use Rattle.std.proofs.lemmas.List.{get_or-set_same, get_or-set_other, length-set, get_or_past}
use Rattle.std.proofs.lemmas.List.Elements.{All-set, All-map}
use Rattle.std.proofs.lemmas.Bool.{cases_eq, cases_lt, cond-true}
use Rattle.std.proofs.lemmas.Bool.Decides.{nat_tests}
use Rattle.hp_model.specs.declared.node.NodeRow.{NodeRow}
use Rattle.hp_model.proofs.Words.{IsRow, free_of, idle_row, no_row, row_at, total_of, used}
use Rattle.hp_model.proofs.Sums.{free_le_total}
use Rattle.hp_nodes.specs.Kept.{IsKept}
use Rattle.hp_nodes.specs.Ledgers.{AreAll, AreFrames}
use Rattle.hp_nodes.specs.Moves.{put_by, take_by}
use Rattle.hp_nodes.proofs.Sums.{put_sums}

-- ---- rows

none_used : (frames : List ℕ) (k : ℕ) → used (row_at (map idle_row frames) k) ≡ 0
none_used [] k = refl
none_used (f ∷ fs) zero = refl
none_used (f ∷ fs) (suc k) = none_used fs k

idle_frames : (frames : List ℕ) (k : ℕ) → (row_at (map idle_row frames) k).frames ≡ slice_index frames k
idle_frames [] k = refl
idle_frames (f ∷ fs) zero = refl
idle_frames (f ∷ fs) (suc k) = idle_frames fs k

idle_rows : (frames : List ℕ) → All (λ f. f ≤ 65536) frames → All IsRow (map idle_row frames)
idle_rows frames small =
    All-map IsRow idle_row frames (λ k d below. let few = small k d below in record { free_in = omega arith; surp_in = omega arith; total_in = omega arith; few = few })

-- a node with a page in use is there
pub used_below : (rows : List NodeRow) (here : ℕ) → 0 < used (row_at rows here) → here < length rows
used_below rows here some =
    elim (cases_lt here (length rows)) as (λ _. here < length rows) [
      | inl below ↦ below
      | inr past ↦ let e : used (row_at rows here) ≡ 0 = ap used (get_or_past rows here no_row past) in absurd (omega arith)
    ]

-- what is in use at each node where so many free pages go out
pub used_more : (rows : List NodeRow) (i n : ℕ) (y : NodeRow) → i < length rows → IsRow (row_at rows i) → n ≤ (row_at rows i).free → y ≡ take_by n (row_at rows i)
    → (k : ℕ) → used (row_at (slice_set rows i y) k) ≡ used (row_at rows k) + (if i == k then n else 0)
used_more rows i n y below sound free y_is k =
    elim (cases_eq i k) as (λ _. used (row_at (slice_set rows i y) k) ≡ used (row_at rows k) + (if i == k then n else 0)) [
      | inl e ↦
          let here = ap used (get_or-set_same rows i y no_row below) in
          let more : used y ≡ used (row_at rows i) + n = omega (arith, ap (λ (r : NodeRow). r.free) y_is, ap (λ (r : NodeRow). r.total) y_is, sound.free_in, free) in
          let test : (if i == k then n else 0) ≡ n = cond-true _ _ _ (eq-eqb i k e) in
          subst (λ j. used (row_at (slice_set rows i y) j) ≡ used (row_at rows j) + (if i == k then n else 0)) e (omega (arith, here, more, test))
      | inr apart ↦
          let there = ap used (get_or-set_other rows i k y no_row (λ e. apart (sym e))) in
          let test : (if i == k then n else 0) ≡ 0 = grind (arith, nat_tests) in
          omega (arith, there, test)
    ]

module _ {frames : ℕ → ℕ} where
  -- one row and its claims change together
  kept_set : (rows : List NodeRow) (growth release : ℕ) (claims left : List ℕ) (here : ℕ) (y : NodeRow)
      → IsKept frames rows growth release claims → here < length rows → IsRow y → y.frames ≡ frames here
      → length left ≡ 4 → slice_index left here + used y ≡ frames here → ((k : ℕ) → k < 4 → here ≢ k → slice_index left k ≡ slice_index claims k)
      → IsKept frames (slice_set rows here y) growth release left
  kept_set rows growth release claims left here y h in_rows sound as_many four mine others =
      let same : length (slice_set rows here y) ≡ length rows = length-set rows here y in
      record {
        some = omega (arith, same, h.some);
        few = omega (arith, same, h.few);
        growth_in = omega (arith, same, h.growth_in);
        release_in = omega (arith, same, h.release_in);
        sound = All-set IsRow rows here y sound h.sound;
        framed = λ k below. elim (cases_eq k here) as (λ _. (row_at (slice_set rows here y) k).frames ≡ frames k) [
          | inl e ↦ rw e (ap (λ r. r.frames) (get_or-set_same rows here y no_row in_rows) ∙ as_many)
          | inr n ↦ ap (λ r. r.frames) (get_or-set_other rows here k y no_row n) ∙ h.framed k below
        ];
        four = four;
        counted = λ k below. elim (cases_eq k here) as (λ _. slice_index left k + used (row_at (slice_set rows here y) k) ≡ frames k) [
          | inl e ↦ rw e (omega (arith, ap used (get_or-set_same rows here y no_row in_rows), mine))
          | inr n ↦ omega (arith, ap used (get_or-set_other rows here k y no_row n), others k below (λ e. n (sym e)), h.counted k below)
        ];
      }

  -- at first all frames are idle
  pub kept_new : (rows : List NodeRow) (counts : List ℕ) (growth release : ℕ) (claims : List ℕ) → rows ≡ map idle_row counts → AreAll frames claims → AreFrames frames counts
      → 0 < length counts → growth < length counts → release < length counts → length counts ≤ 4 → All (λ f. f ≤ 65536) counts → IsKept frames rows growth release claims
  kept_new rows counts growth release claims rows_are all are some growth_in release_in few small =
      let count : length rows ≡ length counts = rw rows_are (grind (arith, common_steps)) in
      record {
        some = omega (arith, count);
        few = omega (arith, count);
        growth_in = omega (arith, count);
        release_in = omega (arith, count);
        sound = rw rows_are (idle_rows counts small);
        framed = λ k below. rw rows_are (idle_frames counts k ∙ sym (are k below));
        four = ap length all;
        counted = λ k below. rw rows_are (omega (arith, none_used counts k, ap (λ xs. slice_index xs k) all ∙ each k below));
      }
    where
      each : (k : ℕ) → k < 4 → slice_index (frames 0 ∷ frames 1 ∷ frames 2 ∷ frames 3 ∷ []) k ≡ frames k
      each zero l = refl
      each (suc zero) l = refl
      each (suc (suc zero)) l = refl
      each (suc (suc (suc zero))) l = refl
      each (suc (suc (suc (suc k)))) l = absurd (omega (arith, l))

  -- free pages have claims here
  pub some_claimed : (rows : List NodeRow) (growth release : ℕ) (claims : List ℕ) (here : ℕ) → IsKept frames rows growth release claims → here < length rows
      → (row_at rows here).free ≤ slice_index claims here
  some_claimed rows growth release claims here h in_rows =
      let below : here < 4 = omega (arith, in_rows, h.few) in
      let r : IsRow (row_at rows here) = h.sound here no_row in_rows in
      omega (arith, h.counted here below, h.framed here below, r.total_in, r.free_in)

  -- so many free pages go out
  pub kept_take : (rows : List NodeRow) (growth release : ℕ) (claims left : List ℕ) (here amount : ℕ) (y : NodeRow) →
      IsKept frames rows growth release claims → here < length rows → amount ≤ (row_at rows here).free
      → y ≡ take_by amount (row_at rows here) → IsRow y → left ≡ slice_set claims here (slice_index claims here - amount) → IsKept frames (slice_set rows here y) growth release left
  kept_take rows growth release claims left here amount y h in_rows free y_is sound left_is =
      let below : here < 4 = omega (arith, in_rows, h.few) in
      let r : IsRow (row_at rows here) = h.sound here no_row in_rows in
      let enough = some_claimed rows growth release claims here h in_rows in
      let n = slice_index claims here - amount in
      let mine : slice_index left here ≡ n = ap (λ xs. slice_index xs here) left_is ∙ get_or-set_same claims here n 0 (omega (arith, below, h.four)) in
      kept_set rows growth release claims left here y h in_rows sound (ap (λ x. x.frames) y_is ∙ h.framed here below) (ap length left_is ∙ length-set claims here n ∙ h.four)
      (omega (arith, mine, ap used y_is, h.counted here below, free, r.free_in, enough))
      (λ k lt apart. ap (λ xs. slice_index xs k) left_is ∙ get_or-set_other claims here k n 0 (λ e. apart (sym e)))

  -- where claims come back, so many pages were in use there
  pub was_used : (rows : List NodeRow) (growth release : ℕ) (claims left : List ℕ) (here amount : ℕ) → IsKept frames rows growth release claims → here < 4
      → left ≡ slice_set claims here (slice_index claims here + amount) → slice_index left here ≤ frames here → amount ≤ used (row_at rows here)
  was_used rows growth release claims left here amount h below left_is within =
      let n = slice_index claims here + amount in
      let mine : slice_index left here ≡ n = ap (λ xs. slice_index xs here) left_is ∙ get_or-set_same claims here n 0 (omega (arith, below, h.four)) in
      omega (arith, mine, within, h.counted here below)

  -- pages come back
  pub kept_put : (rows : List NodeRow) (growth release : ℕ) (claims left : List ℕ) (here amount : ℕ) (y : NodeRow) → IsKept frames rows growth release claims → here < 4 → 0 < amount
      → left ≡ slice_set claims here (slice_index claims here + amount) → slice_index left here ≤ frames here → y ≡ put_by amount (row_at rows here) →
      IsRow y → IsKept frames (slice_set rows here y) growth release left
  kept_put rows growth release claims left here amount y h below some left_is within y_is sound =
      let was = was_used rows growth release claims left here amount h below left_is within in
      let in_rows = used_below rows here (omega (arith, was, some)) in
      let n = slice_index claims here + amount in
      let mine : slice_index left here ≡ n = ap (λ xs. slice_index xs here) left_is ∙ get_or-set_same claims here n 0 (omega (arith, below, h.four)) in
      kept_set rows growth release claims left here y h in_rows sound (ap (λ r. r.frames) y_is ∙ h.framed here below) (ap length left_is ∙ length-set claims here n ∙ h.four)
      (omega (arith, mine, ap used y_is, h.counted here below, was))
      (λ k lt apart. ap (λ xs. slice_index xs k) left_is ∙ get_or-set_other claims here k n 0 (λ e. apart (sym e)))

  -- so many pages were not free
  pub some_in_use : (rows : List NodeRow) (growth release : ℕ) (claims : List ℕ) (here amount : ℕ) (y : NodeRow) → IsKept frames rows growth release claims → here < length rows
      → y ≡ put_by amount (row_at rows here) → IsRow y → free_of rows + amount ≤ total_of rows
  some_in_use rows growth release claims here amount y h in_rows y_is sound =
      let sums = put_sums rows here amount y in_rows y_is in
      let le = free_le_total (slice_set rows here y) (All-set IsRow rows here y sound h.sound) in
      omega (arith, ap (λ r. r.free) sums, ap (λ r. r.total) sums, le)
