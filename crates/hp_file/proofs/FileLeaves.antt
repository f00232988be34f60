use Rattle.std.proofs.lemmas.Grind.{common_steps}
-- The maps of a task that leave a file, as code takes them.
use Rattle.std.proofs.Common.{◌≡◌, ℕ, ◌+◌, ◌-◌, ◌||◌, Bool, true, false, not, cond, nat_lt, List, [], ◌∷◌, length, take, drop, ◌++◌, map, replicate, refl, sym, ap, ◌∙◌, arith, is_some, Option}
use Rattle.std.proofs.Common.{count_by, filter, sum_by}
use Rattle.std.proofs.Math.Seq.{take-append_seam}
use Rattle.std.proofs.lemmas.Bool.{ltb-false}
use Rattle.std.proofs.lemmas.List.{length-map}
use Rattle.std.proofs.lemmas.List.Sums.{sum_by-cons}
use Rattle.hp_laws.proofs.Variants.{Cell, Gone, Hole, Place}
use Rattle.hp_model.proofs.Words.{Mapping, cells_to, edit_range, is_of, is_unconsumed, is_waiting, map_punched, without_range}
use Rattle.hp_lookup.proofs.Words.{NumberedFile, emptied, ended_for, file_owed, in_cell, in_file, in_map, is_used, left_by, owed, with_truncated}
use Rattle.hp_file.specs.HeldPages.{AreDropped}
use Rattle.hp_file.specs.declared.held_pages.HeldPages.{HeldPages}
use Rattle.hp_file.proofs.Cutting.{no_copies, none_all}
use Rattle.hp_file.proofs.Counting.{dropped_as}
use Rattle.hp_file.proofs.Leaves.{left_holds}

-- ---- a map that loses all its indices

pub ended_holds : (n : ℕ) (m : Mapping ℕ) → in_map n (without_range m.start (m.start + length m.places) m) ≡ 0
ended_holds n m = left_holds n m.start (m.start + length m.places) m ∙ no_copies n m.start (m.start + length m.places) m refl refl

pub ended_owes : (m : Mapping ℕ) → owed (without_range m.start (m.start + length m.places) m) ≡ 0
ended_owes m = either m.owner
  where
    either : (t : Bool) → cond t (count_by is_unconsumed (edit_range (λ p. Gone) (m.start - m.start) (m.start + length m.places - m.start) m.places)) 0 ≡ 0
    either true = none_all (λ (p : Place ℕ). cond {A = ℕ} (is_unconsumed p) 1 0) (λ p. Gone) (λ p. refl) (m.start - m.start) (m.start + length m.places - m.start) m.places (omega arith) (omega arith)
    either false = refl

module _ (task : ℕ) where
  abbrev pub others : List (Mapping ℕ) → List (Mapping ℕ)
  others ms = filter (λ (m : Mapping ℕ). not (is_of task m)) ms

  pub others_left : (ms : List (Mapping ℕ)) → others (map (ended_for task) ms) ≡ others ms
  others_left [] = refl
  others_left (m ∷ ms) = at (is_of task m) refl (others_left ms)
    where
      at : (b : Bool) → is_of task m ≡ b → others (map (ended_for task) ms) ≡ others ms
          → cond (not (is_of task (cond b (without_range m.start (m.start + length m.places) m) m)))
          (cond b (without_range m.start (m.start + length m.places) m) m ∷ others (map (ended_for task) ms)) (others (map (ended_for task) ms))
          ≡ cond (not (is_of task m)) (m ∷ others ms) (others ms)
      at true is rest = ap (λ b. cond (not b) (without_range m.start (m.start + length m.places) m ∷ others (map (ended_for task) ms))
          (others (map (ended_for task) ms))) is ∙ rest ∙ sym (ap (λ b. cond (not b) (m ∷ others ms) (others ms)) is)
      at false is rest = ap (λ b. cond (not b) (m ∷ others (map (ended_for task) ms)) (others (map (ended_for task) ms))) is ∙ ap (λ xs. m ∷ xs) rest
          ∙ sym (ap (λ b. cond (not b) (m ∷ others ms) (others ms)) is)

  -- what is counted of them is of the others alone
  pub others_sum : (c : Mapping ℕ → ℕ) → ((m : Mapping ℕ) → c (without_range m.start (m.start + length m.places) m) ≡ 0) → (ms : List (Mapping ℕ)) →
      sum_by c (map (ended_for task) ms) ≡ sum_by c (others ms)
  others_sum c none [] = refl
  others_sum c none (m ∷ ms) = at (is_of task m) refl (others_sum c none ms)
    where
      at : (b : Bool) → is_of task m ≡ b → sum_by c (map (ended_for task) ms) ≡ sum_by c (others ms) →
          sum_by c (cond b (without_range m.start (m.start + length m.places) m) m ∷ map (ended_for task) ms)
          ≡ sum_by c (cond (not b) (m ∷ others ms) (others ms))
      at true is rest =
          let here = none m in
          omega (arith, here, rest, sum_by-cons c (without_range m.start (m.start + length m.places) m) (map (ended_for task) ms))
      at false is rest =
          omega (arith, rest, sum_by-cons c m (map (ended_for task) ms), sum_by-cons c m (others ms))

-- ---- a file without name and maps

pub empty_file : (f : NumberedFile) → is_used f ≡ false → (f.maps ≡ []) × (with_truncated 0 f ≡ record { name = f.name; cells = []; maps = [] })
empty_file f out =
    let bare = by (is_some f.name) f.maps out in (
      bare,
      ap (λ cs. record { name = f.name; cells = cs; maps = map (map_punched 0 (0 + length f.cells)) f.maps }) (no_cells f.cells)
          ∙ ap (λ ms. record { name = f.name; cells = []; maps = map (map_punched 0 (0 + length f.cells)) ms }) bare,
    )
  where
    by : (b : Bool) (ms : List (Mapping ℕ)) → (b || nat_lt 0 (length ms)) ≡ false → ms ≡ []
    by true ms e = cc
    by false [] e = refl
    by false (m ∷ ms) e = (let none = ltb-false 0 (length (m ∷ ms)) e in absurd (omega (arith, none)))

    no_cells : (cells : List (Cell ℕ)) → cells_to 0 cells ≡ []
    no_cells [] = refl
    no_cells (c ∷ cells) = ap (λ k. replicate k Hole) {x = 0 - length (c ∷ cells)} {y = 0} (omega arith)

-- ---- as code leaves the file

-- a slice that is written back
pub written_back : {X : Type 0} (len : ℕ) (ys xs : List X) → length ys ≡ len → take len (ys ++ drop (length ys) xs) ≡ ys
written_back len ys xs e = ap (λ n. take n (ys ++ drop (length ys) xs)) (sym e) ∙ take-append_seam ys (drop (length ys) xs)

-- its fields as they were, the maps as they were ended, and those that were kept
module _ (task : ℕ) (old : NumberedFile) (name : Option (List ℕ)) (cells : List (Cell ℕ)) (ms : List (Mapping ℕ))
    (view : ◌≡◌ {A = NumberedFile} (record { name = name; cells = cells; maps = ms }) old) (len : ℕ) (few : length ms ≡ len)
    (raw ended kept : List (Mapping ℕ)) (raw_is : raw ≡ ms) (ended_from : ended ≡ map (ended_for task) raw)
    (kept_is : kept ≡ filter (λ (m : Mapping ℕ). not (is_of task m)) (take len (ended ++ drop (length ended) ms))) where
  abbrev x : NumberedFile
  x = record { name = name; cells = cells; maps = kept }

  ended_is : ended ≡ map (ended_for task) old.maps
  ended_is = ended_from ∙ ap (map (ended_for task)) (raw_is ∙ ap (λ (f : NumberedFile). f.maps) view)

  x_is : x ≡ record old { maps = filter (λ (m : Mapping ℕ). not (is_of task m)) ended }
  x_is = grind (arith, common_steps, length-map, written_back)

  left_is : x ≡ left_by task old
  left_is = x_is ∙ ap (λ ms. record old { maps = filter (λ (m : Mapping ℕ). not (is_of task m)) ms }) ended_is ∙ ap (λ ms. record old { maps = ms }) (others_left task old.maps)

  raw_old : raw ≡ old.maps
  raw_old = raw_is ∙ ap (λ (f : NumberedFile). f.maps) view

  sum_left : (c : Mapping ℕ → ℕ) → ((m : Mapping ℕ) → c (without_range m.start (m.start + length m.places) m) ≡ 0) → sum_by c ended ≡ sum_by c x.maps
  sum_left c none = ap (sum_by c) ended_is ∙ others_sum task c none old.maps ∙ sym (ap (λ (f : NumberedFile). sum_by c f.maps) left_is)

  pub left_dropping : {N : Type 0} {s t : HeldPages N} → AreDropped (λ n. sum_by (in_map n) raw) (λ n. sum_by (in_map n) ended) s t → AreDropped (λ n. in_file n old) (λ n. in_file n x) s t
  left_dropping d = dropped_as d (λ n. (let maps = sum_left (in_map n) (ended_holds n) in let was = ap (sum_by (in_map n)) raw_old in
      let cells = ap (λ (f : NumberedFile). sum_by (in_cell n) f.cells) x_is in omega (arith, maps, was, cells)))

  pub left_reserves : (r : ℕ) → r + sum_by owed ended ≡ sum_by owed raw → r + file_owed x ≡ file_owed old
  left_reserves r e = (let maps = sum_left owed ended_owes in let was = ap (sum_by owed) raw_old in
      let cells = ap (λ (f : NumberedFile). count_by is_waiting f.cells) x_is in omega (arith, e, maps, was, cells))

  pub left_used : is_used x ≡ true → x ≡ emptied (left_by task old)
  left_used used = sym (ap (λ b. cond b x (with_truncated 0 x)) used) ∙ ap emptied left_is

  -- ---- without name and maps

  module _ (out : is_used x ≡ false) (y : NumberedFile) (y_is : y ≡ with_truncated 0 x) where
    pub gone_is : y ≡ emptied (left_by task old)
    gone_is = y_is ∙ sym (ap (λ b. cond b x (with_truncated 0 x)) out) ∙ ap emptied left_is

    bare : x.maps ≡ []
    bare = (empty_file x out).0

    empty_is : y ≡ record { name = x.name; cells = []; maps = [] }
    empty_is = y_is ∙ (empty_file x out).1

    all_cells : (cells : List (Cell ℕ)) → drop 0 cells ≡ cells
    all_cells [] = refl
    all_cells (c ∷ cells) = refl

    pub gone_reserves : (r e : ℕ) → r + sum_by owed ended ≡ sum_by owed raw → e ≡ count_by is_waiting (drop 0 x.cells) → r + e + file_owed y ≡ file_owed old
    gone_reserves r e maps entries =
        let before = left_reserves r maps in
        let none = ap file_owed empty_is in
        let all = ap (count_by is_waiting) (all_cells x.cells) in
        let unowned = ap (sum_by owed) bare in
        omega (arith, before, none, all, unowned, entries)
