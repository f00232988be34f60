-- How many maps there are after a fork, and of how many tasks.
use Rattle.std.proofs.Common.{◌≡◌, ℕ, ◌+◌, ◌==◌, ◌||◌, ◌&&◌, nat_lt, Bool, true, false, not, cond, List, [], ◌∷◌, ◌++◌, length, map, refl, sym, ap, ◌∙◌, arith, is_some, count_by, filter, sum_by}
use Rattle.std.specs.List.{list_any}
use Rattle.std.proofs.lemmas.Bool.{eqb-true}
use Rattle.std.proofs.lemmas.Bool.Decides.{nat_tests}
use Rattle.std.proofs.lemmas.List.{length-append}
use Rattle.std.proofs.lemmas.List.Folds.{list_any-append}
use Rattle.std.proofs.lemmas.List.Sums.{sum_by-append, sum_by-cons}
use Rattle.hp_laws.proofs.counts.CopiesHeld.{one_more_member}
use Rattle.hp_model.proofs.Words.{File, Map, distinct, file_forked, is_among, is_kept, is_of, map_for}
use Rattle.hp_model.proofs.Counting.{count_cons, count_map}
use Rattle.hp_model.proofs.Distinct.{same_members}
use Rattle.hp_store.specs.Store.{Store}
use Rattle.hp_lookup.proofs.Words.{NumberedFile, all_maps, all_tasks, files_shown, map_shown}

module _ (parent child : ℕ) (apart : (parent == child) ≡ false) where
  abbrev kids : List Map → List Map
  kids ms = map (map_for child) (filter (is_of parent) ms)

  abbrev rest : List Map → List Map
  rest ms = filter (λ m. not (is_of child m)) ms

  abbrev after : List File → List File
  after fs = filter is_kept (map (file_forked parent child) fs)

  -- a file that goes has no map
  no_maps : (f : File) → is_kept f ≡ false → f.maps ≡ []
  no_maps f e = by (is_some f.name) f.maps e
    where
      by : (b : Bool) (ms : List Map) → (b || nat_lt 0 (length ms)) ≡ false → ms ≡ []
      by true ms e = cc
      by false [] e = refl
      by false (m ∷ ms) e = (let some : nat_lt 0 (length (m ∷ ms)) ≡ true = grind (arith, nat_tests) in absurd (clash (sym some ∙ e)))
        where
          clash : true ≡ false → ⊥
          clash e = cc

  maps_after : (f : File) (fs : List File) → all_maps (after (f ∷ fs)) ≡ (file_forked parent child f).maps ++ all_maps (after fs)
  maps_after f fs = at (is_kept (file_forked parent child f)) refl
    where
      at : (b : Bool) → is_kept (file_forked parent child f) ≡ b → all_maps (cond b (file_forked parent child f ∷ after fs) (after fs)) ≡ (file_forked parent child f).maps ++ all_maps (after fs)
      at true e = refl
      at false e = sym (ap (λ ms. ms ++ all_maps (after fs)) (no_maps (file_forked parent child f) e))

  rest_len : (ms : List Map) → length (rest ms) + count_by (is_of child) ms ≡ length ms
  rest_len [] = refl
  rest_len (m ∷ ms) = at (is_of child m) refl (rest_len ms)
    where
      at : (b : Bool) → is_of child m ≡ b → length (rest ms) + count_by (is_of child) ms ≡ length ms → length (cond (not b) (m ∷ rest ms) (rest ms)) + count_by (is_of child) (m ∷ ms) ≡ length (m ∷ ms)
      at true e had = (let step = count_cons (is_of child) m ms in let here = ap (λ b. cond {A = ℕ} b 1 0 + 0) e in omega (arith, had, step, here))
      at false e had = (let step = count_cons (is_of child) m ms in let here = ap (λ b. cond {A = ℕ} b 1 0 + 0) e in omega (arith, had, step, here))

  kids_len : (ms : List Map) → length (kids ms) ≡ count_by (is_of parent) ms
  kids_len [] = refl
  kids_len (m ∷ ms) = at (is_of parent m) refl (kids_len ms)
    where
      at : (b : Bool) → is_of parent m ≡ b → length (kids ms) ≡ count_by (is_of parent) ms →
          length (map (map_for child) (cond b (m ∷ filter (is_of parent) ms) (filter (is_of parent) ms))) ≡ count_by (is_of parent) (m ∷ ms)
      at true e had = (let step = count_cons (is_of parent) m ms in let here = ap (λ b. cond {A = ℕ} b 1 0 + 0) e in omega (arith, had, step, here))
      at false e had = (let step = count_cons (is_of parent) m ms in let here = ap (λ b. cond {A = ℕ} b 1 0 + 0) e in omega (arith, had, step, here))

  pub count_after : (fs : List File) → length (all_maps (after fs)) + count_by (is_of child) (all_maps fs) ≡ length (all_maps fs) + count_by (is_of parent) (all_maps fs)
  count_after [] = refl
  count_after (f ∷ fs) =
      let had = count_after fs in
      let whole = ap length (maps_after f fs) ∙ length-append (rest f.maps ++ kids f.maps) (all_maps (after fs)) in
      let both = length-append (rest f.maps) (kids f.maps) in
      let one = rest_len f.maps in
      let two = kids_len f.maps in
      let old = length-append f.maps (all_maps fs) in
      let of_child = sum_by-append (λ (m : Map). cond {A = ℕ} (is_of child m) 1 0) f.maps (all_maps fs) in
      let of_parent = sum_by-append (λ (m : Map). cond {A = ℕ} (is_of parent m) 1 0) f.maps (all_maps fs) in
      omega (arith, had, whole, both, one, two, old, of_child, of_parent)

  -- ---- tasks

  abbrev has : (q : ℕ) → List File → Bool
  has q fs = list_any (is_of q) (all_maps fs)

  among_is : (q : ℕ) (ms : List Map) → is_among q (map (λ m. m.task) ms) ≡ list_any (is_of q) ms
  among_is q [] = refl
  among_is q (m ∷ ms) = ap (λ b. (m.task == q) || b) (among_is q ms)

  rest_any : (q : ℕ) (ms : List Map) → list_any (is_of q) (rest ms) ≡ (not (q == child) && list_any (is_of q) ms)
  rest_any q ms = at (q == child) refl ms
    where
      other : (k : ℕ) → (k == child) ≡ true → (q == child) ≡ false → (k == q) ≡ false
      other k e f = grind (arith, nat_tests, e, f)

      same : (k : ℕ) → (k == child) ≡ false → (q == child) ≡ true → (k == q) ≡ false
      same k e f = grind (arith, nat_tests, e, f)

      at : (b : Bool) → (q == child) ≡ b → (ms : List Map) → list_any (is_of q) (rest ms) ≡ (not b && list_any (is_of q) ms)
      at true e [] = refl
      at false e [] = refl
      at true e (m ∷ ms) = by (is_of child m) refl (at true e ms)
        where
          by : (c : Bool) → is_of child m ≡ c → list_any (is_of q) (rest ms) ≡ false → list_any (is_of q) (cond (not c) (m ∷ rest ms) (rest ms)) ≡ false
          by true h had = had
          by false h had = ap (λ b. b || list_any (is_of q) (rest ms)) (same m.task h e) ∙ had
      at false e (m ∷ ms) = by (is_of child m) refl (at false e ms)
        where
          by : (c : Bool) → is_of child m ≡ c → list_any (is_of q) (rest ms) ≡ list_any (is_of q) ms → list_any (is_of q) (cond (not c) (m ∷ rest ms) (rest ms)) ≡ (is_of q m || list_any (is_of q) ms)
          by true h had = had ∙ sym (ap (λ b. b || list_any (is_of q) ms) (other m.task h e))
          by false h had = ap (λ b. is_of q m || b) had

  kids_any : (q : ℕ) (ms : List Map) → list_any (is_of q) (kids ms) ≡ ((child == q) && list_any (is_of parent) ms)
  kids_any q [] = nothing (child == q)
    where
      nothing : (b : Bool) → false ≡ (b && false)
      nothing true = refl
      nothing false = refl
  kids_any q (m ∷ ms) = at (is_of parent m) (kids_any q ms)
    where
      absorbed : (a b : Bool) → (a || (a && b)) ≡ (a && true)
      absorbed true b = refl
      absorbed false b = refl

      at : (b : Bool) → list_any (is_of q) (kids ms) ≡ ((child == q) && list_any (is_of parent) ms) →
          list_any (is_of q) (map (map_for child) (cond b (m ∷ filter (is_of parent) ms) (filter (is_of parent) ms)))
          ≡ ((child == q) && (b || list_any (is_of parent) ms))
      at true had = ap (λ c. (child == q) || c) had ∙ absorbed (child == q) (list_any (is_of parent) ms)
      at false had = had

  has_after : (q : ℕ) (fs : List File) → has q (after fs) ≡ ((not (q == child) && has q fs) || ((child == q) && has parent fs))
  has_after q [] = nothing (not (q == child)) (child == q)
    where
      nothing : (a b : Bool) → false ≡ ((a && false) || (b && false))
      nothing true true = refl
      nothing true false = refl
      nothing false true = refl
      nothing false false = refl
  has_after q (f ∷ fs) =
      ap (list_any (is_of q)) (maps_after f fs) ∙ list_any-append (is_of q) (rest f.maps ++ kids f.maps) (all_maps (after fs))
      ∙ ap (λ b. b || has q (after fs)) (list_any-append (is_of q) (rest f.maps) (kids f.maps)
      ∙ ap (λ b. b || list_any (is_of q) (kids f.maps)) (rest_any q f.maps) ∙ ap (λ b. (not (q == child) && list_any (is_of q) f.maps) || b)
      (kids_any q f.maps))
      ∙ ap (λ b. ((not (q == child) && list_any (is_of q) f.maps) || ((child == q) && list_any (is_of parent) f.maps)) || b) (has_after q fs)
      ∙ mix (not (q == child)) (child == q) (list_any (is_of q) f.maps) (list_any (is_of parent) f.maps) (has q fs) (has parent fs)
      ∙ sym (ap (λ b. (not (q == child) && b) || ((child == q) && list_any (is_of parent) (f.maps ++ all_maps fs))) (list_any-append (is_of q) f.maps (all_maps fs))
      ∙ ap (λ b. (not (q == child) && (list_any (is_of q) f.maps || has q fs)) || ((child == q) && b)) (list_any-append (is_of parent) f.maps (all_maps fs)))
    where
      mix : (a b x y z w : Bool) → (((a && x) || (b && y)) || ((a && z) || (b && w))) ≡ ((a && (x || z)) || (b && (y || w)))
      mix true true true y z w = refl
      mix true true false true true w = refl
      mix true true false true false w = refl
      mix true true false false true w = refl
      mix true true false false false w = refl
      mix true false true y z w = refl
      mix true false false y true w = refl
      mix true false false y false w = refl
      mix false true x true z w = refl
      mix false true x false z w = refl
      mix false false x y z w = refl

  tasks_are : (q : ℕ) (fs : List File) → is_among q (map (λ (m : Map). m.task) (all_maps fs)) ≡ has q fs
  tasks_are q fs = among_is q (all_maps fs)

  abbrev tasks : List File → List ℕ
  tasks fs = map (λ (m : Map). m.task) (all_maps fs)

  -- the tasks of the other maps
  abbrev others : List File → List ℕ
  others fs = map (λ (m : Map). m.task) (rest (all_maps fs))

  others_are : (q : ℕ) (fs : List File) → is_among q (others fs) ≡ (not (q == child) && has q fs)
  others_are q fs = among_is q (rest (all_maps fs)) ∙ rest_any q (all_maps fs)

  none_there : (fs : List File) → is_among child (others fs) ≡ false
  none_there fs = others_are child fs ∙ ap (λ b. not b && has child fs) (let own : (child == child) ≡ true = grind (arith, nat_tests) in own)

  turned : (q : ℕ) (b : Bool) → (q == child) ≡ b → (child == q) ≡ b
  turned q true e = grind (arith, nat_tests, e)
  turned q false e = grind (arith, nat_tests, e)

  tasks_old : (fs : List File) (c : Bool) → has child fs ≡ c → length (all_tasks fs) ≡ length (distinct (others fs)) + cond c 1 0
  tasks_old fs true had = one_more_member child (others fs) (tasks fs) (λ q. among_is q (all_maps fs) ∙ at q (q == child) refl ∙ ap (λ b. (child == q) || b) (sym (others_are q fs))) (none_there fs)
    where
      at : (q : ℕ) (b : Bool) → (q == child) ≡ b → has q fs ≡ ((child == q) || (not (q == child) && has q fs))
      at q true e = ap (λ k. has k fs) (eqb-true q child e) ∙ had ∙ sym (ap (λ b. b || (not (q == child) && has q fs)) (turned q true e))
      at q false e = sym (ap (λ b. b || (not (q == child) && has q fs)) (turned q false e) ∙ ap (λ b. not b && has q fs) e)
  tasks_old fs false none = (let same = same_members (tasks fs) (others fs) (λ q. among_is q (all_maps fs) ∙ at q (q == child) refl ∙ sym (others_are q fs)) in omega (arith, same))
    where
      at : (q : ℕ) (b : Bool) → (q == child) ≡ b → has q fs ≡ (not (q == child) && has q fs)
      at q true e = ap (λ k. has k fs) (eqb-true q child e) ∙ none ∙ sym (ap (λ b. not b && has q fs) e)
      at q false e = sym (ap (λ b. not b && has q fs) e)

  tasks_new : (fs : List File) (p : Bool) → has parent fs ≡ p → length (all_tasks (after fs)) ≡ length (distinct (others fs)) + cond p 1 0
  tasks_new fs true had = one_more_member child (others fs) (tasks (after fs))
      (λ q. among_is q (all_maps (after fs)) ∙ has_after q fs ∙ ap (λ b. (not (q == child) && has q fs) || ((child == q) && b)) had
      ∙ swap (not (q == child) && has q fs) (child == q) ∙ ap (λ b. (child == q) || b) (sym (others_are q fs))) (none_there fs)
    where
      swap : (a b : Bool) → (a || (b && true)) ≡ (b || a)
      swap true true = refl
      swap true false = refl
      swap false true = refl
      swap false false = refl
  tasks_new fs false none = (let same = same_members (tasks (after fs)) (others fs)
      (λ q. among_is q (all_maps (after fs)) ∙ has_after q fs ∙ ap (λ b. (not (q == child) && has q fs) || ((child == q) && b)) none
      ∙ left_it (not (q == child) && has q fs) (child == q) ∙ sym (others_are q fs)) in omega (arith, same))
    where
      left_it : (a b : Bool) → (a || (b && false)) ≡ a
      left_it true b = refl
      left_it false true = refl
      left_it false false = refl

  -- by whether the child and the parent had maps
  pub tasks_after : (fs : List File) (c p : Bool) → has child fs ≡ c → has parent fs ≡ p → length (all_tasks (after fs)) + cond c 1 0 ≡ length (all_tasks fs) + cond p 1 0
  tasks_after fs c p had_c had_p = (let old = tasks_old fs c had_c in let new = tasks_new fs p had_p in omega (arith, old, new))

-- ---- the maps of a task, as code counts them

pub task_maps : (task : ℕ) (s : Store) (fs : List NumberedFile) → sum_by (λ (f : NumberedFile). count_by (is_of task) f.maps) fs ≡ count_by (is_of task) (all_maps (files_shown s fs))
task_maps task s [] = refl
task_maps task s (f ∷ fs) =
    let had = task_maps task s fs in
    let whole = sum_by-append (λ (m : Map). cond {A = ℕ} (is_of task m) 1 0) (map (map_shown s) f.maps) (all_maps (files_shown s fs)) in
    let shown = count_map (is_of task) (map_shown s) f.maps in
    omega (arith, had, whole, shown, sum_by-cons (λ (f : NumberedFile). count_by (is_of task) f.maps) f fs)
