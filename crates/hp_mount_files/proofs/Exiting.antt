use Rattle.std.proofs.lemmas.Grind.{common_steps}
-- All maps of a task leave the files.
use Rattle.std.proofs.Common.{◌≡◌, ℕ, ◌+◌, ◌-◌, ◌≤◌, ◌==◌, ◌||◌, ◌&&◌, nat_lt, Bool, true, false, not, cond, List, [], ◌∷◌, length, map, refl, sym, ap, ◌∙◌, arith, is_some, count_by, filter, sum_by}
use Rattle.std.proofs.lemmas.Bool.{eqb-true}
use Rattle.std.proofs.lemmas.Bool.Decides.{nat_tests}
use Rattle.std.proofs.lemmas.List.{length-map}
use Rattle.std.proofs.lemmas.List.Sums.{sum_by-cons}
use Rattle.hp_laws.proofs.lists.Places.{sum_by-filter_le}
use Rattle.hp_model.proofs.Words.{Map, Mapping, file_without, is_among, is_kept, is_map, is_of, map_punched}
use Rattle.hp_model.proofs.Counting.{count_cons, count_map}
use Rattle.hp_store.specs.Store.{Store}
use Rattle.hp_lookup.proofs.Words.{HaveMapsLeft, IsDropping, IsFiles, IsLeft, IsMoreButMapsOf, Label, Noted, NumberedFile, emptied, file_owed, file_shown, files_shown, has_key, in_file}
use Rattle.hp_lookup.proofs.Words.{in_files, in_map, is_key}
use Rattle.hp_lookup.proofs.Words.{is_used, key_of, keys_in, label_of, labels_of, left_by, map_shown, map_sum, maps_for, maps_named, with_truncated}
use Rattle.hp_file.proofs.Cutting.{none_mapped}
use Rattle.hp_file.proofs.Drops.{drop_as}
use Rattle.hp_file.proofs.FileLeaves.{empty_file, others}
use Rattle.hp_lookup.proofs.Level.{filtered_level}
use Rattle.hp_lookup.proofs.Leaving.{left_gives, left_keeps, left_noted, left_shows, keys_less}
use Rattle.hp_lookup.proofs.Mapped.{sum_through}
use Rattle.hp_lookup.proofs.Notes.{gone_less, gone_other, gone_own}
use Rattle.hp_lookup.proofs.Tallies.{own_maps}
use Rattle.hp_lookup.proofs.Views.{view}

-- ---- files that are empty go

module _ (h : NumberedFile → NumberedFile) where
  emptied_used : (f : NumberedFile) → is_used (emptied f) ≡ is_used f
  emptied_used f = at (is_used f)
    where
      at : (b : Bool) → is_used (cond b f (with_truncated 0 f)) ≡ is_used f
      at true = refl
      at false = ap (λ k. is_some f.name || nat_lt 0 k) (length-map f.maps _)

  pub emptied_gone : (fs : List NumberedFile) → filter is_used (map (λ f. emptied (h f)) fs) ≡ filter is_used (map h fs)
  emptied_gone [] = refl
  emptied_gone (f ∷ fs) = at (is_used (h f)) (emptied_used (h f)) (emptied_gone fs)
    where
      at : (b : Bool) → is_used (cond b (h f) (with_truncated 0 (h f))) ≡ b → filter is_used (map (λ f. emptied (h f)) fs) ≡ filter is_used (map h fs)
          → cond (is_used (cond b (h f) (with_truncated 0 (h f)))) (cond b (h f) (with_truncated 0 (h f)) ∷ filter is_used (map (λ f. emptied (h f)) fs)) (filter is_used (map (λ f. emptied (h f)) fs))
          ≡ cond b (h f ∷ filter is_used (map h fs)) (filter is_used (map h fs))
      at true e rest = ap (λ b. cond b (h f ∷ filter is_used (map (λ f. emptied (h f)) fs)) (filter is_used (map (λ f. emptied (h f)) fs))) e ∙ ap (λ xs. h f ∷ xs) rest
      at false e rest = ap (λ b. cond b (with_truncated 0 (h f) ∷ filter is_used (map (λ f. emptied (h f)) fs)) (filter is_used (map (λ f. emptied (h f)) fs))) e ∙ rest

  -- what is counted of them is of those that stay
  pub emptied_sum : (c : NumberedFile → ℕ) → ((f : NumberedFile) → is_used f ≡ false → c (with_truncated 0 f) ≡ 0) → (fs : List NumberedFile) →
      sum_by c (map (λ f. emptied (h f)) fs) ≡ sum_by c (filter is_used (map h fs))
  emptied_sum c none [] = refl
  emptied_sum c none (f ∷ fs) = at (is_used (h f)) refl (emptied_sum c none fs)
    where
      at : (b : Bool) → is_used (h f) ≡ b → sum_by c (map (λ f. emptied (h f)) fs) ≡ sum_by c (filter is_used (map h fs))
          → sum_by c (cond b (h f) (with_truncated 0 (h f)) ∷ map (λ f. emptied (h f)) fs) ≡ sum_by c (cond b (h f ∷ filter is_used (map h fs)) (filter is_used (map h fs)))
      at true e rest = omega (arith, rest, sum_by-cons c (h f) (map (λ f. emptied (h f)) fs), sum_by-cons c (h f) (filter is_used (map h fs)))
      at false e rest = (let here = none (h f) e in omega (arith, rest, here, sum_by-cons c (with_truncated 0 (h f)) (map (λ f. emptied (h f)) fs)))

-- ---- the other maps of a file

nothing : (b : Bool) → cond {A = ℕ} b 0 0 ≡ 0
nothing true = refl
nothing false = refl

module _ (task : ℕ) where
  others_shown : (s : Store) (ms : List (Mapping ℕ)) → map (map_shown s) (others task ms) ≡ filter (λ (m : Map). not (is_of task m)) (map (map_shown s) ms)
  others_shown s [] = refl
  others_shown s (m ∷ ms) = at (is_of task m) (others_shown s ms)
    where
      at : (b : Bool) → map (map_shown s) (others task ms) ≡ filter (λ (m : Map). not (is_of task m)) (map (map_shown s) ms)
          → map (map_shown s) (cond (not b) (m ∷ others task ms) (others task ms))
          ≡ cond (not b) (map_shown s m ∷ filter (λ (m : Map). not (is_of task m)) (map (map_shown s) ms))
          (filter (λ (m : Map). not (is_of task m)) (map (map_shown s) ms))
      at true rest = rest
      at false rest = ap (λ xs. map_shown s m ∷ xs) rest

  -- and of another task as many as there were
  others_count : (q : ℕ) (ms : List (Mapping ℕ)) → count_by (is_of q) (others task ms) ≡ cond (task == q) 0 (count_by (is_of q) ms)
  others_count q [] = sym (nothing (task == q))
  others_count q (m ∷ ms) = at (is_of task m) refl (task == q) refl (others_count q ms) (count_cons (is_of q) m ms) (count_cons (is_of q) m (others task ms))
    where
      same_task : (k : ℕ) → (k == task) ≡ true → (c : Bool) → (task == q) ≡ c → (k == q) ≡ c
      same_task k own c e = ap (λ i. i == q) (eqb-true k task own) ∙ e

      apart_task : (k : ℕ) → (k == task) ≡ false → (task == q) ≡ true → (k == q) ≡ false
      apart_task k other e = grind (arith, nat_tests, other, e)

      at : (b : Bool) → is_of task m ≡ b → (c : Bool) → (task == q) ≡ c → count_by (is_of q) (others task ms) ≡ cond c 0 (count_by (is_of q) ms)
          → count_by (is_of q) (m ∷ ms) ≡ cond (is_of q m) 1 0 + count_by (is_of q) ms → count_by (is_of q) (m ∷ others task ms) ≡ cond (is_of q m) 1 0 + count_by (is_of q) (others task ms)
          → count_by (is_of q) (cond (not b) (m ∷ others task ms) (others task ms)) ≡ cond c 0 (count_by (is_of q) (m ∷ ms))
      at true own true e rest step kept = rest
      at true own false e rest step kept = (let here = ap (λ b. cond {A = ℕ} b 1 0 + 0) (same_task m.task own false e) in omega (arith, rest, step, here))
      at false own true e rest step kept = (let here = ap (λ b. cond {A = ℕ} b 1 0 + 0) (apart_task m.task own e) in omega (arith, rest, kept, here))
      at false own false e rest step kept = omega (arith, rest, step, kept)

  others_named : (q n : ℕ) → (q == task) ≡ false → (ms : List (Mapping ℕ)) → count_by (is_map q n) (others task ms) ≡ count_by (is_map q n) ms
  others_named q n apart [] = refl
  others_named q n apart (m ∷ ms) = at (is_of task m) refl (others_named q n apart ms) (count_cons (is_map q n) m ms) (count_cons (is_map q n) m (others task ms))
    where
      other : (k : ℕ) → (k == task) ≡ true → (k == q) ≡ false
      other k own = grind (arith, nat_tests, own, apart)

      at : (b : Bool) → is_of task m ≡ b → count_by (is_map q n) (others task ms) ≡ count_by (is_map q n) ms → count_by (is_map q n) (m ∷ ms) ≡ cond (is_map q n m) 1 0 + count_by (is_map q n) ms
          → count_by (is_map q n) (m ∷ others task ms) ≡ cond (is_map q n m) 1 0 + count_by (is_map q n) (others task ms)
          → count_by (is_map q n) (cond (not b) (m ∷ others task ms) (others task ms)) ≡ count_by (is_map q n) (m ∷ ms)
      at true own rest step kept = (let here = ap (λ b. cond {A = ℕ} (b && (m.number == n)) 1 0 + 0) (other m.task own) in omega (arith, rest, step, here))
      at false own rest step kept = omega (arith, rest, step, kept)

  pub keys_are : (k n : ℕ) (f : NumberedFile) → keys_in k n (label_of f) ≡ count_by (is_map k n) f.maps
  keys_are k n f = count_map (is_key k n) key_of f.maps

  none_of : (n : ℕ) (ms : List (Mapping ℕ)) → count_by (is_map task n) (others task ms) ≡ 0
  none_of n [] = refl
  none_of n (m ∷ ms) = at (is_of task m) refl (none_of n ms)
    where
      at : (b : Bool) → is_of task m ≡ b → count_by (is_map task n) (others task ms) ≡ 0 → count_by (is_map task n) (cond (not b) (m ∷ others task ms) (others task ms)) ≡ 0
      at true e rest = rest
      at false e rest = (let step = count_cons (is_map task n) m (others task ms) in let here = ap (λ b. cond {A = ℕ} (b && (m.number == n)) 1 0 + 0) e in omega (arith, rest, step, here))

-- maps of one number are counted by their keys
pub named_labelled : (task number : ℕ) (fs : List NumberedFile) → sum_by (keys_in task number) (labels_of fs) ≡ sum_by (maps_named task number) fs
named_labelled task number [] = refl
named_labelled task number (f ∷ fs) = (let here = keys_are task task number f in let rest = named_labelled task number fs in
    omega (arith, here, rest, sum_by-cons (keys_in task number) (label_of f) (labels_of fs), sum_by-cons (maps_named task number) f fs))

-- maps are counted by what they are called
pub maps_in : (gs : List NumberedFile) → sum_by (λ (q : Label). length q.keys) (labels_of gs) ≡ map_sum gs
maps_in gs = sum_through (λ (q : Label). length q.keys) label_of gs ∙ each gs
  where
    each : (gs : List NumberedFile) → sum_by (λ (f : NumberedFile). length (map key_of f.maps)) gs ≡ map_sum gs
    each [] = refl
    each (f ∷ gs) = (let here = length-map f.maps key_of in let rest = each gs in
        omega (
          arith,
          here,
          rest,
          sum_by-cons (λ (f : NumberedFile). length (map key_of f.maps)) f gs,
          sum_by-cons
              (λ (f : NumberedFile). length f.maps) f gs,
        ))

-- ---- as code leaves the files: those that it went over, as it left them, and those that it kept

module _ {n : Noted} {s t : Store} {more now maps : ℕ} {tally : ℕ → ℕ} {fs ended kept : List NumberedFile} {task r k : ℕ}
    (is : IsFiles n s more maps tally fs) (went : HaveMapsLeft task fs ended s t now k r) (kept_is : kept ≡ filter is_used ended) where
  ended_is : ended ≡ map (λ f. emptied (left_by task f)) fs
  ended_is = went.left

  hs_is : kept ≡ filter is_used (map (left_by task) fs)
  hs_is = kept_is ∙ ap (filter is_used) ended_is ∙ emptied_gone (left_by task) fs

  sum_kept : (c : NumberedFile → ℕ) → ((f : NumberedFile) → is_used f ≡ false → c (with_truncated 0 f) ≡ 0) → sum_by c ended ≡ sum_by c kept
  sum_kept c none = ap (sum_by c) ended_is ∙ emptied_sum (left_by task) c none fs ∙ sym (ap (sum_by c) hs_is)

  dropping : IsDropping (λ m. in_files m fs) (λ m. in_files m kept) s t
  dropping = drop_as (λ m. in_files m fs) (λ m. in_files m ended) (λ m. in_files m fs) (λ m. in_files m kept) s t went.dropping
      (λ m. (let left = sum_kept (in_file m) (λ f out. ap (in_file m) (empty_file f out).1) in omega (arith, left)))

  less : (m : ℕ) (f : NumberedFile) → sum_by (in_map m) (others task f.maps) ≤ sum_by (in_map m) f.maps
  less m f = sum_by-filter_le (in_map m) (λ (x : Mapping ℕ). not (is_of task x)) f.maps

  pub exit_files : files_shown t kept ≡ filter is_kept (map (file_without task) (files_shown s fs))
  exit_files = left_shows n s t more now maps tally fs kept is (left_by task) hs_is dropping went.counted (λ f. refl) less (file_without task)
      (λ f. ap (λ ms. record (file_shown s f) { maps = ms }) (others_shown task s f.maps))

  pub exit_left : IsLeft r (view s more fs) (view t now kept)
  exit_left = left_gives n s t more now maps tally fs kept is (left_by task) hs_is dropping went.counted (λ f. refl) less r
      (let left = sum_kept file_owed (λ f out. ap file_owed (empty_file f out).1) in let gave = went.waiting in omega (arith, gave, left))

  -- ---- how many maps

  pub all_maps_are : maps ≡ map_sum fs
  all_maps_are = is.keyed.map_count ∙ maps_in fs

  maps_left : maps - k ≡ sum_by (λ (q : Label). length q.keys) (labels_of kept)
  maps_left = grind (arith, common_steps, all_maps_are, maps_in, sum_kept, empty_file)

  -- the task has none left, the others what they had
  tally_left : (q : ℕ) → sum_by (maps_for q) (labels_of kept) ≡ cond (task == q) 0 (tally q)
  tally_left q =
      sum_through (maps_for q) label_of kept ∙ sym (sum_kept (λ (f : NumberedFile). maps_for q (label_of f)) (λ f out. ap (λ (f : NumberedFile). maps_for q (label_of f)) (empty_file f out).1))
      ∙ ap (sum_by (λ (f : NumberedFile). maps_for q (label_of f))) ended_is ∙ each fs ∙ ap (λ n. cond (task == q) 0 n) (sym (sum_through (maps_for q) label_of fs) ∙ sym (is.keyed.tallied q))
    where
      one : (f : NumberedFile) → maps_for q (label_of (emptied (left_by task f))) ≡ cond (task == q) 0 (maps_for q (label_of f))
      one f = at (is_used (left_by task f)) ∙ others_count task q f.maps ∙ ap (λ n. cond (task == q) 0 n) (sym (own_maps q f))
        where
          at : (b : Bool) → maps_for q (label_of (cond b (left_by task f) (with_truncated 0 (left_by task f)))) ≡ count_by (is_of q) (others task f.maps)
          at true = own_maps q (left_by task f)
          at false = own_maps q (with_truncated 0 (left_by task f)) ∙ count_map (is_of q) (map_punched 0 (0 + length f.cells)) (others task f.maps)

      both : (b : Bool) (x y : ℕ) → cond b 0 x + cond b 0 y ≡ cond b 0 (x + y)
      both true x y = refl
      both false x y = refl

      each : (fs : List NumberedFile) → sum_by (λ (f : NumberedFile). maps_for q (label_of f)) (map (λ f. emptied (left_by task f)) fs)
          ≡ cond (task == q) 0 (sum_by (λ (f : NumberedFile). maps_for q (label_of f)) fs)
      each [] = sym (nothing (task == q))
      each (f ∷ fs) =
          sum_by-cons (λ (f : NumberedFile). maps_for q (label_of f)) (emptied (left_by task f)) (map (λ f. emptied (left_by task f)) fs)
          ∙ ap (λ n. n + sum_by (λ (f : NumberedFile). maps_for q (label_of f)) (map (λ f. emptied (left_by task f)) fs)) (one f) ∙ ap (λ n. cond (task == q) 0 (maps_for q (label_of f)) + n) (each fs)
          ∙ both (task == q) (maps_for q (label_of f)) (sum_by (λ (f : NumberedFile). maps_for q (label_of f)) fs)
          ∙ ap (λ n. cond (task == q) 0 n) (sym (sum_by-cons (λ (f : NumberedFile). maps_for q (label_of f)) f fs))

  keys_same : (q m : ℕ) (f : NumberedFile) → keys_in q m (label_of (left_by task f)) ≤ keys_in q m (label_of f)
  keys_same q m f =
      let left = keys_are task q m (left_by task f) in
      let all = keys_are task q m f in
      let few = sum_by-filter_le (λ (x : Mapping ℕ). cond {A = ℕ} (is_map q m x) 1 0) (λ (x : Mapping ℕ). not (is_of task x)) f.maps in
      omega (arith, left, all, few)

  pub keys_gone : (m : ℕ) → sum_by (keys_in task m) (labels_of kept) ≡ 0
  keys_gone m =
      let through = sum_through (keys_in task m) label_of kept in
      let same = ap (sum_by (λ (f : NumberedFile). keys_in task m (label_of f))) hs_is in
      let few = sum_by-filter_le (λ (f : NumberedFile). keys_in task m (label_of f)) is_used (map (left_by task) fs) in
      let none = none_mapped (λ (f : NumberedFile). keys_in task m (label_of f)) (left_by task) (λ f. keys_are task task m (left_by task f) ∙ none_of task m f.maps) fs in
      omega (arith, through, same, few, none)

  pub exit_keys : (q m : ℕ) → sum_by (keys_in q m) (labels_of kept) ≤ sum_by (keys_in q m) (labels_of fs)
  exit_keys q m = keys_less n s t more now maps tally fs kept is (left_by task) hs_is dropping went.counted (λ f. refl) less (λ f. refl) keys_same q m

  -- the other tasks keep theirs
  keys_kept : (q m : ℕ) → (q == task) ≡ false → sum_by (keys_in q m) (labels_of kept) ≡ sum_by (keys_in q m) (labels_of fs)
  keys_kept q m apart =
      named_labelled q m kept ∙ sym (sum_kept (maps_named q m) (λ f out. ap (maps_named q m) (empty_file f out).1)) ∙ ap (sum_by (maps_named q m)) ended_is ∙ each fs
      ∙ sym (named_labelled q m fs)
    where
      one : (f : NumberedFile) → maps_named q m (emptied (left_by task f)) ≡ maps_named q m f
      one f = at (is_used (left_by task f)) ∙ others_named task q m apart f.maps
        where
          at : (b : Bool) → maps_named q m (cond b (left_by task f) (with_truncated 0 (left_by task f))) ≡ count_by (is_map q m) (others task f.maps)
          at true = refl
          at false = count_map (is_map q m) (map_punched 0 (0 + length f.cells)) (others task f.maps)

      each : (fs : List NumberedFile) → sum_by (maps_named q m) (map (λ f. emptied (left_by task f)) fs) ≡ sum_by (maps_named q m) fs
      each [] = refl
      each (f ∷ fs) = (let here = one f in let rest = each fs in
          omega (arith, here, rest, sum_by-cons (maps_named q m) (emptied (left_by task f)) (map (λ f. emptied (left_by task f)) fs), sum_by-cons (maps_named q m) f fs))

  pub exit_keeps : {later : Noted} → IsMoreButMapsOf task n later → (left : ℕ) (next : ℕ → ℕ) → left ≡ maps - k → ((q : ℕ) → next q ≡ cond (task == q) 0 (tally q)) → IsFiles later t now left next kept
  exit_keeps {later} gone left next left_is next_is =
      left_keeps n s t more now maps tally fs kept is (left_by task) hs_is dropping went.counted (λ f. refl) less (λ f. refl) keys_same
      (λ f. filtered_level (λ m. not (is_of task m)) f.maps) later left next
      (left_noted n s t more now maps tally fs kept is (left_by task) hs_is dropping went.counted (λ f. refl) less (λ f. refl) keys_same
      later (λ name e. sym (gone.names name) ∙ e) (λ q m e. at q m e (task == q) refl)
      (gone_less task n later gone) (λ q m e. only q m e (task == q) refl))
      (left_is ∙ maps_left) (λ q. next_is q ∙ sym (tally_left q))
    where
      apart : (q : ℕ) → (task == q) ≡ false → (q == task) ≡ false
      apart q e = grind (arith, nat_tests, e)

      only : (q m : ℕ) → sum_by (keys_in q m) (labels_of kept) ≡ 0 → (b : Bool) → (task == q) ≡ b → has_key q m later ≡ false
      only q m e true same = ap (λ i. has_key i m later) (sym (eqb-true task q same)) ∙ gone_own task n later gone m
      only q m e false other = (gone_less task n later gone).keys q m (is.noted.no_key q m (sym (keys_kept q m (apart q other)) ∙ e))

      at : (q m : ℕ) → has_key q m later ≡ false → (b : Bool) → (task == q) ≡ b → sum_by (keys_in q m) (labels_of kept) ≡ 0
      at q m e true same = ap (λ i. sum_by (keys_in i m) (labels_of kept)) (sym (eqb-true task q same)) ∙ keys_gone m
      at q m e false other =
          let few = keys_less n s t more now maps tally fs kept is (left_by task) hs_is dropping went.counted (λ f. refl) less (λ f. refl) keys_same q m in
          let none = is.noted.keys q m (sym (ap (is_among m) (gone_other task n later gone q other)) ∙ e) in
          omega (arith, few, none)
