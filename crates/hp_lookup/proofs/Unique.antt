use Rattle.std.proofs.lemmas.Grind.{common_steps}
-- Where names and maps are found, since no two are called the same; and how many maps and tasks there are.
use Rattle.std.proofs.Common.{◌≡◌, ℕ, zero, suc, ◌+◌, ◌<◌, ◌≤◌, Bool, true, false, not, cond, ◌||◌, List, [], ◌∷◌, ◌++◌, length, map, Option, Some, None, refl, sym, ap, ◌∙◌, arith, count_by, flat_map}
use Rattle.std.proofs.Common.{slice_index_or, sum_by, option_map}
use Rattle.std.specs.List.{list_any, position_or_len}
use Rattle.std.specs.Str.{bytes_eq}
use Rattle.std.proofs.lemmas.List.{length-append, length-map, map-append}
use Rattle.std.proofs.lemmas.List.Sums.{sum_by-cons}
use Rattle.hp_model.proofs.Words.{File, Map, Mapping, found, has_name, is_map, new_file, one_on}
use Rattle.hp_model.proofs.Counting.{count_alike, count_cons, count_map}
use Rattle.hp_store.specs.Store.{Store}
use Rattle.hp_lookup.proofs.Words.{IsFound, IsKeyed, IsMissing, IsNamed, Label, NumberedFile, all_maps, file_at, file_shown, files_shown, has_it, has_label, is_key, is_name_of, key_of, keys_in}
use Rattle.hp_lookup.proofs.Words.{label_of, labels_of, map_shown, mapping_at, no_mapping, numbered_at, tasks_in}
use Rattle.hp_lookup.proofs.Cells.{file_is, no_file}
use Rattle.hp_lookup.proofs.Finding.{any_shown, found_at, found_none, map_found, position_shown}
use Rattle.hp_lookup.proofs.Lifting.{at_most}
use Rattle.hp_lookup.proofs.Views.{read_is}

-- ---- one alone passes

bit : Bool → ℕ
bit b = cond b 1 0

module _ {X : Type 0} (test : X → Bool) where
  pub some_pass : (xs : List X) (k : ℕ) (d : X) → k < length xs → test (slice_index_or xs k d) ≡ true → 1 ≤ count_by test xs
  some_pass [] k d l e = omega (arith, l)
  some_pass (x ∷ xs) zero d l e = (let step = count_cons test x xs in let one = ap (λ b. cond {A = ℕ} b 1 0) e in omega (arith, step, one))
  some_pass (x ∷ xs) (suc k) d l e = (let step = count_cons test x xs in let rest = some_pass xs k d (omega (arith, l)) e in omega (arith, step, rest))

  fails : (b : Bool) → cond {A = ℕ} b 1 0 ≡ 0 → b ≡ false
  fails true e = cc
  fails false e = refl

  pub alone_at : (xs : List X) (k : ℕ) (d : X) → count_by test xs ≤ 1 → k < length xs → test (slice_index_or xs k d) ≡ true → position_or_len test xs ≡ k
  alone_at [] k d most l e = absurd (none k l)
    where
      none : (k : ℕ) → k < 0 → ⊥
      none k l = omega (arith, l)
  alone_at (x ∷ xs) zero d most l e = ap (λ b. cond {A = ℕ} (not b) (1 + position_or_len test xs) 0) e
  alone_at (x ∷ xs) (suc k) d most l e =
      let step = count_cons test x xs in
      let rest = some_pass xs k d (omega (arith, l)) e in
      let first : test x ≡ false = fails (test x) (omega (arith, step, rest, most)) in
      ap (λ b. cond {A = ℕ} (not b) (1 + position_or_len test xs) 0) first ∙ (let place =
      alone_at xs k d (omega (arith, step, most)) (omega (arith, l)) e in let next : 1 + position_or_len test xs ≡ suc k = omega (arith, place) in
      next)

  pub any_counts : (xs : List X) → cond {A = ℕ} (list_any test xs) 1 0 ≤ count_by test xs
  any_counts [] = omega arith
  any_counts (x ∷ xs) = (let step = count_cons test x xs in let rest = any_counts xs in either (test x) step rest)
    where
      either : (b : Bool) → count_by test (x ∷ xs) ≡ cond {A = ℕ} b 1 0 + count_by test xs → cond {A = ℕ} (list_any test xs) 1 0 ≤ count_by test xs →
          cond {A = ℕ} (b || list_any test xs) 1 0 ≤ count_by test (x ∷ xs)
      either true step rest = omega (arith, step)
      either false step rest = omega (arith, step, rest)

  pub any_at : (xs : List X) (k : ℕ) (d : X) → k < length xs → test (slice_index_or xs k d) ≡ true → list_any test xs ≡ true
  any_at [] k d l e = absurd (omega (arith, l))
  any_at (x ∷ xs) zero d l e = ap (λ b. b || list_any test xs) e
  any_at (x ∷ xs) (suc k) d l e = either (test x) (any_at xs k d (omega (arith, l)) e)
    where
      either : (b : Bool) → list_any test xs ≡ true → (b || list_any test xs) ≡ true
      either true rest = refl
      either false rest = rest

  pub none_found : (xs : List X) → found test xs ≡ None → count_by test xs ≡ 0
  none_found [] e = refl
  none_found (x ∷ xs) e = (let step = count_cons test x xs in either (test x) (none_found xs) step e)
    where
      rest_none : (o : Option (ℕ × X)) → option_map one_on o ≡ None → o ≡ None
      rest_none None e = refl
      rest_none (Some q) e = cc

      either : (b : Bool) → (found test xs ≡ None → count_by test xs ≡ 0) → count_by test (x ∷ xs) ≡ cond {A = ℕ} b 1 0 + count_by test xs →
          cond b (Some (0, x)) (option_map one_on (found test xs)) ≡ None → count_by test (x ∷ xs) ≡ 0
      either true none step e = cc
      either false none step e = (let rest = none (rest_none (found test xs) e) in omega (arith, step, rest))

-- ---- none passes

pub zero_found : {X : Type 0} (test : X → Bool) (xs : List X) → count_by test xs ≡ 0 → found test xs ≡ None
zero_found test [] e = refl
zero_found test (x ∷ xs) e = (let step = count_cons test x xs in at (test x) step (zero_found test xs))
  where
    at : (b : Bool) → count_by test (x ∷ xs) ≡ cond {A = ℕ} b 1 0 + count_by test xs → (count_by test xs ≡ 0 → found test xs ≡ None) → cond b (Some (0, x)) (option_map one_on (found test xs)) ≡ None
    at true step rest = absurd (omega (arith, step, e))
    at false step rest = ap (option_map one_on) (rest (omega (arith, step, e)))

-- ---- files by their names

pub named_shown : (s : Store) (name : List ℕ) (f : NumberedFile) → has_name name (file_shown s f) ≡ has_label name (label_of f)
named_shown s name f = either f.name
  where
    either : (o : Option (List ℕ)) → elim o [ None ↦ false | Some n ↦ bytes_eq n name ] ≡ is_name_of name o
    either None = refl
    either (Some n) = refl

pub names_counted : (s : Store) (name : List ℕ) (fs : List NumberedFile) → count_by (has_name name) (files_shown s fs) ≡ count_by (has_label name) (labels_of fs)
names_counted s name fs = grind (arith, common_steps, count_map, count_alike, named_shown)

module _ (s : Store) (maps : ℕ) (tally : ℕ → ℕ) (fs : List NumberedFile) (keyed : IsKeyed maps tally (labels_of fs)) where
  pub named_here : (name : List ℕ) (k : ℕ) (x : NumberedFile) → k < length fs → x ≡ slice_index_or fs k x → is_name_of name x.name ≡ true → IsNamed (files_shown s fs) name k
  named_here name k x l read is =
      let long = length-map fs (file_shown s) in
      let inside : k < length (files_shown s fs) = omega (arith, l, long) in
      let here : has_name name (file_at (files_shown s fs) k) ≡ true = ap (has_name name) (file_is s fs k l ∙ ap (file_shown s) (sym (read_is fs k x l read))) ∙ named_shown s name x ∙ is in
      let count = names_counted s name fs in
      let most = keyed.names name in
      let place : position_or_len (has_name name) (files_shown s fs) ≡ k = alone_at (has_name name) (files_shown s fs) k (new_file None) (omega (arith, count, most)) inside here in
      record {
        is = found_at (has_name name) (files_shown s fs) (new_file None) (omega (arith, place, inside)) ∙ ap (λ i. Some (i, file_at (files_shown s fs) i)) place;
        within = inside;
      }

  -- ---- maps by their tasks and numbers

  module _ (task number : ℕ) where
    abbrev test : Mapping ℕ → Bool
    test = is_map task number

    count : NumberedFile → ℕ
    count f = count_by test f.maps

    through : (fs : List NumberedFile) → sum_by (keys_in task number) (labels_of fs) ≡ sum_by count fs
    unfolding count
    through [] = refl
    through (f ∷ fs) =
        let left = sum_by-cons (keys_in task number) (label_of f) (labels_of fs) in
        let right = sum_by-cons (λ (f : NumberedFile). count_by test f.maps) f fs in
        let here = count_map (is_key task number) key_of f.maps in
        let rest = through fs in
        omega (arith, left, right, here, rest)

    few : sum_by count fs ≤ 1
    few = (let most = keyed.keys task number in let same = through fs in omega (arith, most, same))

    holders : (fs : List NumberedFile) → count_by (has_it task number) (files_shown s fs) ≤ sum_by count fs
    unfolding count
    holders [] = omega arith
    holders (f ∷ fs) =
        let left = count_cons (has_it task number) (file_shown s f) (files_shown s fs) in
        let right = sum_by-cons (λ (f : NumberedFile). count_by test f.maps) f fs in
        let one = any_counts test f.maps in
        let same = ap (λ b. cond {A = ℕ} b 1 0 + 0) (any_shown (map_shown s) (is_map task number) (is_map task number) (λ m. refl) f.maps) in
        let rest = holders fs in
        omega (arith, left, right, one, same, rest)

    pub map_here : (k j : ℕ) (x : NumberedFile) → k < length fs → x ≡ slice_index_or fs k x → j < length x.maps →
        is_map task number (mapping_at x j) ≡ true → IsFound (files_shown s fs) task number k j
    unfolding count
    map_here k j x l read jl is =
        let long = length-map fs (file_shown s) in
        let inside : k < length (files_shown s fs) = omega (arith, l, long) in
        let at : x ≡ numbered_at fs k = read_is fs k x l read in
        let seen : file_at (files_shown s fs) k ≡ file_shown s x = file_is s fs k l ∙ ap (file_shown s) (sym at) in
        let has : has_it task number (file_at (files_shown s fs) k) ≡ true = ap (has_it task number) seen
        ∙ any_shown (map_shown s) test (is_map task number) (λ m. refl) x.maps ∙ any_at test x.maps j no_mapping jl is in
        let most = few in
        let all = holders fs in
        let place : position_or_len (has_it task number) (files_shown s fs) ≡ k = alone_at (has_it task number) (files_shown s fs) k (new_file None) (omega (arith, most, all)) inside has in
        let own = at_most (λ (f : NumberedFile). f) (λ f. f) (λ f. count_by test f.maps) (λ f h. refl) fs k no_file l in
        let same = ap (λ (f : NumberedFile). count_by test f.maps) at in
        let here : position_or_len test x.maps ≡ j = alone_at test x.maps j no_mapping (omega (arith, most, own, same)) jl is in
        map_found (files_shown s fs) task number k j (sym place) inside
        (sym here ∙ sym (position_shown (map_shown s) test (is_map task number) (λ m. refl) x.maps) ∙ ap (λ (f : File). position_or_len (is_map task number) f.maps) (sym seen))

    pub no_map_here : sum_by (keys_in task number) (labels_of fs) ≡ 0 → IsMissing (files_shown s fs) task number
    no_map_here none limits = grind (arith, common_steps, holders, through, zero_found)

  pub no_name_here : (name : List ℕ) → count_by (has_label name) (labels_of fs) ≡ 0 → found (has_name name) (files_shown s fs) ≡ None
  no_name_here name none = zero_found (has_name name) (files_shown s fs) (names_counted s name fs ∙ none)

-- ---- counts

pub maps_counted : (s : Store) (fs : List NumberedFile) → sum_by (λ (l : Label). length l.keys) (labels_of fs) ≡ length (all_maps (files_shown s fs))
maps_counted s [] = refl
maps_counted s (f ∷ fs) =
    let left = sum_by-cons (λ (l : Label). length l.keys) (label_of f) (labels_of fs) in
    let keys = length-map f.maps key_of in
    let shown = length-map f.maps (map_shown s) in
    let right = length-append (map (map_shown s) f.maps) (all_maps (files_shown s fs)) in
    let rest = maps_counted s fs in
    omega (arith, left, keys, shown, right, rest)

tasks_of_maps : (s : Store) (ms : List (Mapping ℕ)) → map (λ (k : ℕ × ℕ). k.0) (map key_of ms) ≡ map (λ (m : Map). m.task) (map (map_shown s) ms)
tasks_of_maps s [] = refl
tasks_of_maps s (m ∷ ms) = ap (λ ts. m.task ∷ ts) (tasks_of_maps s ms)

pub tasks_counted : (s : Store) (fs : List NumberedFile) → flat_map tasks_in (labels_of fs) ≡ map (λ (m : Map). m.task) (all_maps (files_shown s fs))
tasks_counted s [] = refl
tasks_counted s (f ∷ fs) =
    ap (λ ts. ts ++ flat_map tasks_in (labels_of fs)) (tasks_of_maps s f.maps) ∙ ap (λ ts. map (λ (m : Map). m.task) (map (map_shown s) f.maps) ++ ts) (tasks_counted s fs)
    ∙ sym (map-append (λ (m : Map). m.task) (map (map_shown s) f.maps) (all_maps (files_shown s fs)))

-- ---- a search over the files

module _ (s : Store) (fs : List NumberedFile) (name : List ℕ) where
  abbrev own : NumberedFile → Bool
  own f = has_label name (label_of f)

  shown_place : position_or_len (has_name name) (files_shown s fs) ≡ position_or_len own fs
  shown_place = position_shown (file_shown s) own (has_name name) (named_shown s name) fs

  pub named_first : position_or_len own fs < length fs → IsNamed (files_shown s fs) name (position_or_len own fs)
  named_first l = grind (arith, common_steps, length-map, shown_place, found_at)

  pub named_nowhere : length fs ≤ position_or_len own fs → found (has_name name) (files_shown s fs) ≡ None
  named_nowhere l = grind (arith, common_steps, length-map, shown_place, found_none)
