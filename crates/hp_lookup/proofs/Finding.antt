use Rattle.std.proofs.lemmas.Grind.{common_steps}
-- A map is found by the numbers of its task and its own.
use Rattle.std.proofs.Common.{◌≡◌, ℕ, ◌+◌, ◌<◌, ◌≤◌, Bool, true, false, not, cond, ltb, List, [], ◌∷◌, length, map, Some, None, refl, sym, ap, ◌∙◌, arith, unwrap_or, ◌||◌, slice_index_or, option_map}
use Rattle.std.specs.List.{list_any, position_or_len}
use Rattle.std.proofs.lemmas.Bool.Decides.{nat_tests}
use Rattle.std.proofs.lemmas.List.{get_or-map, length-map}
use Rattle.std.proofs.lemmas.List.Sums.{prefix_len-le-length, passes_at_first, fails_before_first}
use Rattle.hp_model.proofs.Words.{File, found, is_map, new_file, spot_in}
use Rattle.hp_model.proofs.Finding as finding
use Rattle.hp_store.specs.Store.{Store}
use Rattle.hp_lookup.proofs.Words.{IsFound, IsMissing, NumberedFile, file_at, file_shown, files_shown, has_it, map_shown}

-- ---- searches through what an element shows

pub any_shown : {X Y : Type 0} (f : X → Y) (p : X → Bool) (q : Y → Bool) → ((x : X) → q (f x) ≡ p x) → (xs : List X) → list_any q (map f xs) ≡ list_any p xs
any_shown f p q h [] = refl
any_shown f p q h (x ∷ xs) = ap (λ b. b || list_any q (map f xs)) (h x) ∙ ap (λ b. p x || b) (any_shown f p q h xs)

pub position_shown : {X Y : Type 0} (f : X → Y) (p : X → Bool) (q : Y → Bool) → ((x : X) → q (f x) ≡ p x) → (xs : List X) → position_or_len q (map f xs) ≡ position_or_len p xs
position_shown f p q h [] = refl
position_shown f p q h (x ∷ xs) = ap (λ b. cond (not b) (1 + position_or_len q (map f xs)) 0) (h x) ∙ ap (λ n. cond (not (p x)) (1 + n) 0) (position_shown f p q h xs)

pub position_le : {X : Type 0} (test : X → Bool) (xs : List X) → position_or_len test xs ≤ length xs
position_le test xs = prefix_len-le-length _ xs

pub found_or_len : (n p : ℕ) → p ≤ n → unwrap_or (cond (ltb p n) (Some p) None) n ≡ p
found_or_len n p h = grind (arith, nat_tests)

-- ---- a file's maps

-- whether the numbered file has it
abbrev pub has_numbered : (task number : ℕ) → NumberedFile → Bool
has_numbered task number f = list_any (is_map task number) f.maps

pub has_shown : (s : Store) (task number : ℕ) (f : NumberedFile) → has_it task number (file_shown s f) ≡ has_numbered task number f
has_shown s task number f = any_shown (map_shown s) (is_map task number) (is_map task number) (λ m. refl) f.maps

pub files_position : (s : Store) (task number : ℕ) (fs : List NumberedFile) → position_or_len (has_it task number) (files_shown s fs) ≡ position_or_len (has_numbered task number) fs
files_position s task number fs = position_shown (file_shown s) (has_numbered task number) (has_it task number) (has_shown s task number) fs

-- ---- what is found

pub found_at : {X : Type 0} (test : X → Bool) (xs : List X) (d : X) → position_or_len test xs < length xs →
    found test xs ≡ Some (position_or_len test xs, slice_index_or xs (position_or_len test xs) d)
found_at test xs d l = finding.found_at test xs d (position_or_len test xs) l (passes_at_first test xs d l) (λ k less. fails_before_first test xs k d less)

pub found_none : {X : Type 0} (test : X → Bool) (xs : List X) (d : X) → length xs ≤ position_or_len test xs → found test xs ≡ None
found_none test xs d l = finding.found_none test xs d (λ k less. fails_before_first test xs k d (omega (arith, l, less)))

any_step : {X : Type 0} (test : X → Bool) (b : Bool) (x : X) (xs : List X) → (list_any test xs ≡ true → position_or_len test xs < length xs) →
    (b || list_any test xs) ≡ true → cond (not b) (1 + position_or_len test xs) 0 < length (x ∷ xs)
any_step test true x xs rest e = omega arith
any_step test false x xs rest e = let l = rest e in omega (arith, l)

any_position : {X : Type 0} (test : X → Bool) (xs : List X) → list_any test xs ≡ true → position_or_len test xs < length xs
any_position test [] e = cc
any_position test (x ∷ xs) e = any_step test (test x) x xs (any_position test xs) e

pub map_found : (fs : List File) (task number k j : ℕ) → k ≡ position_or_len (has_it task number) fs → k < length fs →
    j ≡ position_or_len (is_map task number) (file_at fs k).maps → IsFound fs task number k j
map_found fs task number k j k_is within j_is = grind (arith, common_steps, passes_at_first, any_position, found_at)

pub no_map_found : (fs : List File) (task number : ℕ) → length fs ≤ position_or_len (has_it task number) fs → IsMissing fs task number
no_map_found fs task number past limits =
    ap (λ o. elim o [ None ↦ None | Some q ↦ option_map (spot_in q) (found (is_map task number) q.1.maps) ]) (found_none (has_it task number) fs (new_file None) past)

-- as code finds it
module _ (s : Store) (xs : List NumberedFile) (task number k : ℕ) (k_is : k ≡ position_or_len (has_it task number) (files_shown s xs)) where
  pub found_here : (x : NumberedFile) (j : ℕ) → k < length xs → x ≡ slice_index_or xs k x → j ≡ position_or_len (is_map task number) x.maps → IsFound (files_shown s xs) task number k j
  found_here x j within read j_is =
      let long = length-map xs (file_shown s) in
      let file_is : file_at (files_shown s xs) k ≡ file_shown s x = get_or-map (file_shown s) xs k x (new_file None) within ∙ ap (file_shown s) (sym read) in
      map_found (files_shown s xs) task number k j k_is (omega (arith, within, long))
      (j_is ∙ sym (position_shown (map_shown s) (is_map task number) (is_map task number) (λ m. refl) x.maps) ∙ ap (λ (f : File). position_or_len (is_map task number) f.maps) (sym file_is))

  pub missing_here : length xs ≤ k → IsMissing (files_shown s xs) task number
  missing_here past = (let long = length-map xs (file_shown s) in no_map_found (files_shown s xs) task number (omega (arith, past, long, k_is)))
