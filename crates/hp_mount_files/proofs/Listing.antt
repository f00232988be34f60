-- The names of files, one after another.
use Rattle.std.proofs.Common.{◌≡◌, ℕ, ◌≤◌, List, [], ◌∷◌, ◌++◌, None, Some, length, take, refl, ap, ◌∙◌, All, filter_map}
use Rattle.std.specs.List.{cons_option}
use Rattle.std.proofs.lemmas.List.{append-nil}
use Rattle.std.proofs.lemmas.List.Elements.{All-append, All-cons, All-nil, filter_map-append}
use Rattle.hp_model.proofs.Words.{File}
use Rattle.hp_store.specs.Store.{Store}
use Rattle.hp_lookup.proofs.Words.{NumberedFile, files_shown}

abbrev pub names_in : List NumberedFile → List (List ℕ)
names_in fs = filter_map (λ f. f.name) fs

pub names_shown : (s : Store) (fs : List NumberedFile) → filter_map (λ (f : File). f.name) (files_shown s fs) ≡ names_in fs
names_shown s [] = refl
names_shown s (f ∷ fs) = ap (cons_option f.name) (names_shown s fs)

pub names_more : (fs : List NumberedFile) (f : NumberedFile) (name : List ℕ) → f.name ≡ Some name → names_in (fs ++ f ∷ []) ≡ names_in fs ++ name ∷ []
names_more fs f name is =
    filter_map-append (λ (g : NumberedFile). g.name) fs (f ∷ []) ∙ ap (λ o. names_in fs ++ cons_option o []) is

pub names_same : (fs : List NumberedFile) (f : NumberedFile) → f.name ≡ None → names_in (fs ++ f ∷ []) ≡ names_in fs
names_same fs f is =
    filter_map-append (λ (g : NumberedFile). g.name) fs (f ∷ []) ∙ ap (λ o. names_in fs ++ cons_option o []) is ∙ append-nil (names_in fs)

pub names_none : (fs : List NumberedFile) → names_in (take 0 fs) ≡ []
names_none [] = refl
names_none (f ∷ fs) = refl

-- each name has at most 64 bytes
abbrev pub AreShort : List (List ℕ) → Type 0
AreShort names = All (λ (name : List ℕ). length name ≤ 64) names

pub short_more : (names : List (List ℕ)) (name : List ℕ) → AreShort names → length name ≤ 64 → AreShort (names ++ name ∷ [])
short_more names name all few =
    All-append (λ (n : List ℕ). length n ≤ 64) names (name ∷ []) all (All-cons (λ (n : List ℕ). length n ≤ 64) name [] few (All-nil (λ (n : List ℕ). length n ≤ 64)))
