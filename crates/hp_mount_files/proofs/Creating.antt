-- A file more, which is empty.
use Rattle.std.proofs.Common.{◌≡◌, ℕ, ◌+◌, ◌≤◌, Bool, true, false, cond, List, [], ◌∷◌, ◌++◌, Some, None, refl, sym, ap, subst, ◌∙◌, arith, count_by}
use Rattle.std.specs.Str.{bytes_eq}
use Rattle.std.proofs.lemmas.Slice.Eq.{bytes_eq-Decides}
use Rattle.hp_model.proofs.Words.{found, has_name}
use Rattle.hp_store.specs.Store.{Store}
use Rattle.hp_lookup.proofs.Words.{IsFiles, IsMoreByName, Noted, NumberedFile, files_shown, has_label, is_noted_as as has_noted, labels_of}
use Rattle.hp_lookup.proofs.Level.{none_level}
use Rattle.hp_mount_files.proofs.Pushing.{pushed}
use Rattle.hp_lookup.proofs.Unique.{names_counted, none_found}

abbrev pub empty_file : List ℕ → NumberedFile
empty_file name = record { name = Some name; cells = []; maps = [] }

module _ (old now : Noted) (s : Store) (more maps : ℕ) (tally : ℕ → ℕ) (fs : List NumberedFile) (name : List ℕ)
    (is : IsFiles old s more maps tally fs) (new : found (has_name name) (files_shown s fs) ≡ None) where
  free : (other : List ℕ) (b : Bool) → bytes_eq name other ≡ b → count_by (has_label other) (labels_of fs) ≤ 1 → count_by (has_label other) (labels_of fs) + cond b 1 0 ≤ 1
  free other true e most =
      let same : name ≡ other = (bytes_eq-Decides name other).0 e in
      let none = ap (λ n. count_by (has_label n) (labels_of fs)) (sym same) ∙ sym (names_counted s name fs) ∙ none_found (has_name name) (files_shown s fs) new in
      omega (arith, none)
  free other false e most = omega (arith, most)

  -- only its own name is new
  module _ (grown : IsMoreByName name old now) (own : has_noted name now ≡ true) where
    other_name : (other : List ℕ) (b : Bool) → bytes_eq name other ≡ b → has_noted other now ≡ false → b ≡ false
    other_name other true e none =
        let same : name ≡ other = (bytes_eq-Decides name other).0 e in
        let known = subst (λ n. has_noted n now ≡ true) same own in
        cc
    other_name other false e none = refl

    pub created : (f : NumberedFile) (hs : List NumberedFile) → f ≡ empty_file name → hs ≡ fs ++ f ∷ [] → IsFiles now s more maps tally hs
    created f hs f_is hs_is =
        let same_maps : maps + 0 ≡ maps = omega arith in
        subst (IsFiles now s more maps tally) (sym (hs_is ∙ ap (λ x. fs ++ x ∷ []) f_is))
        (subst (λ n. IsFiles now s more n tally (fs ++ empty_file name ∷ [])) same_maps
        (pushed old now s more maps tally fs is (empty_file name) (λ n. refl) refl (λ other most. free other (bytes_eq name other) refl most) (λ t m most. omega (arith, most)) tally (λ q. omega arith)
        grown.more (λ other apart e. grown.names other apart e) (λ t m none e. grown.keys t m e) (λ other e. other_name other (bytes_eq name other) refl e) (λ t m e. refl) none_level))
