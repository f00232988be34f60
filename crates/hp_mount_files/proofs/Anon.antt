-- A file without name more, which has one map.
use Rattle.std.proofs.Common.{◌≡◌, ◌==◌, ℕ, ◌+◌, ◌∷◌, ◌++◌, true, false, cond, List, [], None, refl, sym, ap, subst, ◌∙◌, arith}
use Rattle.std.proofs.lemmas.List.{map-append}
use Rattle.hp_laws.proofs.Variants.{Reserving, Sharing}
use Rattle.hp_model.proofs.Words.{is_among, mapped, new_file, numbers_of}
use Rattle.hp_store.specs.Store.{Store}
use Rattle.hp_file.specs.NewMap.{nameless, with_new_map}
use Rattle.hp_lookup.proofs.Words.{IsFiles, IsMoreByMap, Noted, NumberedFile, all_maps, file_shown, files_shown, has_key, is_key, keys_in, label_of, new_mapping}
use Rattle.hp_lookup.proofs.Level.{more_level, none_level}
use Rattle.hp_lookup.proofs.Mapped.{file_count, mapped_shown}
use Rattle.hp_lookup.proofs.NewKey.{keys_few, no_pair, other_key}
use Rattle.hp_mount_files.proofs.Pushing.{pushed}
use Rattle.hp_lookup.proofs.Views.{view}

module _ (task number a n : ℕ) (sharing : Sharing) (reserving : Reserving) where
  abbrev anon : NumberedFile
  anon = with_new_map (record { task = task; start = a; pages = n; sharing = sharing; reserving = reserving }) number nameless

  module _ (old : Noted) (s : Store) (more maps : ℕ) (tally : ℕ → ℕ) (fs : List NumberedFile) (is : IsFiles old s more maps tally fs)
      (f : NumberedFile) (gs : List NumberedFile) (f_is : f ≡ anon) (gs_is : gs ≡ fs ++ f ∷ []) where
    pub anon_view : view s more gs ≡ record (view s more fs) { files = files_shown s fs ++ mapped task number a n sharing reserving (new_file None) ∷ [] }
    anon_view =
        ap (λ xs. record (view s more fs) { files = xs }) (ap (files_shown s) gs_is ∙ map-append (file_shown s) fs (f ∷ [])
        ∙ ap (λ x. files_shown s fs ++ x ∷ []) (ap (file_shown s) f_is ∙ mapped_shown task number a n sharing reserving s nameless))

    pub anon_files : is_among number (numbers_of task (all_maps (files_shown s fs))) ≡ false → (now : Noted) → IsMoreByMap task number old now →
        has_key task number now ≡ true → (next : ℕ → ℕ) → ((q : ℕ) → next q ≡ tally q + cond (task == q) 1 0)
        → IsFiles now s more (maps + 1) next gs
    anon_files fresh now grown own next one_more =
        subst (IsFiles now s more (maps + 1) next) (sym (gs_is ∙ ap (λ x. fs ++ x ∷ []) f_is))
        (pushed old now s more maps tally fs is anon (λ m. file_count task number a n sharing reserving m nameless) refl (λ name most. omega (arith, most))
        (λ t m most. (let few = keys_few task number s fs fresh t m (is_key t m (task, number)) refl most in omega (arith, few)))
        next (λ q. (let more = one_more q in omega (arith, more))) grown.more
        (λ name none e. grown.names name e) (λ t m none e. grown.keys t m (no_pair task number t m _ (one_key t m) none) e) (λ name e. refl)
        (λ t m e. (let none = ap (λ b. cond {A = ℕ} b 1 0 + 0) (other_key task number now own t m (is_key t m (task, number)) refl e) in omega (arith, none)))
        (more_level [] (new_mapping task number a n sharing reserving) n refl none_level))
      where
        one_key : (t m : ℕ) → keys_in t m (label_of anon) ≡ cond {A = ℕ} (is_key t m (task, number)) 1 0
        one_key t m = omega arith
