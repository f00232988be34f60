-- A fork leaves its parent the maps that it has.
use Rattle.std.proofs.lemmas.Grind.{common_steps}
use Rattle.std.proofs.Common.{◌≡◌, ℕ, ◌||◌, ◌==◌, Bool, true, false, not, Some, List, [], ◌∷◌, map, refl, sym, ap, ◌∙◌, arith, filter}
use Rattle.std.specs.List.{list_any}
use Rattle.std.proofs.lemmas.Bool.{eqb-true, false_from_ne_true}
use Rattle.std.proofs.lemmas.List.Folds.{list_any-append}
use Rattle.std.proofs.lemmas.Map.Views.{any-filter_same}
use Rattle.hp_model.proofs.Words.{File, Map, Mount, file_forked, forked, has_maps_of, is_kept, is_of, map_for}
use Rattle.hp_laws.proofs.names.Follows.{is_not_of}
use Rattle.hp_laws.proofs.making.FilesMade.{any_in_files}

or_false : (b : Bool) → (b || false) ≡ b
or_false b = grind arith

module _ (task : ℕ) where
  abbrev has : File → Bool
  has f = list_any (is_of task) f.maps

  with_map : (f : File) → has f ≡ true → is_kept f ≡ true
  with_map f some = grind (arith, common_steps)

module _ (parent child : ℕ) (apart : parent ≡ child → ⊥) where
  stays : (x : Map) → is_of parent x ≡ true → is_not_of child x ≡ true
  stays x of = ap not (false_from_ne_true (x.task == child) (λ e. apart (sym (eqb-true x.task parent of) ∙ eqb-true x.task child e)))

  none_made : (xs : List Map) → list_any (is_of parent) (map (map_for child) xs) ≡ false
  none_made [] = refl
  none_made (x ∷ xs) = rw (false_from_ne_true (child == parent) (λ e. apart (sym (eqb-true child parent e))), none_made xs) refl

  in_file : (f : File) → has parent (file_forked parent child f) ≡ has parent f
  in_file f =
      list_any-append (is_of parent) (filter (is_not_of child) f.maps) (map (map_for child) (filter (is_of parent) f.maps))
      ∙ ap (λ b. list_any (is_of parent) (filter (is_not_of child) f.maps) || b) (none_made (filter (is_of parent) f.maps))
      ∙ or_false (list_any (is_of parent) (filter (is_not_of child) f.maps)) ∙ any-filter_same (is_of parent) (is_not_of child) true stays f.maps

  in_files : (fs : List File) → list_any (has parent) (map (file_forked parent child) fs) ≡ list_any (has parent) fs
  in_files [] = refl
  in_files (f ∷ fs) = ap (λ b. b || list_any (has parent) (map (file_forked parent child) fs)) (in_file f) ∙ ap (λ b. has parent f || b) (in_files fs)

  pub parent_stays : (m : Mount) → has_maps_of parent (Some (forked parent child m)) ≡ has_maps_of parent (Some m)
  parent_stays m =
      let fs : List File = map (file_forked parent child) m.files in
      any_in_files (is_of parent) (filter is_kept fs) ∙ any-filter_same (has parent) is_kept true (with_map parent) fs ∙ in_files m.files ∙ sym (any_in_files (is_of parent) m.files)
