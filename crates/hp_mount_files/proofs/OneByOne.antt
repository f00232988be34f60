-- A task's maps leave one by one.
use Rattle.std.proofs.Common.{◌≡◌, ℕ, ◌==◌, ◌||◌, Bool, true, false, not, cond, None, List, [], ◌∷◌, map, refl, sym, ap, ◌∙◌, filter}
use Rattle.std.specs.List.{list_any}
use Rattle.std.proofs.lemmas.Bool.{and_parts}
use Rattle.hp_laws.proofs.ending.Swept.{without_after, without_none}
use Rattle.hp_model.proofs.Words.{File, Map, Mount, file_unmapped, file_without, is_among, is_kept, is_left, is_map, is_mapped, is_of, map_unmapped, without_range}
use Rattle.hp_lookup.proofs.Words.{all_maps, all_tasks, is_first_of, mount_with}
use Rattle.hp_lookup.proofs.MapNumbers.{among_distinct}

-- a mount of some files
abbrev mount_of : List File → Mount
mount_of fs = mount_with (record { max = None; min = 0; inodes = None }) fs

-- ---- indices of one of its maps go first

module _ (task number a b : ℕ) where
  abbrev others : List Map → List Map
  others ms = filter (λ (m : Map). not (is_of task m)) ms

  abbrev rest : List Map → List Map
  rest ms = filter (is_left (is_map task number)) (map (map_unmapped (is_map task number) a b) ms)

  others_same : (ms : List Map) → others (rest ms) ≡ others ms
  others_same [] = refl
  others_same (m ∷ ms) = at (is_map task number m) refl (others_same ms)
    where
      at : (t : Bool) → is_map task number m ≡ t → others (rest ms) ≡ others ms
          → others (cond (is_mapped (cond t (without_range a b m) m) || not (is_map task number (cond t (without_range a b m) m)))
          (cond t (without_range a b m) m ∷ rest ms) (rest ms)) ≡ cond (not (is_of task m)) (m ∷ others ms) (others ms)
      at true is tail = by (is_mapped (without_range a b m) || not (is_map task number m)) ∙ tail ∙ sym (ap (λ t. cond (not t) (m ∷ others ms) (others ms)) own)
        where
          own : is_of task m ≡ true
          own = (and_parts (m.task == task) (m.number == number) is).0

          by : (t : Bool) → others (cond t (without_range a b m ∷ rest ms) (rest ms)) ≡ others (rest ms)
          by true = ap (λ t. cond (not t) (without_range a b m ∷ others (rest ms)) (others (rest ms))) own
          by false = refl
      at false is tail = ap (λ t. others (cond (is_mapped m || not t) (m ∷ rest ms) (rest ms))) is ∙ by (is_mapped m) ∙ ap (λ xs. cond (not (is_of task m)) (m ∷ xs) xs) tail
        where
          by : (t : Bool) → others (cond (t || true) (m ∷ rest ms) (rest ms)) ≡ others (m ∷ rest ms)
          by true = refl
          by false = refl

  -- what the task leaves behind is the same
  pub leaves_same : (fs : List File) → filter is_kept (map (file_without task) (filter is_kept (map (file_unmapped (is_map task number) a b) fs))) ≡ filter is_kept (map (file_without task) fs)
  leaves_same fs = ap (λ (m : Mount). m.files) (without_after task (file_unmapped (is_map task number) a b) (λ f. ap (λ ms. record f { maps = ms }) (others_same f.maps)) (mount_of fs))

-- ---- it has none

pub none_leaves : (task : ℕ) (fs : List File) → not (is_first_of task fs) ≡ false → filter is_kept fs ≡ fs → fs ≡ filter is_kept (map (file_without task) fs)
none_leaves task fs none kept = sym (ap (λ (m : Mount). m.files) (without_none task (mount_of fs) no_maps) ∙ kept)
  where
    twice : (b : Bool) → not (not b) ≡ b
    twice true = refl
    twice false = refl

    among_is : (ms : List Map) → is_among task (map (λ m. m.task) ms) ≡ list_any (is_of task) ms
    among_is [] = refl
    among_is (m ∷ ms) = ap (λ b. (m.task == task) || b) (among_is ms)

    no_maps : list_any (is_of task) (all_maps fs) ≡ false
    no_maps = sym (twice (is_among task (all_tasks fs)) ∙ among_distinct task (map (λ m. m.task) (all_maps fs)) ∙ among_is (all_maps fs)) ∙ none
