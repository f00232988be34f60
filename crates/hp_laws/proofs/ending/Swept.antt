-- Maps of a task go: once is as often, and a child's go with what its fork made.
use Rattle.std.proofs.lemmas.Grind.{common_steps}
use Rattle.std.proofs.Common.{◌≡◌, ℕ, Bool, true, false, not, Some, List, [], ◌∷◌, map, cond, refl, sym, ap, ◌∙◌, arith, filter}
use Rattle.std.specs.List.{list_any}
use Rattle.std.proofs.lemmas.Bool.{eq-eqb, or_parts}
use Rattle.std.proofs.lemmas.List.Elements.{filter-append}
use Rattle.hp_model.proofs.Words.{File, Map, Mount, file_forked, file_without, has_maps_of, is_kept, is_of, map_for, swept, without_task}
use Rattle.hp_laws.proofs.names.Follows.{is_not_of}
use Rattle.hp_laws.proofs.making.FilesMade.{any_in_files}

-- ---- lists

module _ {X : Type 0} (p : X → Bool) where
  kept_head : (x : X) (ys : List X) (b : Bool) → p x ≡ b → filter p (cond b (x ∷ ys) ys) ≡ cond b (x ∷ filter p ys) (filter p ys)
  kept_head x ys b is = grind arith

  -- what is left of what is left
  filter_twice : (xs : List X) → filter p (filter p xs) ≡ filter p xs
  filter_twice [] = refl
  filter_twice (x ∷ xs) = kept_head x (filter p xs) (p x) refl ∙ ap (λ ys. cond (p x) (x ∷ ys) ys) (filter_twice xs)

  -- where all pass, or none does
  filter_all : (xs : List X) → list_any (λ x. not (p x)) xs ≡ false → filter p xs ≡ xs
  filter_all [] e = refl
  filter_all (x ∷ xs) e = by_test (p x) refl (or_parts (not (p x)) (list_any (λ y. not (p y)) xs) e).0 (filter_all xs (or_parts (not (p x)) (list_any (λ y. not (p y)) xs) e).1)
    where
      by_test : (b : Bool) → p x ≡ b → not (p x) ≡ false → filter p xs ≡ xs → filter p (x ∷ xs) ≡ x ∷ xs
      by_test true is on rest = rw (is, rest) refl
      by_test false is on rest = (let off : not (p x) ≡ true = ap not is in cc)

-- ---- files

module _ (child : ℕ) where
  none_left : (xs : List Map) → filter (is_not_of child) (map (map_for child) xs) ≡ []
  none_left [] = refl
  none_left (x ∷ xs) = rw (eq-eqb child child refl, none_left xs) refl

  pub forked_without : (parent : ℕ) (f : File) → file_without child (file_forked parent child f) ≡ file_without child f
  forked_without parent f = grind (arith, common_steps, is_not_of, filter-append, filter_twice, none_left)

  pub twice_without : (f : File) → file_without child (file_without child f) ≡ file_without child f
  twice_without f = ap (λ (ms : List Map). record f { maps = ms }) (filter_twice (is_not_of child) f.maps)

  gone_without : (f : File) → is_kept f ≡ false → is_kept (file_without child f) ≡ false
  gone_without f e = grind (arith, common_steps)

  module _ (h : File → File) (same : (f : File) → file_without child (h f) ≡ file_without child f) where
    swept_files : (fs : List File) → filter is_kept (map (file_without child) (filter is_kept (map h fs))) ≡ filter is_kept (map (file_without child) fs)
    swept_files [] = refl
    swept_files (f ∷ fs) = by_kept (is_kept (h f)) refl (swept_files fs)
      where
        by_kept : (b : Bool) → is_kept (h f) ≡ b → filter is_kept (map (file_without child) (filter is_kept (map h fs))) ≡ filter is_kept (map (file_without child) fs)
            → filter is_kept (map (file_without child) (cond b (h f ∷ filter is_kept (map h fs)) (filter is_kept (map h fs)))) ≡ filter is_kept (map (file_without child) (f ∷ fs))
        by_kept true is rest = ap (λ (g : File). filter is_kept (g ∷ map (file_without child) (filter is_kept (map h fs)))) (same f)
            ∙ ap (λ ys. cond (is_kept (file_without child f)) (file_without child f ∷ ys) ys) rest
        by_kept false is rest =
            rest ∙ sym (ap (λ b. cond b (file_without child f ∷ filter is_kept (map (file_without child) fs)) (filter is_kept (map (file_without child) fs)))
            (ap is_kept (sym (same f)) ∙ gone_without (h f) is))

    pub without_after : (m : Mount) → without_task child (swept (record m { files = map h m.files })) ≡ without_task child m
    without_after m = ap (λ (fs : List File). record m { files = fs }) (swept_files m.files)

pub swept_twice : (m : Mount) → swept (swept m) ≡ swept m
swept_twice m = ap (λ (fs : List File). record m { files = fs }) (filter_twice is_kept m.files)

-- a mount without maps of the task
pub without_none : (task : ℕ) (m : Mount) → has_maps_of task (Some m) ≡ false → without_task task m ≡ swept m
without_none task m none =
    ap (λ (fs : List File). record m { files = filter is_kept fs }) (each m.files (sym (any_in_files (is_of task) m.files) ∙ none))
  where
    not_not : (xs : List Map) → list_any (is_of task) xs ≡ false → list_any (λ x. not (is_not_of task x)) xs ≡ false
    not_not [] e = refl
    not_not (x ∷ xs) e = (let parts = or_parts (is_of task x) (list_any (is_of task) xs) e in rw (parts.0, not_not xs parts.1) refl)

    each : (fs : List File) → list_any (λ (f : File). list_any (is_of task) f.maps) fs ≡ false → map (file_without task) fs ≡ fs
    each [] e = refl
    each (f ∷ fs) e =
        let parts = or_parts (list_any (is_of task) f.maps) (list_any (λ (g : File). list_any (is_of task) g.maps) fs) e in
        ap (λ (ms : List Map). record f { maps = ms } ∷ map (file_without task) fs) (filter_all (is_not_of task) f.maps (not_not f.maps parts.0)) ∙ ap (λ gs. f ∷ gs) (each fs parts.1)
