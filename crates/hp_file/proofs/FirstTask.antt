use Rattle.std.proofs.lemmas.Grind.{common_steps}
-- The least task that has a map.
use Rattle.std.proofs.Common.{◌≡◌, ℕ, suc, ◌+◌, ◌<◌, ◌≤◌, ◌==◌, ◌||◌, min, ⊎_elim, ◌⊎◌, inl, inr, true, Option, None, Some, List, [], ◌∷◌, length, map, take, refl, sym, ap, subst, ◌∙◌, arith, All}
use Rattle.std.proofs.Common.{flat_map, IfNone, IfSome, slice_index_or}
use Rattle.std.specs.List.{list_any}
use Rattle.std.proofs.lemmas.Bool.{cases_lt, eq-eqb, or_left, or_right}
use Rattle.std.proofs.lemmas.List.{map-append, take_all, take_more}
use Rattle.std.proofs.lemmas.List.Elements.{All-cons, All-nil}
use Rattle.std.proofs.lemmas.List.Sums.{fold_push}
use Rattle.hp_model.proofs.Words.{File, Map, Mapping, is_among, is_of}
use Rattle.hp_store.specs.Store.{Store}
use Rattle.hp_lookup.proofs.Words.{IsFirstTask, NumberedFile, all_maps, files_shown, labels_of, least_among, lesser_task, tasks_in}
use Rattle.hp_lookup.proofs.Unique.{tasks_counted}

-- ---- the least of some numbers

record IsLeast (known : ℕ) (ts : List ℕ) : Type 0 where
  least : ℕ
  is : least_among (Some known) ts ≡ Some least
  below : least ≤ known
  all : All (λ t. least ≤ t) ts
  one : (least ≡ known) ⊎ (is_among least ts ≡ true)

least_is : (known : ℕ) (ts : List ℕ) → IsLeast known ts
least_is known [] = record { least = known; is = refl; below = omega arith; all = All-nil (λ t. known ≤ t); one = inl refl }
least_is known (t ∷ ts) =
    let rest = least_is (min known t) ts in
    let under = rest.below in
    record {
      least = rest.least;
      is = rest.is;
      below = omega (arith, under);
      all = All-cons (λ x. rest.least ≤ x) t ts (omega (arith, under)) rest.all;
      one = ⊎_elim
          (λ (e : rest.least ≡ min known t). ⊎_elim
          (λ (l : known < t). inl (omega (arith, e, l)))
          (λ (l : t ≤ known). inr (or_left (t == rest.least) (is_among rest.least ts) (eq-eqb t rest.least (omega (arith, e, l)))))
          (cases_lt known t))
          (λ (e : is_among rest.least ts ≡ true). inr (or_right (t == rest.least) (is_among rest.least ts) e))
          rest.one;
    }

-- ---- the tasks of maps

task_among : (task : ℕ) (ms : List Map) → list_any (is_of task) ms ≡ is_among task (map (λ (m : Map). m.task) ms)
task_among task [] = refl
task_among task (m ∷ ms) = ap (λ b. (m.task == task) || b) (task_among task ms)

all_of : (task : ℕ) (ms : List Map) → All (λ t. task ≤ t) (map (λ (m : Map). m.task) ms) → All (λ (m : Map). task ≤ m.task) ms
all_of task [] all = All-nil (λ (m : Map). task ≤ m.task)
all_of task (m ∷ ms) all = All-cons (λ (m : Map). task ≤ m.task) m ms (all 0 m.task (omega arith)) (all_of task ms (λ i e l. all (suc i) e (omega (arith, l))))

pub first_some : (fs : List File) (r : Option ℕ) → r ≡ least_among None (map (λ (m : Map). m.task) (all_maps fs)) → IfSome r (λ task. IsFirstTask fs task)
first_some fs r r_is = by (all_maps fs) refl r_is
  where
    by : (ms : List Map) → all_maps fs ≡ ms → r ≡ least_among None (map (λ (m : Map). m.task) ms) → IfSome r (λ task. IsFirstTask fs task)
    by [] e r_is = subst (λ o. IfSome o (λ task. IsFirstTask fs task)) (sym r_is) tt
    by (m ∷ ms) e r_is =
        let l = least_is m.task (map (λ (m : Map). m.task) ms) in
        let here : is_among l.least (m.task ∷ map (λ (m : Map). m.task) ms) ≡ true = ⊎_elim
        (λ (same : l.least ≡ m.task). or_left (m.task == l.least) (is_among l.least (map (λ (m : Map). m.task) ms)) (eq-eqb m.task l.least (sym same)))
        (λ (there : is_among l.least (map (λ (m : Map). m.task) ms) ≡ true). or_right (m.task == l.least) (is_among l.least (map (λ (m : Map). m.task) ms)) there)
        l.one in
        let all = all_of l.least (m ∷ ms) (All-cons (λ t. l.least ≤ t) m.task (map (λ (m : Map). m.task) ms) l.below l.all) in
        subst (λ o. IfSome o (λ task. IsFirstTask fs task)) (sym (r_is ∙ l.is)) (record {
          has = ap (list_any (is_of l.least)) e ∙ task_among l.least (m ∷ ms) ∙ here;
          least = subst (All (λ (m : Map). l.least ≤ m.task)) (sym e) all;
        })

pub first_none : (fs : List File) (r : Option ℕ) → r ≡ least_among None (map (λ (m : Map). m.task) (all_maps fs)) → IfNone r (all_maps fs ≡ [])
first_none fs r r_is = by (all_maps fs) refl r_is
  where
    by : (ms : List Map) → all_maps fs ≡ ms → r ≡ least_among None (map (λ (m : Map). m.task) ms) → IfNone r (all_maps fs ≡ [])
    by [] e r_is = subst (λ o. IfNone o (all_maps fs ≡ [])) (sym r_is) e
    by (m ∷ ms) e r_is = (let l = least_is m.task (map (λ (m : Map). m.task) ms) in subst (λ o. IfNone o (all_maps fs ≡ [])) (sym (r_is ∙ l.is)) tt)

-- ---- one file after another

pub next_map : (known : Option ℕ) (ms : List (Mapping ℕ)) (i : ℕ) (m : Mapping ℕ) → i < length ms → m ≡ slice_index_or ms i m →
    Some (lesser_task (least_among known (map (λ m. m.task) (take i ms))) m.task) ≡ least_among known (map (λ m. m.task) (take (i + 1) ms))
next_map known ms i m l m_is = grind (arith, common_steps, fold_push, map-append, take_more)

abbrev pub tasks_of : List NumberedFile → List ℕ
tasks_of fs = flat_map tasks_in (labels_of fs)

pub all_tasks_are : (s : Store) (fs : List NumberedFile) (i : ℕ) (r : Option ℕ) → length fs ≤ i → r ≡ least_among None (tasks_of (take i fs)) →
    r ≡ least_among None (map (λ (m : Map). m.task) (all_maps (files_shown s fs)))
all_tasks_are s fs i r l e = e ∙ ap (λ xs. least_among None (tasks_of xs)) (take_all i fs l) ∙ ap (least_among None) (tasks_counted s fs)

pub none_yet : (known : Option ℕ) (ms : List (Mapping ℕ)) → least_among known (map (λ m. m.task) (take 0 ms)) ≡ known
none_yet known [] = refl
none_yet known (m ∷ ms) = refl
