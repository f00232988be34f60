-- Maps that leave a mount, by what code did.
use Rattle.std.proofs.Common.{◌≡◌, ℕ, ◌<◌, ◌≤◌, ◌^◌, ◌==◌, ◌||◌, ◌⊎◌, Bool, true, false, cond, not, nat_lt, List, [], ◌∷◌, ◌++◌, Option, Some, None, Ok, Err, length, map, refl, sym, ap, subst, ◌∙◌}
use Rattle.std.proofs.Common.{arith, is_some, filter, sum_by}
use Rattle.std.proofs.lemmas.Bool.{ltb-false}
use Rattle.std.specs.List.{list_any}
use Rattle.std.proofs.lemmas.List.{length-map}
use Rattle.std.proofs.lemmas.List.Elements.{filter-append}
use Rattle.std.proofs.lemmas.List.Filters.{length-filter_both}
use Rattle.hp_laws.proofs.Variants.{Done, PoolAnswer, Section}
use Rattle.hp_model.specs.declared.refusal.Refusal.TheVariants as r
use Rattle.hp_model.proofs.Words.{File, Map, Mount, Plan, Spot, ThroughDoor, file_reserves, file_without, gives, has_maps_of, is_among, is_bad_range, is_kept, is_map, is_of, maps_of, spot, unless}
use Rattle.hp_model.proofs.Words.{unmap, unmapped_from, with_value, without_task}
use Rattle.hp_lookup.proofs.Words.{Files, all_maps, all_tasks, is_first_of}
use Rattle.hp_lookup.proofs.MapNumbers.{among_distinct}
use Rattle.hp_mount_laws.specs.Done.{Tried}
use Rattle.hp_mount_laws.specs.Kept.{IsKept, mount_from}
use Rattle.hp_mount_laws.proofs.Trying.{tests_fail, tests_pass}
use Rattle.hp_mount_laws.proofs.Giving.{bad_range, good_range}
use Rattle.hp_mount_laws.proofs.Ways.{fresh_choice, is_fresh, refused_at}
use Rattle.hp_subpool.specs.Subpool.{Subpool}

-- ---- which task has maps

pub has_as : (task : ℕ) (fs : List File) → not (is_first_of task fs) ≡ list_any (is_of task) (all_maps fs)
has_as task fs = twice (is_among task (all_tasks fs)) ∙ among_distinct task (map (λ (m : Map). m.task) (all_maps fs)) ∙ each (all_maps fs)
  where
    twice : (b : Bool) → not (not b) ≡ b
    twice true = refl
    twice false = refl

    each : (ms : List Map) → is_among task (map (λ (m : Map). m.task) ms) ≡ list_any (is_of task) ms
    each [] = refl
    each (m ∷ ms) = ap (λ b. (m.task == task) || b) (each ms)

-- ---- what the share holds bounds the reservations

pub few_reserves : (s : Subpool) (v : Files) (inodes : Option ℕ) → IsKept s v (mount_from s inodes v.files) → (held : ℕ) → held ≡ s.held → held < 2 ^ 64 → sum_by file_reserves v.files < 2 ^ 64
few_reserves s v inodes c held held_is small = (let all = c.used in let pages = c.pages in omega (arith, all, pages, held_is, small))

-- ---- the files that are left are no more

module _ (change : File → File) where
  pub fewer : (fs : List File) → length (filter is_kept (map change fs)) ≤ length fs
  fewer fs = (let both = length-filter_both is_kept (λ x. not (is_kept x)) (λ x. refl) (map change fs) in let long = length-map fs change in omega (arith, both, long))

-- ---- a task that had a map leaves fewer

some_go : (test : Map → Bool) (ms : List Map) → list_any test ms ≡ true → length (filter (λ m. not (test m)) ms) < length ms
some_go test [] e = cc
some_go test (m ∷ ms) e = at (test m) (some_go test ms) e
  where
    most : length (filter (λ m. not (test m)) ms) ≤ length ms
    most = (let both = length-filter_both (λ m. not (test m)) (λ m. not (not (test m))) (λ x. refl) ms in omega (arith, both))

    at : (b : Bool) → (list_any test ms ≡ true → length (filter (λ m. not (test m)) ms) < length ms) → (b || list_any test ms) ≡ true →
        length (cond (not b) (m ∷ filter (λ m. not (test m)) ms) (filter (λ m. not (test m)) ms)) < length (m ∷ ms)
    at true rest e = (let few = most in omega (arith, few))
    at false rest e = (let few = rest e in omega (arith, few))

maps_without : (task : ℕ) (fs : List File) → all_maps (filter is_kept (map (file_without task) fs)) ≡ filter (λ (m : Map). not (is_of task m)) (all_maps fs)
maps_without task [] = refl
maps_without task (f ∷ fs) =
    at (is_kept (file_without task f)) refl (maps_without task fs)
    ∙ sym (filter-append (λ (m : Map). not (is_of task m)) f.maps (all_maps fs))
  where
    bare : (c : Bool) (ms : List Map) → (c || nat_lt 0 (length ms)) ≡ false → ms ≡ []
    bare true ms e = cc
    bare false [] e = refl
    bare false (m ∷ ms) e = (let none = ltb-false 0 (length (m ∷ ms)) e in absurd (omega (arith, none)))

    at : (b : Bool) → is_kept (file_without task f) ≡ b → all_maps (filter is_kept (map (file_without task) fs)) ≡ filter (λ (m : Map). not (is_of task m)) (all_maps fs)
        → all_maps (cond b (file_without task f ∷ filter is_kept (map (file_without task) fs)) (filter is_kept (map (file_without task) fs)))
        ≡ filter (λ (m : Map). not (is_of task m)) f.maps ++ filter (λ (m : Map). not (is_of task m)) (all_maps fs)
    at true e rest = ap (λ ms. filter (λ (m : Map). not (is_of task m)) f.maps ++ ms) rest
    at false e rest = rest ∙ ap (λ ms. ms ++ filter (λ (m : Map). not (is_of task m)) (all_maps fs)) (sym (bare (is_some f.name) (filter (λ (m : Map). not (is_of task m)) f.maps) e))

pub fewer_maps : (task : ℕ) (m n : Mount) → n ≡ without_task task m → has_maps_of task (Some m) ≡ true → length (maps_of n) < length (maps_of m)
fewer_maps task m n n_is has =
    let few = some_go (is_of task) (maps_of m) has in
    let left = ap (λ (x : Mount). length (maps_of x)) n_is in
    let same = ap length (maps_without task m.files) in
    omega (arith, few, left, same)

-- ---- a plan that is carried out, whatever the choice

pub tried : {X : Type 0} (took : X → Section → PoolAnswer → X → Type 0) (full : X → Type 0) (m : Mount) (plan : Plan) (door : X) (n : Mount)
    (left : X) → ThroughDoor took plan (Some m) door (Ok Done) (Some n) left → Tried took full (λ c. plan) (Some m) door (Ok Done) (Some n) left
tried took full m plan door n left h = (fresh_choice false (Some m), is_fresh false (Some m), h)

-- ---- the plan of an unmap

module _ {X : Type 0} (took : X → Section → PoolAnswer → X → Type 0) (full : X → Type 0) (m : Mount) (task number a b : ℕ) (door : X) where
  abbrev plan : Plan
  plan = with_value (spot m (is_map task number)) r.NoSuchMap (unmap m task number a b)

  pub no_map_there : spot m (is_map task number) ≡ None → Tried took full (λ c. plan) (Some m) door (Err r.NoSuchMap) (Some m) door
  no_map_there e = (
    fresh_choice false (Some m),
    is_fresh false (Some m),
    subst (λ o. ThroughDoor took (with_value o r.NoSuchMap (unmap m task number a b)) (Some m) door (Err r.NoSuchMap) (Some m) door) (sym e) (refused_at took m r.NoSuchMap door),
  )

  module _ (s : Spot) (there : spot m (is_map task number) ≡ Some s) where
    abbrev after : Plan
    after = gives Done (Some m) (Some (unmapped_from task number a b m))

    of_map : plan ≡ unless ((is_bad_range a b, r.OutOfRange) ∷ []) after
    of_map = ap (λ o. with_value o r.NoSuchMap (unmap m task number a b)) there

    pub bad_indices : (b ≤ a) ⊎ ((a < b) × (16777216 < b)) → Tried took full (λ c. plan) (Some m) door (Err r.OutOfRange) (Some m) door
    bad_indices bad = (
      fresh_choice false (Some m),
      is_fresh false (Some m),
      subst (λ p. ThroughDoor took p (Some m) door (Err r.OutOfRange) (Some m) door)
          (sym (of_map ∙ tests_fail ((is_bad_range a b, r.OutOfRange) ∷ []) after r.OutOfRange (bad_range a b bad)))
          (refused_at took m r.OutOfRange door),
    )

    pub indices_left : a < b → b ≤ 16777216 → (n : Mount) (left : X) → ThroughDoor took after (Some m) door (Ok Done) (Some n) left → Tried took full (λ c. plan) (Some m) door (Ok Done) (Some n) left
    indices_left l few n left h = (
      fresh_choice false (Some m),
      is_fresh false (Some m),
      subst (λ p. ThroughDoor took p (Some m) door (Ok Done) (Some n) left) (sym (of_map ∙ tests_pass ((is_bad_range a b, r.OutOfRange) ∷ []) after (good_range a b l few))) h,
    )
