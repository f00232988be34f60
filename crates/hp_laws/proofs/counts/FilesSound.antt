-- Each change of a file keeps it sound.
use Rattle.std.proofs.lemmas.Grind.{common_steps}
use Rattle.std.proofs.Common.{◌≡◌, inl, inr, ℕ, ◌+◌, ◌-◌, ◌<◌, ◌≤◌, Bool, true, false, not, None, Some, List, [], ◌∷◌, length, map, get_or, cond, arith, refl, sym, ap, ◌∙◌, subst, nat_lt}
use Rattle.std.proofs.Common.{slice_index_or, slice_set}
use Rattle.std.proofs.lemmas.Bool.{and_parts, cases_eq, cond_both, false_from_ne_true, ltb-false, ltb-true}
use Rattle.std.proofs.lemmas.List.{get_or-map, get_or-set_other, get_or-set_same, get_or_past, length-map, length-set}
use Rattle.std.proofs.lemmas.List.Elements.{All-map, All-push}
use Rattle.std.proofs.lemmas.List.Sums.{sum_by-append, sum_by-cons}
use Rattle.hp_laws.proofs.Variants.{Cell, Gone, Place, Reserving, Sharing}
use Rattle.hp_model.proofs.Words.{Copy, File, FileHasCopy, HasCopy, IsSoundMap, Map, Page, cell_punched, cells_mapped, cells_to, copy_of, edit_range, file_forked, file_unmapped, file_without, is_left}
use Rattle.hp_model.proofs.Words.{is_of, is_stamp, map_has, map_punched, map_unmapped, mapped, new_map, no_map, owns_stamp, place_at, punched, robbed, truncated, unlinked, with_map, without_copy}
use Rattle.hp_model.proofs.Words.{without_range}
use Rattle.hp_model.proofs.Editing.{get_or-edit_in, length-edit_range}
use Rattle.hp_laws.proofs.counts.Copies.{map_copy, none_copied}
use Rattle.hp_laws.proofs.counts.FileMoves.{IsMapAt}
use Rattle.hp_laws.proofs.counts.FewerCopies.{IsLess, KeepsFile, keeps_by, keeps_less, less_all, less_filtered, less_forked, less_mapped, less_placed, less_punched, less_range, less_robbed, less_same}
use Rattle.hp_laws.proofs.lists.Looks.{same_more, same_one}

-- ---- copies go, or none changes

pub cells_keep : (f : File) (cells : List (Cell Page)) → length f.cells ≤ length cells → KeepsFile f (record f { cells = cells })
cells_keep f cells long = keeps_less f (record f { cells = cells }) (less_all f.maps) long

pub unlinked_keeps : (f : File) → KeepsFile f (unlinked f)
unlinked_keeps f = keeps_less f (unlinked f) (less_all f.maps) (omega arith)

pub punched_keeps : (a b : ℕ) (f : File) → KeepsFile f (punched a b f)
punched_keeps a b f =
    keeps_less f (punched a b f) (less_mapped (map_punched a b) (less_punched a b) f.maps) (let same = length-edit_range cell_punched a b f.cells in omega (arith, same))

pub unmapped_keeps : (test : Map → Bool) (a b : ℕ) (f : File) → KeepsFile f (file_unmapped test a b f)
unmapped_keeps test a b f =
    let less = λ (x : Map). cond_both (test x) (without_range a b x) x (IsLess x) (λ e. less_range a b x) (λ e. less_same x) in
    keeps_less f (file_unmapped test a b f) (less_filtered (is_left test) f.maps (map (map_unmapped test a b) f.maps) (less_mapped (map_unmapped test a b) less f.maps)) (omega arith)

pub without_keeps : (task : ℕ) (f : File) → KeepsFile f (file_without task f)
without_keeps task f = keeps_less f (file_without task f) (less_filtered (λ m. not (is_of task m)) f.maps f.maps (less_all f.maps)) (omega arith)

pub forked_keeps : (parent child : ℕ) (f : File) → KeepsFile f (file_forked parent child f)
forked_keeps parent child f = keeps_less f (file_forked parent child f) (less_forked (λ m. not (is_of child m)) (is_of parent) child f.maps) (omega arith)

-- an owner takes its copy from all other maps
pub back_keeps : (f : File) (k stamp : ℕ) (x : Map) → IsMapAt f k x → KeepsFile f (with_map (record f { maps = map (robbed stamp) f.maps }) k x)
back_keeps f k stamp x at =
    let left : List Map = map (robbed stamp) f.maps in
    let long = length-map f.maps (robbed stamp) in
    let there = at.within in
    let less : (l : ℕ) → l < length f.maps → IsLess (get_or f.maps l no_map) (get_or (slice_set left k x) l no_map) = λ l within.
    elim (cases_eq l k) as (λ _. IsLess (get_or f.maps l no_map) (get_or (slice_set left k x) l no_map)) [
      | inl same ↦
          subst (λ y. IsLess (get_or f.maps y no_map) (get_or (slice_set left k x) y no_map)) (sym same)
          (subst (λ y. IsLess y (get_or (slice_set left k x) k no_map)) (sym (at.is no_map))
          (subst (IsLess x) (sym (get_or-set_same left k x no_map (omega (arith, long, there)))) (less_same x)))
      | inr other ↦
          subst (IsLess (get_or f.maps l no_map)) (sym (get_or-set_other left k l x no_map other ∙ get_or-map (robbed stamp) f.maps l no_map no_map within))
          (less_robbed stamp (get_or f.maps l no_map))
    ] in
    keeps_less f (with_map (record f { maps = left }) k x) (less_placed f.maps (slice_set left k x) (length-set left k x ∙ long) less) (omega arith)

-- ---- what is cut off has no copy

module _ (n pages : ℕ) (x : Map) (i : ℕ) (a : Copy) (from : n ≤ i) (to : i < n + pages) where
  abbrev cut : List (Place Copy)
  cut = edit_range without_copy (n - x.start) (n + pages - x.start) x.places

  none_left : (p : Place Copy) → copy_of (without_copy p) ≡ Some a → ⊥
  none_left p e = grind arith

  none_at : x.start ≤ i → copy_of (get_or cut (i - x.start) Gone) ≡ Some a → ⊥
  none_at low has = grind (arith, none_left, get_or-edit_in, ltb-true, ltb-false, length-edit_range, get_or_past)

  cut_off : HasCopy (map_punched n (n + pages) x) i a → ⊥
  cut_off = grind (arith, none_at, ltb-false)

pub length-cells_to : (n : ℕ) (cells : List (Cell Page)) → length (cells_to n cells) ≡ n
length-cells_to n cells = grind (arith, common_steps)

pub truncated_keeps : (n : ℕ) (f : File) → KeepsFile f (truncated n f)
truncated_keeps n f =
    let g : File = truncated n f in
    let pages : ℕ = length f.cells in
    let h : Map → Map = map_punched n (n + pages) in
    keeps_by f g (less_mapped h (less_punched n (n + pages)) f.maps)
    (λ sound. All-map (IsSoundMap (length g.cells)) h f.maps
    (λ k d l i a has. (let x : Map = slice_index_or f.maps k d in
    let less = less_punched n (n + pages) x in
    let at = sound.maps k d l i a (less.copies i a has) in
    let below = at.below in
    let long = length-cells_to n f.cells in
    let short : i < n = elim (nat_lt i n) as (λ b. nat_lt i n ≡ b → i < n) [
      | true ↦ λ e. ltb-true i n e
      | false ↦ λ e. absurd (cut_off n pages x i a (ltb-false i n e) (omega (arith, below)) has)
    ] refl in
    record { private = at.private; below = omega (arith, long, short); consumed = λ o. less.consumed o i a has (at.consumed (less.owner o)) })))

-- ---- a map more

module _ (task number a n : ℕ) (sharing : Sharing) (reserving : Reserving) where
  abbrev new : Map
  new = new_map task number a n sharing reserving

  blank : (i : ℕ) → copy_of (place_at new i) ≡ None
  blank i = grind (arith, common_steps)

  owns_none : (stamp : ℕ) → owns_stamp stamp new ≡ false
  owns_none stamp =
      false_from_ne_true (owns_stamp stamp new)
      (λ e. (let held = map_copy (is_stamp stamp) new (and_parts new.owner (map_has (is_stamp stamp) new) e).1 in let none = sym (blank held.0) ∙ held.2 in cc))

  long : (cells : List (Cell Page)) → length cells ≤ length (cells_mapped sharing reserving a n cells)
  long cells = grind (arith, common_steps)

  pub mapped_keeps : (f : File) → KeepsFile f (mapped task number a n sharing reserving f)
  mapped_keeps f =
      let g : File = mapped task number a n sharing reserving f in
      let copies : (i : ℕ) (x : Copy) → FileHasCopy g i x → FileHasCopy f i x = λ i x has.
      (has.0, sym (same_more (λ m. copy_of (place_at m i)) no_map f.maps (new ∷ []) (same_one (λ m. copy_of (place_at m i)) no_map new (blank i ∙ sym (none_copied i))) has.0) ∙ has.1) in
      record {
        sound = λ sound. record {
          maps = All-push (IsSoundMap (length g.cells)) f.maps new
              (λ k d l i x has. (let at = sound.maps k d l i x has in let below = at.below in
              record { private = at.private; below = omega (arith, below, long f.cells); consumed = at.consumed }))
              (λ i x has. (let none = sym (blank i) ∙ has in cc));
          copies = λ i j x y p q same. sound.copies i j x y (copies i x p) (copies j y q) same;
          owners = λ stamp.
              (let both = sum_by-append (λ y. cond (owns_stamp stamp y) 1 0) f.maps (new ∷ []) in
              let one = sum_by-cons (λ y. cond (owns_stamp stamp y) 1 0) new [] in
              let none = ap (λ b. cond b 1 0 + 0) (owns_none stamp) in
              let first = sound.owners stamp in
              omega (arith, both, one, none, first));
        };
        copies = copies;
      }
