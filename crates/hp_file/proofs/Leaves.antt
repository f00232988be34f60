use Rattle.std.proofs.lemmas.Grind.{common_steps}
-- Indices that leave a map, and what it holds of them.
use Rattle.std.proofs.Common.{◌≡◌, ℕ, ◌+◌, ◌-◌, ◌≤◌, Bool, true, false, cond, None, take, drop, refl, ap, ◌∙◌, arith, slice_index_or, count_by, nat_lt}
use Rattle.std.proofs.lemmas.Bool.{ltb-false}
use Rattle.hp_model.proofs.Editing.{sum_by-edit_range}
use Rattle.std.proofs.lemmas.List.Sums.{sum_by-take-drop}
use Rattle.hp_mapping.proofs.Ranges.{freed_range}
use Rattle.hp_file.proofs.Cutting.{none_mapped, punched_place}
use Rattle.hp_lookup.proofs.Mapped.{sum_edited}
use Rattle.hp_mapping.specs.Mapped.{IsClear, reserves_in}
use Rattle.hp_laws.proofs.Variants.{Gone, Live, Place}
use Rattle.hp_model.proofs.Words.{Mapping, copy_of, edit_range, is_unconsumed, map_punched, part, without_copy, without_range}
use Rattle.hp_model.proofs.Editing.{length-edit_range}
use Rattle.hp_laws.proofs.ending.Cuts.{ranged}
use Rattle.hp_lookup.proofs.Words.{in_map, in_place, owed}
use Rattle.hp_file.proofs.Punched.{edited_alike, in_from}

-- ---- copies go first

bare_place : (p : Place ℕ) → copy_of (without_copy p) ≡ None
bare_place Gone = refl
bare_place (Live c o) = refl

-- no copy is left from a to b
pub punched_clear : (a b : ℕ) (m : Mapping ℕ) → IsClear a b (map_punched a b m)
punched_clear a b m k from below = either (nat_lt k m.start) refl
  where
    either : (t : Bool) → nat_lt k m.start ≡ t → copy_of (cond t Gone (slice_index_or (edit_range without_copy (a - m.start) (b - m.start) m.places) (k - m.start) Gone)) ≡ None
    either true e = refl
    either false e =
        let low = ltb-false k m.start e in
        ap copy_of (ranged without_copy (a - m.start) (b - m.start) m.places (k - m.start) Gone refl
        ∙ ap (λ t. cond t (without_copy (slice_index_or m.places (k - m.start) Gone)) (slice_index_or m.places (k - m.start) Gone))
        (in_from (a - m.start) (b - m.start) (k - m.start) (omega (arith, from)) (omega (arith, below, low))))
        ∙ bare_place (slice_index_or m.places (k - m.start) Gone)

-- the same indices leave
pub punched_left : (a b : ℕ) (m : Mapping ℕ) → without_range a b (map_punched a b m) ≡ without_range a b m
punched_left a b m =
    ap (λ ps. record m { places = ps }) (edited_alike (λ p. Gone) Gone refl (a - m.start) (b - m.start) m.places
    (edit_range without_copy (a - m.start) (b - m.start) m.places) (length-edit_range without_copy (a - m.start) (b - m.start) m.places)
    (λ k in'. refl)
    (λ k out. ranged without_copy (a - m.start) (b - m.start) m.places k Gone refl ∙ ap (λ t. cond t (without_copy (slice_index_or m.places k Gone)) (slice_index_or m.places k Gone)) out))

-- ---- the reservations of the range

owes_bare : (p : Place ℕ) → cond {A = ℕ} (is_unconsumed (without_copy p)) 1 0 ≡ cond (is_unconsumed p) 1 0
owes_bare Gone = refl
owes_bare (Live true o) = refl
owes_bare (Live false o) = refl

pub punched_reserves : (a b : ℕ) (m : Mapping ℕ) → reserves_in a b (map_punched a b m) ≡ reserves_in a b m
punched_reserves a b m = grind (arith, common_steps, freed_range, sum_edited, owes_bare, punched_left)

-- what is left and what the range had
pub left_owed : (a b : ℕ) (m : Mapping ℕ) → reserves_in a b m + owed (without_range a b m) ≡ owed m
left_owed a b m = either m.owner
  where
    either : (t : Bool) → cond t (count_by is_unconsumed (part (a - m.start) (b - m.start) m.places)) 0
        + cond t (count_by is_unconsumed (edit_range (λ p. Gone) (a - m.start) (b - m.start) m.places)) 0 ≡ cond t (count_by is_unconsumed m.places) 0
    either true = (let parts = freed_range (a - m.start) (b - m.start) m.places in omega (arith, parts))
    either false = refl

-- ---- the numbers that are left

-- a number stands where it stands once the copies went
pub left_holds : (n a b : ℕ) (m : Mapping ℕ) → in_map n (without_range a b m) ≡ in_map n (map_punched a b m)
left_holds n a b m = grind (arith, common_steps, sum_by-edit_range, none_mapped, punched_place)

pub left_fewer : (n a b : ℕ) (m : Mapping ℕ) → in_map n (without_range a b m) ≤ in_map n m
left_fewer n a b m =
    let low : ℕ = a - m.start in
    let high : ℕ = b - m.start in
    let mid = take (high - low) (drop low m.places) in
    let gone = sum_by-edit_range (in_place n) (λ p. Gone) low high m.places in
    let none = none_mapped (in_place n) (λ p. Gone) (λ p. refl) mid in
    let front = sum_by-take-drop (in_place n) m.places low in
    let back = sum_by-take-drop (in_place n) (drop low m.places) (high - low) in
    omega (arith, gone, none, front, back)
