-- A copy is put in: which copies its map has then.
use Rattle.std.proofs.Common.{◌≡◌, ◌≢◌, ℕ, zero, suc, ◌-◌, ◌<◌, ◌≤◌, ◌==◌, ⊎_elim, ◌⊎◌, inl, inr, Bool, true, false, cond, nat_lt, Some, List, [], ◌∷◌, length, refl, sym, ap, ◌∙◌, arith}
use Rattle.std.proofs.Common.{slice_index_or, slice_set, sum_by}
use Rattle.std.proofs.lemmas.Bool.{ltb-false}
use Rattle.std.proofs.lemmas.Bool.Decides.{eqb_tells}
use Rattle.std.proofs.lemmas.List.{get_or-set_same, get_or-set_other}
use Rattle.std.proofs.lemmas.List.Sums.{sum_by-cons}
use Rattle.hp_laws.proofs.Variants.{Gone, Live, Place}
use Rattle.hp_model.proofs.Words.{Mapping, copy_of, is_live, place_at, with_place}
use Rattle.hp_lookup.proofs.Words.{copy_in, in_map, in_place, no_mapping}
use Rattle.hp_file.proofs.Drops.{live_copy, place_inside}
use Rattle.hp_file.proofs.FirstCopy.{live_inside}
use Rattle.hp_lookup.proofs.Level.{bare_map, clash}
use Rattle.hp_lookup.proofs.Lifting.{at_most, is_it}

-- a number that stands nowhere is no copy
pub no_copy_in : (n : ℕ) (ms : List (Mapping ℕ)) → sum_by (in_map n) ms ≡ 0 → (b i : ℕ) → copy_in ms b i ≢ Some n
no_copy_in n [] none b i e = absurd (clash n (copy_of (place_at no_mapping i)) (bare_map no_mapping (λ k. refl) i) e)
no_copy_in n (m ∷ ms) none zero i e =
    let at = place_inside m i n e in
    let most = at_most (λ (p : Place ℕ). p) (λ p. p) (in_place n) (λ p h. refl) m.places (i - m.start) Gone at.0 in
    let one = ap (in_place n) (live_copy (slice_index_or m.places (i - m.start) Gone) n at.1).1 ∙ is_it n in
    let parts = sum_by-cons (in_map n) m ms in
    absurd (omega (arith, most, one, parts, none))
no_copy_in n (m ∷ ms) none (suc b) i e = (let parts = sum_by-cons (in_map n) m ms in no_copy_in n ms (omega (arith, parts, none)) b i e)

-- a copy is put at a live place
pub put_place : (y : Mapping ℕ) (i n : ℕ) (c : Bool) → is_live (place_at y i) ≡ true → (q number : ℕ) →
    copy_of (place_at (with_place y i (Live c (Some n))) q) ≡ Some number → (copy_of (place_at y q) ≡ Some number) ⊎ ((number ≡ n) × (q ≡ i))
put_place y i n c live q number = either (nat_lt q y.start) refl
  where
    at : (y.start ≤ i) × (i - y.start < length y.places)
    at = live_inside y i live

    some_is : (a b : ℕ) → Some a ≡ Some b → a ≡ b
    some_is a b e = cc

    either : (b : Bool) → nat_lt q y.start ≡ b → copy_of (cond b Gone (slice_index_or (slice_set y.places (i - y.start) (Live c (Some n))) (q - y.start) Gone)) ≡ Some number
        → (copy_of (cond b Gone (slice_index_or y.places (q - y.start) Gone)) ≡ Some number) ⊎ ((number ≡ n) × (q ≡ i))
    either true from e = inl e
    either false from e = ⊎_elim
        (λ (z : (((q - y.start) == (i - y.start)) ≡ true) × (q - y.start ≡ i - y.start)).
        (let low = ltb-false q y.start from in
        let same = z.1 in
        let start = at.0 in
        let here = ap (λ o. copy_of (slice_index_or (slice_set y.places (i - y.start) (Live c (Some n))) o Gone)) z.1
        ∙ ap copy_of (get_or-set_same y.places (i - y.start) (Live c (Some n)) Gone at.1) in
        inr (sym (some_is n number (sym here ∙ e)), omega (arith, low, same, start))))
        (λ (z : (((q - y.start) == (i - y.start)) ≡ false) × (q - y.start ≢ i - y.start)).
        inl (ap copy_of (sym (get_or-set_other y.places (i - y.start) (q - y.start) (Live c (Some n)) Gone z.1)) ∙ e))
        (eqb_tells (q - y.start) (i - y.start))
