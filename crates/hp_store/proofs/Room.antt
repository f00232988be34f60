-- Slots of which only the first were ever used.
use Rattle.std.proofs.Common.{◌≡◌, ℕ, ◌+◌, ◌-◌, ◌<◌, ◌≤◌, true, is_some, List, [], ◌∷◌, ◌++◌, length, replicate, slice_index_or, slice_set, Option, None, Some, sym, ◌∙◌, ap, suc, refl, arith}
use Rattle.std.proofs.Common.{option_map}
use Rattle.std.proofs.lemmas.List.{append_assoc, length-append, length-replicate, length-set, replicate-append-replicate, set-append_left, set_at}
use Rattle.std.proofs.lemmas.List.Sums.{sum_by-append}
use Rattle.std.proofs.lemmas.List.Folds.{sum_by-replicate}
use Rattle.hp_store.specs.Store.{Holding, Lengthens, at_slot, held_count, holders_of, one_if_held}
use Rattle.hp_store.specs.Kept.{with_free}
use Rattle.hp_store.proofs.Empty.{none_past, some_within}
use Rattle.hp_store.proofs.Free.{none_held}

pub held_some : (o : Option Holding) → holders_of o ≡ 1 → is_some o ≡ true
held_some None e = absurd (omega (arith, e))
held_some (Some h) e = refl

module _ (count : ℕ) (first : List (Option Holding)) where
  abbrev rest : List (Option Holding)
  rest = replicate (count - length first) None

  pub long : length first ≤ count → length (with_free count first) ≡ count
  long fits = omega (arith, length-append first rest, length-replicate {A = Option Holding} (count - length first) None, fits)

  pub same : (n : ℕ) → slice_index_or (with_free count first) n None ≡ slice_index_or first n None
  same n = none_past first (count - length first) n

  pub held_free : held_count (with_free count first) ≡ held_count first
  held_free = omega (arith, sum_by-append one_if_held first rest, sum_by-replicate {X = Option Holding} one_if_held (count - length first) None)

  pub set_used : (n : ℕ) (x : Option Holding) → n < length first → with_free count (slice_set first n x) ≡ slice_set (with_free count first) n x
  set_used n x less = ap (λ k. slice_set first n x ++ replicate (count - k) None) (length-set first n x) ∙ sym (set-append_left first rest n x less)

  -- what stands in a slot is changed
  pub used_within : (n : ℕ) → is_some (slice_index_or (with_free count first) n None) ≡ true → n < length first
  used_within n some = some_within first n (ap is_some (sym (same n)) ∙ some)

  pub changed : (f : Holding → Holding) (n : ℕ) → is_some (slice_index_or (with_free count first) n None) ≡ true → with_free count (at_slot f n first) ≡ at_slot f n (with_free count first)
  changed f n some =
      set_used n (option_map f (slice_index_or first n None)) (used_within n some)
      ∙ ap (λ x. slice_set (with_free count first) n (option_map f x)) (sym (same n))

  -- the next slot is used
  pub pushed : (x : Option Holding) → length first < count → with_free count (first ++ x ∷ []) ≡ slice_set (with_free count first) (length first) x
  pushed x less =
      let left : ℕ = count - length (first ++ x ∷ []) in
      let one : count - length first ≡ suc left = omega (arith, length-append first (x ∷ []), less) in
      append_assoc first (x ∷ []) (replicate left None)
      ∙ sym (rw one (set_at first None (replicate left None) x (length first) refl))

  -- there is room for more
  pub longer : (more : ℕ) → length first ≤ count → with_free (count + more) first ≡ with_free count first ++ replicate more None
  longer more fits =
      let all : count + more - length first ≡ count - length first + more = omega (arith, fits) in
      ap (λ k. first ++ replicate k None) all
      ∙ ap (λ xs. first ++ xs) (sym (replicate-append-replicate (count - length first) more None))
      ∙ sym (append_assoc first rest (replicate more None))

-- where none has a page it is as if none was used
pub none_used : (count : ℕ) (first : List (Option Holding)) → length first ≤ count → held_count first ≡ 0 → with_free count [] ≡ with_free count first
none_used count first fits none =
    let left : ℕ = count - length first in
    let all : length first + left ≡ count - length {A = Option Holding} [] = omega (arith, fits) in
    sym (
    ap (λ xs. xs ++ replicate left None) (none_held first none)
    ∙ replicate-append-replicate (length first) left None
    ∙ ap (λ k. replicate k None) all
    )

pub lengthens : (old new : ℕ) (first : List (Option Holding)) → length first ≤ old → old ≤ new → Lengthens (with_free old first) (with_free new first)
lengthens old new first fits more =
    let e : old + (new - old) ≡ new = omega (arith, more) in
    let by : length (with_free new first) - length (with_free old first) ≡ new - old = omega (arith, long old first fits, long new first (omega (arith, fits, more))) in
    rw by (ap (λ k. with_free k first) (sym e) ∙ longer old first (new - old) fits)
