use Rattle.std.proofs.lemmas.Grind.{common_steps}
-- What is counted of a run of a map's places.
use Rattle.std.proofs.Common.{◌≡◌, ℕ, ◌+◌, ◌-◌, ◌≤◌, List, ◌++◌, drop, length, slice_index_or, sym, ◌∙◌, ap, arith, IsSome, sum_by}
use Rattle.std.proofs.lemmas.List.{drop-append-le, drop-drop, get_or-drop, get_or-take, length-drop, length-take, take-append-drop}
use Rattle.std.proofs.lemmas.List.Sums.{sum_by-append, sum_by-take-drop}
use Rattle.hp_mapping.specs.Mapped.{IsPlaceRun}
use Rattle.hp_laws.proofs.Variants.{Gone, Place}
use Rattle.hp_model.proofs.Words.{copy_of}
use Rattle.hp_store.specs.Store.{Store}
use Rattle.hp_lookup.proofs.Words.{IsShared, in_place}
use Rattle.hp_file.proofs.Sharing.{share_none, share_then}

module _ (at : ℕ) (places run : List (Place ℕ)) (is : IsPlaceRun at places run) where
  -- what stands behind it
  abbrev pub behind : List (Place ℕ)
  behind = drop (length run) (drop at places)

  pub run_fits : at + length run ≤ length places
  run_fits = (let whole = ap length is.run_is in omega (arith, whole, is.some, length-take (length run) (drop at places), length-drop at places))

  pub run_first : IsSome (copy_of (slice_index_or places at Gone)) → IsSome (copy_of (slice_index_or run 0 Gone))
  run_first some = grind (arith, common_steps, get_or-take, get_or-drop)

  module _ (c : Place ℕ → ℕ) where
    pub run_sum : sum_by c (drop at places) ≡ sum_by c run + sum_by c behind
    run_sum = (let whole = sum_by-take-drop c (drop at places) (length run) in let same = ap (sum_by c) is.run_is in omega (arith, whole, same))

    -- of those that are left of it
    pub left_sum : (k : ℕ) → k ≤ length run → sum_by c (drop (at + k) places) ≡ sum_by c (drop k run) + sum_by c behind
    left_sum k le =
        let whole : drop at places ≡ run ++ behind = sym (take-append-drop (length run) (drop at places)) ∙ ap (λ xs. xs ++ behind) (sym is.run_is) in
        ap (sum_by c) (sym (drop-drop k at places) ∙ ap (drop k) whole ∙ drop-append-le k run behind le) ∙ sum_by-append c (drop k run) behind

-- the same holders, with what stands behind
pub shared_before : (ws xs ys zs rest : List (Place ℕ)) (s t : Store) → IsShared xs ys s t → ((n : ℕ) → sum_by (in_place n) ws ≡ sum_by (in_place n) xs + sum_by (in_place n) rest)
    → ((n : ℕ) → sum_by (in_place n) zs ≡ sum_by (in_place n) ys + sum_by (in_place n) rest) → IsShared ws zs s t
shared_before ws xs ys zs rest s t shared all last = record {
  less = λ n. (let one = shared.less n in let whole = all n in let left = last n in omega (arith, one, whole, left));
  sharing = share_then (λ n. sum_by (in_place n) xs - sum_by (in_place n) ys) (λ n. 0) (λ n. sum_by (in_place n) ws - sum_by (in_place n) zs) s t t shared.sharing (share_none t shared.sharing.some)
      (λ n. (let whole = all n in let left = last n in omega (arith, whole, left)));
}
