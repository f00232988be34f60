use Rattle.std.proofs.lemmas.Grind.{common_steps}
-- The blocks after the first, by the numbers at their places.
use Rattle.std.proofs.Common.{◌≡◌, ◌≢◌, ℕ, zero, suc, false, ◌-◌, ◌<◌, ◌≤◌, List, [], ◌∷◌, ◌++◌, map, length, get_or, set, cond, Option, None, Some, IsSome, refl, sym, ap, subst, ◌∙◌, arith, ⊎_elim}
use Rattle.std.proofs.Common.{nat_lt, is_some, unwrap_or}
use Rattle.std.proofs.Math.ListN.{get_or-map as get_or-mapped}
use Rattle.std.proofs.lemmas.Bool.{cases_eq, cases_lt, false≢true, lt-ltb}
use Rattle.std.proofs.lemmas.List.{ext_get_or, get_or-map, get_or-set_same, get_or-set_other, get_or_past, get_or_read, length-map, length-set, map-set, set-get_or}
use Rattle.std.proofs.lemmas.List.Sums.{count_by-le-length, sum_by-set}
use Rattle.hp_inode.specs.Later.{AreLater, blocks_in, contents, made_count, nth_block}

-- the numbers are as they were
pub numbers_alike : (old new : List ℕ) (count : ℕ) → length new < 65536 → ((j : ℕ) → get_or new j 0 ≡ get_or old j 0) → made_count new ≡ made_count old →
    AreLater old count → AreLater new count
numbers_alike old new count few same made are = grind (arith, common_steps)

-- the next number, at a place that had none
module _ (places : List ℕ) (at count : ℕ) (lt : at < length places) (none : get_or places at 0 ≡ 0) (are : AreLater places count) where
  here : get_or (set places at (suc count)) at 0 ≡ suc count
  here = get_or-set_same places at (suc count) 0 lt

  other : (j : ℕ) → j ≢ at → get_or (set places at (suc count)) j 0 ≡ get_or places j 0
  other j differs = get_or-set_other places at j (suc count) 0 differs

  some_number : cond {A = ℕ} (nat_lt 0 (suc count)) 1 0 ≡ 1
  some_number = ap (λ t. cond {A = ℕ} t 1 0) (lt-ltb 0 (suc count) (omega arith))

  pub next_number : AreLater (set places at (suc count)) (suc count)
  next_number = grind (arith, common_steps, length-set, sum_by-set, some_number, here, other, cases_eq)

  pub number_fits : suc count < 65536
  number_fits = omega (arith, next_number.made, next_number.few, count_by-le-length (nat_lt 0) (set places at (suc count)))

-- ---- the blocks at the places

module _ {X : Type 0} where
  at_place : (places : List ℕ) (made : List X) (j : ℕ) → get_or (blocks_in places made) j None ≡ nth_block made (get_or places j 0)
  at_place places made j = get_or-mapped (nth_block made) places j 0

  content_at : (places : List ℕ) (made : List X) (j : ℕ) (empty : X) → get_or (contents empty (blocks_in places made)) j empty ≡ unwrap_or (nth_block made (get_or places j 0)) empty
  content_at places made j empty = get_or-mapped (λ block. unwrap_or block empty) (blocks_in places made) j None ∙ ap (λ b. unwrap_or b empty) (at_place places made j)

  -- other places with the same numbers
  pub places_alike : (first : X) (old new : List ℕ) (made kept : List X) (empty : X) → kept ≡ made → ((j : ℕ) → get_or new j 0 ≡ get_or old j 0) →
      (j : ℕ) → get_or (contents empty (Some first ∷ blocks_in new kept)) j empty ≡ get_or (contents empty (Some first ∷ blocks_in old made)) j empty
  places_alike first old new made kept empty is same zero = refl
  places_alike first old new made kept empty is same (suc j) =
      content_at new kept j empty ∙ ap (λ b. unwrap_or b empty) (ap (λ bs. nth_block bs (get_or new j 0)) is ∙ ap (nth_block made) (same j)) ∙ sym (content_at old made j empty)

  later_there : (first : X) (blocks : List (Option X)) (at : ℕ) → 0 < at → get_or (Some first ∷ blocks) at None ≡ get_or blocks (at - 1) None
  later_there first blocks at later = ap (λ i. get_or (Some first ∷ blocks) i None) {x = at} {y = suc (at - 1)} (omega (arith, later))

  some_within : (xs : List X) (k : ℕ) → k < length xs → IsSome (get_or (map Some xs) k None)
  some_within [] k within = absurd (omega (arith, within))
  some_within (x ∷ xs) zero within = refl
  some_within (x ∷ xs) (suc k) within = some_within xs k (omega (arith, within))

  -- a number, at the place of a block after the first
  pub has_number : (first : X) (places : List ℕ) (made : List X) (at : ℕ) → 0 < at → AreLater places (length made) → get_or places (at - 1) 0 ≢ 0 →
      IsSome (get_or (Some first ∷ blocks_in places made) at None)
  has_number first places made at later are some =
      let is : get_or places (at - 1) 0 ≡ suc (get_or places (at - 1) 0 - 1) = omega (arith, some) in
      subst (λ (block : Option X). IsSome block) (sym (later_there first (blocks_in places made) at later ∙ at_place places made (at - 1) ∙ ap (nth_block made) is))
      (some_within made (get_or places (at - 1) 0 - 1) (omega (arith, is, are.within (at - 1))))

  -- a block comes with nothing in it, at a place that had none
  module _ (first : X) (places : List ℕ) (made : List X) (at : ℕ) (empty : X) (later : 0 < at) (lt : at - 1 < length places) (none : get_or places (at - 1) 0 ≡ 0)
      (are : AreLater places (length made)) (pushed : List X) (is_pushed : pushed ≡ made ++ empty ∷ []) where
    pushed_of : (xs : List X) (k : ℕ) → k < length xs → get_or (map Some (xs ++ empty ∷ [])) k None ≡ get_or (map Some xs) k None
    pushed_of [] k within = absurd (omega (arith, within))
    pushed_of (x ∷ xs) zero within = refl
    pushed_of (x ∷ xs) (suc k) within = pushed_of xs k (omega (arith, within))

    pushed_last : (xs : List X) → get_or (map Some (xs ++ empty ∷ [])) (length xs) None ≡ Some empty
    pushed_last [] = refl
    pushed_last (x ∷ xs) = pushed_last xs

    older : (n : ℕ) → n ≤ length made → nth_block pushed n ≡ nth_block made n
    older zero within = refl
    older (suc n) within = ap (λ (xs : List X). get_or (map Some xs) n None) is_pushed ∙ pushed_of made n (omega (arith, within))

    module _ (count : ℕ) (is_count : count ≡ suc (length made)) where
      set_there : get_or (blocks_in (set places (at - 1) count) pushed) (at - 1) None ≡ Some empty
      set_there = grind (arith, common_steps, at_place, get_or-set_same, pushed_last)

      pub made_there : IsSome (get_or (Some first ∷ blocks_in (set places (at - 1) count) pushed) at None)
      made_there = subst (λ (block : Option X). IsSome block) (sym (later_there first (blocks_in (set places (at - 1) count) pushed) at later ∙ set_there)) refl

      pub made_alike : (j : ℕ) → get_or (contents empty (Some first ∷ blocks_in (set places (at - 1) count) pushed)) j empty
          ≡ get_or (contents empty (Some first ∷ blocks_in places made)) j empty
      made_alike zero = refl
      made_alike (suc j) = content_at (set places (at - 1) count) pushed j empty ∙ ⊎_elim
          (λ (same : j ≡ at - 1).
          ap (λ i. unwrap_or (nth_block pushed (get_or (set places (at - 1) count) i 0)) empty) same
          ∙ ap (λ b. unwrap_or b empty) (sym (at_place (set places (at - 1) count) pushed (at - 1)) ∙ set_there)
          ∙ sym (ap (λ i. unwrap_or (nth_block made (get_or places i 0)) empty) same ∙ ap (λ n. unwrap_or (nth_block made n) empty) none))
          (λ (differs : j ≢ at - 1). ap (λ b. unwrap_or b empty) (ap (nth_block pushed) (get_or-set_other places (at - 1) j count 0 differs)
          ∙ older (get_or places j 0) (are.within j)))
          (cases_eq j (at - 1)) ∙ sym (content_at places made j empty)

  -- a place with a number, counted from the first block
  module _ (first : X) (places : List ℕ) (made : List X) (at n : ℕ) (later : at ≡ 0 → ⊥) (are : AreLater places (length made))
      (some : IsSome (get_or (Some first ∷ blocks_in places made) at None)) (read : n ≡ get_or places (at - 1) n) where
    there : get_or (Some first ∷ blocks_in places made) at None ≡ nth_block made (get_or places (at - 1) 0)
    there = later_there first (blocks_in places made) at (omega (arith, later)) ∙ at_place places made (at - 1)

    number_some : get_or places (at - 1) 0 ≢ 0
    number_some none = false≢true (subst (λ (block : Option X). IsSome block) (there ∙ ap (nth_block made) none) some)

    place_within : at - 1 < length places
    place_within = grind (arith, common_steps, number_some, get_or_past, cases_lt)

    pub number_is : get_or places (at - 1) 0 ≡ suc (n - 1)
    number_is = omega (arith, get_or_read places (at - 1) n place_within read 0, number_some)

    pub one_at_least : 1 ≤ n
    one_at_least = omega (arith, get_or_read places (at - 1) n place_within read 0, number_some)

    pub number_within : n - 1 < length made
    number_within = omega (arith, number_is, are.within (at - 1))

    pub block_was : (block : X) → block ≡ get_or made (n - 1) block → get_or (Some first ∷ blocks_in places made) at None ≡ Some block
    block_was block is = there ∙ ap (nth_block made) number_is ∙ get_or-map Some made (n - 1) block None number_within ∙ ap Some (sym is)

    other_number : (w : X) (m : ℕ) → m ≢ suc (n - 1) → nth_block (set made (n - 1) w) m ≡ nth_block made m
    other_number w zero differs = refl
    other_number w (suc m) differs = ap (λ xs. get_or xs m None) (map-set Some made (n - 1) w) ∙ get_or-set_other (map Some made) (n - 1) m (Some w) None (λ same. differs (ap suc same))

    set_later : (w : X) → blocks_in places (set made (n - 1) w) ≡ set (blocks_in places made) (at - 1) (Some w)
    set_later w = ext_get_or None (blocks_in places (set made (n - 1) w)) (set (blocks_in places made) (at - 1) (Some w))
        (length-map places (nth_block (set made (n - 1) w)) ∙ sym (length-set (blocks_in places made) (at - 1) (Some w) ∙ length-map places (nth_block made)))
        (λ j lt. at_place places (set made (n - 1) w) j ∙ ⊎_elim
        (λ (same : j ≡ at - 1).
        ap (λ i. nth_block (set made (n - 1) w) (get_or places i 0)) same ∙ ap (nth_block (set made (n - 1) w)) number_is
        ∙ ap (λ xs. get_or xs (n - 1) None) (map-set Some made (n - 1) w) ∙ get_or-set_same (map Some made) (n - 1) (Some w) None (omega (arith, number_within, length-map {B = Option X} made Some))
        ∙ sym (ap (λ i. get_or (set (blocks_in places made) (at - 1) (Some w)) i None) same
        ∙ get_or-set_same (blocks_in places made) (at - 1) (Some w) None (omega (arith, place_within, length-map places (nth_block made)))))
        (λ (differs : j ≢ at - 1).
        other_number w (get_or places j 0) (λ same. differs (are.apart j (at - 1) (same ∙ sym number_is) (λ none. absurd (omega (arith, none, same)))))
        ∙ sym (get_or-set_other (blocks_in places made) (at - 1) j (Some w) None differs ∙ at_place places made j))
        (cases_eq j (at - 1)))

    pub block_set : (w : X) → Some first ∷ blocks_in places (set made (n - 1) w) ≡ set (Some first ∷ blocks_in places made) at (Some w)
    block_set w = ap (λ (bs : List (Option X)). Some first ∷ bs) (set_later w) ∙ ap (λ i. set (Some first ∷ blocks_in places made) i (Some w)) {x = suc (at - 1)} {y = at} (omega (arith, later))

-- ---- a block for another

module _ {X : Type 0} (empty : X) (blocks : List (Option X)) (at : ℕ) where
  content : get_or (contents empty blocks) at empty ≡ unwrap_or (get_or blocks at None) empty
  content = get_or-mapped (λ block. unwrap_or block empty) blocks at None

  pub block_there : (block : X) → get_or blocks at None ≡ Some block → get_or (contents empty blocks) at empty ≡ block
  block_there block is = content ∙ ap (λ b. unwrap_or b empty) is

  empty_of : (block : Option X) → is_some block ≡ false → unwrap_or block empty ≡ empty
  empty_of None none = refl
  empty_of (Some block) none = absurd (false≢true (sym none))

  pub none_there : is_some (get_or blocks at None) ≡ false → get_or (contents empty blocks) at empty ≡ empty
  none_there none = content ∙ empty_of (get_or blocks at None) none

  module _ (old now : X) (is : get_or blocks at None ≡ Some old) where
    within_all : at < length (contents empty blocks)
    within_all = grind (arith, common_steps, length-map, false≢true, get_or_past, cases_lt)

    pub here_now : get_or (contents empty (set blocks at (Some now))) at empty ≡ now
    here_now = ap (λ bs. get_or bs at empty) (map-set (λ block. unwrap_or block empty) blocks at (Some now)) ∙ get_or-set_same (contents empty blocks) at now empty within_all

    pub others_now : (j : ℕ) → j ≢ at → get_or (contents empty (set blocks at (Some now))) j empty ≡ get_or (contents empty blocks) j empty
    others_now j differs =
        ap (λ bs. get_or bs j empty) (map-set (λ block. unwrap_or block empty) blocks at (Some now)) ∙ get_or-set_other (contents empty blocks) at j now empty differs

    pub all_now : now ≡ old → contents empty (set blocks at (Some now)) ≡ contents empty blocks
    all_now same = ap (contents empty) (ap (set blocks at) (ap Some same ∙ sym is) ∙ set-get_or blocks at None)
