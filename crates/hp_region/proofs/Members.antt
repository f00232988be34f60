-- Which indices intervals hold: the sets of `RegionList`, by tests.
use Rattle.std.proofs.Common.{◌≡◌, ℕ, ◌+◌, ◌-◌, ◌<◌, ◌≤◌, min, max, Bool, true, false, not, ◌&&◌, ◌||◌, cond, List, [], ◌∷◌, ◌++◌, ltb, leb, sym, refl, ap, ◌∙◌, arith, ⊎_elim}
use Rattle.std.specs.Ordering.{nat_cmp}
use Rattle.std.specs.Cmp.{nat_cmp_total}
use Rattle.std.specs.FinSet as set
use Rattle.std.proofs.lemmas.Bool.{cases_Bool}
use Rattle.std.proofs.lemmas.Bool.Decides.{nat_tests}
use Rattle.hp_region.specs.Region.{range_set, members_in}
use Rattle.hp_region.specs.declared.spans.Span.{Span}
use Rattle.hp_model.proofs.Words.{within}
use Rattle.hp_model.proofs.Counting.{none_of_count}
use Rattle.hp_model.proofs.Ranges.{contains-range, within-in}
use Rattle.hp_region.specs.Spans.{spans_hold, AreSpansApart, indices_of, range_added, range_removed, left_piece, right_piece}

pub contains-indices_of : (xs : List Span) (q : ℕ) → set.contains (indices_of xs) q ≡ spans_hold xs q
contains-indices_of [] q = set.contains-empty nat_cmp q
contains-indices_of (s ∷ ss) q =
    set.contains-union nat_cmp_total _ _ q ∙ ap (λ b. b || set.contains (indices_of ss) q) (contains-range s.start s.end q) ∙ ap (λ b. within s.start s.end q || b) (contains-indices_of ss q)

-- what lies below an interval list is not in it
pub holds_below : (low : ℕ) (xs : List Span) (q : ℕ) → AreSpansApart low xs → q < low → spans_hold xs q ≡ false
holds_below low [] q p lt = refl
holds_below low (s ∷ ss) q p lt =
    let rest : spans_hold ss q ≡ false = holds_below (s.end + 1) ss q p.2 (omega (arith, p.0, p.1)) in
    let first : within s.start s.end q ≡ false = grind (arith, nat_tests, p.0) in
    rw (first, rest) refl

-- the joining of two ranges that touch
within_join : (a b c d q : ℕ) → a < b → c < d → a ≤ d → c ≤ b → within (min a c) (max b d) q ≡ (within a b q || within c d q)
within_join a b c d q some some' left right = grind (arith, nat_tests)

or_swap : (x y z : Bool) → (x || (y || z)) ≡ (y || (x || z))
or_swap true true z = refl
or_swap true false z = refl
or_swap false y z = refl

or_assoc : (x y z : Bool) → ((x || y) || z) ≡ (x || (y || z))
or_assoc true y z = refl
or_assoc false y z = refl

pub holds-added : (low a b : ℕ) (xs : List Span) (q : ℕ) → AreSpansApart low xs → a < b → spans_hold (range_added a b xs) q ≡ (within a b q || spans_hold xs q)
holds-added low a b [] q p lt = refl
holds-added low a b (s ∷ ss) q p lt =
    elim (ltb s.end a) as (λ t. ltb s.end a ≡ t → spans_hold (cond t (s ∷ range_added a b ss)
    (cond (ltb b s.start) (record { start = a; end = b } ∷ s ∷ ss) (range_added (min a s.start) (max b s.end) ss))) q
    ≡ (within a b q || spans_hold (s ∷ ss) q)) [
      | true ↦ λ e. ap (λ x. within s.start s.end q || x) (holds-added (s.end + 1) a b ss q p.2 lt) ∙ or_swap (within s.start s.end q) (within a b q) (spans_hold ss q)
      | false ↦ λ e. elim (ltb b s.start) as (λ t. ltb b s.start ≡ t → spans_hold (cond t (record { start = a; end = b } ∷ s ∷ ss)
          (range_added (min a s.start) (max b s.end) ss)) q ≡ (within a b q || spans_hold (s ∷ ss) q)) [
            | true ↦ λ e'. refl
            | false ↦ λ e'.
                let left : a ≤ s.end = grind (arith, nat_tests) in
                let right : s.start ≤ b = grind (arith, nat_tests) in
                holds-added (s.end + 1) (min a s.start) (max b s.end) ss q p.2 (omega (arith, p.1))
                ∙ ap (λ x. x || spans_hold ss q) (within_join a b s.start s.end q lt p.1 left right) ∙ or_assoc (within a b q) (within s.start s.end q) (spans_hold ss q)
          ] refl
    ] refl

holds-append : (xs ys : List Span) (q : ℕ) → spans_hold (xs ++ ys) q ≡ (spans_hold xs q || spans_hold ys q)
holds-append [] ys q = refl
holds-append (s ∷ ss) ys q = ap (λ b. within s.start s.end q || b) (holds-append ss ys q) ∙ sym (or_assoc (within s.start s.end q) (spans_hold ss q) (spans_hold ys q))

or_false : (x : Bool) → (x || false) ≡ x
or_false true = refl
or_false false = refl

holds-left : (a : ℕ) (s : Span) (q : ℕ) → spans_hold (left_piece a s) q ≡ (within s.start s.end q && ltb q a)
holds-left a s q = elim (ltb s.start a) as (λ t. ltb s.start a ≡ t → spans_hold (cond t (record { start = s.start; end = min a s.end } ∷ []) []) q ≡ (within s.start s.end q && ltb q a)) [
  | true ↦ λ e. or_false _ ∙ grind (arith, nat_tests)
  | false ↦ λ e. grind (arith, nat_tests)
] refl

holds-right : (b : ℕ) (s : Span) (q : ℕ) → spans_hold (right_piece b s) q ≡ (within s.start s.end q && leb b q)
holds-right b s q = elim (ltb b s.end) as (λ t. ltb b s.end ≡ t → spans_hold (cond t (record { start = max b s.start; end = s.end } ∷ []) []) q ≡ (within s.start s.end q && leb b q)) [
  | true ↦ λ e. or_false _ ∙ grind (arith, nat_tests)
  | false ↦ λ e. grind (arith, nat_tests)
] refl

-- what is below a or from b on is outside
outside : (a b q : ℕ) (x r : Bool) → a < b → ((x && ltb q a) || ((x && leb b q) || (r && not (within a b q)))) ≡ ((x || r) && not (within a b q))
outside a b q true true lt = grind (arith, nat_tests)
outside a b q true false lt = grind (arith, nat_tests)
outside a b q false true lt = refl
outside a b q false false lt = refl

pub holds-removed : (a b : ℕ) (xs : List Span) (q : ℕ) → a < b → spans_hold (range_removed a b xs) q ≡ (spans_hold xs q && not (within a b q))
holds-removed a b [] q lt = refl
holds-removed a b (s ∷ ss) q lt =
    holds-append (left_piece a s) _ q ∙ ap (λ x. spans_hold (left_piece a s) q || x) (holds-append (right_piece b s) _ q)
    ∙ rw (holds-left a s q, holds-right b s q, holds-removed a b ss q lt) (outside a b q (within s.start s.end q) (spans_hold ss q) lt)

-- the sets after a change
pub indices_of-added : (a b : ℕ) (xs : List Span) → AreSpansApart 0 xs → a < b → indices_of (range_added a b xs) ≡ set.union (indices_of xs) (range_set a b)
indices_of-added a b xs p lt =
    set.same_set nat_cmp_total set.nat_cmp-IsAntisymmetric _ _ (λ q.
    contains-indices_of _ q ∙ holds-added 0 a b xs q p lt ∙ or_comm (within a b q) (spans_hold xs q)
    ∙ sym (set.contains-union nat_cmp_total _ _ q ∙ ap (λ x. x || set.contains (range_set a b) q) (contains-indices_of xs q) ∙ ap (λ x. spans_hold xs q || x) (contains-range a b q)))
  where
    or_comm : (x y : Bool) → (x || y) ≡ (y || x)
    or_comm true true = refl
    or_comm true false = refl
    or_comm false true = refl
    or_comm false false = refl

pub indices_of-removed : (a b : ℕ) (xs : List Span) → a < b → indices_of (range_removed a b xs) ≡ set.difference (indices_of xs) (range_set a b)
indices_of-removed a b xs lt =
    set.same_set nat_cmp_total set.nat_cmp-IsAntisymmetric _ _ (λ q.
    contains-indices_of _ q ∙ holds-removed a b xs q lt
    ∙ sym (set.contains-difference nat_cmp_total _ _ q ∙ ap (λ x. x && not (set.contains (range_set a b) q)) (contains-indices_of xs q) ∙ ap (λ x. spans_hold xs q && not x) (contains-range a b q)))

-- a range without indices changes nothing
pub union_none : (a b : ℕ) (xs : List Span) → b ≤ a → indices_of xs ≡ set.union (indices_of xs) (range_set a b)
union_none a b xs le =
    set.same_set nat_cmp_total set.nat_cmp-IsAntisymmetric _ _ (λ q.
    sym (set.contains-union nat_cmp_total _ _ q ∙ ap (λ x. set.contains (indices_of xs) q || x) (contains-range a b q ∙ none q) ∙ or_false _))
  where
    none : (q : ℕ) → within a b q ≡ false
    none q = grind (arith, nat_tests)

pub difference_none : (s : set.FinSet nat_cmp) (a b : ℕ) → members_in s a b ≡ 0 → s ≡ set.difference s (range_set a b)
difference_none s a b none =
    set.same_set nat_cmp_total set.nat_cmp-IsAntisymmetric _ _ (λ q. sym (set.contains-difference nat_cmp_total _ _ q ∙ ap (λ x. set.contains s q && not x) (contains-range a b q) ∙ stays q))
  where
    by_false : (x w : Bool) → x ≡ false → (x && not w) ≡ x
    by_false x w p = rw p refl

    by_out : (x w : Bool) → w ≡ false → (x && not w) ≡ x
    by_out true w p = rw p refl
    by_out false w p = refl

    stays : (q : ℕ) → (set.contains s q && not (within a b q)) ≡ set.contains s q
    stays q = ⊎_elim
        (λ (inside : within a b q ≡ true). by_false (set.contains s q) (within a b q)
        (none_of_count (set.contains s) a (b - a) q none (within-in a b q inside).0
        (omega (arith, (within-in a b q inside).0, (within-in a b q inside).1))))
        (λ (out : within a b q ≡ false). by_out (set.contains s q) (within a b q) out)
        (cases_Bool (within a b q))
