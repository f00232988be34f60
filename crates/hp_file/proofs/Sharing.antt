use Rattle.std.proofs.lemmas.Grind.{common_steps}
-- Holders that come, one by one.
use Rattle.std.proofs.Common.{◌≡◌, ◌≢◌, ℕ, zero, suc, ◌+◌, ◌-◌, ◌<◌, ◌≤◌, ◌==◌, ⊎_elim, true, false, cond, Option, Some, None, List, [], ◌∷◌, length, drop, refl, sym, ap, subst, ◌∙◌, arith, is_some}
use Rattle.std.proofs.Common.{slice_index_or, slice_set, sum_by, option_map}
use Rattle.std.proofs.lemmas.Bool.Decides.{eqb_tells, nat_tests}
use Rattle.std.proofs.lemmas.List.{at_drop_more, drop_all, get_or-set_same, get_or-set_other}
use Rattle.std.proofs.lemmas.List.Sums.{sum_by-cons, sum_by-set}
use Rattle.hp_mapping.specs.Mapped.{IsClear, has_copy}
use Rattle.hp_mapping.proofs.Ranges.{at_start}
use Rattle.hp_laws.proofs.Variants.{Gone, Live, Place}
use Rattle.hp_model.proofs.Words.{Mapping, copy_of, place_at}
use Rattle.hp_store.specs.Store as store
use Rattle.hp_store.specs.Store.{Holding, Store, held_count, held_once_more, holders_of, one_if_held, page_at}
use Rattle.hp_lookup.proofs.Words.{HasHolders, IsShared, IsSharing, at_node, in_place, more_in, more_of, page_in}
use Rattle.hp_file.proofs.Drops.{one_at}
use Rattle.hp_lookup.proofs.Lifting.{is_it}
use Rattle.hp_lookup.proofs.Views.{some_within}

-- ---- one holder

abbrev once_at : Store → ℕ → Holding → Store
once_at s number h = record s { pages = slice_set s.pages number (Some (held_once_more h)) }

module _ (s t : Store) (number : ℕ) (some : 0 < holders_of (page_at s number)) (each : HasHolders s) (t_is : t ≡ store.shared number s) where
  at_h : (h : Holding) → page_at s number ≡ Some h → IsSharing (one_at number) s t × (more_in t.pages ≡ more_in s.pages + 1)
  at_h h is = subst (λ u. IsSharing (one_at number) s u × (more_in u.pages ≡ more_in s.pages + 1)) (sym whole) (
    record {
      held = λ n. ⊎_elim (λ (e : ((n == number) ≡ true) × (n ≡ number)). (let here =
          ap holders_of (get_or-set_same s.pages number (Some (held_once_more h)) None within) in let was = ap holders_of is in let same = e.1 in
          same_at n e.1 here was))
          (λ (e : ((n == number) ≡ false) × (n ≢ number)). (let there = ap holders_of
          (get_or-set_other s.pages number n (Some (held_once_more h)) None e.1) in let none : one_at number n ≡ 0 = other n e.0 in
          omega (arith, there, none)))
          (eqb_tells n number);
      some = λ n none. ⊎_elim (λ (e : ((n == number) ≡ true) × (n ≡ number)). (let here = ap (λ k. holders_of (page_at (once_at s number h) k)) e.1 in
          let there = ap holders_of (get_or-set_same s.pages number (Some (held_once_more h)) None within) in
          absurd (omega (arith, here, there, none))))
          (λ (e : ((n == number) ≡ false) × (n ≢ number)). (let there = get_or-set_other s.pages number n (Some (held_once_more h)) None e.1 in there ∙ each n (sym (ap holders_of there) ∙ none)))
          (eqb_tells n number);
      same = λ n. ⊎_elim (λ (e : ((n == number) ≡ true) × (n ≡ number)). (ap (λ k. page_in (page_at (once_at s number h) k)) e.1
          ∙ ap page_in (get_or-set_same s.pages number (Some (held_once_more h)) None within) ∙ sym (ap page_in is)
          ∙ ap (λ k. page_in (page_at s k)) (sym e.1)))
          (λ (e : ((n == number) ≡ false) × (n ≢ number)). ap page_in (get_or-set_other s.pages number n (Some (held_once_more h)) None e.1))
          (eqb_tells n number);
      pages = (let step = sum_by-set one_if_held s.pages number (Some (held_once_more h)) None within in let was = ap one_if_held is in omega (arith, step, was));
      nodes = λ n. (let step = sum_by-set (at_node n) s.pages number (Some (held_once_more h)) None within in let was = ap (at_node n) is in omega (arith, step, was));
      going = refl;
      room = refl;
    },
    (let step = sum_by-set more_of s.pages number (Some (held_once_more h)) None within in let was = ap more_of is in let held = ap holders_of is in omega (arith, step, was, held, some)),
  )
    where
      whole : t ≡ once_at s number h
      whole = t_is ∙ ap (λ o. store.with_page number (option_map held_once_more o) s) is

      within : number < length s.pages
      within = some_within s.pages number h is

      other : (n : ℕ) → (n == number) ≡ false → one_at number n ≡ 0
      other n e = (let flip : (number == n) ≡ false = grind (arith, nat_tests, e) in ap (λ b. cond {A = ℕ} b 1 0) flip)

      same_at : (n : ℕ) → n ≡ number → holders_of (page_at (once_at s number h) number) ≡ h.holders + 1 → holders_of (page_at s number) ≡ h.holders →
          holders_of (page_at (once_at s number h) n) ≡ holders_of (page_at s n) + one_at number n
      same_at n e here was = subst (λ k. holders_of (page_at (once_at s number h) k) ≡ holders_of (page_at s k) + one_at number k) (sym e) (let one = is_it number in omega (arith, here, was, one))

  by : (o : Option Holding) → page_at s number ≡ o → IsSharing (one_at number) s t × (more_in t.pages ≡ more_in s.pages + 1)
  by None is = (let none = ap holders_of is in absurd (omega (arith, none, some)))
  by (Some h) is = at_h h is

  pub once_more : IsSharing (one_at number) s t
  once_more = (by (page_at s number) refl).0

-- ---- one after the other

pub share_none : (s : Store) → HasHolders s → IsSharing (λ n. 0) s s
share_none s some = record { held = λ n. omega arith; some = some; same = λ n. refl; pages = refl; nodes = λ n. refl; going = refl; room = refl }

-- counted otherwise
pub share_as : (a b : ℕ → ℕ) (s t : Store) → IsSharing a s t → ((n : ℕ) → b n ≡ a n) → IsSharing b s t
share_as a b s t shared same = grind (arith, common_steps)

pub share_then : (a b all : ℕ → ℕ) (s t u : Store) → IsSharing a s t → IsSharing b t u → ((n : ℕ) → a n + b n ≡ all n) → IsSharing all s u
share_then a b all s t u first then sum = grind (arith, common_steps)

-- ---- what is counted of places that have a copy

module _ (c : Place ℕ → ℕ) (bare : (p : Place ℕ) → copy_of p ≡ None → c p ≡ 0) where
  next_in : (xs : List (Place ℕ)) (a k : ℕ) → a ≤ k → k < length xs → ((i : ℕ) → a ≤ i → i < k → copy_of (slice_index_or xs i Gone) ≡ None) →
      sum_by c (drop a xs) ≡ c (slice_index_or xs k Gone) + sum_by c (drop (suc k) xs)
  next_in [] a k le l clear = absurd (omega (arith, l))
  next_in (x ∷ xs) zero zero le l clear = sum_by-cons c x xs
  next_in (x ∷ xs) zero (suc k) le l clear =
      let none = bare x (clear 0 (omega arith) (omega arith)) in
      let rest = next_in xs zero k (omega arith) (omega (arith, l)) (λ i low high. clear (suc i) (omega arith) (omega (arith, high))) in
      let step = sum_by-cons c x xs in
      omega (arith, none, rest, step)
  next_in (x ∷ xs) (suc a) zero le l clear = absurd (omega (arith, le))
  next_in (x ∷ xs) (suc a) (suc k) le l clear = next_in xs a k (omega (arith, le)) (omega (arith, l)) (λ i low high. clear (suc i) (omega (arith, low)) (omega (arith, high)))

  rest_in : (xs : List (Place ℕ)) (a : ℕ) → ((i : ℕ) → a ≤ i → i < length xs → copy_of (slice_index_or xs i Gone) ≡ None) → sum_by c (drop a xs) ≡ 0
  rest_in [] zero clear = refl
  rest_in [] (suc a) clear = refl
  rest_in (x ∷ xs) zero clear =
      let none = bare x (clear 0 (omega arith) (omega arith)) in
      let rest = rest_in xs zero (λ i low high. clear (suc i) (omega arith) (omega (arith, high))) in
      let step = sum_by-cons c x xs in
      omega (arith, none, rest, step)
  rest_in (x ∷ xs) (suc a) clear = rest_in xs a (λ i low high. clear (suc i) (omega (arith, low)) (omega (arith, high)))

  module _ (m : Mapping ℕ) (from : ℕ) (start : m.start ≤ from) where
    read : (at k : ℕ) → at ≡ m.start + k → place_at m at ≡ slice_index_or m.places k Gone
    read at k e = ap (place_at m) e ∙ at_start m k

    -- the next copy
    pub next_copy : (at : ℕ) → from ≤ at → at < m.start + length m.places → IsClear from at m →
        sum_by c (drop (from - m.start) m.places) ≡ c (place_at m at) + sum_by c (drop (at + 1 - m.start) m.places)
    next_copy at le below clear =
        let k : ℕ = at - m.start in
        let whole : at ≡ m.start + k = omega (arith, start, le) in
        let after : suc k ≡ at + 1 - m.start = omega (arith, start, le) in
        next_in m.places (from - m.start) k (omega (arith, le)) (omega (arith, below, start, le))
        (λ i low high. sym (ap copy_of (at_start m i)) ∙ clear (m.start + i) (omega (arith, low)) (omega (arith, high, start, le)))
        ∙ ap (λ p. c p + sum_by c (drop (suc k) m.places)) (sym (read at k whole)) ∙ ap (λ i. c (place_at m at) + sum_by c (drop i m.places)) after

    pub no_copy : IsClear from (m.start + length m.places) m → sum_by c (drop (from - m.start) m.places) ≡ 0
    no_copy clear = rest_in m.places (from - m.start) (λ i low high. sym (ap copy_of (at_start m i)) ∙ clear (m.start + i) (omega (arith, low)) (omega (arith, high)))

module _ (c : Place ℕ → ℕ) (bare : (p : Place ℕ) → copy_of p ≡ None → c p ≡ 0) where
  -- what stands before the next copy counts for nothing
  pub to_copy : (m : Mapping ℕ) (from at : ℕ) → m.start ≤ from → from ≤ at → at < m.start + length m.places → IsClear from at m →
      sum_by c (drop (from - m.start) m.places) ≡ sum_by c (drop (at - m.start) m.places)
  to_copy m from at start le below clear =
      next_copy c bare m from start at le below clear ∙ sym (next_copy c bare m at (omega (arith, start, le)) at (omega arith) below (λ k low high. absurd (omega (arith, low, high))))

pub stands_at : (m : Mapping ℕ) (at k : ℕ) → at ≡ m.start + k → place_at m at ≡ slice_index_or m.places k Gone
stands_at m at k e = ap (place_at m) e ∙ at_start m k

-- ---- a place with a copy, and one without

abbrev pub has_one : Place ℕ → ℕ
has_one p = cond (has_copy p) 1 0

pub bare_one : (p : Place ℕ) → copy_of p ≡ None → has_one p ≡ 0
bare_one p e = ap (λ (o : Option ℕ). cond {A = ℕ} (is_some o) 1 0) e

pub some_one : (p : Place ℕ) (k : ℕ) → copy_of p ≡ Some k → has_one p ≡ 1
some_one p k e = ap (λ (o : Option ℕ). cond {A = ℕ} (is_some o) 1 0) e

pub bare_in : (n : ℕ) (p : Place ℕ) → copy_of p ≡ None → in_place n p ≡ 0
bare_in n Gone e = refl
bare_in n (Live c None) e = refl
bare_in n (Live c (Some k)) e = cc

pub copied_in : (n k : ℕ) (p : Place ℕ) → copy_of p ≡ Some k → in_place n p ≡ one_at k n
copied_in n k Gone e = cc
copied_in n k (Live c None) e = cc
copied_in n k (Live c (Some q)) e = ap (λ (o : Option ℕ). elim o [ None ↦ 0 | Some q ↦ cond {A = ℕ} (q == n) 1 0 ]) e

-- ---- lists that are walked

pub drop_read : {X : Type 0} {Y : Type 0} (F : List X → Y) (xs : List X) (i : ℕ) (x : X) → i < length xs → x ≡ slice_index_or xs i x → F (drop i xs) ≡ F (x ∷ drop (i + 1) xs)
drop_read F xs i x l read = at_drop_more F xs i x l ∙ ap (λ y. F (y ∷ drop (i + 1) xs)) (sym read)

pub sum_read : {X : Type 0} (c : X → ℕ) (xs : List X) (i : ℕ) (x : X) → i < length xs → x ≡ slice_index_or xs i x → sum_by c (drop i xs) ≡ c x + sum_by c (drop (i + 1) xs)
sum_read c xs i x l read = drop_read (sum_by c) xs i x l read ∙ sum_by-cons c x (drop (i + 1) xs)

pub sum_end : {X : Type 0} (c : X → ℕ) (xs : List X) (i : ℕ) → length xs ≤ i → sum_by c (drop i xs) ≡ 0
sum_end c xs i l = ap (sum_by c) (drop_all i xs l)

-- ---- the copies of places, one after another

pub shared_none : (xs : List (Place ℕ)) (s : Store) → HasHolders s → IsShared xs xs s s
shared_none xs s some = grind (arith, common_steps, share_then, share_none)

pub shared_then : (xs ys zs : List (Place ℕ)) (s t u : Store) → IsShared xs ys s t → IsShared ys zs t u → IsShared xs zs s u
shared_then xs ys zs s t u first then = record {
  less = λ n. (let one = first.less n in let two = then.less n in omega (arith, one, two));
  sharing = share_then (λ n. sum_by (in_place n) xs - sum_by (in_place n) ys) (λ n. sum_by (in_place n) ys - sum_by (in_place n) zs)
      (λ n. sum_by (in_place n) xs - sum_by (in_place n) zs) s t u first.sharing then.sharing
      (λ n. (let one = first.less n in let two = then.less n in omega (arith, one, two)));
}

-- counted otherwise
pub shared_as : (ws xs ys zs : List (Place ℕ)) (s t : Store) → IsShared xs ys s t → ((n : ℕ) → sum_by (in_place n) ws ≡ sum_by (in_place n) xs) →
    ((n : ℕ) → sum_by (in_place n) zs ≡ sum_by (in_place n) ys) → IsShared ws zs s t
shared_as ws xs ys zs s t shared all last = record {
  less = λ n. (let one = shared.less n in let whole = all n in let rest = last n in omega (arith, one, whole, rest));
  sharing = share_then (λ n. sum_by (in_place n) xs - sum_by (in_place n) ys) (λ n. 0) (λ n. sum_by (in_place n) ws - sum_by (in_place n) zs) s t t shared.sharing (share_none t shared.sharing.some)
      (λ n. (let whole = all n in let rest = last n in omega (arith, whole, rest)));
}

pub shared_one : (p : Place ℕ) (ys : List (Place ℕ)) (number : ℕ) (s t : Store) → copy_of p ≡ Some number → IsSharing (one_at number) s t → IsShared (p ∷ ys) ys s t
shared_one p ys number s t is sharing = grind (arith, common_steps, sum_by-cons, share_then, one_at, share_none, copied_in)

pub shared_all : (xs ys : List (Place ℕ)) (s t : Store) → IsShared xs ys s t → ((n : ℕ) → sum_by (in_place n) ys ≡ 0) → IsSharing (λ n. sum_by (in_place n) xs) s t
shared_all xs ys s t shared none =
    share_as (λ n. sum_by (in_place n) xs - sum_by (in_place n) ys) (λ n. sum_by (in_place n) xs) s t shared.sharing (λ n. (let rest = none n in omega (arith, rest)))
