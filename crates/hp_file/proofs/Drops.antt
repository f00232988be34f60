use Rattle.std.proofs.lemmas.Grind.{common_steps}
-- Holders that go, one by one.
use Rattle.std.proofs.Common.{◌≡◌, ◌≢◌, ℕ, zero, suc, ◌+◌, ◌-◌, ◌<◌, ◌≤◌, ◌==◌, ⊎_elim, ◌⊎◌, inl, inr, Bool, true, false, cond, nat_lt, Option, Some, None, List, [], ◌∷◌, ◌++◌, length, drop, refl}
use Rattle.std.proofs.Common.{sym, ap, subst, ◌∙◌, arith, IsSome, MatchOption, slice_index_or, slice_set, All, count_by, sum_by}
use Rattle.std.proofs.lemmas.Bool.Decides.{eqb_tells, nat_tests}
use Rattle.std.proofs.lemmas.Bool.{cases_lt, eqb-false, eqb-true, ltb-false}
use Rattle.std.proofs.lemmas.List.{get_or-drop, get_or-set_same, get_or-set_other, get_or-take, get_or_past, length-append, length-drop, length-take}
use Rattle.std.proofs.lemmas.List.Sums.{sum_by-cons, sum_by-set, sum_by_push}
use Rattle.hp_mapping.specs.Mapped.{IsClear, TakesLowest, at_place, has_copy}
use Rattle.hp_laws.proofs.Variants.{Cell, Entered, Gone, Hole, Live, Place, Present}
use Rattle.hp_model.proofs.Words.{Mapping, Page, cell_punched, copy_of, edit_range, found, has_page, is_in, map_punched, page_of, part, place_at, without_copy}
use Rattle.hp_store.specs.Store as store
use Rattle.hp_store.specs.Store.{Holding, Store, held_count, held_once_less, holders_of, one_if_held, page_at}
use Rattle.hp_laws.proofs.lists.Places.{found_place}
use Rattle.hp_mapping.proofs.Ranges.{at_start}
use Rattle.hp_lookup.proofs.Words.{HasHolders, IsDropping, at_node, count_at, in_cell, in_map, in_place, more_in, more_of, page_in}
use Rattle.hp_lookup.proofs.Lifting.{is_it}
use Rattle.hp_file.proofs.Punched.{edited_done, edited_set, in_from, in_parts}
use Rattle.hp_lookup.proofs.Views.{some_within}

-- ---- one holder

abbrev pub one_at : ℕ → ℕ → ℕ
one_at number n = cond (number == n) 1 0

-- holders beyond the first: one less, where there are any
pub drop_more : (s : Store) (number k : ℕ) → holders_of (page_at s number) ≡ k → 0 < k → more_in (store.dropped number s).pages + (k - 1 - (k - 2)) ≡ more_in s.pages
drop_more s number k k_is some = by (page_at s number) refl
  where
    at_h : (h : Holding) → page_at s number ≡ Some h → (b : Bool) → (h.holders == 1) ≡ b
        → more_in (cond b (record s { pages = slice_set s.pages number None; going = s.going ++ store.held_page h ∷ [] })
        (record s { pages = slice_set s.pages number (Some (held_once_less h)) })).pages + (k - 1 - (k - 2)) ≡ more_in s.pages
    at_h h is true e =
        let step = sum_by-set more_of s.pages number None None (some_within s.pages number h is) in
        let was = ap more_of is in
        let one = eqb-true h.holders 1 e in
        let same = sym k_is ∙ ap holders_of is in
        omega (arith, step, was, one, same)
    at_h h is false e =
        let step = sum_by-set more_of s.pages number (Some (held_once_less h)) None (some_within s.pages number h is) in
        let was = ap more_of is in
        let same = sym k_is ∙ ap holders_of is in
        let other : h.holders ≢ 1 = eqb-false h.holders 1 e in
        omega (arith, step, was, same, some)

    by : (o : Option Holding) → page_at s number ≡ o → more_in (store.dropped_by number o s).pages + (k - 1 - (k - 2)) ≡ more_in s.pages
    by None is = (let none = sym k_is ∙ ap holders_of is in absurd (omega (arith, some, none)))
    by (Some h) is = at_h h is (h.holders == 1) refl

module _ (s : Store) (number : ℕ) (h : Holding) (is : page_at s number ≡ Some h) (each : HasHolders s) where
  within : number < length s.pages
  within = some_within s.pages number h is

  holders : ¬ (h.holders ≡ 0)
  holders none = clash (sym is ∙ each number (ap holders_of is ∙ none))
    where
      clash : ◌≡◌ {A = Option Holding} (Some h) None → ⊥
      clash e = cc

  -- what stands there afterwards
  abbrev left : Option Holding
  left = cond (h.holders == 1) None (Some (held_once_less h))

  abbrev went : List Page
  went = cond (h.holders == 1) (s.going ++ store.held_page h ∷ []) s.going

  abbrev t : Store
  t = record s { pages = slice_set s.pages number left; going = went }

  dropped_is : store.dropped number s ≡ t
  dropped_is = ap (λ o. store.dropped_by number o s) is ∙ either (h.holders == 1)
    where
      either : (b : Bool) → cond b (record s { pages = slice_set s.pages number None; going = s.going ++ store.held_page h ∷ [] })
          (record s { pages = slice_set s.pages number (Some (held_once_less h)) })
          ≡ record s { pages = slice_set s.pages number (cond b None (Some (held_once_less h))); going = cond b (s.going ++ store.held_page h ∷ []) s.going }
      either true = refl
      either false = refl

  left_holders : holders_of left + 1 ≡ h.holders
  left_holders = either (h.holders == 1) refl
    where
      either : (b : Bool) → (h.holders == 1) ≡ b → holders_of (cond b None (Some (held_once_less h))) + 1 ≡ h.holders
      either true e = (let one : h.holders ≡ 1 = grind (arith, nat_tests, e) in sym one)
      either false e = (let some = holders in less h.holders some)
        where
          less : (k : ℕ) → ¬ (k ≡ 0) → k - 1 + 1 ≡ k
          less zero some = absurd (some refl)
          less (suc k) some = omega arith

  left_some : holders_of left ≡ 0 → left ≡ None
  left_some = either (h.holders == 1) refl
    where
      either : (b : Bool) → (h.holders == 1) ≡ b → holders_of (cond b None (Some (held_once_less h))) ≡ 0 → cond b None (Some (held_once_less h)) ≡ None
      either true e none = refl
      either false e none = absurd (clash h.holders holders e none)
        where
          clash : (k : ℕ) → ¬ (k ≡ 0) → (k == 1) ≡ false → k - 1 ≡ 0 → ⊥
          clash zero some e none = some refl
          clash (suc zero) some e none = cc
          clash (suc (suc k)) some e none = omega (arith, none)

  left_same : 0 < holders_of left → page_in left ≡ page_in (Some h)
  left_same = either (h.holders == 1)
    where
      either : (b : Bool) → 0 < holders_of (cond b None (Some (held_once_less h))) → page_in (cond b None (Some (held_once_less h))) ≡ page_in (Some h)
      either true l = absurd (omega (arith, l))
      either false l = refl

  held_one : held_count (slice_set s.pages number left) + length went ≡ held_count s.pages + length s.going
  held_one = (let step = sum_by-set one_if_held s.pages number left None within in let was = ap one_if_held is in either (h.holders == 1) step was)
    where
      either : (b : Bool) → held_count (slice_set s.pages number (cond b None (Some (held_once_less h))))
          + one_if_held (slice_index_or s.pages number None) ≡ held_count s.pages + one_if_held (cond b None (Some (held_once_less h))) →
          one_if_held (page_at s number) ≡ 1
          → held_count (slice_set s.pages number (cond b None (Some (held_once_less h)))) + length (cond b (s.going ++ store.held_page h ∷ []) s.going) ≡ held_count s.pages + length s.going
      either true step was = omega (arith, step, was, length-append s.going (store.held_page h ∷ []))
      either false step was = omega (arith, step, was)

  at_one : (n : ℕ) → sum_by (at_node n) (slice_set s.pages number left) + count_at n went ≡ sum_by (at_node n) s.pages + count_at n s.going
  at_one n = (let step = sum_by-set (at_node n) s.pages number left None within in let was = ap (at_node n) is in either (h.holders == 1) step was)
    where
      none : (b : Bool) → cond {A = ℕ} b 0 0 ≡ 0
      none true = refl
      none false = refl

      either : (b : Bool) → sum_by (at_node n) (slice_set s.pages number (cond b None (Some (held_once_less h))))
          + at_node n (slice_index_or s.pages number None) ≡ sum_by (at_node n) s.pages + at_node n (cond b None (Some (held_once_less h)))
          → at_node n (page_at s number) ≡ at_node n (Some h) → sum_by (at_node n) (slice_set s.pages number (cond b None (Some (held_once_less h))))
          + count_at n (cond b (s.going ++ store.held_page h ∷ []) s.going) ≡ sum_by (at_node n) s.pages + count_at n s.going
      either true step was = omega (arith, step, was, none (0 == n), sum_by_push (λ (page : Page). cond {A = ℕ} (page.node == n) 1 0) s.going (store.held_page h))
      either false step was = omega (arith, step, was)

  pub drop_step : (total before after : ℕ → ℕ) (old next : Store) → IsDropping total before old s → next ≡ store.dropped number s →
      ((n : ℕ) → before n ≡ after n + one_at number n) → IsDropping total after old next
  drop_step total before after old next d next_is parts = subst (IsDropping total after old) (sym (next_is ∙ dropped_is)) (record {
    held = λ n. ⊎_elim
        (λ (e : ((number == n) ≡ true) × (number ≡ n)). (
        let here = ap (λ k. holders_of (page_at t k)) (sym e.1) ∙ ap holders_of (get_or-set_same s.pages number left None within) in
        let was = ap (λ k. holders_of (page_at s k)) (sym e.1) ∙ ap holders_of is in
        let one = ap (λ b. cond {A = ℕ} b 1 0 + 0) e.0 in
        let had = d.held n in
        let split = parts n in
        let less = left_holders in
        omega (arith, here, was, one, had, split, less)))
        (λ (e : ((number == n) ≡ false) × (number ≢ n)). (
        let here = ap holders_of (get_or-set_other s.pages number n left None (λ q. e.1 (sym q))) in
        let one = ap (λ b. cond {A = ℕ} b 1 0 + 0) e.0 in
        let had = d.held n in
        let split = parts n in
        omega (arith, here, one, had, split)))
        (eqb_tells number n);
    some = λ n none. ⊎_elim
        (λ (e : ((number == n) ≡ true) × (number ≡ n)). (
        let here : page_at t n ≡ left = ap (page_at t) (sym e.1) ∙ get_or-set_same s.pages number left None within in
        here ∙ left_some (sym (ap holders_of here) ∙ none)))
        (λ (e : ((number == n) ≡ false) × (number ≢ n)). (
        let here : page_at t n ≡ page_at s n = get_or-set_other s.pages number n left None (λ q. e.1 (sym q)) in
        here ∙ each n (sym (ap holders_of here) ∙ none)))
        (eqb_tells number n);
    pages = held_one ∙ d.pages;
    nodes = λ n. at_one n ∙ d.nodes n;
    most = λ n. ⊎_elim
        (λ (e : ((number == n) ≡ true) × (number ≡ n)). (
        let here = ap (λ k. holders_of (page_at t k)) (sym e.1) ∙ ap holders_of (get_or-set_same s.pages number left None within) in
        let was = ap (λ k. holders_of (page_at s k)) (sym e.1) ∙ ap holders_of is in
        let had = d.most n in
        let less = left_holders in
        omega (arith, here, was, had, less)))
        (λ (e : ((number == n) ≡ false) × (number ≢ n)). (
        let here = ap holders_of (get_or-set_other s.pages number n left None (λ q. e.1 (sym q))) in
        let had = d.most n in
        omega (arith, here, had)))
        (eqb_tells number n);
    same = λ n some. ⊎_elim
        (λ (e : ((number == n) ≡ true) × (number ≡ n)). (
        let here : page_at t n ≡ left = ap (page_at t) (sym e.1) ∙ get_or-set_same s.pages number left None within in
        let was : page_at s n ≡ Some h = ap (page_at s) (sym e.1) ∙ is in
        let held = ap holders_of was in
        let nonzero = holders in
        ap page_in here ∙ left_same (subst (λ o. 0 < holders_of o) here some) ∙ sym (ap page_in was) ∙ d.same n (positive h.holders nonzero (holders_of (page_at s n)) held)))
        (λ (e : ((number == n) ≡ false) × (number ≢ n)). (
        let here : page_at t n ≡ page_at s n = get_or-set_other s.pages number n left None (λ q. e.1 (sym q)) in
        ap page_in here ∙ d.same n (subst (λ o. 0 < holders_of o) here some)))
        (eqb_tells number n);
    fewer =
        let step = drop_more s number h.holders (ap holders_of is) (positive h.holders holders h.holders refl) in
        let went = ap (λ (u : Store). more_in u.pages) dropped_is in
        let had = d.fewer in
        omega (arith, step, went, had);
    room = d.room;
  })
    where
      positive : (k : ℕ) → ¬ (k ≡ 0) → (n : ℕ) → n ≡ k → 0 < n
      positive zero some n e = absurd (some refl)
      positive (suc k) some n e = omega (arith, e)

-- ---- the pages of a file's own indices

-- an element of a part, and its place
pub part_at : (xs : List (Cell ℕ)) (a b j : ℕ) → j < length (part a b xs) → (slice_index_or (part a b xs) j Hole ≡ slice_index_or xs (a + j) Hole) × (a + j < length xs) × (a + j < b)
part_at xs a b j l = grind (arith, common_steps, length-take, length-drop, get_or-take, get_or-drop)

by_page : (c : Cell ℕ) (number : ℕ) → page_of c ≡ Some number → c ≡ Present number
by_page Hole number e = cc
by_page Entered number e = cc
by_page (Present k) number e = cc

pageless : (c : Cell ℕ) → page_of c ≡ None → has_page c ≡ true → ⊥
pageless Hole e has = cc
pageless Entered e has = cc
pageless (Present k) e has = cc

unpunched : (c : Cell ℕ) → has_page c ≡ false → cell_punched c ≡ c
unpunched Hole e = refl
unpunched Entered e = refl
unpunched (Present k) e = cc

pub record IsTaken (a b : ℕ) (cells rest : List (Cell ℕ)) (number : ℕ) : Type 0 where
  pub parts : (n : ℕ) → sum_by (in_cell n) cells ≡ sum_by (in_cell n) rest + one_at number n
  pub fewer : count_by has_page rest < count_by has_page cells
  pub same : edit_range cell_punched a b rest ≡ edit_range cell_punched a b cells

module _ (a b : ℕ) (cells rest : List (Cell ℕ)) (r : Option ℕ) (page : MatchOption (found has_page (part a b cells)) (r ≡ None)
    (λ p. r ≡ page_of p.1)) (after : MatchOption (found has_page (part a b cells)) (rest ≡ cells) (λ p. rest ≡ slice_set cells (a + p.0) Hole)) where
  none_some : (number : ℕ) → ◌≡◌ {A = Option ℕ} None (Some number) → ⊥
  none_some number e = cc

  pub taken : (number : ℕ) → r ≡ Some number → IsTaken a b cells rest number
  taken number is = by (found has_page (part a b cells)) refl page after
    where
      by : (o : Option (ℕ × Cell ℕ)) → found has_page (part a b cells) ≡ o → MatchOption o (r ≡ None) (λ p. r ≡ page_of p.1) →
          MatchOption o (rest ≡ cells) (λ p. rest ≡ slice_set cells (a + p.0) Hole) → IsTaken a b cells rest number
      by None e page after = absurd (none_some number (sym page ∙ is))
      by (Some p) e page after =
          let at = found_place has_page (part a b cells) p e in
          let i : ℕ = a + p.0 in
          let there = part_at cells a b p.0 at.within in
          let inside : i < length cells = there.1 in
          let here : slice_index_or cells i Hole ≡ Present number = sym there.0 ∙ at.is Hole ∙ by_page p.1 number (sym page ∙ is) in
          record {
            parts = λ n. (let step = sum_by-set (in_cell n) cells i Hole Hole inside in let was = ap (in_cell n) here in let same = ap (sum_by (in_cell n)) after in omega (arith, step, was, same));
            fewer = (let step = sum_by-set (λ (c : Cell ℕ). cond {A = ℕ} (has_page c) 1 0) cells i Hole Hole inside in
                let was = ap (λ c. cond {A = ℕ} (has_page c) 1 0 + 0) here in let same = ap (count_by has_page) after in
                omega (arith, step, was, same));
            same = ap (edit_range cell_punched a b) after ∙ edited_set cell_punched Hole refl a b cells i Hole inside (in_from a b i (omega arith) there.2) (sym (ap cell_punched here));
          }

  pub unchanged : r ≡ None → rest ≡ cells
  unchanged is = by (found has_page (part a b cells)) refl page after
    where
      by : (o : Option (ℕ × Cell ℕ)) → found has_page (part a b cells) ≡ o → MatchOption o (r ≡ None) (λ p. r ≡ page_of p.1) →
          MatchOption o (rest ≡ cells) (λ p. rest ≡ slice_set cells (a + p.0) Hole) → rest ≡ cells
      by None e page after = after
      by (Some p) e page after = absurd (pageless p.1 (sym page ∙ is) (found_place has_page (part a b cells) p e).passes)

  -- no page is left there
  pub untaken : r ≡ None → All (λ cell. has_page cell ≡ false) (part a b rest) → edit_range cell_punched a b cells ≡ rest
  untaken is clear =
      ap (edit_range cell_punched a b) (sym (unchanged is))
      ∙ edited_done cell_punched Hole refl a b rest (λ k in'. unpunched (slice_index_or rest k Hole) (bare k (in_parts a b k in') (cases_lt k (length rest))))
    where
      bare : (k : ℕ) → (a ≤ k) × (k < b) → (k < length rest) ⊎ (length rest ≤ k) → has_page (slice_index_or rest k Hole) ≡ false
      bare k l (inl below) =
          let wide = length-take (b - a) (drop a rest) in
          let deep = length-drop a rest in
          let low = l.0 in
          let high = l.1 in
          let j : ℕ = k - a in
          let back : a + j ≡ k = omega (arith, low) in
          let there : j < length (part a b rest) = omega (arith, low, high, below, wide, deep) in
          ap (λ q. has_page (slice_index_or rest q Hole)) (sym back) ∙ sym (ap has_page (part_at rest a b j there).0) ∙ clear j Hole there
      bare k l (inr past) = ap has_page (get_or_past rest k Hole past)

-- ---- the copies of a map

pub record IsCopyTaken (a b : ℕ) (old new : Mapping ℕ) (number : ℕ) : Type 0 where
  pub parts : (n : ℕ) → in_map n old ≡ in_map n new + one_at number n
  pub fewer : count_by has_copy new.places < count_by has_copy old.places
  pub same : map_punched a b new ≡ map_punched a b old

pub place_inside : (m : Mapping ℕ) (i k : ℕ) → copy_of (place_at m i) ≡ Some k → (i - m.start < length m.places) × (copy_of (slice_index_or m.places (i - m.start) Gone) ≡ Some k) × (m.start ≤ i)
place_inside m i k e = either (nat_lt i m.start) refl e
  where
    inside : (ps : List (Place ℕ)) (j : ℕ) → copy_of (slice_index_or ps j Gone) ≡ Some k → j < length ps
    inside [] j e = cc
    inside (p ∷ ps) zero e = omega arith
    inside (p ∷ ps) (suc j) e = (let rest = inside ps j e in omega (arith, rest))

    either : (b : Bool) → nat_lt i m.start ≡ b → copy_of (cond b Gone (slice_index_or m.places (i - m.start) Gone)) ≡ Some k →
        (i - m.start < length m.places) × (copy_of (slice_index_or m.places (i - m.start) Gone) ≡ Some k) × (m.start ≤ i)
    either true from e = cc
    either false from e = (inside m.places (i - m.start) e, e, ltb-false i m.start from)

pub place_here : (m : Mapping ℕ) (i : ℕ) → m.start ≤ i → place_at m i ≡ slice_index_or m.places (i - m.start) Gone
place_here m i low = (let past : nat_lt i m.start ≡ false = grind (arith, nat_tests) in ap (λ b. cond b Gone (slice_index_or m.places (i - m.start) Gone)) past)

pub live_copy : (p : Place ℕ) (k : ℕ) → copy_of p ≡ Some k → (consumed : Bool) × (p ≡ Live consumed (Some k))
live_copy Gone k e = cc
live_copy (Live c None) k e = cc
live_copy (Live c (Some q)) k e = (c, ap (λ o. Live c o) e)

-- a copy less
pub less_copy : (m : Mapping ℕ) (i number : ℕ) (places : List (Place ℕ)) → copy_of (place_at m i) ≡ Some number →
    places ≡ (at_place without_copy i m).places → (n : ℕ) → in_map n m ≡ sum_by (in_place n) places + one_at number n
less_copy m i number places e places_is n = grind (arith, common_steps, place_inside, live_copy, sum_by-set, place_here)

pub copy_taken : (a b : ℕ) (number : ℕ) (old new : Mapping ℕ) → TakesLowest a b number old new → IsCopyTaken a b old new number
copy_taken a b number old new t =
    let i : ℕ = t.at in
    let j : ℕ = i - old.start in
    let seen = place_inside old i number t.page_is in
    let was = live_copy (slice_index_or old.places j Gone) number seen.1 in
    let l = seen.0 in
    let new_is : new ≡ record old { places = slice_set old.places j (Live was.0 None) } = t.after
    ∙ ap (λ p. record old { places = slice_set old.places j (without_copy p) }) (place_here old i seen.2 ∙ was.1) in
    record {
      parts = less_copy old i number new.places t.page_is (ap (λ (m : Mapping ℕ). m.places) t.after);
      fewer = (let step = sum_by-set (λ (p : Place ℕ). cond {A = ℕ} (has_copy p) 1 0) old.places j (Live was.0 None) Gone l in
          let before = ap (λ p. cond {A = ℕ} (has_copy p) 1 0 + 0) was.1 in let same = ap (λ (m : Mapping ℕ). count_by has_copy m.places) new_is in
          omega (arith, step, before, same));
      same =
          let low = seen.2 in
          let from = t.from in
          let below = t.below in
          let inside : is_in (a - old.start) (b - old.start) j ≡ true = in_from (a - old.start) (b - old.start) j (omega (arith, from)) (omega (arith, low, below)) in
          ap (map_punched a b) new_is
          ∙ ap (λ ps. record old { places = ps }) (edited_set without_copy Gone refl (a - old.start) (b - old.start) old.places j (Live was.0 None) l inside
          (sym (ap without_copy was.1)));
    }

bare_copy : (p : Place ℕ) → copy_of p ≡ None → without_copy p ≡ p
bare_copy Gone e = refl
bare_copy (Live c o) e = ap (Live c) (sym e)

-- no copy is left there
pub uncopied : (a b : ℕ) (m : Mapping ℕ) → IsClear a b m → map_punched a b m ≡ m
uncopied a b m clear = ap (λ ps. record m { places = ps }) (edited_done without_copy Gone refl (a - m.start) (b - m.start) m.places (λ k in'.
    let l = in_parts (a - m.start) (b - m.start) k in' in
    let low = l.0 in
    let high = l.1 in
    bare_copy (slice_index_or m.places k Gone) (sym (ap copy_of (at_start m k)) ∙ clear (m.start + k) (omega (arith, low)) (omega (arith, high)))))

-- ---- as a loop drops them

held_some : (o : Option Holding) → 0 < holders_of o → (h : Holding) × (o ≡ Some h)
held_some None l = absurd (omega (arith, l))
held_some (Some h) l = (h, refl)

pub some_held : (o : Option Holding) → 0 < holders_of o → IsSome o
some_held None l = absurd (omega (arith, l))
some_held (Some h) l = refl

module _ (total before after : ℕ → ℕ) (old s : Store) (d : IsDropping total before old s) (number : ℕ)
    (within : total number ≤ holders_of (page_at old number)) (parts : (n : ℕ) → before n ≡ after n + one_at number n) where
  pub still_held : 0 < holders_of (page_at s number)
  still_held = (let had = d.held number in let split = parts number in let one = is_it number in omega (arith, had, split, one, within))

  pub drop_next : (next : Store) → next ≡ store.dropped number s → IsDropping total after old next
  drop_next next is = (let there = held_some (page_at s number) still_held in drop_step s number there.0 there.1 d.some total before after old next d is parts)

pub drop_start : (total : ℕ → ℕ) (s : Store) → HasHolders s → IsDropping total total s s
drop_start total s some = record { held = λ n. refl; some = some; pages = refl; nodes = λ n. refl; most = λ n. omega arith; same = λ n some. refl; fewer = omega arith; room = refl }

-- counted otherwise, with what stays as it is or without it
pub drop_as : (t l total left : ℕ → ℕ) (old now : Store) → IsDropping t l old now → ((n : ℕ) → t n + left n ≡ l n + total n) → IsDropping total left old now
drop_as t l total left old now d parts = record {
  held = λ n. (let had = d.held n in let split = parts n in omega (arith, had, split));
  some = d.some;
  pages = d.pages;
  nodes = d.nodes;
  most = d.most;
  same = d.same;
  fewer = d.fewer;
  room = d.room;
}

-- one part after another
pub drop_then : (t1 l1 t2 l2 total left : ℕ → ℕ) (old mid now : Store) → IsDropping t1 l1 old mid → IsDropping t2 l2 mid now →
    ((n : ℕ) → t1 n + t2 n + left n ≡ l1 n + l2 n + total n) → IsDropping total left old now
drop_then t1 l1 t2 l2 total left old mid now d p parts = record {
  held = λ n. (let had = d.held n in let more = p.held n in let split = parts n in omega (arith, had, more, split));
  some = p.some;
  pages = p.pages ∙ d.pages;
  nodes = λ n. p.nodes n ∙ d.nodes n;
  most = λ n. (let had = d.most n in let more = p.most n in omega (arith, had, more));
  same = λ n some. (let more = p.most n in p.same n some ∙ d.same n (omega (arith, some, more)));
  fewer = (let had = d.fewer in let more = p.fewer in omega (arith, had, more));
  room = p.room ∙ d.room;
}

none_counted : (w : Option Holding → ℕ) → w None ≡ 0 → (pages : List (Option Holding)) → ((n : ℕ) → slice_index_or pages n None ≡ None) → sum_by w pages ≡ 0
none_counted w zero_w [] each = refl
none_counted w zero_w (o ∷ pages) each = (let rest = none_counted w zero_w pages (λ n. each (suc n)) in let here = ap w (each 0) in omega (arith, rest, here, zero_w, sum_by-cons w o pages))

-- all holders have gone
module _ (total left : ℕ → ℕ) (old now : Store) (d : IsDropping total left old now) (none : (n : ℕ) → left n ≡ 0) (all : (n : ℕ) → holders_of (page_at old n) ≡ total n) (empty : old.going ≡ []) where
  spent : (n : ℕ) → page_at now n ≡ None
  spent n = d.some n (let had = d.held n in let zero_left = none n in let same = all n in omega (arith, had, zero_left, same))

  pub gone_pages : length now.going ≡ held_count old.pages
  gone_pages =
      let sum = d.pages in
      let gone = none_counted one_if_held refl now.pages spent in
      let first = ap length empty in
      omega (arith, sum, gone, first)

  pub gone_nodes : (n : ℕ) → count_at n now.going ≡ sum_by (at_node n) old.pages
  gone_nodes n =
      let sum = d.nodes n in
      let gone = none_counted (at_node n) (nothing (0 == n)) now.pages spent in
      let first = ap (count_at n) empty in
      omega (arith, sum, gone, first)
    where
      nothing : (b : Bool) → cond {A = ℕ} b 0 0 ≡ 0
      nothing true = refl
      nothing false = refl
