use Rattle.std.proofs.lemmas.Grind.{common_steps}
-- Places with their marks, after a change of one place.
use mir.Val.{bool_byte}
use Rattle.std.proofs.Common.{refl, zero, suc, [], ◌∷◌, ◌||◌, replicate, map, Option, None, Some, is_some, not, ◌≡◌, ℕ, ◌*◌, ◌<◌, ◌≤◌, ◌-◌, Bool, true, false, List, length, slice_index_or, slice_set}
use Rattle.std.proofs.Common.{sym, ◌∙◌, ap, cond, ◌+◌, arith, count_by}
use Rattle.std.proofs.lemmas.Bool.{cases_eq, cases_lt}
use Rattle.std.proofs.lemmas.List.{get_or-set_same, get_or-set_other, length-set, get_or-replicate, get_or_past, length-replicate, length-map}
use Rattle.std.specs.List.{list_any}
use Rattle.std.proofs.lemmas.List.Sums.{sum_by-cons, sum_by-set}
use Rattle.std.proofs.lemmas.List.Folds.{sum_by-replicate}
use Rattle.hp_model.specs.declared.place.Place.{Place}
use Rattle.hp_model.specs.declared.place.Place.TheVariants.{Gone, Live}
use Rattle.hp_model.proofs.Words.{copy_of, is_live, unconsumed, without_copy}
use Rattle.hp_mapping.specs.Mapped.{consumed, has_copy, with_copy}
use Rattle.hp_marks.specs.Marks.{marked, FindsFrom}
use Rattle.hp_mapping.specs.Marks.{AreCopiesCounted, AreMarked, ChangesMark, IsUnmarkedFrom}

or_true : (a b : Bool) → b ≡ true → (a || b) ≡ true
or_true true b e = refl
or_true false b e = e

-- ---- the marks of a test of the places

-- one place changes, and the test sees it as before
same_marked : (test : Place ℕ → Bool) (places : List (Place ℕ)) (marks : List ℕ) (at : ℕ) (p : Place ℕ) → AreMarked test places marks → at < length places
    → test p ≡ test (slice_index_or places at Gone) → AreMarked test (slice_set places at p) marks
same_marked test places marks at p s within same = grind (arith, common_steps, cases_eq, get_or-set_same, get_or-set_other, length-set)

-- or its mark changes with it
new_marked : (test : Place ℕ → Bool) (places : List (Place ℕ)) (old new : List ℕ) (at : ℕ) (mark : Bool) (p : Place ℕ) → AreMarked test places old → at < length places
    → ChangesMark at mark old new → mark ≡ test p → AreMarked test (slice_set places at p) new
new_marked test places old new at mark p s within changes fits = grind (arith, common_steps, cases_eq, get_or-set_same, get_or-set_other, length-set)

-- all places are fresh
fresh_marked : (test : Place ℕ → Bool) (n : ℕ) (marks : List ℕ) → test Gone ≡ false → ((k : ℕ) → k < n → marked marks k ≡ test (Live false None)) → IsUnmarkedFrom n marks
    → n ≤ 64 * length marks → AreMarked test (replicate n (Live false None)) marks
fresh_marked test n marks gone on rest room = grind (arith, common_steps, cases_lt, get_or-replicate, get_or_past, length-replicate)

pub forked_at : (places : List (Place ℕ)) (k : ℕ) → slice_index_or (map unconsumed places) k Gone ≡ unconsumed (slice_index_or places k Gone)
forked_at [] k = refl
forked_at (p ∷ places) zero = refl
forked_at (p ∷ places) (suc k) = forked_at places k

-- all are of a child's map
forked_marked : (test : Place ℕ → Bool) (places : List (Place ℕ)) (marks : List ℕ) → ((p : Place ℕ) → test (unconsumed p) ≡ test p) → AreMarked test places marks
    → AreMarked test (map unconsumed places) marks
forked_marked test places marks same s = grind (arith, common_steps, forked_at, length-map)

pub copy_live : (page : ℕ) (p : Place ℕ) → is_live (with_copy page p) ≡ is_live p
copy_live page Gone = refl
copy_live page (Live was copy) = refl

pub copy_some : (page : ℕ) (p : Place ℕ) → is_live p ≡ true → true ≡ has_copy (with_copy page p)
copy_some page Gone live = cc
copy_some page (Live was copy) live = refl

live_within : (places : List (Place ℕ)) (at : ℕ) → is_live (slice_index_or places at Gone) ≡ true → at < length places
live_within [] at live = cc
live_within (p ∷ places) zero live = omega arith
live_within (p ∷ places) (suc at) live = let rest = live_within places at live in omega arith

live_forked : (p : Place ℕ) → is_live (unconsumed p) ≡ is_live p
live_forked Gone = refl
live_forked (Live was copy) = refl

copy_forked : (p : Place ℕ) → has_copy (unconsumed p) ≡ has_copy p
copy_forked Gone = refl
copy_forked (Live was copy) = refl

any_at : (places : List (Place ℕ)) (k : ℕ) → is_live (slice_index_or places k Gone) ≡ true → list_any is_live places ≡ true
any_at [] k live = live
any_at (p ∷ places) zero live = rw live refl
any_at (p ∷ places) (suc k) live = or_true (is_live p) (list_any is_live places) (any_at places k live)

any_none : (places : List (Place ℕ)) → ((k : ℕ) → is_live (slice_index_or places k Gone) ≡ false) → list_any is_live places ≡ false
any_none [] none = refl
any_none (p ∷ places) none = rw (none 0) (any_none places (λ k. none (suc k)))

-- whether a live place is left is whether a mark is
pub some_live : (found : Option ℕ) (places : List (Place ℕ)) (live : List ℕ) → AreMarked is_live places live → FindsFrom live 0 found → is_some found ≡ list_any is_live places
some_live None places live s none = sym (any_none places (λ k. sym (s.are k) ∙ none k (omega arith)))
some_live (Some at) places live s found = sym (any_at places at (sym (s.are at) ∙ found.here))

-- ---- how many have a copy

module _ (places : List (Place ℕ)) (at : ℕ) (p : Place ℕ) (within : at < length places) where
  abbrev was : Place ℕ
  was = slice_index_or places at Gone

  step : count_by has_copy (slice_set places at p) + cond (has_copy was) 1 0 ≡ count_by has_copy places + cond (has_copy p) 1 0
  step = sum_by-set (λ q. cond (has_copy q) 1 0) places at p Gone within

  pub count_same : has_copy p ≡ has_copy was → count_by has_copy (slice_set places at p) ≡ count_by has_copy places
  count_same e = (let same = ap (λ b. cond {A = ℕ} b 1 0) e in omega (arith, step, same))

  pub count_more : has_copy p ≡ true → has_copy was ≡ false → count_by has_copy (slice_set places at p) ≡ count_by has_copy places + 1
  count_more e none = (let one = ap (λ b. cond {A = ℕ} b 1 0) e in let zero_is = ap (λ b. cond {A = ℕ} b 1 0) none in omega (arith, step, one, zero_is))

  pub count_less : has_copy p ≡ false → has_copy was ≡ true → count_by has_copy (slice_set places at p) + 1 ≡ count_by has_copy places
  count_less e some = (let zero_is = ap (λ b. cond {A = ℕ} b 1 0) e in let one = ap (λ b. cond {A = ℕ} b 1 0) some in omega (arith, step, one, zero_is))

pub count_fresh : (n : ℕ) → count_by has_copy (replicate n (Live false None)) ≡ 0
count_fresh n = omega (arith, sum_by-replicate (λ q. cond {A = ℕ} (has_copy q) 1 0) n (Live false None))

pub count_forked : (places : List (Place ℕ)) → count_by has_copy (map unconsumed places) ≡ count_by has_copy places
count_forked [] = refl
count_forked (p ∷ places) =
    let same = ap (λ b. cond {A = ℕ} b 1 0) (copy_forked p) in
    let rest = count_forked places in
    omega (arith, same, rest, sum_by-cons (λ q. cond {A = ℕ} (has_copy q) 1 0) (unconsumed p) (map unconsumed places), sum_by-cons (λ q. cond {A = ℕ} (has_copy q) 1 0) p places)

-- ---- places with their marks and their count

pub counted_fresh : (n : ℕ) (live copies : List ℕ) → ((k : ℕ) → k < n → marked live k ≡ true) → IsUnmarkedFrom n live → IsUnmarkedFrom 0 copies → n ≤ 64 * length live → n ≤ 64 * length copies
    → AreCopiesCounted 0 (replicate n (Live false None)) live copies
counted_fresh n live copies on rest blank live_room copies_room = grind (arith, common_steps, fresh_marked, count_fresh)

pub counted_forked : (count : ℕ) (places : List (Place ℕ)) (live copies : List ℕ) → AreCopiesCounted count places live copies → AreCopiesCounted count (map unconsumed places) live copies
counted_forked count places live copies s = grind (arith, common_steps, forked_marked, live_forked, copy_forked, count_forked)

-- a reservation was consumed
pub counted_consumed : (count : ℕ) (places : List (Place ℕ)) (live copies : List ℕ) (at : ℕ) → AreCopiesCounted count places live copies → at < length places →
    AreCopiesCounted count (slice_set places at (consumed (slice_index_or places at Gone))) live copies
counted_consumed count places live copies at s within = record {
  live_are = same_marked is_live places live at (consumed (slice_index_or places at Gone)) s.live_are within (live_as (slice_index_or places at Gone));
  copies_are = same_marked has_copy places copies at (consumed (slice_index_or places at Gone)) s.copies_are within (copy_as (slice_index_or places at Gone));
  count_is = s.count_is ∙ sym (count_same places at (consumed (slice_index_or places at Gone)) within (copy_as (slice_index_or places at Gone)));
}
  where
    live_as : (p : Place ℕ) → is_live (consumed p) ≡ is_live p
    live_as Gone = refl
    live_as (Live was copy) = refl

    copy_as : (p : Place ℕ) → has_copy (consumed p) ≡ has_copy p
    copy_as Gone = refl
    copy_as (Live was copy) = refl

copy_none : (p : Place ℕ) → copy_of p ≡ None → has_copy p ≡ false
copy_none p e = ap (λ (o : Option ℕ). is_some o) e

pub one_at_most : (b : Bool) → bool_byte b ≤ 1
one_at_most true = omega arith
one_at_most false = omega arith

-- a place got a copy: it was bare, or it had another
pub counted_copied : (count more : ℕ) (places : List (Place ℕ)) (live copies new : List ℕ) (at page : ℕ) (bare : Bool) → AreCopiesCounted count places live copies
    → is_live (slice_index_or places at Gone) ≡ true → ChangesMark at true copies new → more ≡ bool_byte bare → bare ≡ not (has_copy (slice_index_or places at Gone))
    → AreCopiesCounted (count + more) (slice_set places at (with_copy page (slice_index_or places at Gone))) live new
counted_copied count more places live copies new at page bare s here changes more_is bare_is = record {
  live_are = same_marked is_live places live at (with_copy page (slice_index_or places at Gone)) s.live_are within (copy_live page (slice_index_or places at Gone));
  copies_are = new_marked has_copy places copies new at true (with_copy page (slice_index_or places at Gone)) s.copies_are within changes
      (copy_some page (slice_index_or places at Gone) here);
  count_is = by (has_copy (slice_index_or places at Gone)) refl (more_is ∙ ap bool_byte bare_is);
}
  where
    within : at < length places
    within = live_within places at here

    some : has_copy (with_copy page (slice_index_or places at Gone)) ≡ true
    some = sym (copy_some page (slice_index_or places at Gone) here)

    by : (b : Bool) → has_copy (slice_index_or places at Gone) ≡ b → more ≡ bool_byte (not (has_copy (slice_index_or places at Gone))) →
        count + more ≡ count_by has_copy (slice_set places at (with_copy page (slice_index_or places at Gone)))
    by false e more_is = (let one = more_is ∙ ap (λ b. bool_byte (not b)) e in
        let step = count_more places at (with_copy page (slice_index_or places at Gone)) within some e in omega (arith, one, step, s.count_is))
    by true e more_is = (let none = more_is ∙ ap (λ b. bool_byte (not b)) e in
        let step = count_same places at (with_copy page (slice_index_or places at Gone)) within (some ∙ sym e) in
        omega (arith, none, step, s.count_is))

-- a copy went
pub counted_bare : (count : ℕ) (places : List (Place ℕ)) (live copies new : List ℕ) (at : ℕ) → AreCopiesCounted count places live copies
    → is_some (copy_of (slice_index_or places at Gone)) ≡ true → ChangesMark at false copies new
    → AreCopiesCounted (count - 1) (slice_set places at (without_copy (slice_index_or places at Gone))) live new
counted_bare count places live copies new at s here changes =
    let within = live_within places at (copied_live (slice_index_or places at Gone) here) in
    let step = count_less places at (without_copy (slice_index_or places at Gone)) within (bare_copy (slice_index_or places at Gone)) here in
    record {
      live_are = same_marked is_live places live at (without_copy (slice_index_or places at Gone)) s.live_are within (bare_live (slice_index_or places at Gone));
      copies_are = new_marked has_copy places copies new at false (without_copy (slice_index_or places at Gone)) s.copies_are within changes
          (sym (bare_copy (slice_index_or places at Gone)));
      count_is = omega (arith, step, s.count_is);
    }
  where
    copied_live : (p : Place ℕ) → has_copy p ≡ true → is_live p ≡ true
    copied_live Gone e = e
    copied_live (Live was copy) e = refl

    bare_copy : (p : Place ℕ) → has_copy (without_copy p) ≡ false
    bare_copy Gone = refl
    bare_copy (Live was copy) = refl

    bare_live : (p : Place ℕ) → is_live (without_copy p) ≡ is_live p
    bare_live Gone = refl
    bare_live (Live was copy) = refl

-- a place without a copy left
pub counted_left : (count : ℕ) (places : List (Place ℕ)) (live copies new : List ℕ) (at : ℕ) → AreCopiesCounted count places live copies
    → is_live (slice_index_or places at Gone) ≡ true → copy_of (slice_index_or places at Gone) ≡ None → ChangesMark at false live new → AreCopiesCounted count (slice_set places at Gone) new copies
counted_left count places live copies new at s here clear changes =
    let within = live_within places at here in
    let none = sym (copy_none (slice_index_or places at Gone) clear) in
    record {
      live_are = new_marked is_live places live new at false Gone s.live_are within changes refl;
      copies_are = same_marked has_copy places copies at Gone s.copies_are within none;
      count_is = s.count_is ∙ sym (count_same places at Gone within none);
    }
