-- The numbers of a task's maps, where a task or a number comes or goes.
use Rattle.std.proofs.Common.{◌≡◌, ℕ, zero, suc, ◌-◌, ◌<◌, ◌≤◌, ◌==◌, ◌||◌, ◌&&◌, Bool, true, false, not, cond, List, [], ◌∷◌, length, get_or, refl, sym, ap, subst, ◌∙◌, arith}
use Rattle.std.proofs.Common.{eqb-true, eq-eqb, ◌≢◌, insert, remove, slice_set}
use Rattle.std.proofs.Common.{inl, inr, true≢false}
use Rattle.std.proofs.lemmas.Bool.{cases_lt, false_from_ne_true}
use Rattle.std.proofs.lemmas.List.{nil_from_length}
use Rattle.std.proofs.lemmas.List.Edits.{get_or-insert_at, get_or-insert_below, length-insert, length-remove}
use Rattle.hp_model.specs.Lists.{is_among}
use Rattle.std.specs.List.Sorted.{IsStrictlyIncreasing}
use Rattle.hp_lookup.specs.Table.{AreNumbers, IsForgottenIn, IsGap, IsLessBy, IsMoreBy, IsNotedIn, IsPlace, IsTable, numbers_under}
use Rattle.hp_lookup.proofs.Rising.{apart_before, gap_none, once, rise_inserted}

-- ---- among numbers

pub among_inserted : (n m : ℕ) (xs : List ℕ) (at : ℕ) → at ≤ length xs → is_among n (insert xs at m) ≡ (m == n || is_among n xs)
among_inserted n m xs zero le = refl
among_inserted n m [] (suc at) le = absurd (omega (arith, le))
among_inserted n m (x ∷ xs) (suc at) le = rw (among_inserted n m xs at (omega (arith, le))) (swap (x == n) (m == n) (is_among n xs))
  where
    swap : (a b c : Bool) → (a || (b || c)) ≡ (b || (a || c))
    swap true true c = refl
    swap true false c = refl
    swap false b c = refl

-- among the rest are all others
pub among_removed : (n : ℕ) (xs : List ℕ) (at : ℕ) → at < length xs → is_among (get_or xs at 0) (remove xs at) ≡ false
    → is_among n (remove xs at) ≡ (not (get_or xs at 0 == n) && is_among n xs)
among_removed n [] at l once = absurd (omega (arith, l))
among_removed n (x ∷ xs) zero l once = by (x == n) refl
  where
    by : (b : Bool) → (x == n) ≡ b → is_among n xs ≡ (not b && (b || is_among n xs))
    by true is = (let same = eqb-true x n is in subst (λ q. is_among q xs ≡ false) same once)
    by false is = refl
among_removed n (x ∷ xs) (suc at) l once = by (x == n) refl (x == get_or xs at 0) refl once (among_removed n xs at (omega (arith, l)))
  where
    by : (b : Bool) → (x == n) ≡ b → (c : Bool) → (x == get_or xs at 0) ≡ c → (c || is_among (get_or xs at 0) (remove xs at)) ≡ false
        → (is_among (get_or xs at 0) (remove xs at) ≡ false → is_among n (remove xs at) ≡ (not (get_or xs at 0 == n) && is_among n xs))
        → (b || is_among n (remove xs at)) ≡ (not (get_or xs at 0 == n) && (b || is_among n xs))
    by b is true isnt none rest = cc
    by false is false isnt none rest = rest none
    by true is false isnt none rest = (let differs : (get_or xs at 0 == n) ≡ false = grind (arith, eqb-true) in rw differs refl)

pub among_absent : (n m : ℕ) (xs : List ℕ) → is_among m xs ≡ false → is_among n xs ≡ (not (m == n) && is_among n xs)
among_absent n m xs none = by (m == n) refl
  where
    by : (b : Bool) → (m == n) ≡ b → is_among n xs ≡ (not b && is_among n xs)
    by true is = subst (λ q. is_among q xs ≡ false) (eqb-true m n is) none
    by false is = refl

-- a number comes, or goes
pub more_inserted : (number : ℕ) (xs : List ℕ) (at : ℕ) → at ≤ length xs → IsMoreBy number xs (insert xs at number)
more_inserted number xs at le = record { among = λ n. among_inserted n number xs at le; longer = λ e. length-insert xs at number le }

pub less_removed : (number : ℕ) (xs : List ℕ) (at : ℕ) → IsStrictlyIncreasing xs → IsPlace xs number at → IsLessBy number xs (remove xs at)
less_removed number xs at up p = record {
  among = λ n. subst (λ m. is_among n (remove xs at) ≡ (not (m == n) && is_among n xs)) p.there (among_removed n xs at p.within (once xs up at p.within));
  shorter = λ e. length-remove xs at p.within;
}

pub less_absent : (number : ℕ) (xs : List ℕ) → is_among number xs ≡ false → IsLessBy number xs xs
less_absent number xs none = record { among = λ n. among_absent n number xs none; shorter = λ some. absurd (true≢false (sym some ∙ none)) }

pub numbers_inserted_are : (number : ℕ) (xs : List ℕ) (at : ℕ) → AreNumbers xs → IsGap xs number at → 1 ≤ number → AreNumbers (insert xs at number)
numbers_inserted_are number xs at is g one = record {
  rise = rise_inserted xs is.rise number at g;
  from = λ some. elim (cases_lt 0 at) [
    | inl above ↦ (let same = get_or-insert_below xs at number 0 0 above g.within in let first = is.from (omega (arith, above, g.within)) in omega (arith, same, first))
    | inr low ↦ (let here : at ≡ 0 = omega (arith, low) in
        let is = subst (λ j. get_or (insert xs at number) j 0 ≡ number) here (get_or-insert_at xs at number 0 g.within) in omega (arith, is, one))
  ];
}

-- ---- the numbers of a task

pub under_none : (t : ℕ) (xs : List ℕ) (ms : List (List ℕ)) → is_among t xs ≡ false → numbers_under t xs ms ≡ []
under_none t [] ms none = refl
under_none t (x ∷ xs) [] none = refl
under_none t (x ∷ xs) (k ∷ ms) none = at (x == t) none (under_none t xs ms)
  where
    at : (b : Bool) → (b || is_among t xs) ≡ false → (is_among t xs ≡ false → numbers_under t xs ms ≡ []) → cond b k (numbers_under t xs ms) ≡ []
    at true none rest = cc
    at false none rest = rest none

-- one goes in where it is not among them
pub under_inserted : (t m : ℕ) (k : List ℕ) (xs : List ℕ) (ms : List (List ℕ)) (at : ℕ) → at ≤ length xs → length ms ≡ length xs → is_among m xs ≡ false
    → numbers_under t (insert xs at m) (insert ms at k) ≡ cond (m == t) k (numbers_under t xs ms)
under_inserted t m k xs ms zero le each new = refl
under_inserted t m k [] ms (suc at) le each new = absurd (omega (arith, le))
under_inserted t m k (x ∷ xs) [] (suc at) le each new = absurd (omega (arith, each))
under_inserted t m k (x ∷ xs) (y ∷ ms) (suc at) le each new = by (x == t) refl (x == m) refl new (under_inserted t m k xs ms at (omega (arith, le)) (omega (arith, each)))
  where
    by : (b : Bool) → (x == t) ≡ b → (c : Bool) → (x == m) ≡ c → (c || is_among m xs) ≡ false
        → (is_among m xs ≡ false → numbers_under t (insert xs at m) (insert ms at k) ≡ cond (m == t) k (numbers_under t xs ms))
        → cond b y (numbers_under t (insert xs at m) (insert ms at k)) ≡ cond (m == t) k (cond b y (numbers_under t xs ms))
    by b is true isnt none rest = cc
    by false is false isnt none rest = rest none
    by true is false isnt none rest = (let differs : (m == t) ≡ false = grind (arith, eqb-true) in rw differs refl)

-- the one at a place goes out, which is not there twice
pub under_removed : (t : ℕ) (xs : List ℕ) (ms : List (List ℕ)) (at : ℕ) → at < length xs → length ms ≡ length xs → is_among (get_or xs at 0) (remove xs at) ≡ false
    → numbers_under t (remove xs at) (remove ms at) ≡ cond (get_or xs at 0 == t) [] (numbers_under t xs ms)
under_removed t [] ms at l each once = absurd (omega (arith, l))
under_removed t (x ∷ xs) [] at l each once = absurd (omega (arith, each))
under_removed t (x ∷ xs) (y ∷ ms) zero l each once = by (x == t) refl
  where
    by : (b : Bool) → (x == t) ≡ b → numbers_under t xs ms ≡ cond b [] (cond b y (numbers_under t xs ms))
    by true is = (let same = eqb-true x t is in under_none t xs ms (subst (λ q. is_among q xs ≡ false) same once))
    by false is = refl
under_removed t (x ∷ xs) (y ∷ ms) (suc at) l each once = by (x == t) refl (x == get_or xs at 0) refl once (under_removed t xs ms at (omega (arith, l)) (omega (arith, each)))
  where
    by : (b : Bool) → (x == t) ≡ b → (c : Bool) → (x == get_or xs at 0) ≡ c → (c || is_among (get_or xs at 0) (remove xs at)) ≡ false
        → (is_among (get_or xs at 0) (remove xs at) ≡ false → numbers_under t (remove xs at) (remove ms at) ≡ cond (get_or xs at 0 == t) [] (numbers_under t xs ms))
        → cond b y (numbers_under t (remove xs at) (remove ms at)) ≡ cond (get_or xs at 0 == t) [] (cond b y (numbers_under t xs ms))
    by b is true isnt none rest = cc
    by false is false isnt none rest = rest none
    by true is false isnt none rest = (let differs : (get_or xs at 0 == t) ≡ false = grind (arith, eqb-true) in rw differs refl)

-- the numbers at a task's first place, and as they are set there
pub under_at : (xs : List ℕ) (ms : List (List ℕ)) (at : ℕ) → at < length xs → length ms ≡ length xs → ((i : ℕ) → i < at → get_or xs i 0 ≢ get_or xs at 0)
    → numbers_under (get_or xs at 0) xs ms ≡ get_or ms at []
under_at [] ms at l each apart = absurd (omega (arith, l))
under_at (x ∷ xs) [] at l each apart = absurd (omega (arith, each))
under_at (x ∷ xs) (k ∷ ms) zero l each apart = rw (eq-eqb x x refl) refl
under_at (x ∷ xs) (k ∷ ms) (suc at) l each apart =
    rw (false_from_ne_true (x == get_or xs at 0) (λ e. apart 0 (omega arith) (eqb-true x (get_or xs at 0) e)))
    (under_at xs ms at (omega (arith, l)) (omega (arith, each)) (λ i less. apart (suc i) (omega (arith, less))))

pub under_set : (t : ℕ) (k : List ℕ) (xs : List ℕ) (ms : List (List ℕ)) (at : ℕ) → at < length xs → length ms ≡ length xs → ((i : ℕ) → i < at → get_or xs i 0 ≢ get_or xs at 0)
    → numbers_under t xs (slice_set ms at k) ≡ cond (get_or xs at 0 == t) k (numbers_under t xs ms)
under_set t k [] ms at l each apart = absurd (omega (arith, l))
under_set t k (x ∷ xs) [] at l each apart = absurd (omega (arith, each))
under_set t k (x ∷ xs) (y ∷ ms) zero l each apart = by (x == t)
  where
    by : (b : Bool) → cond b k (numbers_under t xs ms) ≡ cond b k (cond b y (numbers_under t xs ms))
    by true = refl
    by false = refl
under_set t k (x ∷ xs) (y ∷ ms) (suc at) l each apart =
    by (x == t) refl (under_set t k xs ms at (omega (arith, l)) (omega (arith, each)) (λ i less. apart (suc i) (omega (arith, less))))
  where
    other : (x == get_or xs at 0) ≡ false
    other = false_from_ne_true (x == get_or xs at 0) (λ e. apart 0 (omega arith) (eqb-true x (get_or xs at 0) e))

    by : (b : Bool) → (x == t) ≡ b → numbers_under t xs (slice_set ms at k) ≡ cond (get_or xs at 0 == t) k (numbers_under t xs ms)
        → cond b y (numbers_under t xs (slice_set ms at k)) ≡ cond (get_or xs at 0 == t) k (cond b y (numbers_under t xs ms))
    by false is rest = rest
    by true is rest = (let differs : (get_or xs at 0 == t) ≡ false = grind (arith, eqb-true, other) in rw differs refl)

pub removed_set : (ms : List (List ℕ)) (at : ℕ) (k : List ℕ) → remove (slice_set ms at k) at ≡ remove ms at
removed_set [] at k = refl
removed_set (m ∷ ms) zero k = refl
removed_set (m ∷ ms) (suc at) k = ap (λ ns. m ∷ ns) (removed_set ms at k)

-- ---- a table

module _ (ts : List ℕ) (ms : List (List ℕ)) (is : IsTable ts ms) (task at : ℕ) where
  module _ (p : IsPlace ts task at) where
    in_maps : at < length ms
    in_maps = omega (arith, p.within, is.each)

    pub own_numbers : numbers_under task ts ms ≡ get_or ms at []
    own_numbers = subst (λ t. numbers_under t ts ms ≡ get_or ms at []) p.there (under_at ts ms at p.within is.each (apart_before ts is.rise at p.within))

    pub own_some : 0 < length (numbers_under task ts ms)
    own_some = subst (λ (ns : List ℕ). 0 < length ns) (sym own_numbers) (is.some at in_maps)

    pub numbers_set : (k : List ℕ) (t : ℕ) → numbers_under t ts (slice_set ms at k) ≡ cond (task == t) k (numbers_under t ts ms)
    numbers_set k t = subst (λ q. numbers_under t ts (slice_set ms at k) ≡ cond (q == t) k (numbers_under t ts ms)) p.there
        (under_set t k ts ms at p.within is.each (apart_before ts is.rise at p.within))

    pub numbers_removed : (t : ℕ) → numbers_under t (remove ts at) (remove ms at) ≡ cond (task == t) [] (numbers_under t ts ms)
    numbers_removed t = subst (λ q. numbers_under t (remove ts at) (remove ms at) ≡ cond (q == t) [] (numbers_under t ts ms)) p.there
        (under_removed t ts ms at p.within is.each (once ts is.rise at p.within))

    set_own : (k : List ℕ) → numbers_under task ts (slice_set ms at k) ≡ k
    set_own k = numbers_set k task ∙ ap (λ b. cond b k (numbers_under task ts ms)) (eq-eqb task task refl)

    removed_own : numbers_under task (remove ts at) (remove ms at) ≡ []
    removed_own = numbers_removed task ∙ ap (λ b. cond b [] (numbers_under task ts ms)) (eq-eqb task task refl)

    module _ (number r q : ℕ) (k : List ℕ) where
      pub noted_set : IsMoreBy number (get_or ms at []) k → IsNotedIn task number (record { tasks = ts; maps = ms; room = r }) (record { tasks = ts; maps = slice_set ms at k; room = q })
      noted_set more = record {
        others = λ t other. numbers_set k t ∙ ap (λ b. cond b k (numbers_under t ts ms)) other;
        own = subst (λ ns. IsMoreBy number ns (numbers_under task ts (slice_set ms at k))) (sym own_numbers) (subst (λ ns. IsMoreBy number (get_or ms at []) ns) (sym (set_own k)) more);
      }

      pub forgotten_set : IsLessBy number (get_or ms at []) k → r ≤ q
          → IsForgottenIn task number (record { tasks = ts; maps = ms; room = r }) (record { tasks = ts; maps = slice_set ms at k; room = q })
      forgotten_set less room = record {
        others = λ t other. numbers_set k t ∙ ap (λ b. cond b k (numbers_under t ts ms)) other;
        own = subst (λ ns. IsLessBy number ns (numbers_under task ts (slice_set ms at k))) (sym own_numbers) (subst (λ ns. IsLessBy number (get_or ms at []) ns) (sym (set_own k)) less);
        room = room;
      }

      -- its last number goes, and the task too
      pub forgotten_removed : IsLessBy number (get_or ms at []) k → length k ≡ 0 → r ≤ q
          → IsForgottenIn task number (record { tasks = ts; maps = ms; room = r }) (record { tasks = remove ts at; maps = remove ms at; room = q })
      forgotten_removed less none room = record {
        others = λ t other. numbers_removed t ∙ ap (λ b. cond b [] (numbers_under t ts ms)) other;
        own = subst (λ ns. IsLessBy number ns (numbers_under task (remove ts at) (remove ms at))) (sym own_numbers)
            (subst (λ ns. IsLessBy number (get_or ms at []) ns) (nil_from_length k none ∙ sym removed_own) less);
        room = room;
      }

  module _ (g : IsGap ts task at) where
    in_gap : at ≤ length ms
    in_gap = omega (arith, g.within, is.each)

    pub no_numbers : numbers_under task ts ms ≡ []
    no_numbers = under_none task ts ms (gap_none ts is.rise task at g)

    pub without_none : (t : ℕ) → numbers_under t ts ms ≡ cond (task == t) [] (numbers_under t ts ms)
    without_none t = by (task == t) refl
      where
        by : (b : Bool) → (task == t) ≡ b → numbers_under t ts ms ≡ cond b [] (numbers_under t ts ms)
        by true same = subst (λ q. numbers_under q ts ms ≡ []) (eqb-true task t same) no_numbers
        by false other = refl

    pub forgotten_none : (number r : ℕ) → IsForgottenIn task number (record { tasks = ts; maps = ms; room = r }) (record { tasks = ts; maps = ms; room = r })
    forgotten_none number r = record { others = λ t other. refl; own = less_absent number (numbers_under task ts ms) (ap (is_among number) no_numbers); room = omega arith }

    pub numbers_inserted : (k : List ℕ) (t : ℕ) → numbers_under t (insert ts at task) (insert ms at k) ≡ cond (task == t) k (numbers_under t ts ms)
    numbers_inserted k t = under_inserted t task k ts ms at g.within is.each (gap_none ts is.rise task at g)
