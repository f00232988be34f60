use Rattle.std.proofs.lemmas.Grind.{common_steps}
-- A file that gives back, by what code did.
use Rattle.std.proofs.Common.{◌≡◌, ℕ, ◌+◌, ◌<◌, ◌≤◌, ◌==◌, ◌⊎◌, nat_lt, Bool, true, false, not, List, [], ◌∷◌, Option, Some, None, Ok, Err, length, min, refl, sym, ap, subst, ◌∙◌, arith, slice_set}
use Rattle.std.proofs.Common.{count_by, sum_by}
use Rattle.std.proofs.lemmas.Bool.Decides.{nat_tests}
use Rattle.std.proofs.lemmas.List.{length-set}
use Rattle.std.proofs.lemmas.List.Filters.{length-filter_both}
use Rattle.hp_laws.proofs.Variants.{Done, PoolAnswer, Refusal, Section}
use Rattle.hp_model.specs.declared.refusal.Refusal.TheVariants as r
use Rattle.hp_model.proofs.Words.{File, Mount, Page, Plan, ThroughDoor, edited, file_in, file_named, file_pages, file_reserves, gives, is_bad_range, is_kept, unless, with_value}
use Rattle.hp_mount_door.specs.Door.{GivesBack, with_less}
use Rattle.hp_lookup.proofs.Words.{Files, IsLeft, edited_at}
use Rattle.hp_mount_laws.specs.Done.{Tried}
use Rattle.hp_mount_laws.specs.Reach.{first_of}
use Rattle.hp_mount_laws.specs.Kept.{IsKept, mount_from}
use Rattle.hp_mount_laws.proofs.Trying.{tests_fail, tests_pass}
use Rattle.hp_mount_laws.proofs.Ending.{gave}
use Rattle.hp_mount_laws.proofs.Ways.{fresh_choice, is_fresh, refused_at}
use Rattle.hp_subpool.specs.Subpool.{Subpool, fall}

-- ---- the share and the files that are left: w is what the files are before the pages go back

-- gs are the files that are left, and what went has been given back
module _ {s : Subpool} {v w : Files} {inodes : Option ℕ} (c : IsKept s v (mount_from s inodes v.files)) {gs : List File} {reserves : ℕ} (left : IsLeft reserves v w) (w_is : w.files ≡ gs)
    {new : Subpool} {last : Files} (new_is : new ≡ with_less (length w.going) reserves s) (last_is : last ≡ record w { going = []; room = min w.room new.held }) where
  pages_are : s.pages ≡ sum_by file_pages w.files + length w.going
  pages_are = (let all = left.pages in let none = ap length c.going in let had = c.pages in omega (arith, all, none, had))

  held_are : s.held ≡ sum_by file_reserves w.files + reserves
  held_are = (let all = left.reserved in let had = c.pages in let was = c.used in omega (arith, all, had, was))

  pub leaves : mount_from new inodes last.files ≡ mount_from s inodes gs
  leaves = ap (λ (x : Subpool). mount_from x inodes last.files) new_is ∙ ap (λ (x : Files). mount_from s inodes x.files) last_is ∙ ap (mount_from s inodes) w_is

  pub keeps : length gs ≤ length v.files → IsKept new last (mount_from new inodes last.files)
  keeps fewer = grind (arith, common_steps, pages_are, held_are)

  pub gave_through : {X : Type 0} {took : X → Section → PoolAnswer → X → Type 0} {door after : X} → GivesBack took w.going (fall s (length w.going + reserves)) door after
      → ThroughDoor took (gives Done (Some (mount_from s inodes v.files)) (Some (mount_from s inodes gs))) (Some (mount_from s inodes v.files)) door (Ok Done)
      (Some (mount_from new inodes last.files)) after
  gave_through {took} {door} {after} back =
      let m : Mount = mount_from s inodes v.files in
      let pages = pages_are in
      let held = held_are in
      let was = c.used in
      subst (λ x. ThroughDoor took (gives Done (Some m) (Some (mount_from s inodes gs))) (Some m) door (Ok Done) (Some x) after) (sym leaves)
      (subst (λ fs. ThroughDoor took (gives Done (Some m) (Some (mount_from s inodes fs))) (Some m) door (Ok Done) (Some (mount_from s inodes fs)) after) w_is
      (gave took Done (Some m) (Some (mount_from s inodes w.files)) w.going (fall s (length w.going + reserves)) door after
      (λ i. (let all = left.nodes i in let none = ap (count_by (λ (page : Page). page.node == i)) c.going in omega (arith, all, none))) (omega (arith, pages, held, was)) back))

-- one file for another, or gone
pub no_more : (k : ℕ) (g : File) (fs : List File) → length (edited_at k g fs) ≤ length fs
no_more k g fs = (let both = length-filter_both is_kept (λ x. not (is_kept x)) (λ x. refl) (slice_set fs k g) in let long = length-set fs k g in omega (arith, both, long))

-- ---- the plan: a file by its name, tests, and what it gives back

module _ {X : Type 0} (took : X → Section → PoolAnswer → X → Type 0) (full : X → Type 0) (m : Mount) (name : List ℕ) (tests : List (Bool × Refusal)) (change : File → File) (door : X) where
  abbrev plan : Plan
  plan = with_value (file_named m name) r.NoSuchFile (λ q. unless tests (gives Done (Some m) (edited m q.0 (change q.1))))

  pub nowhere : file_named m name ≡ None → Tried took full (λ c. plan) (Some m) door (Err r.NoSuchFile) (Some m) door
  nowhere e = (
    fresh_choice false (Some m),
    is_fresh false (Some m),
    subst (λ o. ThroughDoor took (with_value o r.NoSuchFile (λ q. unless tests (gives Done (Some m) (edited m q.0 (change q.1))))) (Some m) door
        (Err r.NoSuchFile) (Some m) door) (sym e) (refused_at took m r.NoSuchFile door),
  )

  module _ (k : ℕ) (named : file_named m name ≡ Some (k, file_in m k)) where
    abbrev after : Plan
    after = gives Done (Some m) (edited m k (change (file_in m k)))

    of_file : plan ≡ unless tests after
    of_file = ap (λ o. with_value o r.NoSuchFile (λ q. unless tests (gives Done (Some m) (edited m q.0 (change q.1))))) named

    pub out_of_range : first_of tests ≡ Some r.OutOfRange → Tried took full (λ c. plan) (Some m) door (Err r.OutOfRange) (Some m) door
    out_of_range h = (
      fresh_choice false (Some m),
      is_fresh false (Some m),
      subst (λ p. ThroughDoor took p (Some m) door (Err r.OutOfRange) (Some m) door) (sym (of_file ∙ tests_fail tests after r.OutOfRange h)) (refused_at took m r.OutOfRange door),
    )

    pub gave_back : first_of tests ≡ None → (n : Mount) (left : X) → ThroughDoor took after (Some m) door (Ok Done) (Some n) left → Tried took full (λ c. plan) (Some m) door (Ok Done) (Some n) left
    gave_back pass n left h = (
      fresh_choice false (Some m),
      is_fresh false (Some m),
      subst (λ p. ThroughDoor took p (Some m) door (Ok Done) (Some n) left) (sym (of_file ∙ tests_pass tests after pass)) h,
    )

-- ---- tests of a range and of a length

pub bad_range : (a b : ℕ) → (b ≤ a) ⊎ ((a < b) × (16777216 < b)) → first_of ((is_bad_range a b, r.OutOfRange) ∷ []) ≡ Some r.OutOfRange
bad_range a b bad = grind (arith, common_steps, nat_tests)

pub good_range : (a b : ℕ) → a < b → b ≤ 16777216 → first_of ((is_bad_range a b, r.OutOfRange) ∷ []) ≡ None
good_range a b l few = (let t : is_bad_range a b ≡ false = grind (arith, nat_tests, l, few) in ap (λ t. first_of ((t, r.OutOfRange) ∷ [])) t)

pub long_file : (n : ℕ) → 16777216 < n → first_of ((nat_lt 16777216 n, r.OutOfRange) ∷ []) ≡ Some r.OutOfRange
long_file n l = (let t : nat_lt 16777216 n ≡ true = grind (arith, nat_tests, l) in ap (λ t. first_of ((t, r.OutOfRange) ∷ [])) t)

pub short_file : (n : ℕ) → n ≤ 16777216 → first_of ((nat_lt 16777216 n, r.OutOfRange) ∷ []) ≡ None
short_file n l = (let t : nat_lt 16777216 n ≡ false = grind (arith, nat_tests, l) in ap (λ t. first_of ((t, r.OutOfRange) ∷ [])) t)
