use Rattle.std.proofs.lemmas.Grind.{common_steps}
-- A change of one block, as a change of the indices of all.
use Rattle.std.proofs.Common.{◌≡◌, ◌≢◌, ℕ, zero, suc, ◌+◌, ◌-◌, ◌*◌, ◌/◌, ◌%◌, ◌<◌, ◌≤◌, min, Bool, true, false, not, ◌&&◌, ◌||◌, List, [], length, get_or, set, cond, None, sym, refl, ap, ◌∙◌, arith}
use Rattle.std.proofs.Common.{⊎_elim, Option, Some, IsSome, subst, unwrap_or, count_by}
use Rattle.std.specs.List.{range_with_len}
use Rattle.std.proofs.Math.Bool.{or-false, and-true}
use Rattle.std.proofs.lemmas.Bool.{cases_lt, cases_eq, ltb-true, false≢true}
use Rattle.std.proofs.lemmas.Bool.Decides.{nat_tests}
use Rattle.std.proofs.lemmas.List.{length-map, length-set}
use Rattle.hp_inode.proofs.Later.{block_there, here_now, others_now}
use Rattle.std.proofs.lemmas.List.FromFn.{length-range_with_len}
use Rattle.std.proofs.lemmas.List.Sums.{count_by-le-length}
use Rattle.hp_model.proofs.Counting.{alike_in, count_cons, count_not, count_split, count_outside}
use Rattle.hp_model.proofs.Ranges.{within-true, within-below, within-past}
use Rattle.hp_model.proofs.Words.{within}
use Rattle.hp_inode.specs.Blocks.{WordBlocks, RowBlocks, AreBlocks, block_at, entered_at, has_word_for, page_at, has_slot_at, entered_count, missing_count, IsRowTable}
use Rattle.hp_inode.specs.EntryBlock.{count_in, missing_in}
use Rattle.hp_inode.specs.Later.{contents}
use Rattle.hp_marks.specs.Marks.{marked}
use Rattle.hp_inode.specs.Rows.{page_in, has_slot, IsPageTaken, TakesFirst, Rows}
use Rattle.hp_inode.proofs.Removed.{parts_left}
use Rattle.hp_marks.proofs.Words.{unmarked_past}

-- ---- one block for another

-- all blocks but one are as they were
abbrev pub KeepsOthers : {X : Type 0} → List (List X) → List (List X) → ℕ → Type 0
KeepsOthers old new q = (j : ℕ) → j ≢ q → get_or new j [] ≡ get_or old j []

-- of blocks that hold the same, one changes
module _ {X : Type 0} (blocks kept : List (Option (List X))) (alike : (j : ℕ) → get_or (contents [] kept) j [] ≡ get_or (contents [] blocks) j []) (at : ℕ)
    (old now : List X) (is : get_or kept at None ≡ Some old) where
  pub others_stay_there : KeepsOthers (contents [] blocks) (contents [] (set kept at (Some now))) at
  others_stay_there j differs = others_now [] kept at old now is j differs ∙ alike j

  pub was_there : get_or (contents [] blocks) at [] ≡ old
  was_there = sym (alike at) ∙ block_there [] kept at old is

  -- and so what is seen of it
  pub changed_there : {B : Type 0} (see : List X → B) (f : B → B) → see now ≡ f (see old) →
      see (get_or (contents [] (set kept at (Some now))) at []) ≡ f (see (get_or (contents [] blocks) at []))
  changed_there see f same = ap see (here_now [] kept at old now is) ∙ same ∙ ap (λ block. f (see block)) (sym was_there)

  pub seen_there : {B : Type 0} (see : List X → B) → see now ≡ see old → see (get_or (contents [] (set kept at (Some now))) at []) ≡ see (get_or (contents [] blocks) at [])
  seen_there see = changed_there see (λ t. t)

  pub length_there : length (contents [] (set kept at (Some now))) ≡ length kept
  length_there = length-map (set kept at (Some now)) (λ block. unwrap_or block []) ∙ length-set kept at (Some now)

pub few_there : {X : Type 0} (blocks : List (Option (List X))) → length (contents [] blocks) ≤ 65536 → length blocks ≤ 65536
few_there blocks few = omega (arith, few, length-map blocks (λ block. unwrap_or block []))

-- ---- the indices of a block

module _ (at count : ℕ) (fits : at % 65536 + count ≤ 65536) where
  pub same_block : (k : ℕ) → at ≤ k → k < at + count → k / 65536 ≡ at / 65536
  same_block k low high = omega (arith, low, high, fits)

  within_here : (k : ℕ) → k / 65536 ≡ at / 65536 → within (at % 65536) (at % 65536 + count) (k % 65536) ≡ within at (at + count) k
  within_here k here = grind (arith, common_steps, within-below, within-true, within-past, cases_lt)

  within_other : (k : ℕ) → k / 65536 ≢ at / 65536 → within at (at + count) k ≡ false
  within_other k other = grind (arith, common_steps, within-below, same_block, within-past, cases_lt)

-- ---- one block changed

joined_or : (x : Bool) (a m b k : ℕ) → a ≤ m → m ≤ b → ((x || within a m k) || within m b k) ≡ (x || within a b k)
joined_or true a m b k low high = refl
joined_or false a m b k low high = grind (arith, nat_tests)

-- what is seen of the indices of a block stays, and so does what is seen of all
pub as_before : {X B : Type 0} (see : List X → ℕ → B) (old new : List (List X)) (q : ℕ) → KeepsOthers old new q →
    ((k : ℕ) → see (get_or new q []) k ≡ see (get_or old q []) k) → (k : ℕ) → see (block_at new k) (k % 65536) ≡ see (block_at old k) (k % 65536)
as_before see old new q others here k = grind (arith, common_steps, cases_eq)

pub all_there : {X B : Type 0} (see : List X → ℕ → B) (blocks kept : List (Option (List X))) (alike : (j : ℕ) → get_or (contents [] kept) j [] ≡ get_or (contents [] blocks) j []) (at : ℕ)
    (old now : List X) (is : get_or kept at None ≡ Some old) → ((k : ℕ) → see now k ≡ see old k) →
    (k : ℕ) → see (block_at (contents [] (set kept at (Some now))) k) (k % 65536) ≡ see (block_at (contents [] blocks) k) (k % 65536)
all_there see blocks kept alike at old now is same = as_before see (contents [] blocks) (contents [] (set kept at (Some now))) at (others_stay_there blocks kept alike at old now is)
    (λ k. seen_there blocks kept alike at old now is (λ block. see block k) (same k))

module _ (old new : WordBlocks) (at count : ℕ) (fits : at % 65536 + count ≤ 65536) (others : KeepsOthers old new (at / 65536)) where
  stays : (k : ℕ) → k / 65536 ≢ at / 65536 → entered_at new k ≡ entered_at old k
  stays k other = ap (λ words. marked words (k % 65536)) (others (k / 65536) other)

  here_at : (k : ℕ) → k / 65536 ≡ at / 65536 → (words : WordBlocks) → entered_at words k ≡ marked (get_or words (at / 65536) []) (k % 65536)
  here_at k here words = ap (λ q. marked (get_or words q []) (k % 65536)) here

  pub part_added : ((k : ℕ) → marked (get_or new (at / 65536) []) k ≡ (marked (get_or old (at / 65536) []) k || within (at % 65536) (at % 65536 + count) k)) →
      (k : ℕ) → entered_at new k ≡ (entered_at old k || within at (at + count) k)
  part_added here k = grind (arith, common_steps, here_at, within_here, stays, within_other, or-false, cases_eq)

  pub added : (start : WordBlocks) (a : ℕ) → a ≤ at →
      ((k : ℕ) → marked (get_or new (at / 65536) []) k ≡ (marked (get_or old (at / 65536) []) k || within (at % 65536) (at % 65536 + count) k)) →
      ((k : ℕ) → entered_at old k ≡ (entered_at start k || within a at k)) → (k : ℕ) → entered_at new k ≡ (entered_at start k || within a (at + count) k)
  added start a low here done k = part_added here k ∙ ap (λ t. t || within at (at + count) k) (done k) ∙ joined_or (entered_at start k) a at (at + count) k low (omega arith)

  pub part_out : ((k : ℕ) → marked (get_or new (at / 65536) []) k ≡ (marked (get_or old (at / 65536) []) k && not (within (at % 65536) (at % 65536 + count) k))) →
      (k : ℕ) → entered_at new k ≡ (entered_at old k && not (within at (at + count) k))
  part_out here k = grind (arith, common_steps, here_at, within_here, stays, within_other, and-true, cases_eq)

  pub taken_out : (start : WordBlocks) (a : ℕ) → a ≤ at →
      ((k : ℕ) → marked (get_or new (at / 65536) []) k ≡ (marked (get_or old (at / 65536) []) k && not (within (at % 65536) (at % 65536 + count) k))) →
      ((k : ℕ) → entered_at old k ≡ (entered_at start k && not (within a at k))) → (k : ℕ) → entered_at new k ≡ (entered_at start k && not (within a (at + count) k))
  taken_out start a low here done k = part_out here k ∙ ap (λ t. t && not (within at (at + count) k)) (done k) ∙ parts_left (entered_at start k) a at (at + count) k low (omega arith)

-- ---- the first block

pub near : (words : WordBlocks) (k : ℕ) → k < 65536 → entered_at words k ≡ marked (get_or words 0 []) k
near words k lt =
    ap (λ q. marked (get_or words q []) (k % 65536)) {x = k / 65536} {y = 0} (omega (arith, lt)) ∙ ap (marked (get_or words 0 [])) {x = k % 65536} {y = k} (omega (arith, lt))

pub near_page : (rows : RowBlocks) (k : ℕ) → k < 65536 → page_at rows k ≡ page_in (get_or rows 0 []) k
near_page rows k lt =
    ap (λ q. page_in (get_or rows q []) (k % 65536)) {x = k / 65536} {y = 0} (omega (arith, lt)) ∙ ap (page_in (get_or rows 0 [])) {x = k % 65536} {y = k} (omega (arith, lt))

pub near_slot : (rows : RowBlocks) (k : ℕ) → k < 65536 → has_slot_at rows k ≡ has_slot (get_or rows 0 []) k
near_slot rows k lt =
    ap (λ q. has_slot (get_or rows q []) (k % 65536)) {x = k / 65536} {y = 0} (omega (arith, lt)) ∙ ap (has_slot (get_or rows 0 [])) {x = k % 65536} {y = k} (omega (arith, lt))

module _ (words : WordBlocks) (a b : ℕ) (le : b ≤ 65536) where
  pub near_counted : count_in (get_or words 0 []) a b ≡ entered_count words a b
  near_counted = alike_in (marked (get_or words 0 [])) (entered_at words) a (b - a) (λ k low high. sym (near words k (omega (arith, low, high, le))))

  pub near_missing : missing_in (get_or words 0 []) a b ≡ missing_count words a b
  near_missing = alike_in (λ k. not (marked (get_or words 0 []) k)) (λ k. not (entered_at words k)) a (b - a) (λ k low high. ap not (sym (near words k (omega (arith, low, high, le)))))

-- a change of indices of the first block
pub near_changed : (f : Bool → Bool → Bool) → ((t : Bool) → f t false ≡ t) → (old new : WordBlocks) (a b : ℕ) → b ≤ 65536 → KeepsOthers old new 0 →
    ((k : ℕ) → marked (get_or new 0 []) k ≡ f (marked (get_or old 0 []) k) (within a b k)) → (k : ℕ) → entered_at new k ≡ f (entered_at old k) (within a b k)
near_changed f stays old new a b le others here k = ⊎_elim
    (λ (lt : k < 65536). near new k lt ∙ here k ∙ ap (λ t. f t (within a b k)) (sym (near old k lt)))
    (λ (past : 65536 ≤ k).
    ap (λ block. marked block (k % 65536)) (others (k / 65536) (λ none. absurd (omega (arith, none, past))))
    ∙ sym (ap (f (entered_at old k)) (within-past a b k (omega (arith, past, le))) ∙ stays (entered_at old k)))
    (cases_lt k 65536)

-- places up to the end of a part, by its last
pub room_for : (words : WordBlocks) (at count : ℕ) → at % 65536 + count ≤ 65536 → 0 < count → has_word_for words (at + count - 1) ≡ true →
    at % 65536 + count ≤ 64 * length (get_or words (at / 65536) [])
room_for words at count fits some has = grind (arith, common_steps, ltb-true)

-- and of the first block
pub near_room : (words : WordBlocks) (b : ℕ) → 0 < b → b ≤ 65536 → has_word_for words (b - 1) ≡ true → b ≤ 64 * length (get_or words 0 [])
near_room words b some le has = omega (arith, some, le, ltb-true _ _ has, ap (λ q. length (get_or words q [])) {x = (b - 1) / 65536} {y = 0} (omega (arith, some, le)))

-- ---- how many

pub count_moved : (p r : ℕ → Bool) (x y n : ℕ) → ((j : ℕ) → j < n → p (x + j) ≡ r (y + j)) → count_by p (range_with_len x n) ≡ count_by r (range_with_len y n)
count_moved p r x y zero same = refl
count_moved p r x y (suc n) same =
    let first : p x ≡ r y = ap p {x = x} {y = x + 0} (omega arith) ∙ same 0 (omega arith) ∙ ap r {x = y + 0} {y = y} (omega arith) in
    let rest = count_moved p r (x + 1) (y + 1) n (λ j lt.
    ap p {x = x + 1 + j} {y = x + (j + 1)} (omega arith) ∙ same (j + 1) (omega (arith, lt)) ∙ ap r {x = y + (j + 1)} {y = y + 1 + j} (omega arith)) in
    count_cons p x (range_with_len (x + 1) n) ∙ ap (λ t. cond {A = ℕ} t 1 0 + count_by p (range_with_len (x + 1) n)) first ∙ ap (λ k. cond {A = ℕ} (r y) 1 0 + k) rest
    ∙ sym (count_cons r y (range_with_len (y + 1) n))

module _ (words : WordBlocks) (at count : ℕ) (fits : at % 65536 + count ≤ 65536) where
  at_place : (j : ℕ) → j < count → entered_at words (at + j) ≡ marked (get_or words (at / 65536) []) (at % 65536 + j)
  at_place j lt = grind (arith, common_steps)

  back : at % 65536 + count - at % 65536 ≡ count
  back = omega arith

  pub counted_here : count_in (get_or words (at / 65536) []) (at % 65536) (at % 65536 + count) ≡ count_by (entered_at words) (range_with_len at count)
  counted_here = grind (arith, common_steps, back, count_moved, at_place)

  pub missed_here : missing_in (get_or words (at / 65536) []) (at % 65536) (at % 65536 + count) ≡ count_by (λ i. not (entered_at words i)) (range_with_len at count)
  missed_here = grind (arith, common_steps, back, count_moved, at_place)

pub none_missed : (a b : ℕ) → b - a ≡ missing_in [] a b
none_missed a b = grind (arith, common_steps, count_outside, unmarked_past, count_not, length-range_with_len)

pub none_counted : (a b : ℕ) → 0 ≡ count_in [] a b
none_counted a b = sym (count_outside (marked []) a (b - a) (λ i low high. unmarked_past [] i (omega arith)))

pub few_in : (p : ℕ → Bool) (a n : ℕ) → count_by p (range_with_len a n) ≤ n
few_in p a n = omega (arith, count_by-le-length p (range_with_len a n), length-range_with_len a n)

-- what was not taken out yet
pub still_entered : (start now : WordBlocks) (a at count : ℕ) → ((k : ℕ) → entered_at now k ≡ (entered_at start k && not (within a at k))) →
    count_by (entered_at now) (range_with_len at count) ≡ count_by (entered_at start) (range_with_len at count)
still_entered start now a at count left =
    alike_in (entered_at now) (entered_at start) at count (λ k low high. left k ∙ ap (λ t. entered_at start k && not t) (within-past a at k low) ∙ and-true (entered_at start k))

-- further by a part
pub counted_on : (p : ℕ → Bool) (a at count : ℕ) → a ≤ at → count_by p (range_with_len a (at - a)) + count_by p (range_with_len at count) ≡ count_by p (range_with_len a (at + count - a))
counted_on p a at count low =
    let start : a + (at - a) ≡ at = omega (arith, low) in
    let long : at - a + count ≡ at + count - a = omega (arith, low) in
    ap (λ s. count_by p (range_with_len a (at - a)) + count_by p (range_with_len s count)) (sym start) ∙ sym (count_split p a (at - a) count)
    ∙ ap (λ n. count_by p (range_with_len a n)) long

-- ---- pages

-- with the same pages in each block
pub same_blocks : (old new : RowBlocks) → length new ≤ 65536 → ((j k : ℕ) → 65536 ≤ k → page_in (get_or new j []) k ≡ page_in (get_or old j []) k) → AreBlocks old → AreBlocks new
same_blocks old new few same are = record { few = few; within = λ j k past. same j k past ∙ are.within j k past }

module _ (old new : RowBlocks) (q : ℕ) (others : KeepsOthers old new q) where
  pub kept_blocks : length new ≤ 65536 → ((k : ℕ) → 65536 ≤ k → page_in (get_or new q []) k ≡ page_in (get_or old q []) k) → AreBlocks old → AreBlocks new
  kept_blocks few here are = same_blocks old new few (λ j k past. ⊎_elim
      (λ (same : j ≡ q). ap (λ n. page_in (get_or new n []) k) same ∙ here k past ∙ ap (λ n. page_in (get_or old n []) k) (sym same))
      (λ (other : j ≢ q). ap (λ block. page_in block k) (others j other))
      (cases_eq j q)) are

  -- one page changed
  pub others_stay : (i place : ℕ) → i / 65536 ≡ q → i % 65536 ≡ place →
      ((k : ℕ) → (k ≡ place → ⊥) → page_in (get_or new q []) k ≡ page_in (get_or old q []) k) → (k : ℕ) → (k ≡ i → ⊥) → page_at new k ≡ page_at old k
  others_stay i place block_is place_is same k differs = ⊎_elim
      (λ (here : k / 65536 ≡ q).
      ap (λ n. page_in (get_or new n []) (k % 65536)) here ∙ same (k % 65536) (λ e. differs (omega (arith, e, here, block_is, place_is))) ∙ ap (λ n. page_in (get_or old n []) (k % 65536)) (sym here))
      (λ (other : k / 65536 ≢ q). ap (λ block. page_in block (k % 65536)) (others (k / 65536) other))
      (cases_eq (k / 65536) q)

-- ---- slots that are made

module _ (start old new : RowBlocks) (a at count : ℕ) (low : a ≤ at) (fits : at % 65536 + count ≤ 65536) (others : KeepsOthers old new (at / 65536)) where
  slot_here : (k : ℕ) → k / 65536 ≡ at / 65536 → (rows : RowBlocks) → has_slot_at rows k ≡ has_slot (get_or rows (at / 65536) []) (k % 65536)
  slot_here k same rows = ap (λ q. has_slot (get_or rows q []) (k % 65536)) same

  slot_other : (k : ℕ) → k / 65536 ≢ at / 65536 → has_slot_at new k ≡ has_slot_at old k
  slot_other k other = ap (λ block. has_slot block (k % 65536)) (others (k / 65536) other)

  module _ (kept : (k : ℕ) → has_slot (get_or old (at / 65536) []) k ≡ true → has_slot (get_or new (at / 65536) []) k ≡ true) where
    pub slots_stay : (k : ℕ) → has_slot_at old k ≡ true → has_slot_at new k ≡ true
    slots_stay k has = grind (arith, common_steps, slot_here, slot_other, cases_eq)

    pub slots_made : ((k : ℕ) → at % 65536 ≤ k → k < at % 65536 + count → has_slot (get_or new (at / 65536) []) k ≡ true) →
        ((k : ℕ) → a ≤ k → k < at → has_slot_at old k ≡ true) → (k : ℕ) → a ≤ k → k < at + count → has_slot_at new k ≡ true
    slots_made made before k from below = ⊎_elim
        (λ (early : k < at). slots_stay k (before k from early))
        (λ (late : at ≤ k).
        let same = same_block at count fits k late below in
        slot_here k same new ∙ made (k % 65536) (omega (arith, late, same)) (omega (arith, below, same)))
        (cases_lt k at)

  pub slots_below : ((k : ℕ) → k / 64 < at % 65536 / 64 → has_slot (get_or new (at / 65536) []) k ≡ has_slot (get_or old (at / 65536) []) k) →
      ((k : ℕ) → k / 64 < a / 64 → has_slot_at old k ≡ has_slot_at start k) → (k : ℕ) → k / 64 < a / 64 → has_slot_at new k ≡ has_slot_at start k
  slots_below here before k below = grind (arith, common_steps, slot_here, slot_other, cases_eq)

-- those of the first block below an index
pub near_below : (old new : RowBlocks) (a : ℕ) → KeepsOthers old new 0 → ((k : ℕ) → k / 64 < a / 64 → has_slot (get_or new 0 []) k ≡ has_slot (get_or old 0 []) k) →
    (k : ℕ) → k / 64 < a / 64 → has_slot_at new k ≡ has_slot_at old k
near_below old new a others here k below = grind (arith, common_steps, cases_eq)

-- ---- the first page

-- a page goes
pub table_emptied : (old new : RowBlocks) (low high i : ℕ) → AreBlocks new → page_at new i ≡ None → ((k : ℕ) → (k ≡ i → ⊥) → page_at new k ≡ page_at old k)
    → IsRowTable old low high → IsRowTable new low high
table_emptied old new low high i are here others was =
    record {
      blocks = are;
      none_in = λ k from below. ⊎_elim
          (λ (same : k ≡ i). ap (page_at new) same ∙ here)
          (λ (other : k ≡ i → ⊥). others k other ∙ was.none_in k from below)
          (cases_eq k i);
    }

-- the first page of a block's indices is taken out
module _ (old new : RowBlocks) (at from to i page : ℕ) (taken : IsPageTaken (page_in (get_or old at [])) (page_in (get_or new at [])) from to i page)
    (are : AreBlocks old) (others : KeepsOthers old new at) where
  pub index_within : i < 65536
  index_within = grind (arith, common_steps, false≢true, cases_lt)

  there : (blocks : RowBlocks) → page_at blocks (at * 65536 + i) ≡ page_in (get_or blocks at []) i
  there blocks =
      ap (λ q. page_in (get_or blocks q []) ((at * 65536 + i) % 65536)) {x = (at * 65536 + i) / 65536} {y = at} (omega (arith, index_within))
      ∙ ap (page_in (get_or blocks at [])) {x = (at * 65536 + i) % 65536} {y = i} (omega (arith, index_within))

  gone_here : page_at new (at * 65536 + i) ≡ None
  gone_here = there new ∙ taken.here

  others_as_before : (k : ℕ) → (k ≡ at * 65536 + i → ⊥) → page_at new k ≡ page_at old k
  others_as_before = others_stay old new at others (at * 65536 + i) i (omega (arith, index_within)) (omega (arith, index_within)) taken.others

  blocks_after : length new ≤ 65536 → AreBlocks new
  blocks_after few = kept_blocks old new at others few (λ k past. taken.others k (λ same. absurd (omega (arith, past, same, index_within)))) are

  -- it is the first of all from a on
  pub taken_at : (a b : ℕ) → a ≤ at * 65536 + from → to ≡ b - at * 65536 → ((k : ℕ) → a ≤ k → k < at * 65536 + from → k < b → page_at old k ≡ None) →
      IsPageTaken (page_at old) (page_at new) a b (at * 65536 + i) page
  taken_at a b low to_is before = record {
    first = record {
      from = omega (arith, low, taken.first.from);
      here = subst IsSome (sym (there old)) taken.first.here;
      none_before = λ k above below. ⊎_elim
          (λ (early : k < at * 65536 + from). before k above early (omega (arith, below, taken.below, to_is)))
          (λ (late : at * 65536 + from ≤ k).
          let same : k / 65536 ≡ at = omega (arith, late, below, index_within) in
          ap (λ q. page_in (get_or old q []) (k % 65536)) same ∙ taken.first.none_before (k % 65536) (omega (arith, late, same)) (omega (arith, below, same)))
          (cases_lt k (at * 65536 + from));
    };
    below = omega (arith, taken.below, to_is);
    was = there old ∙ taken.was;
    here = gone_here;
    others = others_as_before;
  }

  pub table_taken : (low high : ℕ) → length new ≤ 65536 → IsRowTable old low high → IsRowTable new low high
  table_taken low high few = table_emptied old new low high (at * 65536 + i) (blocks_after few) gone_here others_as_before

-- ---- blocks of which some indices have no page

-- the same pages
pub table_as_before : (old new : RowBlocks) (low high : ℕ) → AreBlocks new → ((k : ℕ) → page_at new k ≡ page_at old k) → IsRowTable old low high → IsRowTable new low high
table_as_before old new low high are same was = record { blocks = are; none_in = λ k from below. same k ∙ was.none_in k from below }

-- a page comes at index i, or goes
pub table_set : (old new : RowBlocks) (low high after i : ℕ) → after ≡ min high i → AreBlocks new → ((k : ℕ) → (k ≡ i → ⊥) → page_at new k ≡ page_at old k)
    → IsRowTable old low high → IsRowTable new low after
table_set old new low high after i is are others was = grind (arith, common_steps)

-- from a block, or there is none
pub table_after : (old new : RowBlocks) (low high at from to : ℕ) (taken : Option (ℕ × ℕ)) → TakesFirst (page_in (get_or old at [])) (page_in (get_or new at [])) from to taken →
    (taken ≡ None → new ≡ old) → length new ≤ 65536 → KeepsOthers old new at → IsRowTable old low high → IsRowTable new low high
table_after old new low high at from to None none same few others was = subst (λ (rows : RowBlocks). IsRowTable rows low high) (sym (same refl)) was
table_after old new low high at from to (Some p) taken same few others was = table_taken old new at from to p.0 p.1 taken was.blocks others low high few was

-- a block changes, with the pages that it had
module _ (blocks kept : List (Option Rows)) (alike : (j : ℕ) → get_or (contents [] kept) j [] ≡ get_or (contents [] blocks) j []) (at : ℕ) (old now : Rows) (is : get_or kept at None ≡ Some old)
    (pages : (k : ℕ) → page_in now k ≡ page_in old k) where
  pub table_there : length kept ≤ 65536 → (low high : ℕ) → IsRowTable (contents [] blocks) low high → IsRowTable (contents [] (set kept at (Some now))) low high
  table_there few low high was = table_as_before (contents [] blocks) (contents [] (set kept at (Some now))) low high
      (kept_blocks (contents [] blocks) (contents [] (set kept at (Some now))) at (others_stay_there blocks kept alike at old now is)
      (omega (arith, few, length_there blocks kept alike at old now is))
      (λ k past. seen_there blocks kept alike at old now is (λ block. page_in block k) (pages k)) was.blocks) (all_there page_in blocks kept alike at old now is pages) was

-- a block gets or loses the page of one index
module _ (blocks : List (Option Rows)) (at : ℕ) (old now : Rows) (is : get_or blocks at None ≡ Some old) (i place : ℕ) (block_is : i / 65536 ≡ at) (place_is : i % 65536 ≡ place)
    (same : (k : ℕ) → (k ≡ place → ⊥) → page_in now k ≡ page_in old k) where
  same_in : (k : ℕ) → (k ≡ place → ⊥) → page_in (get_or (contents [] (set blocks at (Some now))) at []) k ≡ page_in (get_or (contents [] blocks) at []) k
  same_in k differs = seen_there blocks blocks (λ j. refl) at old now is (λ block. page_in block k) (same k differs)

  pub others_set : (k : ℕ) → (k ≡ i → ⊥) → page_at (contents [] (set blocks at (Some now))) k ≡ page_at (contents [] blocks) k
  others_set = others_stay (contents [] blocks) (contents [] (set blocks at (Some now))) at (others_stay_there blocks blocks (λ j. refl) at old now is) i place block_is place_is same_in

  pub page_set : (page : Option ℕ) → page_in now place ≡ page → page_at (contents [] (set blocks at (Some now))) i ≡ page
  page_set page here = ap (λ q. page_in (get_or (contents [] (set blocks at (Some now))) q []) (i % 65536)) block_is
      ∙ ap (page_in (get_or (contents [] (set blocks at (Some now))) at [])) place_is ∙ ap (λ block. page_in block place) (here_now [] blocks at old now is) ∙ here

  pub blocks_set : (low high after : ℕ) → after ≡ min high i → IsRowTable (contents [] blocks) low high → IsRowTable (contents [] (set blocks at (Some now))) low after
  blocks_set low high after after_is was = table_set (contents [] blocks) (contents [] (set blocks at (Some now))) low high after i after_is
      (kept_blocks (contents [] blocks) (contents [] (set blocks at (Some now))) at (others_stay_there blocks blocks (λ j. refl) at old now is)
      (omega (arith, few_there blocks was.blocks.few, length_there blocks blocks (λ j. refl) at old now is))
      (λ k past. same_in k (λ here. absurd (omega (arith, past, here, place_is)))) was.blocks) others_set was
