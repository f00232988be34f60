use Rattle.std.proofs.lemmas.Grind.{common_steps}
-- The rows of chunks, by their homes.
use Rattle.std.proofs.Common.{◌≡◌, ◌≢◌, ℕ, ◌+◌, ◌*◌, ◌/◌, ◌<◌, ◌≤◌, ◌^◌, min, List, [], ◌++◌, length, replicate, get_or, set, cond, Option, None, IsSome, refl, sym, ap, ◌∙◌, arith, ⊎_elim, nat_lt}
use Rattle.std.proofs.Math.ListN.{get_or-map as get_or-mapped}
use Rattle.std.proofs.lemmas.Bool.{cases_eq, cases_lt, false≢true, lt-ltb, le-ltb}
use Rattle.std.proofs.lemmas.List.{ext_get_or, get_or-replicate, get_or-set_same, get_or-set_other, get_or_past, get_or_append_left, get_or-append_right}
use Rattle.std.proofs.lemmas.List.{length-append, length-map, length-replicate, length-set}
use Rattle.std.proofs.lemmas.List.FromFn.{get_or-map-range_with_len, length-map-range_with_len}
use Rattle.std.proofs.lemmas.List.Sums.{count_by-le-length, sum_by-le-sum_by, sum_by-set}
use Rattle.hp_inode.specs.Rows.{slot_in}
use Rattle.hp_inode.specs.Chunks.{AreHomes, ArePromised, bare, promised, chunk_row, chunk_rows, slot_count, chunk_slots, slotted_count, used_count}

-- ---- a row

module _ (slots : List (Option ℕ)) (home : ℕ) where
  pub row_bare : bare ≤ home → chunk_row slots home ≡ []
  row_bare le = rw (le-ltb home bare le) refl

  row_slots : home < bare → chunk_row slots home ≡ chunk_slots slots home
  row_slots lt = rw (lt-ltb home bare lt) refl

  pub length_row : home < bare → length (chunk_row slots home) ≡ 64
  length_row lt = ap length (row_slots lt) ∙ length-map-range_with_len (λ k. get_or slots (64 * home + k) None) 0 64

  pub slot_there : (k : ℕ) → home < bare → k < 64 → get_or (chunk_row slots home) k None ≡ get_or slots (64 * home + k) None
  slot_there k lt small = ap (λ r. get_or r k None) (row_slots lt) ∙ get_or-map-range_with_len (λ j. get_or slots (64 * home + j) None) 0 64 k k None small (omega arith)

pub same_row : (slots new : List (Option ℕ)) (home other : ℕ) → home < bare → other < bare →
    ((k : ℕ) → k < 64 → get_or new (64 * other + k) None ≡ get_or slots (64 * home + k) None) → chunk_row new other ≡ chunk_row slots home
same_row slots new home other lt less same = ext_get_or None (chunk_row new other) (chunk_row slots home) (length_row new other less ∙ sym (length_row slots home lt)) (λ k below.
    let small : k < 64 = omega (arith, below, length_row new other less) in
    slot_there new other k less small ∙ same k small ∙ sym (slot_there slots home k lt small))

-- the same home, where its slots stay
pub row_stays : (slots new : List (Option ℕ)) (home : ℕ) → (home < bare → (k : ℕ) → k < 64 → get_or new (64 * home + k) None ≡ get_or slots (64 * home + k) None) →
    chunk_row new home ≡ chunk_row slots home
row_stays slots new home same = ⊎_elim
    (λ (lt : home < bare). same_row slots new home home lt lt (same lt))
    (λ (le : bare ≤ home). row_bare new home le ∙ sym (row_bare slots home le))
    (cases_lt home bare)

module _ (homes : List ℕ) (slots : List (Option ℕ)) where
  pub row_at : (j : ℕ) → get_or (chunk_rows homes slots) j [] ≡ chunk_row slots (get_or homes j bare)
  row_at j = get_or-mapped (chunk_row slots) homes j bare

  pub length_rows : length (chunk_rows homes slots) ≡ length homes
  length_rows = length-map homes (chunk_row slots)

  pub slots_there : (j : ℕ) → get_or homes j bare < bare → slot_count (chunk_rows homes slots) j ≡ 64
  slots_there j lt = ap length (row_at j) ∙ length_row slots (get_or homes j bare) lt

  pub no_slots : (j : ℕ) → bare ≤ get_or homes j bare → slot_count (chunk_rows homes slots) j ≡ 0
  no_slots j le = ap length (row_at j ∙ row_bare slots (get_or homes j bare) le)

  pub few_slots : (j : ℕ) → slot_count (chunk_rows homes slots) j ≤ 64
  few_slots j = grind (arith, common_steps, slots_there, no_slots, cases_lt)

  pub home_within : (j : ℕ) → get_or homes j bare < bare → j < length homes
  home_within j some = grind (arith, common_steps, get_or_past, cases_lt)

-- ---- counts

abbrev is_used : ℕ → ℕ
is_used home = cond {A = ℕ} (nat_lt home promised) 1 0

abbrev is_slotted : ℕ → ℕ
is_slotted home = cond {A = ℕ} (nat_lt home bare) 1 0

used_one : (home : ℕ) → home < promised → is_used home ≡ 1
used_one home lt = ap (λ t. cond {A = ℕ} t 1 0) (lt-ltb home promised lt)

used_none : (home : ℕ) → promised ≤ home → is_used home ≡ 0
used_none home le = ap (λ t. cond {A = ℕ} t 1 0) (le-ltb home promised le)

slotted_one : (home : ℕ) → home < bare → is_slotted home ≡ 1
slotted_one home lt = ap (λ t. cond {A = ℕ} t 1 0) (lt-ltb home bare lt)

slotted_none : (home : ℕ) → bare ≤ home → is_slotted home ≡ 0
slotted_none home le = ap (λ t. cond {A = ℕ} t 1 0) (le-ltb home bare le)

used_few : (homes : List ℕ) → used_count homes ≤ slotted_count homes
used_few homes = grind (arith, common_steps, sum_by-le-sum_by, used_one, slotted_one, used_none, cases_lt)

module _ (homes : List ℕ) (at home : ℕ) (lt : at < length homes) where
  used_set : used_count (set homes at home) + is_used (get_or homes at bare) ≡ used_count homes + is_used home
  used_set = sum_by-set is_used homes at home bare lt

  slotted_set : slotted_count (set homes at home) + is_slotted (get_or homes at bare) ≡ slotted_count homes + is_slotted home
  slotted_set = sum_by-set is_slotted homes at home bare lt

pub slotted_few : (homes : List ℕ) → slotted_count homes ≤ length homes
slotted_few homes = count_by-le-length (λ home. nat_lt home bare) homes

-- ---- what is read

module _ (homes : List ℕ) (slots : List (Option ℕ)) (are : AreHomes homes slots) where
  pub all_few : length slots ≤ 2 ^ 32
  all_few = omega (arith, are.used, are.few, count_by-le-length (λ home. nat_lt home promised) homes)

  pub slot_at : (j k : ℕ) → k < 64 → slot_in (chunk_rows homes slots) j k ≡ get_or slots (64 * get_or homes j bare + k) None
  slot_at j k small = grind (arith, common_steps, row_at, slot_there, row_bare, get_or_past, all_few, cases_lt)

  -- a chunk with a page has a home of its own
  pub home_of_page : (j k : ℕ) → k < 64 → IsSome (slot_in (chunk_rows homes slots) j k) → get_or homes j bare < promised
  home_of_page j k small some = grind (arith, common_steps, slot_at, get_or_past, all_few, false≢true, cases_lt)

  -- ---- a slot is written

  module _ (at k slot : ℕ) (page : Option ℕ) (own : get_or homes at bare < promised) (small : k < 64) (slot_is : slot ≡ 64 * get_or homes at bare + k) where
    pub slot_within : slot < length slots
    slot_within = omega (arith, are.within at own, small, slot_is)

    pub slot_was : get_or slots slot None ≡ slot_in (chunk_rows homes slots) at k
    slot_was = ap (λ s. get_or slots s None) slot_is ∙ sym (slot_at at k small)

    row_written : chunk_row (set slots slot page) (get_or homes at bare) ≡ set (chunk_row slots (get_or homes at bare)) k page
    row_written =
        let home = get_or homes at bare in
        let lt : home < bare = omega (arith, own) in
        let old = chunk_row slots home in
        let new = chunk_row (set slots slot page) home in
        ext_get_or None new (set old k page) (length_row (set slots slot page) home lt ∙ sym (length-set old k page ∙ length_row slots home lt)) (λ i below.
        let less : i < 64 = omega (arith, below, length_row (set slots slot page) home lt) in
        slot_there (set slots slot page) home i lt less ∙ ⊎_elim
        (λ (same : i ≡ k).
        ap (λ s. get_or (set slots slot page) s None) {x = 64 * home + i} {y = slot} (omega (arith, same, slot_is)) ∙ get_or-set_same slots slot page None slot_within
        ∙ sym (ap (λ n. get_or (set old k page) n None) same ∙ get_or-set_same old k page None (omega (arith, small, length_row slots home lt))))
        (λ (other : i ≢ k).
        get_or-set_other slots slot (64 * home + i) page None (λ e. other (omega (arith, e, slot_is)))
        ∙ sym (get_or-set_other old k i page None other ∙ slot_there slots home i lt less))
        (cases_eq i k))

    pub rows_set : chunk_rows homes (set slots slot page) ≡ set (chunk_rows homes slots) at (set (get_or (chunk_rows homes slots) at []) k page)
    rows_set =
        let row = set (get_or (chunk_rows homes slots) at []) k page in
        let inside : at < length (chunk_rows homes slots) = omega (arith, home_within homes slots at (omega (arith, own)), length_rows homes slots) in
        ext_get_or [] (chunk_rows homes (set slots slot page)) (set (chunk_rows homes slots) at row)
        (length_rows homes (set slots slot page) ∙ sym (length-set (chunk_rows homes slots) at row ∙ length_rows homes slots))
        (λ j below. row_at homes (set slots slot page) j ∙ ⊎_elim
        (λ (same : j ≡ at).
        ap (λ i. chunk_row (set slots slot page) (get_or homes i bare)) same ∙ row_written ∙ ap (λ r. set r k page) (sym (row_at homes slots at))
        ∙ sym (ap (λ i. get_or (set (chunk_rows homes slots) at row) i []) same ∙ get_or-set_same (chunk_rows homes slots) at row [] inside))
        (λ (other : j ≢ at).
        row_stays slots (set slots slot page) (get_or homes j bare) (λ lt i less. get_or-set_other slots slot (64 * get_or homes j bare + i) page None (λ e.
        let home : get_or homes j bare ≡ get_or homes at bare = omega (arith, e, slot_is, less, small) in
        other (are.apart j at home (omega (arith, home, own)))))
        ∙ sym (get_or-set_other (chunk_rows homes slots) at j row [] other ∙ row_at homes slots j))
        (cases_eq j at))

-- ---- a chunk gets its slots

pub get_or_replicated : {X : Type 0} (n k : ℕ) (d : X) → get_or (replicate n d) k d ≡ d
get_or_replicated n k d = ⊎_elim (λ (lt : k < n). get_or-replicate n k d d lt) (λ (le : n ≤ k). get_or_past (replicate n d) k d (omega (arith, le, length-replicate n d))) (cases_lt k n)

-- the default behind a list is the default past its end
pub get_or_followed : {X : Type 0} (xs : List X) (n k : ℕ) (d : X) → get_or (xs ++ replicate n d) k d ≡ get_or xs k d
get_or_followed xs n k d = grind (arith, common_steps, get_or_append_left, get_or-append_right, get_or_replicated, get_or_past, cases_lt)

module _ (homes : List ℕ) (slots : List (Option ℕ)) (at home : ℕ) (are : AreHomes homes slots) (none : get_or homes at bare ≡ promised) (home_is : home ≡ length slots / 64) where
  abbrev more : List ℕ
  more = set homes at home

  abbrev longer : List (Option ℕ)
  longer = slots ++ replicate 64 None

  pub at_within : at < length homes
  at_within = home_within homes slots at (omega (arith, none))

  whole : length slots ≡ 64 * home
  whole = omega (arith, are.used, home_is)

  pub home_few : home ≤ 2 ^ 26
  home_few = omega (arith, are.used, are.few, home_is, count_by-le-length (λ n. nat_lt n promised) homes)

  length_longer : length longer ≡ 64 * home + 64
  length_longer = omega (arith, whole, length-append slots (replicate 64 None), length-replicate {A = Option ℕ} 64 None)

  pub home_here : get_or more at bare ≡ home
  home_here = get_or-set_same homes at home bare at_within

  elsewhere : (j : ℕ) → j ≢ at → get_or more j bare ≡ get_or homes j bare
  elsewhere j other = get_or-set_other homes at j home bare other

  used_more : used_count more ≡ used_count homes + 1
  used_more = omega (arith, used_set homes at home at_within, used_none (get_or homes at bare) (omega (arith, none)), used_one home (omega (arith, home_few)))

  pub slotted_more : slotted_count more ≡ slotted_count homes
  slotted_more = omega (arith, slotted_set homes at home at_within, slotted_one (get_or homes at bare) (omega (arith, none)), slotted_one home (omega (arith, home_few)))

  -- there was room for it
  pub room_there : (capacity : ℕ) → 64 * slotted_count homes ≤ capacity → length slots + 64 ≤ capacity
  room_there capacity room = omega (arith, room, are.used, used_more, slotted_more, used_few more)

  lower : (j : ℕ) → get_or homes j bare < promised → get_or homes j bare < home
  lower j lt = omega (arith, are.within j lt, whole)

  row_more : (j : ℕ) → chunk_row longer (get_or more j bare) ≡ chunk_row slots (get_or homes j bare)
  row_more j = ⊎_elim
      (λ (same : j ≡ at).
      let here : get_or more j bare ≡ home = ap (λ i. get_or more i bare) same ∙ home_here in
      let was : get_or homes j bare ≡ promised = ap (λ i. get_or homes i bare) same ∙ none in
      same_row slots longer (get_or homes j bare) (get_or more j bare) (omega (arith, was)) (omega (arith, here, home_few)) (λ k lt.
      get_or_followed slots 64 (64 * get_or more j bare + k) None
      ∙ get_or_past slots (64 * get_or more j bare + k) None (omega (arith, here, whole))
      ∙ sym (get_or_past slots (64 * get_or homes j bare + k) None (omega (arith, was, whole, home_few)))))
      (λ (other : j ≢ at).
      ap (chunk_row longer) (elsewhere j other) ∙ row_stays slots longer (get_or homes j bare) (λ lt k small. get_or_followed slots 64 (64 * get_or homes j bare + k) None))
      (cases_eq j at)

  pub rows_more : chunk_rows more longer ≡ chunk_rows homes slots
  rows_more = ext_get_or [] (chunk_rows more longer) (chunk_rows homes slots) (length_rows more longer ∙ length-set homes at home ∙ sym (length_rows homes slots))
      (λ j below. row_at more longer j ∙ row_more j ∙ sym (row_at homes slots j))

-- ---- places for more chunks

module _ (homes new : List ℕ) (slots : List (Option ℕ)) (same : (j : ℕ) → get_or new j bare ≡ get_or homes j bare) where
  pub homes_alike : length new ≤ 2 ^ 26 → used_count new ≡ used_count homes → AreHomes homes slots → AreHomes new slots
  homes_alike few used are = grind (arith, common_steps)

  pub row_alike : (j : ℕ) → get_or (chunk_rows new slots) j [] ≡ get_or (chunk_rows homes slots) j []
  row_alike j = row_at new slots j ∙ ap (chunk_row slots) (same j) ∙ sym (row_at homes slots j)

-- ---- slots that are promised

module _ (from end : ℕ) (homes new : List ℕ) (is : ArePromised from end homes new) where
  promised_or_same : (P : ℕ → Type 0) (j : ℕ) → P (min promised (get_or homes j bare)) → P (get_or homes j bare) → P (get_or new j bare)
  promised_or_same P j one two = grind (arith, common_steps, cases_lt)

  lower_stays : (j : ℕ) → get_or new j bare < promised → get_or new j bare ≡ get_or homes j bare
  lower_stays j = promised_or_same (λ n. n < promised → n ≡ get_or homes j bare) j (λ lt. omega (arith, lt)) (λ lt. refl)

  module _ (slots : List (Option ℕ)) (are : AreHomes homes slots) (used : used_count new ≡ used_count homes) where
    pub homes_promised : AreHomes new slots
    homes_promised = grind (arith, common_steps, lower_stays)

    pub page_promised : (j k : ℕ) → k < 64 → slot_in (chunk_rows new slots) j k ≡ slot_in (chunk_rows homes slots) j k
    page_promised j k small = grind (arith, common_steps, slot_at, homes_promised, lower_stays, promised_or_same, get_or_past, all_few, cases_lt)

    pub more_promised : (j : ℕ) → slot_count (chunk_rows homes slots) j ≤ slot_count (chunk_rows new slots) j
    more_promised j = grind (arith, common_steps, promised_or_same, slots_there, no_slots, cases_lt)

  pub all_promised : (slots : List (Option ℕ)) (j : ℕ) → from ≤ j → j < end → slot_count (chunk_rows new slots) j ≡ 64
  all_promised slots j low high = slots_there new slots j (omega (arith, is.here j low high))

  pub none_promised : (slots : List (Option ℕ)) (j : ℕ) → j < from → slot_count (chunk_rows new slots) j ≡ slot_count (chunk_rows homes slots) j
  none_promised slots j below =
      ap length (row_at new slots j ∙ ap (chunk_row slots) (is.others j (λ low high. absurd (omega (arith, below, low)))) ∙ sym (row_at homes slots j))

module _ (from at : ℕ) (homes new : List ℕ) (low : from ≤ at) (is : ArePromised from at homes new) where
  -- a chunk that had none
  pub promised_next : at < length new → get_or new at bare ≡ bare → ArePromised from (at + 1) homes (set new at promised)
  promised_next lt none = grind (arith, common_steps, length-set, get_or-set_same, get_or-set_other, cases_eq)

  -- and one that had some
  pub promised_there : get_or new at bare ≤ promised → ArePromised from (at + 1) homes new
  promised_there some = grind (arith, common_steps, cases_eq)

module _ (homes : List ℕ) (at : ℕ) (lt : at < length homes) (none : get_or homes at bare ≡ bare) where
  pub slotted_next : slotted_count (set homes at promised) ≡ slotted_count homes + 1
  slotted_next = omega (arith, slotted_set homes at promised lt, slotted_none (get_or homes at bare) (omega (arith, none)), slotted_one promised (omega arith))

  pub used_next : used_count (set homes at promised) ≡ used_count homes
  used_next = omega (arith, used_set homes at promised lt, used_none (get_or homes at bare) (omega (arith, none)), used_none promised (omega arith))
