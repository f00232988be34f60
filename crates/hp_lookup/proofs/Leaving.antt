use Rattle.std.proofs.lemmas.Grind.{common_steps}
-- Files that lose maps, and those that go with their last one.
use Rattle.std.proofs.Common.{◌≡◌, ℕ, zero, suc, ◌+◌, ◌<◌, ◌≤◌, ◌||◌, nat_lt, Bool, true, false, cond, List, [], ◌∷◌, length, map, refl, sym, ap, subst, ◌∙◌, arith, is_some, slice_index_or, Option}
use Rattle.std.proofs.Common.{None, Some, All, count_by, filter, sum_by}
use Rattle.std.proofs.lemmas.List.{length-map}
use Rattle.std.proofs.lemmas.List.Elements.{All-cons, All-filter, filter_passes}
use Rattle.std.proofs.lemmas.List.Sums.{sum_by-cons}
use Rattle.hp_laws.proofs.Variants.{Gone, Live, Place}
use Rattle.hp_model.proofs.Words.{File, Mapping, file_reserves, is_kept, is_unconsumed, owner_reserves}
use Rattle.hp_model.proofs.Counting.{count_alike, count_map}
use Rattle.hp_store.specs.Store.{Store, holders_of, page_at}
use Rattle.hp_lookup.proofs.Words.{AreLevel, AreNoted, IsDropping, IsFiles, IsHeld, IsLeft, IsMore, Label, Noted, NumberedFile, file_owed, file_shown, files_shown, has_key, has_label, in_cell}
use Rattle.hp_lookup.proofs.Words.{in_cells, in_file, in_files, in_map, is_listed, is_name_of, is_noted_as as has_noted, is_used, key_of, keys_in, label_of, labels_of, map_shown, maps_for, more_in}
use Rattle.hp_lookup.proofs.Words.{numbered_at, owed, place_shown}
use Rattle.hp_lookup.proofs.Cells.{no_file}
use Rattle.hp_lookup.proofs.GivingBack.{in_all, kept_label, waits_shown}
use Rattle.hp_lookup.proofs.Lifting.{at_most}
use Rattle.hp_lookup.proofs.Mapped.{sum_through}
use Rattle.hp_lookup.proofs.Staying.{files_stay}
use Rattle.hp_lookup.proofs.Stored.{stored_at, stored_pages}
use Rattle.hp_lookup.proofs.Views.{view}

-- ---- what is counted of files is of those that are used

pub used_sum : (c : NumberedFile → ℕ) → ((f : NumberedFile) → is_used f ≡ false → c f ≡ 0) → (fs : List NumberedFile) → sum_by c (filter is_used fs) ≡ sum_by c fs
used_sum c none [] = refl
used_sum c none (f ∷ fs) = at (is_used f) refl (used_sum c none fs)
  where
    at : (b : Bool) → is_used f ≡ b → sum_by c (filter is_used fs) ≡ sum_by c fs → sum_by c (cond b (f ∷ filter is_used fs) (filter is_used fs)) ≡ sum_by c (f ∷ fs)
    at true e rest = omega (arith, rest, sum_by-cons c f (filter is_used fs), sum_by-cons c f fs)
    at false e rest = (let bare = none f e in omega (arith, rest, bare, sum_by-cons c f fs))

-- ---- what is left of a list, when each element is changed and some go

-- where an element of ys stood
record Stood {X : Type 0} (g : X → X) (d : X) (xs ys : List X) (k : ℕ) : Type 0 where
  at : ℕ
  within : at < length xs
  is : slice_index_or ys k d ≡ g (slice_index_or xs at d)
  sums : (c : X → ℕ) → ((x : X) → c (g x) ≤ c x) → sum_by c ys + c (slice_index_or xs at d) ≤ sum_by c xs + c (g (slice_index_or xs at d))

module _ {X : Type 0} (test : X → Bool) (g : X → X) where
  abbrev pub left : List X → List X
  left xs = filter test (map g xs)

  pub left_sum : (c : X → ℕ) → ((x : X) → c (g x) ≤ c x) → (xs : List X) → sum_by c (left xs) ≤ sum_by c xs
  left_sum c less [] = omega arith
  left_sum c less (x ∷ xs) = (let here = less x in let rest = left_sum c less xs in let whole = sum_by-cons c x xs in at (test (g x)) here rest whole)
    where
      at : (b : Bool) → c (g x) ≤ c x → sum_by c (left xs) ≤ sum_by c xs → sum_by c (x ∷ xs) ≡ c x + sum_by c xs → sum_by c (cond b (g x ∷ left xs) (left xs)) ≤ sum_by c (x ∷ xs)
      at true here rest whole = (let step = sum_by-cons c (g x) (left xs) in omega (arith, here, rest, whole, step))
      at false here rest whole = omega (arith, rest, whole)

  stood : (d : X) (xs : List X) (k : ℕ) → k < length (left xs) → Stood g d xs (left xs) k
  stood d [] k l = absurd (omega (arith, l))
  stood d (x ∷ xs) k l = at (test (g x)) k (λ j m. stood d xs j m) l
    where
      more : (ys : List X) (j : ℕ) → Stood g d xs ys j → Stood g d (x ∷ xs) ys j
      more ys j s = record {
        at = suc s.at;
        within = (let below = s.within in omega (arith, below));
        is = s.is;
        sums = λ c less. (let rest = s.sums c less in let whole = sum_by-cons c x xs in omega (arith, rest, whole));
      }

      at : (b : Bool) (k : ℕ) → ((j : ℕ) → j < length (left xs) → Stood g d xs (left xs) j) → k < length (cond b (g x ∷ left xs) (left xs)) → Stood g d (x ∷ xs) (cond b (g x ∷ left xs) (left xs)) k
      at true zero rest l = record {
        at = 0;
        within = omega arith;
        is = refl;
        sums = λ c less. (let all = left_sum c less xs in let whole = sum_by-cons c x xs in let step = sum_by-cons c (g x) (left xs) in omega (arith, all, whole, step));
      }
      at true (suc k) rest l =
          let s = rest k (omega (arith, l)) in
          record {
            at = suc s.at;
            within = (let below = s.within in omega (arith, below));
            is = s.is;
            sums = λ c less. (let had = s.sums c less in let whole = sum_by-cons c x xs in let step = sum_by-cons c (g x) (left xs) in let here = less x in omega (arith, had, whole, step, here));
          }
      at false k rest l = more (left xs) k (rest k l)

-- ---- reservations as they are shown

owes_shown : (s : Store) (m : Mapping ℕ) → owner_reserves (map_shown s m) ≡ owed m
owes_shown s m = ap (λ n. cond m.owner n 0) (count_map is_unconsumed (place_shown s) m.places ∙ count_alike (λ p. is_unconsumed (place_shown s p)) is_unconsumed same m.places)
  where
    same : (p : Place ℕ) → is_unconsumed (place_shown s p) ≡ is_unconsumed p
    same Gone = refl
    same (Live true None) = refl
    same (Live true (Some n)) = refl
    same (Live false None) = refl
    same (Live false (Some n)) = refl

pub file_owes : (s : Store) (f : NumberedFile) → file_reserves (file_shown s f) ≡ file_owed f
file_owes s f = (let waits = waits_shown s f.cells in let owners = all f.maps in omega (arith, waits, owners))
  where
    all : (ms : List (Mapping ℕ)) → sum_by owner_reserves (map (map_shown s) ms) ≡ sum_by owed ms
    all [] = refl
    all (m ∷ ms) = (let here = owes_shown s m in let rest = all ms in omega (arith, here, rest, sum_by-cons owner_reserves (map_shown s m) (map (map_shown s) ms), sum_by-cons owed m ms))

pub files_owe : (s : Store) (fs : List NumberedFile) → sum_by file_reserves (files_shown s fs) ≡ sum_by file_owed fs
files_owe s [] = refl
files_owe s (f ∷ fs) = (let here = file_owes s f in let rest = files_owe s fs in omega (arith, here, rest, sum_by-cons file_reserves (file_shown s f) (files_shown s fs), sum_by-cons file_owed f fs))

pub used_label : (f : NumberedFile) → is_listed (label_of f) ≡ is_used f
used_label f = ap (λ k. is_some f.name || nat_lt 0 k) (length-map f.maps key_of)

-- ---- as many holders, pages and reservations as are left

module _ (n : Noted) (s t : Store) (more now maps : ℕ) (tally : ℕ → ℕ) (fs hs : List NumberedFile) (is : IsFiles n s more maps tally fs)
    (g : NumberedFile → NumberedFile) (hs_is : hs ≡ filter is_used (map g fs)) (d : IsDropping (λ m. in_files m fs) (λ m. in_files m hs) s t)
    (counted : now ≡ more_in t.pages)
    (cells : (f : NumberedFile) → (g f).cells ≡ f.cells) (less : (m : ℕ) (f : NumberedFile) → sum_by (in_map m) (g f).maps ≤ sum_by (in_map m) f.maps) where
  held : (m : ℕ) → holders_of (page_at t m) ≡ in_files m hs
  held m = (let had = is.held.held m in let went = d.held m in omega (arith, had, went))

  in_less : (m : ℕ) (f : NumberedFile) → in_file m (g f) ≤ in_file m f
  in_less m f = (let same = ap (sum_by (in_cell m)) (cells f) in let few = less m f in omega (arith, same, few))

  files_less : (m : ℕ) → in_files m hs ≤ in_files m fs
  files_less m = (let few = left_sum is_used g (in_file m) (in_less m) fs in let same = ap (in_files m) hs_is in omega (arith, few, same))

  cells_less : (m : ℕ) → in_cells m hs ≤ in_cells m fs
  cells_less m = grind (arith, common_steps, left_sum)

  pub left_held : IsHeld t now hs
  left_held = record {
    held = held;
    some = d.some;
    alone = λ m some.
        let own = cells_less m in
        let had = is.held.alone m (omega (arith, own, some)) in
        let few = files_less m in
        let most = in_all m hs in
        omega (arith, had, few, most, some);
    apart = λ m k below some.
        let at : Stood g no_file fs hs k = subst (λ ys. Stood g no_file fs ys k) (sym hs_is) (stood is_used g no_file fs k (subst (λ ys. k < length ys) hs_is below)) in
        let same : in_file m (numbered_at hs k) ≡ in_file m (g (numbered_at fs at.at)) = ap (in_file m) at.is in
        let few = in_less m (numbered_at fs at.at) in
        let had = is.held.apart m at.at at.within (omega (arith, some, same, few)) in
        let sums = at.sums (in_file m) (in_less m) in
        let most = at_most (λ (f : NumberedFile). f) (λ f. f) (in_file m) (λ f q. refl) hs k no_file below in
        omega (arith, same, had, sums, most);
    counted = counted;
    parts = (let had = is.held.parts in let was = is.held.counted in let room = d.room in let fewer = d.fewer in omega (arith, had, was, counted, room, fewer));
  }

  used_shown : (f : NumberedFile) → is_kept (file_shown s f) ≡ is_used f
  used_shown f = ap (λ k. is_some f.name || nat_lt 0 k) (length-map f.maps (map_shown s))

  pub left_shows : (change : File → File) → ((f : NumberedFile) → file_shown s (g f) ≡ change (file_shown s f)) → files_shown t hs ≡ filter is_kept (map change (files_shown s fs))
  left_shows change shown =
      files_stay s t hs (λ m some. d.same m (let same = held m in omega (arith, same, some))) ∙ ap (files_shown s) hs_is ∙ each fs
    where
      each : (fs : List NumberedFile) → files_shown s (filter is_used (map g fs)) ≡ filter is_kept (map change (files_shown s fs))
      each [] = refl
      each (f ∷ fs) = at (is_used (g f)) refl (each fs)
        where
          at : (b : Bool) → is_used (g f) ≡ b → files_shown s (filter is_used (map g fs)) ≡ filter is_kept (map change (files_shown s fs))
              → files_shown s (cond b (g f ∷ filter is_used (map g fs)) (filter is_used (map g fs)))
              ≡ cond (is_kept (change (file_shown s f))) (change (file_shown s f) ∷ filter is_kept (map change (files_shown s fs)))
              (filter is_kept (map change (files_shown s fs)))
          at b e rest = by b (ap is_kept (sym (shown f)) ∙ used_shown (g f) ∙ e) rest
            where
              by : (b : Bool) → is_kept (change (file_shown s f)) ≡ b → files_shown s (filter is_used (map g fs)) ≡ filter is_kept (map change (files_shown s fs))
                  → files_shown s (cond b (g f ∷ filter is_used (map g fs)) (filter is_used (map g fs)))
                  ≡ cond (is_kept (change (file_shown s f))) (change (file_shown s f) ∷ filter is_kept (map change (files_shown s fs)))
                  (filter is_kept (map change (files_shown s fs)))
              by true k rest = ap (λ x. x ∷ files_shown s (filter is_used (map g fs))) (shown f) ∙ ap (λ xs. change (file_shown s f) ∷ xs) rest
                  ∙ sym (ap (λ c. cond c (change (file_shown s f) ∷ filter is_kept (map change (files_shown s fs)))
                  (filter is_kept (map change (files_shown s fs)))) k)
              by false k rest = rest ∙ sym (ap (λ c. cond c (change (file_shown s f) ∷ filter is_kept (map change (files_shown s fs))) (filter is_kept (map change (files_shown s fs)))) k)

  pub left_gives : (went : ℕ) → went + sum_by file_owed hs ≡ sum_by file_owed fs → IsLeft went (view s more fs) (view t now hs)
  left_gives went reserves = grind (arith, common_steps, stored_pages, more, left_held, stored_at, files_owe)

  -- ---- what they are called

  module _ (names : (f : NumberedFile) → (g f).name ≡ f.name) (keys : (k m : ℕ) (f : NumberedFile) → keys_in k m (label_of (g f)) ≤ keys_in k m (label_of f)) where
    label_sum : (c : Label → ℕ) → ((f : NumberedFile) → c (label_of (g f)) ≤ c (label_of f)) → sum_by c (labels_of hs) ≤ sum_by c (labels_of fs)
    label_sum c few = grind (arith, common_steps, left_sum, sum_through)

    pub names_less : (name : List ℕ) → count_by (has_label name) (labels_of hs) ≤ count_by (has_label name) (labels_of fs)
    names_less name = label_sum (λ (q : Label). cond {A = ℕ} (has_label name q) 1 0)
        (λ f. (let same = ap (λ o. cond {A = ℕ} (has_label name (record { name = o; keys = [] })) 1 0 + 0) (names f) in omega (arith, same)))

    pub keys_less : (k m : ℕ) → sum_by (keys_in k m) (labels_of hs) ≤ sum_by (keys_in k m) (labels_of fs)
    keys_less k m = label_sum (keys_in k m) (keys k m)

    -- a file with a name stays
    pub names_kept : (name : List ℕ) → count_by (has_label name) (labels_of hs) ≡ count_by (has_label name) (labels_of fs)
    names_kept name =
        sum_through (λ (q : Label). cond {A = ℕ} (has_label name q) 1 0) label_of hs ∙ ap (sum_by named) hs_is ∙ used_sum named out (map g fs) ∙ each fs
        ∙ sym (sum_through (λ (q : Label). cond {A = ℕ} (has_label name q) 1 0) label_of fs)
      where
        named : NumberedFile → ℕ
        named f = cond {A = ℕ} (has_label name (label_of f)) 1 0

        nameless : (o : Option (List ℕ)) (b : Bool) → (is_some o || b) ≡ false → cond {A = ℕ} (is_name_of name o) 1 0 ≡ 0
        nameless None b e = refl
        nameless (Some n) b e = cc

        out : (f : NumberedFile) → is_used f ≡ false → named f ≡ 0
        out f e = nameless f.name (nat_lt 0 (length f.maps)) e

        each : (fs : List NumberedFile) → sum_by named (map g fs) ≡ sum_by named fs
        each [] = refl
        each (f ∷ fs) = (let here = ap (λ o. cond {A = ℕ} (is_name_of name o) 1 0 + 0) (names f) in let rest = each fs in
            omega (arith, here, rest, sum_by-cons named (g f) (map g fs), sum_by-cons named f fs))

    listed : All (λ (q : Label). is_listed q ≡ true) (labels_of hs)
    listed = subst (λ (ys : List NumberedFile). All (λ (q : Label). is_listed q ≡ true) (labels_of ys)) (sym hs_is) (each (filter is_used (map g fs)) (filter_passes is_used (map g fs)))
      where
        each : (ys : List NumberedFile) → All (λ (f : NumberedFile). is_used f ≡ true) ys → All (λ (q : Label). is_listed q ≡ true) (labels_of ys)
        each [] all = λ i e l. absurd (omega (arith, l))
        each (y ∷ ys) all = All-cons (λ (q : Label). is_listed q ≡ true) (label_of y) (labels_of ys)
            (sym (kept_label s y) ∙ used_shown y ∙ all 0 y (omega arith)) (each ys (λ i e l. all (suc i) e (omega (arith, l))))

    -- names stay noted, and nothing else is
    pub left_noted : (later : Noted) → ((name : List ℕ) → has_noted name later ≡ false → has_noted name n ≡ false) →
        ((k m : ℕ) → has_key k m later ≡ false → sum_by (keys_in k m) (labels_of hs) ≡ 0) → IsMore later n
        → ((k m : ℕ) → sum_by (keys_in k m) (labels_of hs) ≡ 0 → has_key k m later ≡ false) → AreNoted later (labels_of hs)
    left_noted later noted keyed less only = record {
      names = λ name e. (let few = names_less name in let none = is.noted.names name (noted name e) in omega (arith, few, none));
      keys = keyed;
      no_name = λ name e. less.names name (is.noted.no_name name (sym (names_kept name) ∙ e));
      no_key = only;
    }

    pub left_keeps : ((f : NumberedFile) → AreLevel f.maps → AreLevel (g f).maps) → (later : Noted) (left : ℕ) (next : ℕ → ℕ) →
        AreNoted later (labels_of hs) → left ≡ sum_by (λ (q : Label). length q.keys) (labels_of hs) →
        ((q : ℕ) → next q ≡ sum_by (maps_for q) (labels_of hs)) → IsFiles later t now left next hs
    left_keeps levels later left next noted maps_are tallied = record {
      held = left_held;
      keyed = record {
        kept = listed;
        names = λ name. (let few = names_less name in let most = is.keyed.names name in omega (arith, few, most));
        keys = λ k m. (let few = keys_less k m in let most = is.keyed.keys k m in omega (arith, few, most));
        map_count = maps_are;
        tallied = tallied;
      };
      noted = noted;
      level = subst (All (λ (f : NumberedFile). AreLevel f.maps)) (sym hs_is) (All-filter is_used (λ (f : NumberedFile). AreLevel f.maps) (map g fs) (each fs is.level));
    }
      where
        each : (fs : List NumberedFile) → All (λ (f : NumberedFile). AreLevel f.maps) fs → All (λ (f : NumberedFile). AreLevel f.maps) (map g fs)
        each [] all = λ i e l. absurd (omega (arith, l))
        each (f ∷ fs) all = All-cons (λ (x : NumberedFile). AreLevel x.maps) (g f) (map g fs) (levels f (all 0 f (omega arith))) (each fs (λ i e l. all (suc i) e (omega (arith, l))))
