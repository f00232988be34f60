use Rattle.std.proofs.lemmas.Grind.{common_steps}
-- A file that loses its name, and goes where it has no maps.
use Rattle.std.proofs.Common.{◌≡◌, ◌==◌, ℕ, zero, suc, ◌+◌, ◌<◌, ◌≤◌, nat_lt, ⊎_elim, Bool, true, false, cond, Option, None, Some, List, [], ◌∷◌, length, map, refl, sym, ap, subst, ◌∙◌, arith}
use Rattle.std.proofs.Common.{slice_set, slice_index_or, All, count_by, filter, remove, sum_by}
use Rattle.std.specs.Str.{bytes_eq}
use Rattle.std.proofs.lemmas.Slice.Eq.{bytes_eq-Decides}
use Rattle.std.proofs.lemmas.Bool.{cases_lt}
use Rattle.std.proofs.lemmas.Bool.Decides.{nat_tests}
use Rattle.std.proofs.lemmas.List.{get_or-map, length-map, map-set}
use Rattle.std.proofs.lemmas.List.Edits.{get_or-remove_above, get_or-remove_below}
use Rattle.std.proofs.lemmas.List.Elements.{All-cons, All-set}
use Rattle.std.proofs.lemmas.List.Sums.{sum_by-remove, sum_by-set}
use Rattle.indexmap.proofs.SetLemmas.{map-remove}
use Rattle.hp_model.proofs.Words.{file_reserves, has_name, is_kept, is_waiting, new_file, owner_reserves, unlinked}
use Rattle.hp_laws.proofs.lists.Places.{found_place}
use Rattle.hp_store.specs.Store.{Store, holders_of, page_at}
use Rattle.hp_lookup.proofs.Words.{AreLevel, AreNoted, IsDropping, IsFiles, IsHeld, IsLeft, IsMoreBut, IsNamed, Label, Noted, NumberedFile, edited_at, file_at, file_shown, files_shown, has_label}
use Rattle.hp_lookup.proofs.Words.{in_cell, in_cells, in_file, in_files, is_key, is_listed, is_name_of, is_noted_as as has_noted, key_of, keys_in, label_of, labels_of, map_shown, maps_for, more_in}
use Rattle.hp_lookup.proofs.Words.{numbered_at}
use Rattle.hp_lookup.proofs.Alike.{alike_held}
use Rattle.hp_lookup.proofs.Cells.{file_is, no_file}
use Rattle.hp_lookup.proofs.GivingBack.{all_kept, in_all, kept_label, waits_shown}
use Rattle.hp_lookup.proofs.Level.{level_set, same_level}
use Rattle.hp_lookup.proofs.Lifting.{at_most}
use Rattle.hp_lookup.proofs.Mapped.{sum_through}
use Rattle.hp_lookup.proofs.Staying.{files_stay}
use Rattle.hp_lookup.proofs.Stored.{stored_at, stored_pages}
use Rattle.hp_lookup.proofs.Unique.{named_shown}
use Rattle.hp_lookup.proofs.Views.{files_len, read_is, view}

-- what code read there twice
pub same_maps : (s : Store) (fs : List NumberedFile) (k : ℕ) (name : List ℕ) → IsNamed (files_shown s fs) name k → (x z : NumberedFile) →
    x ≡ slice_index_or fs k x → z ≡ slice_index_or fs k z → length z.maps ≡ length x.maps
same_maps s fs k name named x z x_read z_read = grind (arith, common_steps, files_len, read_is)

-- ---- lists of which one element goes

module _ {X : Type 0} (d : X) where
  -- where an element stood that is left
  stood : (xs : List X) (k j : ℕ) → k < length xs → j < length (remove xs k) → (i : ℕ) × (i < length xs) × (slice_index_or (remove xs k) j d ≡ slice_index_or xs i d)
  stood xs k j l below =
      let fewer : length (remove xs k) + 1 ≡ length xs = one_less xs k l in
      ⊎_elim
      (λ (low : j < k). (j, omega (arith, low, l), get_or-remove_below xs k d j low l))
      (λ (high : k ≤ j). (j + 1, omega (arith, below, fewer), get_or-remove_above xs k d j high l))
      (cases_lt j k)
    where
      one_less : (xs : List X) (k : ℕ) → k < length xs → length (remove xs k) + 1 ≡ length xs
      one_less [] k l = absurd (omega (arith, l))
      one_less (x ∷ xs) zero l = omega arith
      one_less (x ∷ xs) (suc k) l = (let rest = one_less xs k (omega (arith, l)) in omega (arith, rest))

  all_left : (P : X → Type 0) (xs : List X) (k : ℕ) → All P xs → All P (remove xs k)
  all_left P [] zero each = each
  all_left P [] (suc k) each = each
  all_left P (x ∷ xs) zero each = λ i e l. each (suc i) e (omega (arith, l))
  all_left P (x ∷ xs) (suc k) each = All-cons P x (remove xs k) (each 0 x (omega arith)) (all_left P xs k (λ i e l. each (suc i) e (omega (arith, l))))

  -- the one that does not pass is the one that goes
  filter_out : (test : X → Bool) (xs : List X) (k : ℕ) (y : X) → k < length xs → test y ≡ false → All (λ x. test x ≡ true) xs → filter test (slice_set xs k y) ≡ remove xs k
  filter_out test [] k y l out each = absurd (omega (arith, l))
  filter_out test (x ∷ xs) zero y l out each = ap (λ b. cond b (y ∷ filter test xs) (filter test xs)) out ∙ all_pass xs (λ i e m. each (suc i) e (omega (arith, m)))
    where
      all_pass : (xs : List X) → All (λ x. test x ≡ true) xs → filter test xs ≡ xs
      all_pass [] each = refl
      all_pass (x ∷ xs) each = ap (λ b. cond b (x ∷ filter test xs) (filter test xs)) (each 0 x (omega arith)) ∙ ap (λ ys. x ∷ ys) (all_pass xs (λ i e m. each (suc i) e (omega (arith, m))))
  filter_out test (x ∷ xs) (suc k) y l out each =
      ap (λ b. cond b (x ∷ filter test (slice_set xs k y)) (filter test (slice_set xs k y))) (each 0 x (omega arith))
      ∙ ap (λ ys. x ∷ ys) (filter_out test xs k y (omega (arith, l)) out (λ i e m. each (suc i) e (omega (arith, m))))

-- ---- a file without its name

module _ (n later : Noted) (name : List ℕ) (grown : IsMoreBut name n later) (s : Store) (more maps : ℕ) (tally : ℕ → ℕ) (fs : List NumberedFile)
    (is : IsFiles n s more maps tally fs) (k : ℕ) (named : IsNamed (files_shown s fs) name k) (x : NumberedFile) (read : x ≡ slice_index_or fs k x)
  where
    l : k < length (files_shown s fs)
    l = named.within

    within : k < length fs
    within = (let same = files_len s fs in omega (arith, l, same))

    x_is : x ≡ numbered_at fs k
    x_is = read_is fs k x within read

    x_shown : file_shown s x ≡ file_at (files_shown s fs) k
    x_shown = ap (file_shown s) x_is ∙ sym (file_is s fs k within)

    has_it : has_label name (label_of x) ≡ true
    has_it = sym (named_shown s name x) ∙ ap (has_name name) x_shown ∙ (found_place (has_name name) (files_shown s fs) (k, file_at (files_shown s fs) k) named.is).passes

    -- the name that is forgotten is there no more
    still_noted : (ms : List Label) → ((other : List ℕ) → count_by (has_label other) ms ≤ count_by (has_label other) (labels_of fs)) →
        count_by (has_label name) ms ≡ 0 → ((t m : ℕ) → sum_by (keys_in t m) ms ≡ sum_by (keys_in t m) (labels_of fs))
        → ((other : List ℕ) → count_by (has_label other) ms + cond (has_label other (label_of x)) 1 0 ≡ count_by (has_label other) (labels_of fs)) → AreNoted later ms
    still_noted ms less gone keys one_less = record {
      names = λ other e. either other e (bytes_eq name other) refl;
      keys = λ t m e. (let few = keys t m in let none = is.noted.keys t m (grown.keys t m e) in omega (arith, few, none));
      no_name = λ other e. or (bytes_eq name other) other refl e;
      no_key = λ t m e. grown.less.keys t m (is.noted.no_key t m (sym (keys t m) ∙ e));
    }
      where
        -- another name is not the file's
        unlike : (o : Option (List ℕ)) → is_name_of name o ≡ true → (other : List ℕ) → bytes_eq name other ≡ false → is_name_of other o ≡ false
        unlike None own other apart = refl
        unlike (Some own_name) own other apart =
            ap (λ q. bytes_eq q other) ((bytes_eq-Decides own_name name).0 own) ∙ apart

        or : (b : Bool) (other : List ℕ) → bytes_eq name other ≡ b → count_by (has_label other) ms ≡ 0 → has_noted other later ≡ false
        or true other same e = ap (λ q. has_noted q later) (sym ((bytes_eq-Decides name other).0 same)) ∙ grown.gone
        or false other apart e =
            let step = one_less other in
            let none = ap (λ b. cond {A = ℕ} b 1 0 + 0) (unlike x.name has_it other apart) in
            grown.less.names other (is.noted.no_name other (omega (arith, e, step, none)))

        either : (other : List ℕ) → has_noted other later ≡ false → (b : Bool) → bytes_eq name other ≡ b → count_by (has_label other) ms ≡ 0
        either other e true same = ap (λ q. count_by (has_label q) ms) (sym ((bytes_eq-Decides name other).0 same)) ∙ gone
        either other e false apart = (let few = less other in let none = is.noted.names other (grown.names other apart e) in omega (arith, few, none))

    module _ (y : NumberedFile) (y_is : y ≡ record x { name = None }) (some : 0 < length x.maps) where
      abbrev gs : List NumberedFile
      gs = slice_set fs k y

      named_held : IsHeld s more gs
      named_held = grind (arith, common_steps, alike_held, within, x_is)

      label_is : label_of y ≡ record (label_of x) { name = None }
      label_is = ap label_of y_is

      listed : is_listed (label_of y) ≡ true
      listed = grind (arith, common_steps, length-map, nat_tests, label_is)

      names_less : (other : List ℕ) → count_by (has_label other) (labels_of gs) + cond (has_label other (label_of x)) 1 0 ≡ count_by (has_label other) (labels_of fs)
      names_less other = grind (arith, common_steps, sum_by-set, no_file, within, sum_through, label_is, x_is)

      keys_same : (c : Label → ℕ) → c (label_of y) ≡ c (label_of x) → sum_by c (labels_of gs) ≡ sum_by c (labels_of fs)
      keys_same c same = grind (arith, common_steps, sum_by-set, no_file, within, sum_through, x_is)

      pub named_keeps : IsFiles later s more maps tally gs
      named_keeps = record {
        held = named_held;
        keyed = record {
          kept = subst (All (λ (q : Label). is_listed q ≡ true)) (sym (map-set label_of fs k y)) (All-set (λ (q : Label). is_listed q ≡ true) (labels_of fs) k (label_of y) listed is.keyed.kept);
          names = λ other. (let less = names_less other in let most = is.keyed.names other in omega (arith, less, most));
          keys = λ t m. (let same = keys_same (keys_in t m) (ap (keys_in t m) label_is) in let most = is.keyed.keys t m in omega (arith, same, most));
          map_count = is.keyed.map_count ∙ sym (keys_same (λ (q : Label). length q.keys) (ap (λ (q : Label). length q.keys) label_is));
          tallied = λ q. is.keyed.tallied q ∙ sym (keys_same (maps_for q) (ap (maps_for q) label_is));
        };
        noted = still_noted (labels_of gs) (λ other. (let less = names_less other in omega (arith, less)))
            (let less = names_less name in let most = is.keyed.names name in let own = ap (λ b. cond {A = ℕ} b 1 0 + 0) has_it in omega (arith, less, most, own))
            (λ t m. keys_same (keys_in t m) (ap (keys_in t m) label_is)) names_less;
        level = level_set fs k x y within read (same_level x.maps y.maps (ap (λ (f : NumberedFile). f.maps) y_is)) is.level;
      }

      shows : files_shown s gs ≡ slice_set (files_shown s fs) k (unlinked (file_at (files_shown s fs) k))
      shows = map-set (file_shown s) fs k y ∙ ap (slice_set (files_shown s fs) k) (ap (file_shown s) y_is ∙ ap unlinked x_shown)

      pub named_files : files_shown s gs ≡ edited_at k (unlinked (file_at (files_shown s fs) k)) (files_shown s fs)
      named_files = sym (all_kept s gs named_keeps.keyed.kept) ∙ ap (filter is_kept) shows

      pub named_left : IsLeft 0 (view s more fs) (view s more gs)
      named_left = grind (arith, common_steps, stored_pages, named_held, stored_at, sum_by-set, l, shows)

    -- ---- it has no maps, and goes

    module _ (t : Store) (now went : ℕ) (hs : List NumberedFile) (hs_is : hs ≡ remove fs k) (bare : length x.maps ≡ 0)
        (d : IsDropping (λ m. in_file m x) (λ m. 0) s t) (counted : now ≡ more_in t.pages) (went_is : went ≡ count_by is_waiting x.cells) where
      left_files : (m : ℕ) → in_files m hs + in_file m x ≡ in_files m fs
      left_files m = (let step = sum_by-remove (in_file m) fs k no_file within in let here = ap (in_file m) x_is in let same = ap (in_files m) hs_is in omega (arith, step, here, same))

      left_cells : (m : ℕ) → in_cells m hs ≤ in_cells m fs
      left_cells m = (let step = sum_by-remove (λ (f : NumberedFile). sum_by (in_cell m) f.cells) fs k no_file within in let same = ap (in_cells m) hs_is in omega (arith, step, same))

      held : (m : ℕ) → holders_of (page_at t m) ≡ in_files m hs
      held m = (let had = is.held.held m in let dropped = d.held m in let all = left_files m in omega (arith, had, dropped, all))

      gone_held : IsHeld t now hs
      gone_held = record {
        held = held;
        some = d.some;
        alone = λ m some.
            let few = left_cells m in
            let had = is.held.alone m (omega (arith, few, some)) in
            let all = left_files m in
            let most = in_all m hs in
            omega (arith, had, all, most, some);
        apart = λ m j below some.
            let at = stood no_file fs k j within (subst (λ xs. j < length xs) hs_is below) in
            let same : in_file m (numbered_at hs j) ≡ in_file m (numbered_at fs at.0) = ap (λ xs. in_file m (numbered_at xs j)) hs_is ∙ ap (in_file m) at.2 in
            let had = is.held.apart m at.0 at.1 (subst (λ q. 0 < q) same some) in
            let most = at_most (λ (f : NumberedFile). f) (λ f. f) (in_file m) (λ f q. refl) hs j no_file below in
            let all = left_files m in
            omega (arith, same, had, most, all);
        counted = counted;
        parts = (let had = is.held.parts in let was = is.held.counted in let room = d.room in let few = d.fewer in omega (arith, had, was, counted, room, few));
      }

      labels_are : labels_of hs ≡ remove (labels_of fs) k
      labels_are = ap labels_of hs_is ∙ map-remove label_of fs k

      no_keys : (label_of x).keys ≡ []
      no_keys = none x.maps bare
        where
          none : (ms : List _) → length ms ≡ 0 → map key_of ms ≡ []
          none [] e = refl
          none (m ∷ ms) e = absurd (omega (arith, e))

      label_there : slice_index_or (labels_of fs) k (label_of no_file) ≡ label_of x
      label_there = get_or-map label_of fs k no_file (label_of no_file) within ∙ ap label_of (sym x_is)

      long_labels : k < length (labels_of fs)
      long_labels = (let same = length-map fs label_of in let below = within in omega (arith, same, below))

      sum_left : (c : Label → ℕ) → sum_by c (labels_of hs) + c (label_of x) ≡ sum_by c (labels_of fs)
      sum_left c = grind (arith, common_steps, sum_by-remove, no_file, long_labels, label_there, labels_are)

      pub gone_keeps : IsFiles later t now maps tally hs
      gone_keeps = record {
        held = gone_held;
        keyed = record {
          kept = subst (All (λ (q : Label). is_listed q ≡ true)) (sym labels_are) (all_left (label_of no_file) (λ (q : Label). is_listed q ≡ true) (labels_of fs) k is.keyed.kept);
          names = λ other. (let less = sum_left (λ (q : Label). cond {A = ℕ} (has_label other q) 1 0) in let most = is.keyed.names other in omega (arith, less, most));
          keys = λ t m. (let less = sum_left (keys_in t m) in let most = is.keyed.keys t m in omega (arith, less, most));
          map_count = (let less = sum_left (λ (q : Label). length q.keys) in let none = ap length no_keys in let was = is.keyed.map_count in omega (arith, less, none, was));
          tallied = λ q. (let less = sum_left (maps_for q) in let none = ap (count_by (λ (k : ℕ × ℕ). k.0 == q)) no_keys in let was = is.keyed.tallied q in omega (arith, less, none, was));
        };
        noted = still_noted (labels_of hs) (λ other. (let less = sum_left (λ (q : Label). cond {A = ℕ} (has_label other q) 1 0) in omega (arith, less)))
            (let less = sum_left (λ (q : Label). cond {A = ℕ} (has_label name q) 1 0) in let most = is.keyed.names name in
            let own = ap (λ b. cond {A = ℕ} b 1 0 + 0) has_it in omega (arith, less, most, own))
            (λ t m. (let less = sum_left (keys_in t m) in let none = ap (count_by (is_key t m)) no_keys in omega (arith, less, none)))
            (λ other. sum_left (λ (q : Label). cond {A = ℕ} (has_label other q) 1 0));
        level = subst (All (λ (f : NumberedFile). AreLevel f.maps)) (sym hs_is) (all_left no_file (λ (f : NumberedFile). AreLevel f.maps) fs k is.level);
      }

      shown_left : files_shown t hs ≡ remove (files_shown s fs) k
      shown_left = files_stay s t hs (λ m some. d.same m (let same = held m in omega (arith, same, some))) ∙ ap (files_shown s) hs_is ∙ map-remove (file_shown s) fs k

      pub gone_files : files_shown t hs ≡ edited_at k (unlinked (file_at (files_shown s fs) k)) (files_shown s fs)
      gone_files =
          let out : is_kept (unlinked (file_at (files_shown s fs) k)) ≡ false = ap (λ f. is_kept (unlinked f)) (sym x_shown) ∙ ap (λ i. nat_lt 0 i) (length-map x.maps (map_shown s) ∙ bare) in
          shown_left ∙ sym (filter_out (new_file None) is_kept (files_shown s fs) k (unlinked (file_at (files_shown s fs) k)) l out (each fs is.keyed.kept))
        where
          each : (fs : List NumberedFile) → All (λ (q : Label). is_listed q ≡ true) (labels_of fs) → All (λ f. is_kept f ≡ true) (files_shown s fs)
          each [] all = λ i e m. absurd (omega (arith, m))
          each (f ∷ fs) all = All-cons (λ f. is_kept f ≡ true) (file_shown s f) (files_shown s fs) (kept_label s f ∙ all 0 (label_of f) (omega arith))
              (each fs (λ i e m. all (suc i) e (omega (arith, m))))

      pub gone_left : IsLeft went (view s more fs) (view t now hs)
      gone_left = record {
        pages = (let old = stored_pages s more fs is.held in let new = stored_pages t now hs gone_held in let sum = d.pages in omega (arith, old, new, sum));
        nodes = λ i. (let old = stored_at s more fs is.held i in let new = stored_at t now hs gone_held i in let sum = d.nodes i in omega (arith, old, new, sum));
        reserved =
            let step = sum_by-remove file_reserves (files_shown s fs) k (new_file None) l in
            let same = ap (sum_by file_reserves) shown_left in
            let here = ap file_reserves (sym x_shown) in
            let waits = waits_shown s x.cells in
            let owners : sum_by owner_reserves (map (map_shown s) x.maps) ≡ 0 = none_owned x.maps bare in
            omega (arith, step, same, here, waits, owners, went_is);
        room = (let was = is.held.counted in let room = d.room in let few = d.fewer in omega (arith, was, counted, room, few));
      }
        where
          none_owned : (ms : List _) → length ms ≡ 0 → sum_by owner_reserves (map (map_shown s) ms) ≡ 0
          none_owned [] e = refl
          none_owned (m ∷ ms) e = absurd (omega (arith, e))
