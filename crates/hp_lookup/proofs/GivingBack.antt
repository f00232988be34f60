use Rattle.std.proofs.lemmas.Grind.{common_steps}
-- A file that gives back: pages that it lost go, and the other files keep theirs.
use Rattle.std.proofs.Common.{◌≡◌, ℕ, zero, suc, ◌+◌, ◌-◌, ◌<◌, ◌≤◌, ◌||◌, nat_lt, true, false, cond, None, Some, List, [], ◌∷◌, length, drop, map, replicate, refl, sym, ap, subst, ◌∙◌, arith}
use Rattle.std.proofs.Common.{is_some, slice_set, slice_index_or, All, count_by, filter, sum_by}
use Rattle.std.proofs.lemmas.Bool.Decides.{eqb_tells}
use Rattle.std.proofs.lemmas.List.{get_or-set_same, get_or-set_other, length-map, length-set, map-append, map-set}
use Rattle.std.proofs.lemmas.List.Sums.{sum_by-append, sum_by-cons, sum_by-set, sum_by-take-drop}
use Rattle.hp_laws.proofs.Variants.{Cell, Entered, Gone, Hole, Live, Place, Present}
use Rattle.hp_model.proofs.Words.{Copy, File, Map, Mapping, Page, cell_punched, cells_to, file_reserves, is_kept, is_unconsumed, is_waiting, map_punched, new_file, owner_reserves, punched, truncated}
use Rattle.hp_model.proofs.Words.{without_copy}
use Rattle.hp_model.proofs.Counting.{count_alike, count_map}
use Rattle.hp_model.proofs.Editing.{sum_by-edit_range}
use Rattle.hp_laws.proofs.lists.Places.{sum_by-map_le}
use Rattle.hp_store.specs.Store.{Store, holders_of, page_at}
use Rattle.hp_lookup.proofs.Words.{AreLevel, AreNoted, IsDropping, IsFiles, IsHeld, IsKeyed, IsLeft, Label, Noted, NumberedFile, cell_shown, edited_at, file_at, file_shown, files_shown, in_cell}
use Rattle.hp_lookup.proofs.Words.{in_cells, in_file, in_files, is_listed, key_of, label_of, labels_of, map_shown, more_in, numbered_at, place_shown, with_punched, with_truncated}
use Rattle.hp_lookup.proofs.Cells.{file_is, no_file}
use Rattle.hp_lookup.proofs.Keys.{labels_stay}
use Rattle.hp_lookup.proofs.Level.{level_set, punched_level, same_level}
use Rattle.hp_lookup.proofs.Lifting.{at_most}
use Rattle.hp_lookup.proofs.Mapped.{map_drop, map_edited, map_replicate, map_take, sum_edited, sum_mapped}
use Rattle.hp_lookup.proofs.Staying.{files_stay}
use Rattle.hp_lookup.proofs.Stored.{stored_at, stored_pages}
use Rattle.hp_lookup.proofs.Views.{files_len, read_is, view}

-- ---- one file gives back

pub in_all : (n : ℕ) (fs : List NumberedFile) → in_cells n fs ≤ in_files n fs
in_all n [] = omega arith
in_all n (f ∷ fs) = (let rest = in_all n fs in omega (arith, rest, sum_by-cons (in_file n) f fs, sum_by-cons (λ (f : NumberedFile). sum_by (in_cell n) f.cells) f fs))

module _ (s t : Store) (more now : ℕ) (fs : List NumberedFile) (h : IsHeld s more fs) (k : ℕ) (l : k < length fs) (x y : NumberedFile)
    (x_is : x ≡ numbered_at fs k) (d : IsDropping (λ n. in_file n x) (λ n. in_file n y) s t) (counted : now ≡ more_in t.pages)
    (fewer : (n : ℕ) → sum_by (in_cell n) y.cells ≤ sum_by (in_cell n) x.cells) where
  abbrev gs : List NumberedFile
  gs = slice_set fs k y

  less : (n : ℕ) → in_file n y ≤ in_file n x
  less n = (let had = d.held n in let few = d.most n in omega (arith, had, few))

  files_of : (n : ℕ) → in_files n gs + in_file n x ≡ in_files n fs + in_file n y
  files_of n = (let step = sum_by-set (in_file n) fs k y no_file l in let was = ap (in_file n) x_is in omega (arith, step, was))

  cells_of : (n : ℕ) → in_cells n gs + sum_by (in_cell n) x.cells ≡ in_cells n fs + sum_by (in_cell n) y.cells
  cells_of n = grind (arith, common_steps, sum_by-set, no_file, x_is)

  held : (n : ℕ) → holders_of (page_at t n) ≡ in_files n gs
  held n = (let had = h.held n in let went = d.held n in let all = files_of n in omega (arith, had, went, all))

  apart : (n j : ℕ) → j < length gs → 0 < in_file n (numbered_at gs j) → in_files n gs ≡ in_file n (numbered_at gs j)
  apart n j below some = grind (arith, common_steps, length-set, files_of, get_or-set_same, no_file, less, x_is, get_or-set_other, at_most, eqb_tells)

  pub given_held : IsHeld t now gs
  given_held = record {
    held = held;
    some = d.some;
    alone = λ n some.
        let own = cells_of n in
        let few = fewer n in
        let had = h.alone n (omega (arith, own, few, some)) in
        let all = files_of n in
        let less_here = less n in
        let most = in_all n gs in
        omega (arith, all, had, less_here, most, some);
    apart = apart;
    counted = counted;
    parts = (let had = h.parts in let was = h.counted in let room = d.room in let few = d.fewer in omega (arith, had, was, counted, room, few));
  }

  pub given_shows : files_shown t gs ≡ slice_set (files_shown s fs) k (file_shown s y)
  given_shows = files_stay s t gs (λ n some. d.same n (let same = held n in omega (arith, same, some))) ∙ map-set (file_shown s) fs k y

  room_left : s.room - more ≤ t.room - now
  room_left = (let was = h.counted in let room = d.room in let few = d.fewer in omega (arith, was, counted, room, few))

  pub given_left : (reserves : ℕ) → file_reserves (file_shown s y) + reserves ≡ file_reserves (file_shown s x) → IsLeft reserves (view s more fs) (view t now gs)
  given_left reserves went = record {
    pages = (let old = stored_pages s more fs h in let new = stored_pages t now gs given_held in let sum = d.pages in omega (arith, old, new, sum));
    nodes = λ n. (let old = stored_at s more fs h n in let new = stored_at t now gs given_held n in let sum = d.nodes n in omega (arith, old, new, sum));
    reserved =
        let step = sum_by-set file_reserves (files_shown s fs) k (file_shown s y) (new_file None) (let same = files_len s fs in omega (arith, l, same)) in
        let here = ap file_reserves (file_is s fs k l ∙ ap (file_shown s) (sym x_is)) in
        let shows = ap (sum_by file_reserves) given_shows in
        omega (arith, step, here, shows, went);
    room = room_left;
  }

-- ---- every file is kept

pub kept_label : (t : Store) (f : NumberedFile) → is_kept (file_shown t f) ≡ is_listed (label_of f)
kept_label t f = ap (λ n. is_some f.name || nat_lt 0 n) (length-map f.maps (map_shown t) ∙ sym (length-map f.maps key_of))

pub all_kept : (t : Store) (fs : List NumberedFile) → All (λ (l : Label). is_listed l ≡ true) (labels_of fs) → filter is_kept (files_shown t fs) ≡ files_shown t fs
all_kept t [] each = refl
all_kept t (f ∷ fs) each =
    ap (λ b. cond b (file_shown t f ∷ filter is_kept (files_shown t fs)) (filter is_kept (files_shown t fs))) (kept_label t f ∙ each 0 (label_of f) (omega arith))
    ∙ ap (λ xs. file_shown t f ∷ xs) (all_kept t fs (λ k e l. each (suc k) e (omega (arith, l))))

-- ---- what is shown of a file that is punched or cut

cell_shown_punched : (s : Store) (c : Cell ℕ) → cell_shown s (cell_punched c) ≡ cell_punched (cell_shown s c)
cell_shown_punched s Hole = refl
cell_shown_punched s Entered = refl
cell_shown_punched s (Present k) = refl

place_shown_bare : (s : Store) (p : Place ℕ) → place_shown s (without_copy p) ≡ without_copy (place_shown s p)
place_shown_bare s Gone = refl
place_shown_bare s (Live c None) = refl
place_shown_bare s (Live c (Some k)) = refl

maps_shown_punched : (s : Store) (a b : ℕ) (ms : List (Mapping ℕ)) → map (map_shown s) (map (map_punched a b) ms) ≡ map (map_punched a b) (map (map_shown s) ms)
maps_shown_punched s a b [] = refl
maps_shown_punched s a b (m ∷ ms) =
    ap (λ ps. record (map_shown s m) { places = ps } ∷ map (map_shown s) (map (map_punched a b) ms))
    (map_edited (place_shown s) without_copy without_copy (place_shown_bare s) (a - m.start) (b - m.start) m.places)
    ∙ ap (λ xs. map_punched a b (map_shown s m) ∷ xs) (maps_shown_punched s a b ms)

punched_shown : (s : Store) (a b : ℕ) (f : NumberedFile) → file_shown s (with_punched a b f) ≡ punched a b (file_shown s f)
punched_shown s a b f = grind (arith, common_steps, map_edited, cell_shown_punched, maps_shown_punched)

cells_shown_cut : (s : Store) (n : ℕ) (cells : List (Cell ℕ)) → map (cell_shown s) (cells_to n cells) ≡ cells_to n (map (cell_shown s) cells)
cells_shown_cut s n cells = grind (arith, common_steps, map-append, map_take, map_replicate, length-map)

truncated_shown : (s : Store) (n : ℕ) (f : NumberedFile) → file_shown s (with_truncated n f) ≡ truncated n (file_shown s f)
truncated_shown s n f =
    ap (λ cs. record { name = f.name; cells = cs; maps = map (map_shown s) (map (map_punched n (n + length f.cells)) f.maps) }) (cells_shown_cut s n f.cells)
    ∙ ap (λ ms. record { name = f.name; cells = cells_to n (map (cell_shown s) f.cells); maps = ms }) (maps_shown_punched s n (n + length f.cells) f.maps)
    ∙ ap (λ m. record { name = f.name; cells = cells_to n (map (cell_shown s) f.cells); maps = map (map_punched n (n + m)) (map (map_shown s) f.maps) }) (sym (length-map f.cells (cell_shown s)))

-- ---- reservations: copies that go leave those of owners, and pages that go have none

waits_punched : (c : Cell Page) → cond {A = ℕ} (is_waiting (cell_punched c)) 1 0 ≡ cond (is_waiting c) 1 0
waits_punched Hole = refl
waits_punched Entered = refl
waits_punched (Present page) = refl

owed_bare : (p : Place Copy) → cond {A = ℕ} (is_unconsumed (without_copy p)) 1 0 ≡ cond (is_unconsumed p) 1 0
owed_bare Gone = refl
owed_bare (Live true o) = refl
owed_bare (Live false o) = refl

owner_punched : (a b : ℕ) (m : Map) → owner_reserves (map_punched a b m) ≡ owner_reserves m
owner_punched a b m = ap (λ n. cond m.owner n 0) (sum_edited (λ (p : Place Copy). cond {A = ℕ} (is_unconsumed p) 1 0) without_copy owed_bare (a - m.start) (b - m.start) m.places)

owners_punched : (a b : ℕ) (ms : List Map) → sum_by owner_reserves (map (map_punched a b) ms) ≡ sum_by owner_reserves ms
owners_punched a b ms = sum_mapped owner_reserves (map_punched a b) (owner_punched a b) ms

punched_reserves : (a b : ℕ) (f : File) → file_reserves (punched a b f) + 0 ≡ file_reserves f
punched_reserves a b f = grind (arith, common_steps, sum_edited, waits_punched, owners_punched)

no_holes_wait : (n : ℕ) → count_by (is_waiting {P = Page}) (replicate n Hole) ≡ 0
no_holes_wait zero = refl
no_holes_wait (suc n) = (let rest = no_holes_wait n in omega (arith, rest, sum_by-cons (λ (c : Cell Page). cond {A = ℕ} (is_waiting c) 1 0) Hole (replicate n Hole)))

truncated_reserves : (n : ℕ) (f : File) → file_reserves (truncated n f) + count_by is_waiting (drop n f.cells) ≡ file_reserves f
truncated_reserves n f = grind (arith, common_steps, sum_by-append, no_holes_wait, sum_by-take-drop, owners_punched)

pub waits_shown : (s : Store) (cells : List (Cell ℕ)) → count_by is_waiting (map (cell_shown s) cells) ≡ count_by is_waiting cells
waits_shown s cells = count_map is_waiting (cell_shown s) cells ∙ count_alike (λ c. is_waiting (cell_shown s c)) is_waiting same cells
  where
    same : (c : Cell ℕ) → is_waiting (cell_shown s c) ≡ is_waiting c
    same Hole = refl
    same Entered = refl
    same (Present k) = refl

-- ---- as code leaves it: x is what it read, and y what it left there

module _ (n : Noted) (s t : Store) (more now maps : ℕ) (tally : ℕ → ℕ) (fs : List NumberedFile) (is : IsFiles n s more maps tally fs) (k : ℕ)
    (l : k < length (files_shown s fs)) (x y : NumberedFile) (read : x ≡ slice_index_or fs k x)
    (d : IsDropping (λ n. in_file n x) (λ n. in_file n y) s t) (counted : now ≡ more_in t.pages) where
  within : k < length fs
  within = (let same = files_len s fs in omega (arith, l, same))

  x_is : x ≡ numbered_at fs k
  x_is = read_is fs k x within read

  x_shown : file_shown s x ≡ file_at (files_shown s fs) k
  x_shown = ap (file_shown s) x_is ∙ sym (file_is s fs k within)

  module _ (same : label_of y ≡ label_of x) (fewer : (n : ℕ) → sum_by (in_cell n) y.cells ≤ sum_by (in_cell n) x.cells) where
    stay : labels_of (slice_set fs k y) ≡ labels_of fs
    stay = labels_stay fs k x y read same

    pub keeps : (AreLevel x.maps → AreLevel y.maps) → IsFiles n t now maps tally (slice_set fs k y)
    keeps level = record {
      held = given_held s t more now fs is.held k within x y x_is d counted fewer;
      keyed = subst (IsKeyed maps tally) (sym stay) is.keyed;
      noted = subst (AreNoted n) (sym stay) is.noted;
      level = level_set fs k x y within read level is.level;
    }

    shows : (g : File) → file_shown s y ≡ g → files_shown t (slice_set fs k y) ≡ edited_at k g (files_shown s fs)
    shows g e =
        sym (all_kept t (slice_set fs k y) (subst (All (λ (l : Label). is_listed l ≡ true)) (sym stay) is.keyed.kept))
        ∙ ap (filter is_kept) (given_shows s t more now fs is.held k within x y x_is d counted fewer ∙ ap (slice_set (files_shown s fs) k) e)

    pub leaves : (reserves : ℕ) → file_reserves (file_shown s y) + reserves ≡ file_reserves (file_shown s x) → IsLeft reserves (view s more fs) (view t now (slice_set fs k y))
    leaves reserves went = given_left s t more now fs is.held k within x y x_is d counted fewer reserves went

  keys_punched : (a b : ℕ) (ms : List (Mapping ℕ)) → map key_of (map (map_punched a b) ms) ≡ map key_of ms
  keys_punched a b [] = refl
  keys_punched a b (m ∷ ms) = ap (λ ks. key_of m ∷ ks) (keys_punched a b ms)

  -- punched
  module _ (a b : ℕ) (y_is : y ≡ with_punched a b x) where
    same_label : label_of y ≡ label_of x
    same_label = ap label_of y_is ∙ ap (λ ks. record { name = x.name; keys = ks }) (keys_punched a b x.maps)

    cell_less : (n : ℕ) (c : Cell ℕ) → in_cell n (cell_punched c) ≤ in_cell n c
    cell_less n Hole = omega arith
    cell_less n Entered = omega arith
    cell_less n (Present k) = omega arith

    fewer : (n : ℕ) → sum_by (in_cell n) y.cells ≤ sum_by (in_cell n) x.cells
    fewer n = grind (arith, common_steps, sum_by-edit_range, sum_by-map_le, cell_less, sum_by-take-drop)

    pub punch_keeps : IsFiles n t now maps tally (slice_set fs k y)
    punch_keeps = keeps same_label fewer (λ h. same_level (map (map_punched a b) x.maps) y.maps (ap (λ (f : NumberedFile). f.maps) y_is) (punched_level a b x.maps h))

    pub punch_files : files_shown t (slice_set fs k y) ≡ edited_at k (punched a b (file_at (files_shown s fs) k)) (files_shown s fs)
    punch_files = shows same_label fewer (punched a b (file_at (files_shown s fs) k)) (ap (file_shown s) y_is ∙ punched_shown s a b x ∙ ap (punched a b) x_shown)

    pub punch_left : IsLeft 0 (view s more fs) (view t now (slice_set fs k y))
    punch_left = leaves same_label fewer 0 (ap (λ f. file_reserves f + 0) (ap (file_shown s) y_is ∙ punched_shown s a b x) ∙ punched_reserves a b (file_shown s x))

  -- cut
  module _ (len went : ℕ) (y_is : y ≡ with_truncated len x) (went_is : went ≡ count_by is_waiting (drop len x.cells)) where
    label_same : label_of y ≡ label_of x
    label_same = ap label_of y_is ∙ ap (λ ks. record { name = x.name; keys = ks }) (keys_punched len (len + length x.cells) x.maps)

    none_there : (n r : ℕ) → sum_by (in_cell n) (replicate r Hole) ≡ 0
    none_there n zero = refl
    none_there n (suc r) = (let rest = none_there n r in omega (arith, rest, sum_by-cons (in_cell n) Hole (replicate r Hole)))

    less_left : (n : ℕ) → sum_by (in_cell n) y.cells ≤ sum_by (in_cell n) x.cells
    less_left n = grind (arith, common_steps, sum_by-append, none_there, sum_by-take-drop)

    pub cut_keeps : IsFiles n t now maps tally (slice_set fs k y)
    cut_keeps = keeps label_same less_left (λ h. same_level (map (map_punched len (len + length x.cells)) x.maps) y.maps
        (ap (λ (f : NumberedFile). f.maps) y_is) (punched_level len (len + length x.cells) x.maps h))

    pub cut_files : files_shown t (slice_set fs k y) ≡ edited_at k (truncated len (file_at (files_shown s fs) k)) (files_shown s fs)
    cut_files = shows label_same less_left (truncated len (file_at (files_shown s fs) k)) (ap (file_shown s) y_is ∙ truncated_shown s len x ∙ ap (truncated len) x_shown)

    pub cut_left : IsLeft went (view s more fs) (view t now (slice_set fs k y))
    cut_left =
        let count : went ≡ count_by is_waiting (drop len (file_shown s x).cells) = went_is ∙ sym (waits_shown s (drop len x.cells)) ∙ ap (count_by is_waiting) (map_drop (cell_shown s) len x.cells) in
        leaves label_same less_left went
        (ap (λ f. file_reserves f + went) (ap (file_shown s) y_is ∙ truncated_shown s len x)
        ∙ ap (λ m. file_reserves (truncated len (file_shown s x)) + m) count ∙ truncated_reserves len (file_shown s x))
