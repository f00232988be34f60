-- Names and numbers after files without a name and without maps are gone, or maps of some kind.
use Rattle.std.proofs.lemmas.Grind.{common_steps}
use Rattle.std.proofs.Common.{◌≡◌, ⊎_elim, inl, subst, ℕ, zero, suc, ◌+◌, ◌<◌, ◌==◌, Bool, true, false, not, Option, None, Some, is_some, List, [], ◌∷◌, length, map, option_map, get_or, refl, sym}
use Rattle.std.proofs.Common.{ap}
use Rattle.std.proofs.Common.{◌∙◌, arith, if◌then◌else◌, nat_lt, filter, inr}
use Rattle.std.specs.List.{list_any}
use Rattle.std.specs.Str.{bytes_eq}
use Rattle.std.proofs.lemmas.Bool.{cases_eq, cases_order, eq-eqb, eqb-true, false_from_ne_true, or_right, lt-ltb, or_cases, and_parts}
use Rattle.std.proofs.lemmas.List.Folds.{list_any_at}
use Rattle.hp_model.proofs.Words.{File, Map, Mount, Slot, Spot, cell_in, file_forked, file_named, found, has_name, is_kept, is_map, is_of, map_for, new_file, one_on, place_at}
use Rattle.hp_model.proofs.Words.{shown, spot, spot_in, spot_on, swept, value}
use Rattle.hp_laws.specs.Follows.{SameFiles, shape_of}
use Rattle.hp_laws.proofs.names.Changes.{SlotKeeps, Effect, Never}
use Rattle.hp_laws.proofs.names.Keys.{found_mapped, found_same, keyed}
use Rattle.hp_laws.proofs.making.FilesMade.{any_append, in_file, spot_in_file}
use Rattle.hp_laws.proofs.counts.MountMoves.{spot_is}
use Rattle.hp_laws.proofs.names.Named.{file_same}
use Rattle.hp_laws.proofs.names.Placed.{found_more}
use Rattle.hp_laws.proofs.lists.Places.{any_filter, found_place}
use Rattle.hp_laws.proofs.accesses.Shown.{by_place}

-- ---- lists of which elements go

-- how many of the first k elements stay
abbrev pub rank : {X : Type 0} → (X → Bool) → List X → ℕ → ℕ
rank keep [] k = 0
rank keep (x ∷ xs) zero = 0
rank keep (x ∷ xs) (suc k) = if keep x then rank keep xs k + 1 else rank keep xs k

module _ {X : Type 0} (keep : X → Bool) where
  found_head : (t : X → Bool) (x : X) (xs : List X) (q : ℕ × X)
      → ((p : ℕ × X) → found t xs ≡ Some p → keep p.1 ≡ true → found t (filter keep xs) ≡ Some (rank keep xs p.0, p.1)) → keep q.1 ≡ true
      → (b : Bool) → t x ≡ b → (r : Option (ℕ × X)) → found t xs ≡ r → (if b then Some (0, x) else option_map one_on r) ≡ Some q
      → found t (filter keep (x ∷ xs)) ≡ Some (rank keep (x ∷ xs) q.0, q.1)
  found_head t x xs q rest stays b is r was e = grind arith

  -- what is found and stays is found still
  pub found_filter : (t : X → Bool) (xs : List X) (q : ℕ × X) → found t xs ≡ Some q → keep q.1 ≡ true → found t (filter keep xs) ≡ Some (rank keep xs q.0, q.1)
  found_filter t [] q e stays = cc
  found_filter t (x ∷ xs) q e stays = found_head t x xs q (λ p was on. found_filter t xs p was on) stays (t x) refl (found t xs) refl e

  -- what stood before stands before
  rank_less : (xs : List X) (j k : ℕ) (d : X) → j < k → j < length xs → keep (get_or xs j d) ≡ true → rank keep xs j < rank keep xs k
  rank_less [] j k d l within on = absurd (omega (arith, within))
  rank_less (x ∷ xs) j zero d l within on = absurd (omega (arith, l))
  rank_less (x ∷ xs) zero (suc k) d l within on = rw on (omega arith)
  rank_less (x ∷ xs) (suc j) (suc k) d l within on =
      let rest = rank_less xs j k d (omega (arith, l)) (omega (arith, within)) on in by_keep (keep x) rest
    where
      by_keep : (b : Bool) → rank keep xs j < rank keep xs k → (if b then rank keep xs j + 1 else rank keep xs j) < (if b then rank keep xs k + 1 else rank keep xs k)
      by_keep true rest = omega (arith, rest)
      by_keep false rest = rest

  -- what stays stands apart where it stood apart
  pub rank_apart : (xs : List X) (j k : ℕ) (d : X) → j < length xs → k < length xs → keep (get_or xs j d) ≡ true → keep (get_or xs k d) ≡ true → (rank keep xs j == rank keep xs k) ≡ (j == k)
  rank_apart xs j k d lj lk onj onk =
      ⊎_elim (λ same. ap (λ n. rank keep xs n == rank keep xs k) same ∙ eq-eqb (rank keep xs k) (rank keep xs k) refl ∙ sym (eq-eqb j k same))
      (λ other. false_from_ne_true (rank keep xs j == rank keep xs k) (λ e. other (not_apart e)) ∙ sym (false_from_ne_true (j == k) (λ e. other (eqb-true j k e))))
      (cases_eq j k)
    where
      not_apart : (rank keep xs j == rank keep xs k) ≡ true → j ≡ k
      not_apart e =
          let level = eqb-true (rank keep xs j) (rank keep xs k) e in
          ⊎_elim (λ same. same)
          (λ apart. ⊎_elim (λ l. (let less = rank_less xs j k d l lj onj in absurd (omega (arith, less, level))))
          (λ l. (let less = rank_less xs k j d l lk onk in absurd (omega (arith, less, level)))) apart)
          (cases_order j k)

-- ---- mounts

-- what a map shows where the file's cells are the same
pub value_same : (size i : ℕ) (f g : File) (x y : Map) → g.cells ≡ f.cells → y ≡ x → value size g y i ≡ value size f x i
value_same size i f g x y cells same = ap (λ cs. by_place size (place_at y i) (shown size (cell_in cs i))) cells ∙ ap (λ z. value size f z i) same

-- the names of m, and the numbers of its maps that pass, mean the same files and maps in n, each file at another place
pub record Follows (m n : Mount) (ok : Map → Bool) : Type 0 where
  pub to : ℕ → ℕ
  pub names : (name : List ℕ) (g : ℕ × File) → file_named m name ≡ Some g
      → (h : ℕ × File) × (file_named n name ≡ Some h) × (h.0 ≡ to g.0) × (h.1.cells ≡ g.1.cells)
  pub numbers : (task number : ℕ) (q : Spot) → spot m (is_map task number) ≡ Some q → ok q.map ≡ true
      → (r : Spot) × (spot n (is_map task number) ≡ Some r) × (r.file_no ≡ to q.file_no) × (r.map ≡ q.map) × (r.file.cells ≡ q.file.cells)
  pub apart : (a b : ℕ × ℕ) (q o : Spot) → spot m (is_map a.0 a.1) ≡ Some q → spot m (is_map b.0 b.1) ≡ Some o → (to q.file_no == to o.file_no) ≡ (q.file_no == o.file_no)

pub both_same : (together : Bool) (x y : Option Spot) → SameFiles together x y → (p : Spot) (o : Spot) → x ≡ Some p → y ≡ Some o → (p.file_no == o.file_no) ≡ together
both_same together x y same p o e w = grind arith

-- what is kept up to m is kept up to n
module _ (size : ℕ) (x : Slot) (e : Effect) (m n : Mount) (ok : Map → Bool) (follows : Follows m n ok) (keeps : SlotKeeps size x e (Some m) Never)
    (stay : (task number : ℕ) (q : Spot) → e.ends_number task number ≡ false → spot m (is_map task number) ≡ Some q → ok q.map ≡ true) where
  pub follow : SlotKeeps size x e (Some n) Never
  follow = record {
    names = λ name i f stays named.
        (let kept = keeps.names name i f stays named in
        let next = follows.names name kept.0 kept.1 in
        (next.0, next.1, ap (λ cs. shown size (cell_in cs i)) next.3 ∙ kept.2));
    numbers = λ task number i p stays found.
        (let kept = keeps.numbers task number i p stays found in
        let q = kept.0 in
        let next = follows.numbers task number q kept.1 (stay task number q stays kept.1) in
        let r = next.0 in (
          r,
          next.1,
          record {
            shape = ap shape_of next.3 ∙ kept.2.shape;
            file = λ name goes_on named.
                (let there = follows.names name (q.file_no, q.file) (kept.2.file name goes_on named) in
                file_same (Some n) name there.0 task number r there.1 next.1 (there.2 ∙ sym next.2));
            marked = λ marked. ap (λ y. y.unmapped) next.3 ∙ kept.2.marked marked;
            shows = ⊎_elim (λ same. inl (value_same size i q.file r.file q.map r.map next.4 next.3 ∙ same)) (λ lost. inr lost) kept.2.shows;
          },
        ));
    together = λ a b p o stay_a stay_b found_a found_b.
        (let q = keeps.numbers a.0 a.1 0 p stay_a found_a in
        let w = keeps.numbers b.0 b.1 0 o stay_b found_b in
        let next_q = follows.numbers a.0 a.1 q.0 q.1 (stay a.0 a.1 q.0 stay_a q.1) in
        let next_w = follows.numbers b.0 b.1 w.0 w.1 (stay b.0 b.1 w.0 stay_b w.1) in
        subst (λ y. SameFiles (p.file_no == o.file_no) y (spot_on (Some n) b.0 b.1)) (sym next_q.1)
        (subst (λ y. SameFiles (p.file_no == o.file_no) (Some next_q.0) y) (sym next_w.1)
        (ap (λ k. k == next_w.0.file_no) next_q.2 ∙ ap (λ k. follows.to q.0.file_no == k) next_w.2 ∙ follows.apart a b q.0 w.0 q.1 w.1
        ∙ both_same (p.file_no == o.file_no) (spot m (is_map a.0 a.1)) (spot m (is_map b.0 b.1)) (keeps.together a b p o stay_a stay_b found_a found_b) q.0 w.0 q.1 w.1)));
  }

-- ---- files that go

some_pass : {X : Type 0} (t : X → Bool) (xs : List X) (q : ℕ × X) → found t xs ≡ Some q → list_any t xs ≡ true
some_pass t xs q e = let at = found_place t xs q e in list_any_at t xs q.0 q.1 at.within (ap t (at.is q.1) ∙ at.passes)

longer : {X : Type 0} (t : X → Bool) (xs : List X) → list_any t xs ≡ true → nat_lt 0 (length xs) ≡ true
longer t xs e = grind (arith, common_steps)

pub is_open : (name : List ℕ) (f : File) → has_name name f ≡ true → is_kept f ≡ true
is_open name f e = grind arith

module _ (m : Mount) where
  has_maps : (test : Map → Bool) (f : File) → list_any test f.maps ≡ true → is_kept f ≡ true
  has_maps test f e = or_right (is_some f.name) (nat_lt 0 (length f.maps)) (longer test f.maps e)

  kept_there : (test : Map → Bool) (q : Spot) → spot m test ≡ Some q → is_kept (get_or m.files q.file_no (new_file None)) ≡ true
  kept_there test q e =
      let at = spot_is m test q e in
      ap is_kept (at.file.is (new_file None)) ∙ or_right (is_some q.file.name) (nat_lt 0 (length q.file.maps)) (lt-ltb 0 (length q.file.maps) (omega (arith, at.map.within)))

  -- what is found in the file, there or elsewhere
  pub some_file : (test : Map → Bool) (o : Option (ℕ × File)) (q : Spot) → in_file test o ≡ Some q →
      (f : ℕ × File) × (o ≡ Some f) × ((p : ℕ × Map) × (found test f.1.maps ≡ Some p) × (spot_in f p ≡ q))
  some_file test o q e = grind arith

  pub sweep_follows : Follows m (swept m) (λ y. true)
  sweep_follows = record {
    to = rank is_kept m.files;
    names = λ name g named.
        ((rank is_kept m.files g.0, g.1), found_filter is_kept (has_name name) m.files g named (is_open name g.1 (found_place (has_name name) m.files g named).passes), refl, refl);
    numbers = λ task number q e ok.
        (let test = is_map task number in
        let has = λ (f : File). list_any test f.maps in
        let there = some_file test (found has m.files) q (sym (spot_in_file m test) ∙ e) in
        let f = there.0 in
        let p = there.2.0 in
        let moved : ℕ × File = (rank is_kept m.files f.0, f.1) in
        let r : Spot = spot_in moved p in
        let same = there.2.2 in (
          r,
          spot_in_file (swept m) test
              ∙ ap (in_file test) (found_filter is_kept has m.files f there.1 (has_maps test f.1 (found_place has m.files f there.1).passes))
              ∙ ap (option_map (spot_in moved)) there.2.1,
          ap (λ y. rank is_kept m.files y.file_no) same,
          ap (λ y. y.map) same,
          ap (λ y. y.file.cells) same,
        ));
    apart = λ a b q o found_q found_o.
        (let at = spot_is m (is_map a.0 a.1) q found_q in
        let on = spot_is m (is_map b.0 b.1) o found_o in
        rank_apart is_kept m.files q.file_no o.file_no (new_file None) at.file.within on.file.within (kept_there (is_map a.0 a.1) q found_q) (kept_there (is_map b.0 b.1) o found_o));
  }

-- ---- files that change in place

-- one that fewer elements pass is found where the first that passed does
found_fewer : {X : Type 0} (t u : X → Bool) → ((x : X) → u x ≡ true → t x ≡ true) → (xs : List X) (q : ℕ × X) → found t xs ≡ Some q → u q.1 ≡ true → found u xs ≡ Some q
found_fewer t u less [] q e passes = cc
found_fewer {X = X} t u less (x ∷ xs) q e passes = by_head (t x) refl (found t xs) refl (λ p was on. found_fewer t u less xs p was on) e
  where
    not_first : t x ≡ false → u x ≡ false
    not_first is = false_from_ne_true (u x) (λ on. (let both = less x on in cc))

    by_head : (b : Bool) → t x ≡ b → (r : Option (ℕ × X)) → found t xs ≡ r → ((p : ℕ × X) → found t xs ≡ Some p → u p.1 ≡ true → found u xs ≡ Some p)
        → (if b then Some (0, x) else option_map one_on r) ≡ Some q → found u (x ∷ xs) ≡ Some q
    by_head true is r was rest e =
        let same : (0, x) ≡ q = cc in subst (λ (p : ℕ × X). found u (x ∷ xs) ≡ Some p) same (rw (subst (λ (p : ℕ × X). u p.1 ≡ true) (sym same) passes) refl)
    by_head b is r was rest e = grind (arith, not_first)

-- each file has its name and cells, and a map that passes is found in it still
pub record FilesFollow (h : File → File) (ok : Map → Bool) : Type 0 where
  pub names : (f : File) → (h f).name ≡ f.name
  pub cells : (f : File) → (h f).cells ≡ f.cells
  pub maps : (task number : ℕ) (f : File) (p : ℕ × Map) → found (is_map task number) f.maps ≡ Some p → ok p.1 ≡ true
      → (q : ℕ × Map) × (found (is_map task number) (h f).maps ≡ Some q) × (q.1 ≡ p.1)
  pub fewer : (task number : ℕ) (y : Map) → is_map task number y ≡ true → ok y ≡ true → (f : File)
      → list_any (is_map task number) (h f).maps ≡ true → list_any (is_map task number) f.maps ≡ true

module _ (m : Mount) (h : File → File) (ok : Map → Bool) (each : FilesFollow h ok) where
  abbrev after : Mount
  after = record m { files = map h m.files }

  same_named : (name : List ℕ) (f : File) → has_name name (h f) ≡ has_name name f
  same_named name f = ap (λ (o : Option (List ℕ)). elim o [ None ↦ false | Some n ↦ bytes_eq n name ]) (each.names f)

  name_stays : (name : List ℕ) (g : ℕ × File) → file_named m name ≡ Some g → file_named after name ≡ Some (g.0, h g.1)
  name_stays name g e = grind (arith, found_mapped, keyed, found_same, same_named)

  pub edit_follows : Follows m after ok
  edit_follows = record {
    to = λ k. k;
    names = λ name g e. ((g.0, h g.1), name_stays name g e, refl, each.cells g.1);
    numbers = λ task number q e on.
        (let test = is_map task number in
        let has = λ (f : File). list_any test f.maps in
        let there = some_file m test (found has m.files) q (sym (spot_in_file m test) ∙ e) in
        let f = there.0 in
        let p = there.2.0 in
        let same = there.2.2 in
        let passes : ok p.1 ≡ true = ap (λ (y : Spot). ok y.map) same ∙ on in
        let next = each.maps task number f.1 p there.2.1 passes in
        let at = found_place test f.1.maps p there.2.1 in
        let still : found (λ (g : File). has (h g)) m.files ≡ Some f =
        found_fewer has (λ (g : File). has (h g)) (λ g. each.fewer task number p.1 at.passes passes g) m.files f there.1 (some_pass test (h f.1).maps next.0 next.1) in
        let moved : ℕ × File = (f.0, h f.1) in
        let r : Spot = spot_in moved next.0 in (
          r,
          spot_in_file after test ∙ ap (in_file test) (found_mapped has h m.files ∙ ap (option_map (keyed h)) still) ∙ ap (option_map (spot_in moved)) next.1,
          ap (λ y. y.file_no) same,
          next.2 ∙ ap (λ y. y.map) same,
          each.cells f.1 ∙ ap (λ y. y.file.cells) same,
        ));
    apart = λ a b q o found_q found_o. refl;
  }

-- ---- maps that go, and maps that are made for a child

abbrev pub thin : (Map → Bool) → File → File
thin keep f = record f { maps = filter keep f.maps }

pub thin_follows : (keep : Map → Bool) → FilesFollow (thin keep) keep
thin_follows keep = record {
  names = λ f. refl;
  cells = λ f. refl;
  maps = λ task number f p e on. ((rank keep f.maps p.0, p.1), found_filter keep (is_map task number) f.maps p e on, refl);
  fewer = λ task number y is on f some. any_filter (is_map task number) keep f.maps some;
}

abbrev pub is_not_of : ℕ → Map → Bool
is_not_of task y = not (is_of task y)

pub fork_follows : (parent child : ℕ) → FilesFollow (file_forked parent child) (is_not_of child)
fork_follows parent child = record {
  names = λ f. refl;
  cells = λ f. refl;
  maps = λ task number f p e on. (
    (rank (is_not_of child) f.maps p.0, p.1),
    found_more (is_map task number) (filter (is_not_of child) f.maps) (map (map_for child) (filter (is_of parent) f.maps)) (rank (is_not_of child) f.maps p.0, p.1)
        (found_filter (is_not_of child) (is_map task number) f.maps p e on),
    refl,
  );
  fewer = λ task number y is on f some.
      ⊎_elim (λ old. any_filter (is_map task number) (is_not_of child) f.maps old) (λ new. absurd (not_made task number y is on f new))
      (or_cases (list_any (is_map task number) (filter (is_not_of child) f.maps)) (list_any (is_map task number) (map (map_for child) (filter (is_of parent) f.maps)))
      (sym (any_append (is_map task number) (filter (is_not_of child) f.maps) (map (map_for child) (filter (is_of parent) f.maps))) ∙ some));
}
  where
    is_child : (task number : ℕ) (xs : List Map) → list_any (is_map task number) (map (map_for child) xs) ≡ true → (child == task) ≡ true
    is_child task number [] e = cc
    is_child task number (x ∷ xs) e =
        ⊎_elim (λ here. (and_parts (child == task) (x.number == number) here).0) (λ there. is_child task number xs there)
        (or_cases (is_map task number (map_for child x)) (list_any (is_map task number) (map (map_for child) xs)) e)

    not_made : (task number : ℕ) (y : Map) → is_map task number y ≡ true → is_not_of child y ≡ true → (f : File)
        → list_any (is_map task number) (map (map_for child) (filter (is_of parent) f.maps)) ≡ true → ⊥
    not_made task number y is on f new =
        let mine = eqb-true y.task task (and_parts (y.task == task) (y.number == number) is).0 in
        let theirs = eqb-true child task (is_child task number (filter (is_of parent) f.maps) new) in
        let same = eq-eqb y.task child (mine ∙ sym theirs) in
        cc
