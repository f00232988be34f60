-- A mount stays sound where its files do, and where no number and no name comes twice.
use Rattle.std.proofs.lemmas.Grind.{common_steps}
use Rattle.std.proofs.Common.{◌≡◌, ℕ, ◌+◌, ◌≤◌, Bool, true, false, ◌==◌, not, None, List, [], ◌∷◌, ◌++◌, length, map, cond, arith, refl, sym, ap, subst, if◌then◌else◌, nat_lt, count_by, filter}
use Rattle.std.proofs.Common.{flat_map, sum_by}
use Rattle.std.proofs.lemmas.Bool.{and_from, and_parts, both_ways, eq-eqb, eqb-true, ltb-false, ltb-true, not-true}
use Rattle.std.proofs.lemmas.List.{get_or_default}
use Rattle.std.proofs.lemmas.List.Elements.{All-filter, All-map, All-push, All-set, All-weaker}
use Rattle.std.proofs.lemmas.List.Sums.{sum_by-append, sum_by-cons, sum_by-set}
use Rattle.hp_model.proofs.Words.{Copy, File, FileHasCopy, IsSoundFile, IsSoundMount, Map, Mount, edit_at, file_forked, file_has, file_in, forked, has_name, is_kept, is_map, is_of, is_stamp, map_for}
use Rattle.hp_model.proofs.Words.{maps_of, new_file, swept, with_file, with_new}
use Rattle.hp_model.proofs.Counting.{count_map}
use Rattle.hp_laws.proofs.counts.Copies.{map_there}
use Rattle.hp_laws.proofs.counts.FilesSound.{forked_keeps}
use Rattle.hp_laws.proofs.counts.FewerCopies.{KeepsFile, keeps_stamps}
use Rattle.hp_laws.proofs.lists.Looks.{edit_past, edit_set}
use Rattle.hp_laws.proofs.counts.MountMoves.{IsFileAt}
use Rattle.hp_laws.proofs.lists.Places.{sum_by-filter_le, sum_by-map_le, sum_by-map_under}
use Rattle.hp_laws.proofs.lists.AtMostOne.{bit}

-- ---- sums over the files

pub bit_le : (a b : Bool) → (a ≡ true → b ≡ true) → bit a ≤ bit b
bit_le a b h = grind arith

pub count_maps : (p : Map → Bool) (fs : List File) → count_by p (flat_map (λ f. f.maps) fs) ≡ sum_by (λ f. count_by p f.maps) fs
count_maps p [] = refl
count_maps p (f ∷ fs) =
    let both = sum_by-append (λ x. bit (p x)) f.maps (flat_map (λ f. f.maps) fs) in
    omega (arith, both, sum_by-cons (λ f. count_by p f.maps) f fs, count_maps p fs)

holds_le : (f g : File) (stamp : ℕ) → KeepsFile f g → bit (file_has (is_stamp stamp) g) ≤ bit (file_has (is_stamp stamp) f)
holds_le f g stamp keeps = bit_le (file_has (is_stamp stamp) g) (file_has (is_stamp stamp) f) (keeps_stamps f g stamp keeps)

-- g has no name but that of f
abbrev pub NoOtherName : File → File → Type 0
NoOtherName f g = (name : List ℕ) → bit (has_name name g) ≤ bit (has_name name f)

pub set_count : (p : Map → Bool) (m : Mount) (j : ℕ) (f g : File) → IsFileAt m j f → count_by p (maps_of (with_file m j g)) + count_by p f.maps ≡ count_by p (maps_of m) + count_by p g.maps
set_count p m j f g at =
    let here = sum_by-set (λ x. count_by p x.maps) m.files j g f at.within in
    let was = ap (λ x. count_by p x.maps) (at.is f) in
    let old = count_maps p m.files in
    let new = count_maps p (with_file m j g).files in
    omega (arith, here, was, old, new)

-- a file in the place of another, with numbers that the mount does not use
pub set_sound : (m : Mount) (j : ℕ) (f g : File) → IsFileAt m j f → KeepsFile f g → NoOtherName f g
    → ((task number : ℕ) → count_by (is_map task number) (maps_of m) + count_by (is_map task number) g.maps ≤ count_by (is_map task number) f.maps + 1)
    → IsSoundMount m → IsSoundMount (with_file m j g)
set_sound m j f g at keeps names numbers sound = record {
  files = All-set IsSoundFile m.files j g (keeps.sound (subst IsSoundFile (at.is f) (sound.files j f at.within))) sound.files;
  stamps = λ stamp.
      (let here = sum_by-set (λ x. bit (file_has (is_stamp stamp) x)) m.files j g f at.within in
      let was = ap (λ x. bit (file_has (is_stamp stamp) x)) (at.is f) in
      let one = sound.stamps stamp in
      omega (arith, here, was, one, holds_le f g stamp keeps));
  numbers = λ task number.
      (let set = set_count (is_map task number) m j f g at in let one = numbers task number in omega (arith, set, one));
  names = λ name.
      (let here = sum_by-set (λ x. bit (has_name name x)) m.files j g f at.within in
      let was = ap (λ x. bit (has_name name x)) (at.is f) in
      let one = sound.names name in
      let none = names name in
      omega (arith, here, was, one, none));
}

-- with numbers of its own
pub put_sound : (m : Mount) (j : ℕ) (f g : File) → IsFileAt m j f → KeepsFile f g → NoOtherName f g
    → ((task number : ℕ) → count_by (is_map task number) g.maps ≤ count_by (is_map task number) f.maps) → IsSoundMount m → IsSoundMount (with_file m j g)
put_sound m j f g at keeps names numbers sound =
    set_sound m j f g at keeps names (λ task number. (let one = sound.numbers task number in let fewer = numbers task number in omega (arith, one, fewer))) sound

-- a file in another form
pub edit_sound : (m : Mount) (j : ℕ) (h : File → File) → ((f : File) → KeepsFile f (h f)) → ((f : File) → NoOtherName f (h f))
    → ((task number : ℕ) (f : File) → count_by (is_map task number) (h f).maps ≤ count_by (is_map task number) f.maps) → IsSoundMount m → IsSoundMount (record m { files = edit_at h m.files j })
edit_sound m j h keeps names numbers sound =
    let f : File = file_in m j in
    elim (nat_lt j (length m.files)) as (λ b. nat_lt j (length m.files) ≡ b → IsSoundMount (record m { files = edit_at h m.files j })) [
      | true ↦ λ e. (let there = ltb-true j (length m.files) e in
          subst (λ fs. IsSoundMount (record m { files = fs })) (sym (edit_set h (new_file None) m.files j there))
          (put_sound m j f (h f) (record { within = there; is = λ d. get_or_default m.files j d (new_file None) there }) (keeps f) (names f) (λ task number. numbers task number f) sound))
      | false ↦ λ e. subst (λ fs. IsSoundMount (record m { files = fs })) (sym (edit_past h m.files j (ltb-false j (length m.files) e))) sound
    ] refl

-- files that are not kept go
pub swept_sound : (m : Mount) → IsSoundMount m → IsSoundMount (swept m)
swept_sound m sound = record {
  files = All-filter is_kept IsSoundFile m.files sound.files;
  stamps = λ stamp. (let fewer = sum_by-filter_le (λ x. bit (file_has (is_stamp stamp) x)) is_kept m.files in let one = sound.stamps stamp in omega (arith, fewer, one));
  numbers = λ task number.
      (let p : Map → Bool = is_map task number in
      let fewer = sum_by-filter_le (λ x. count_by p x.maps) is_kept m.files in
      let old = count_maps p m.files in
      let new = count_maps p (filter is_kept m.files) in
      let one = sound.numbers task number in
      omega (arith, fewer, old, new, one));
  names = λ name. (let fewer = sum_by-filter_le (λ x. bit (has_name name x)) is_kept m.files in let one = sound.names name in omega (arith, fewer, one));
}

-- each file is changed
pub files_sound : (m : Mount) (h : File → File) → ((f : File) → KeepsFile f (h f)) → ((f : File) → NoOtherName f (h f))
    → ((task number : ℕ) → sum_by (λ f. count_by (is_map task number) f.maps) (map h m.files) ≤ 1) → IsSoundMount m → IsSoundMount (record m { files = map h m.files })
files_sound m h keeps names numbers sound = record {
  files = All-map IsSoundFile h m.files (All-weaker IsSoundFile (λ f. IsSoundFile (h f)) (λ f. (keeps f).sound) m.files sound.files);
  stamps = λ stamp.
      (let fewer = sum_by-map_le (λ x. bit (file_has (is_stamp stamp) x)) h (λ f. holds_le f (h f) stamp (keeps f)) m.files in
      let one = sound.stamps stamp in omega (arith, fewer, one));
  numbers = λ task number. (let new = count_maps (is_map task number) (map h m.files) in let one = numbers task number in omega (arith, new, one));
  names = λ name.
      (let fewer = sum_by-map_le (λ x. bit (has_name name x)) h (λ f. names f name) m.files in
      let one = sound.names name in omega (arith, fewer, one));
}

-- each with numbers of its own
pub cut_sound : (m : Mount) (h : File → File) → ((f : File) → KeepsFile f (h f)) → ((f : File) → NoOtherName f (h f))
    → ((task number : ℕ) (f : File) → count_by (is_map task number) (h f).maps ≤ count_by (is_map task number) f.maps) → IsSoundMount m → IsSoundMount (record m { files = map h m.files })
cut_sound m h keeps names numbers sound =
    files_sound m h keeps names
    (λ task number. (let p : Map → Bool = is_map task number in
    let fewer = sum_by-map_le (λ f. count_by p f.maps) h (numbers task number) m.files in
    let old = count_maps p m.files in
    let one = sound.numbers task number in
    omega (arith, fewer, old, one))) sound

-- a file more, that has no copies
pub new_sound : (m : Mount) (g : File) → KeepsFile (new_file None) g
    → ((task number : ℕ) → count_by (is_map task number) (maps_of m) + count_by (is_map task number) g.maps ≤ 1)
    → ((name : List ℕ) → count_by (has_name name) m.files + bit (has_name name g) ≤ 1) → IsSoundMount m → IsSoundMount (with_new m g)
new_sound m g keeps numbers names sound =
    let empty : IsSoundFile (new_file None) = record { maps = λ k d l. absurd (omega (arith, l)); copies = λ i j a b x y same. absurd (none_has i a x); owners = λ stamp. omega arith } in
    record {
      files = All-push IsSoundFile m.files g sound.files (keeps.sound empty);
      stamps = λ stamp.
          (let both = sum_by-append (λ x. bit (file_has (is_stamp stamp) x)) m.files (g ∷ []) in
          let last = sum_by-cons (λ x. bit (file_has (is_stamp stamp) x)) g [] in
          let one = sound.stamps stamp in
          omega (arith, both, last, one, holds_le (new_file None) g stamp keeps));
      numbers = λ task number.
          (let p : Map → Bool = is_map task number in
          let both = sum_by-append (λ f. count_by p f.maps) m.files (g ∷ []) in
          let last = sum_by-cons (λ f. count_by p f.maps) g [] in
          let old = count_maps p m.files in
          let new = count_maps p (m.files ++ g ∷ []) in
          let one = numbers task number in
          omega (arith, both, last, old, new, one));
      names = λ name.
          (let both = sum_by-append (λ x. bit (has_name name x)) m.files (g ∷ []) in
          let last = sum_by-cons (λ x. bit (has_name name x)) g [] in
          let one = names name in
          omega (arith, both, last, one));
    }
  where
    none_has : (i : ℕ) (a : Copy) → FileHasCopy (new_file None) i a → ⊥
    none_has i a has = (let there = map_there (new_file None) has.0 i a has.1 in absurd (omega (arith, there)))

-- ---- numbers of a file's maps

pub mapped_numbers : (h : Map → Map) → ((x : Map) → (h x).task ≡ x.task) → ((x : Map) → (h x).number ≡ x.number)
    → (task number : ℕ) (xs : List Map) → count_by (is_map task number) (map h xs) ≤ count_by (is_map task number) xs
mapped_numbers h tasks numbers task number xs = grind (arith, common_steps)

pub filtered_numbers : (p : Map → Bool) (task number : ℕ) (xs ys : List Map) → count_by (is_map task number) ys ≤ count_by (is_map task number) xs
    → count_by (is_map task number) (filter p ys) ≤ count_by (is_map task number) xs
filtered_numbers p task number xs ys le = let fewer = sum_by-filter_le (λ x. bit (is_map task number x)) p ys in omega (arith, fewer, le)

-- ---- numbers of children

cons_count : (p q : Map → Bool) (b : Bool) (x : Map) (xs : List Map) (n : ℕ) → (b ≡ true → p x ≡ true → q x ≡ true) → count_by p xs ≤ n → count_by p (cond b (x ∷ xs) xs) ≤ bit (q x) + n
cons_count p q b x xs n h le = grind (arith, common_steps)

-- of the maps that are kept no more pass the one test than of all the other
filter_count : (p q keep : Map → Bool) → ((x : Map) → keep x ≡ true → p x ≡ true → q x ≡ true) → (xs : List Map) → count_by p (filter keep xs) ≤ count_by q xs
filter_count p q keep h [] = omega arith
filter_count p q keep h (x ∷ xs) =
    let cons = sum_by-cons (λ x. bit (q x)) x xs in
    let here = cons_count p q (keep x) x (filter keep xs) (count_by q xs) (h x) (filter_count p q keep h xs) in
    omega (arith, cons, here)

none_count : (xs : List Map) → count_by (λ (x : Map). false) xs ≡ 0
none_count [] = refl
none_count (x ∷ xs) = omega (arith, sum_by-cons (λ (x : Map). bit false) x xs, none_count xs)

-- none of the maps that are kept passes
filter_none : (p keep : Map → Bool) → ((x : Map) → keep x ≡ true → p x ≡ true → ⊥) → (xs : List Map) → count_by p (filter keep xs) ≡ 0
filter_none p keep h xs = let fewer = filter_count p (λ x. false) keep (λ x k e. absurd (h x k e)) xs in omega (arith, fewer, none_count xs)

module _ (parent child task number : ℕ) where
  -- a child's number was its parent's
  abbrev source : ℕ
  source = if task == child then parent else task

  abbrev was : Map → Bool
  was = is_map (if task == child then parent else task) number

  kept_count : (xs : List Map) (b : Bool) → (task == child) ≡ b → count_by (is_map task number) (filter (λ x. not (is_of child x)) xs) ≤ cond b 0 (count_by (is_map task number) xs)
  kept_count xs b e = grind (arith, filter_none, both_ways, not-true, eqb-true, and_parts, filter_count)

  made_count : (xs : List Map) (b : Bool) → (task == child) ≡ b → count_by (is_map task number) (map (map_for child) (filter (is_of parent) xs)) ≤ cond b (count_by (is_map parent number) xs) 0
  made_count xs b e = grind (arith, count_map, filter_count, and_from, and_parts, filter_none, both_ways, eq-eqb, eqb-true)

  forked_count : (f : File) → count_by (is_map task number) (file_forked parent child f).maps ≤ count_by was f.maps
  forked_count f =
      let both = sum_by-append (λ x. bit (is_map task number x)) (filter (λ x. not (is_of child x)) f.maps) (map (map_for child) (filter (is_of parent) f.maps)) in
      by_task (task == child) refl both
    where
      by_task : (b : Bool) → (task == child) ≡ b
          → count_by (is_map task number) (file_forked parent child f).maps
          ≡ count_by (is_map task number) (filter (λ x. not (is_of child x)) f.maps) + count_by (is_map task number) (map (map_for child) (filter (is_of parent) f.maps))
          → count_by (is_map task number) (file_forked parent child f).maps ≤ count_by (is_map (if b then parent else task) number) f.maps
      by_task true e both = let kept = kept_count f.maps true e in let made = made_count f.maps true e in omega (arith, both, kept, made)
      by_task false e both = let kept = kept_count f.maps false e in let made = made_count f.maps false e in omega (arith, both, kept, made)

pub forked_sound : (parent child : ℕ) (m : Mount) → IsSoundMount m → IsSoundMount (forked parent child m)
forked_sound parent child m sound =
    swept_sound (record m { files = map (file_forked parent child) m.files })
    (files_sound m (file_forked parent child) (forked_keeps parent child) (λ f name. omega arith)
    (λ task number. (let p : Map → Bool = was parent child task number in
    let fewer = sum_by-map_under (λ f. count_by (is_map task number) f.maps) (λ f. count_by p f.maps) (file_forked parent child) (forked_count parent child task number) m.files in
    let old = count_maps p m.files in
    let one = sound.numbers (source parent child task number) number in
    omega (arith, fewer, old, one))) sound)
