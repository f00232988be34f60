-- What files and maps show after an access.
use Rattle.std.proofs.lemmas.Grind.{common_steps}
use Rattle.std.proofs.Common.{◌≡◌, ℕ, ◌<◌, Bool, true, ◌&&◌, not, Option, None, Some, List, length, refl, sym, ap, ◌∙◌, arith, slice_index_or}
use Rattle.std.proofs.lemmas.List.{get_or-set_same}
use Rattle.hp_laws.proofs.Variants.{Cell, Done, Entered, Hole, Live, Place, Present, Read}
use Rattle.hp_model.proofs.Words.{Answered, Choice, Copy, File, Map, Mount, Outcome, Page, Refused, Spot, access, again, cell_at, continued, copied, copy_of}
use Rattle.hp_model.proofs.Words.{grant_page, map_in, new_copy, place_at, private_access, reserved_page}
use Rattle.hp_model.proofs.Words.{shared_access, shown, uncopied_access, value, with_cell, with_file, with_map, with_place, zeros}
use Rattle.hp_laws.proofs.counts.MountMoves.{IsSpot}
use Rattle.hp_laws.proofs.steps.Outcomes.{Always, always_if, always_test}

-- ---- looks at a file

-- what the file has at the index
abbrev pub look : (size x : ℕ) → File → List ℕ
look size x f = shown size (cell_at f x)

-- what a map of it shows there
abbrev pub seen : (size l x : ℕ) → File → List ℕ
seen size l x f = value size f (map_in f l) x

-- whether a map of it lost a copy to an owner
abbrev pub marked : (l : ℕ) → File → Bool
marked l f = (map_in f l).unmapped

abbrev pub by_place : (size : ℕ) → Place Copy → List ℕ → List ℕ
by_place size p v = elim (copy_of p) [ None ↦ v | Some copy ↦ copy.page.bytes ]

-- ---- a place of a map

module _ (m : Map) (i : ℕ) (c : Bool) (o : Option Copy) (is : place_at m i ≡ Live c o) (p : Place Copy) where
  pub place_put : place_at (with_place m i p) i ≡ p
  place_put = grind (arith, common_steps)

  pub place_other : (x : ℕ) → (x ≡ i → ⊥) → place_at (with_place m i p) x ≡ place_at m x
  place_other x other = grind (arith, common_steps)

-- ---- outcomes that leave a mount

abbrev pub On : (Mount → Type 0) → Outcome → Type 0
On Q (Refused r) = Unit {0}
On Q (Answered a None) = ⊥
On Q (Answered a (Some n)) = Q n

pub on_grant_page : (Q : Mount → Type 0) (c : Choice) (m : Mount) (home : ℕ) (n : ℕ → Mount) → ((node : ℕ) → Q (n node)) → Always (On Q) (grant_page c m home (λ node. Answered Done (Some (n node))))
on_grant_page Q c m home n h = grind arith

pub on_reserved_page : (Q : Mount → Type 0) (home : ℕ) (n : ℕ → Mount) → ((node : ℕ) → Q (n node)) → Always (On Q) (reserved_page home (λ node. Answered Done (Some (n node))))
on_reserved_page Q home n h = λ a. h a.node

pub on_weaker : (Q R : Mount → Type 0) → ((n : Mount) → Q n → R n) → (o : Outcome) → On Q o → On R o
on_weaker Q R h o on = grind arith

-- what follows an answer, on the mount that it leaves
pub on_follows : (Q R : Mount → Type 0) (f : Mount → Outcome) → ((n : Mount) → Q n → On R (f n)) → (o : Outcome) → On Q o → On R (continued f o)
on_follows Q R f h o on = grind arith

-- ---- an access by a read

module _ (size : ℕ) (m : Mount) (s : Spot) (at : IsSpot m s) (i : ℕ) where
  -- the spot's map shows what it showed
  pub record Same (n : Mount) : Type 0 where
    pub value : value size (again n s).file (again n s).map i ≡ value size s.file s.map i

  -- the file is another that shows the same
  put_same : (g : File) → value size g (slice_index_or g.maps s.map_no s.map) i ≡ value size s.file s.map i → Same (with_file m s.file_no g)
  put_same g shows = record { value = ap (λ f. value size f (slice_index_or f.maps s.map_no s.map) i) (get_or-set_same m.files s.file_no g s.file at.file.within) ∙ shows }

  stays_same : Same m
  stays_same = record { value = ap (λ f. value size f (slice_index_or f.maps s.map_no s.map) i) (at.file.is s.file) ∙ ap (λ y. value size s.file y i) (at.map.is s.map) }

  fill_same : (node : ℕ) → i < length s.file.cells → shown size (cell_at s.file i) ≡ zeros size →
      Same (with_file m s.file_no (with_cell s.file i (Present (record { node = node; bytes = zeros size }))))
  fill_same node l e =
      let page : Page = record { node = node; bytes = zeros size } in
      put_same (with_cell s.file i (Present page)) (ap (λ y. value size (with_cell s.file i (Present page)) y i) (at.map.is s.map)
      ∙ ap (by_place size (place_at s.map i)) (ap (shown size) (get_or-set_same s.file.cells i (Present page) Hole l) ∙ sym e))

  copy_same : (c d : Bool) (o : Option Copy) (new : Copy) → place_at s.map i ≡ Live c o → new.page.bytes ≡ value size s.file s.map i
      → Same (with_file m s.file_no (with_map s.file s.map_no (with_place s.map i (Live d (Some new)))))
  copy_same c d o new is e =
      let p : Place Copy = Live d (Some new) in
      put_same (with_map s.file s.map_no (with_place s.map i p)) (ap (λ y. value size s.file y i) (get_or-set_same s.file.maps s.map_no (with_place s.map i p) s.map at.map.within)
      ∙ ap (λ q. by_place size q (look size i s.file)) (place_put s.map i c o is p) ∙ e)

  module _ (c : Choice) (home : ℕ) where
    shared_same : (cell : Cell Page) → i < length s.file.cells → cell_at s.file i ≡ cell → Always (On Same) (shared_access c size m s home i cell)
    shared_same (Present page) l is = stays_same
    shared_same Entered l is = on_reserved_page Same home _ (λ node. fill_same node l (ap (shown size) is))
    shared_same Hole l is = on_grant_page Same c m home _ (λ node. fill_same node l (ap (shown size) is))

    abbrev fresh : ℕ → Copy
    fresh node = record { stamp = c.stamp; page = record { node = node; bytes = value size s.file s.map i } }

    new_same : (consumed : Bool) → place_at s.map i ≡ Live consumed None → Always (On Same) (new_copy c size m s home i consumed)
    new_same consumed is =
        always_if (On Same) (s.map.owner && not consumed) (reserved_page home (λ node. copied m s i true (fresh node))) (grant_page c m home (λ node. copied m s i consumed (fresh node)))
        (λ e. on_reserved_page Same home _ (λ node. copy_same consumed true None (fresh node) is refl))
        (λ e. on_grant_page Same c m home _ (λ node. copy_same consumed consumed None (fresh node) is refl))

    uncopied_same : (consumed : Bool) → place_at s.map i ≡ Live consumed None → Always (On Same) (uncopied_access c size m s home i consumed Read)
    uncopied_same consumed is = grind (arith, always_if, stays_same, new_same)

    read_private : (p : Place Copy) → place_at s.map i ≡ p → Always (On Same) (private_access c size m s home i p Read)
    read_private p is = grind (arith, stays_same, always_test, uncopied_same)

    pub read_same : i < length s.file.cells → Always (On Same) (access c size m s home i Read)
    read_same l = grind (arith, always_if, shared_same, read_private)
