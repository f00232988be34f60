-- What a name's file and a number's map show is what stands at their places.
use Rattle.std.proofs.Common.{arith, ◌≡◌, ℕ, None, Some, List, sym, ap, ◌∙◌, slice_index_or}
use Rattle.hp_model.proofs.Words.{File, Map, Slot, Spot, cell_at, has_name, is_map, map_in, named_on, new_file, no_map, shown, spot_on, value}
use Rattle.hp_laws.specs.Follows.{map_on, seen_on, shown_on}
use Rattle.hp_laws.proofs.counts.MountMoves.{spot_is}
use Rattle.hp_laws.proofs.lists.Places.{found_place}

-- ---- one slot

pub file_shown : (size : ℕ) (x : Slot) (name : List ℕ) (f : ℕ × File) (i : ℕ) → named_on x name ≡ Some f → shown_on size x f.0 i ≡ shown size (cell_at f.1 i)
file_shown size x name f i e = grind (arith, found_place)

pub map_shown : (x : Slot) (task number : ℕ) (p : Spot) → spot_on x task number ≡ Some p → map_on x p.file_no p.map_no ≡ p.map
map_shown None task number p e = cc
map_shown (Some m) task number p e =
    let at = spot_is m (is_map task number) p e in ap (λ (f : File). map_in f p.map_no) (at.file.is (new_file None)) ∙ at.map.is no_map

pub seen_shown : (size : ℕ) (x : Slot) (task number : ℕ) (p : Spot) (i : ℕ) → spot_on x task number ≡ Some p → seen_on size x p.file_no p.map_no i ≡ value size p.file p.map i
seen_shown size None task number p i e = cc
seen_shown size (Some m) task number p i e =
    let at = spot_is m (is_map task number) p e in
    ap (λ (f : File). value size f (map_in f p.map_no) i) (at.file.is (new_file None)) ∙ ap (λ (y : Map). value size p.file y i) (at.map.is no_map)

-- a file that has a name, and that a map is of
pub file_same : (x : Slot) (name : List ℕ) (g : ℕ × File) (task number : ℕ) (q : Spot) → named_on x name ≡ Some g → spot_on x task number ≡ Some q → g.0 ≡ q.file_no
    → named_on x name ≡ Some (q.file_no, q.file)
file_same None name g task number q named found same = cc
file_same (Some m) name g task number q named found same =
    let here : g.1 ≡ q.file =
    sym ((found_place (has_name name) m.files g named).is (new_file None)) ∙ ap (λ k. slice_index_or m.files k (new_file None)) same
    ∙ (spot_is m (is_map task number) q found).file.is (new_file None) in
    named ∙ ap (λ k. Some (k, g.1)) same ∙ ap (λ f. Some (q.file_no, f)) here
