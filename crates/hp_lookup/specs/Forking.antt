-- A child's maps. No public clause cites this module.
use Rattle.std.specs.Prelude.{◌≡◌, ℕ, ◌+◌, ◌-◌, ◌++◌, ◌<◌, ◌≤◌, ◌==◌, List, [], ◌∷◌, false, length, map, slice_set, vec_capacity}
use Rattle.std.specs.Global.{Vec}
use Rattle.std.specs.List.{count_by, filter, sum_by}
use Rattle.hp_mapping.specs.Mapped.{has_copy}
use Rattle.hp_model.specs.declared.place.Place.{Place}
use Rattle.hp_model.specs.files.Mapping.{Mapping, is_map, is_of, map_for}
use Rattle.hp_store.specs.Store.{Store, held_count, holders_of, page_at}
use Rattle.hp_lookup.specs.Dropping.{HasHolders, at_node}
use Rattle.hp_lookup.specs.Held.{in_map, in_place, more_in}
use Rattle.hp_lookup.specs.Numbered.{NumberedFile, numbered_at, page_in}

-- how many copies a map has
abbrev pub copies_in : Mapping ℕ → ℕ
copies_in m = count_by has_copy m.places

-- so many holders of each number are more, and nothing else changed
pub record IsSharing (added : ℕ → ℕ) (old now : Store) : Type 0 where
  pub held : (n : ℕ) → holders_of (page_at now n) ≡ holders_of (page_at old n) + added n
  pub some : HasHolders now
  pub same : (n : ℕ) → page_in (page_at now n) ≡ page_in (page_at old n)
  pub pages : held_count now.pages ≡ held_count old.pages
  pub nodes : (n : ℕ) → sum_by (at_node n) now.pages ≡ sum_by (at_node n) old.pages
  pub going : now.going ≡ old.going
  pub room : now.room ≡ old.room

-- the copies of some places, all but those of the last ones, have a holder more
pub record IsShared (places last : List (Place ℕ)) (old now : Store) : Type 0 where
  pub less : (n : ℕ) → sum_by (in_place n) last ≤ sum_by (in_place n) places
  pub sharing : IsSharing (λ n. sum_by (in_place n) places - sum_by (in_place n) last) old now

-- a parent's maps as the child's
abbrev pub children_of : (parent child : ℕ) → List (Mapping ℕ) → List (Mapping ℕ)
children_of parent child ms = map (map_for child) (filter (is_of parent) ms)

-- the file with them behind its maps
abbrev pub with_children : (parent child : ℕ) → NumberedFile → NumberedFile
with_children parent child f = record f { maps = f.maps ++ children_of parent child f.maps }

-- the file with a list of maps behind its own
abbrev pub with_list : NumberedFile → List (Mapping ℕ) → NumberedFile
with_list f list = record f { maps = f.maps ++ list }

-- each file with its list, as far as there are lists
abbrev pub joined : List NumberedFile → List (List (Mapping ℕ)) → List NumberedFile
joined [] vs = []
joined (f ∷ fs) [] = f ∷ fs
joined (f ∷ fs) (v ∷ vs) = with_list f v ∷ joined fs vs

-- the files, of which the one at a place got a list
abbrev pub joined_at : ℕ → List (Mapping ℕ) → List NumberedFile → List NumberedFile
joined_at at list fs = slice_set fs at (with_list (numbered_at fs at) list)

-- a list that has maps has room for its file's
abbrev pub HasRoom : NumberedFile → Vec (Mapping ℕ) → Type 0
HasRoom f list = 0 < length list.items → length list.items + length f.maps ≤ vec_capacity list

-- a list of the child's maps of a file, with room for all its maps
pub record IsReady (parent child : ℕ) (f : NumberedFile) (list : Vec (Mapping ℕ)) : Type 0 where
  pub children : list.items ≡ children_of parent child f.maps
  pub room : HasRoom f list

-- each list is the child's maps of its file, and the files behind the last list have no map of the parent
abbrev pub AreReady : (parent child : ℕ) → List NumberedFile → List (List (Mapping ℕ)) → Type 0
AreReady parent child [] [] = Unit {0}
AreReady parent child [] (v ∷ vs) = ⊥
AreReady parent child (f ∷ fs) [] = (children_of parent child f.maps ≡ []) × AreReady parent child fs []
AreReady parent child (f ∷ fs) (v ∷ vs) = (v ≡ children_of parent child f.maps) × AreReady parent child fs vs

-- at how many places of lists a number stands, and how many copies they have
abbrev pub in_list : ℕ → List (Mapping ℕ) → ℕ
in_list n list = sum_by (in_map n) list

abbrev pub in_lists : ℕ → List (List (Mapping ℕ)) → ℕ
in_lists n lists = sum_by (in_list n) lists

abbrev pub list_copies : List (Mapping ℕ) → ℕ
list_copies list = sum_by copies_in list

-- files got the maps of their lists, and each of their copies has a holder more
pub record HaveJoined (lists : List (List (Mapping ℕ))) (files grown : List NumberedFile) (store now : Store) (more later : ℕ) : Type 0 where
  pub files_are : grown ≡ joined files lists
  pub sharing : IsSharing (λ n. in_lists n lists) store now
  pub counted : later ≡ more_in now.pages
  pub more_are : later ≡ more + sum_by list_copies lists

-- how many maps of a task a file has, and how many of its one number
abbrev pub maps_by : ℕ → NumberedFile → ℕ
maps_by task f = count_by (is_of task) f.maps

abbrev pub maps_named : (task number : ℕ) → NumberedFile → ℕ
maps_named task number f = count_by (is_map task number) f.maps
