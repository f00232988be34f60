use Rattle.std.proofs.lemmas.Grind.{common_steps}
-- What a lent file and a lent map show is so of what they stand for.
use Rattle.std.proofs.Common.{◌≡◌, ◌≤◌, ℕ, ◌+◌, ◌-◌, ◌&&◌, [], ◌∷◌, None, Some, false, true, length, drop, take, sym, ap, refl, ◌∙◌, arith, count_by}
use Rattle.std.proofs.lemmas.List.{length-map}
use Rattle.hp_laws.proofs.Variants.{Gone, Live, Place, Present}
use Rattle.hp_model.proofs.Words.{File, Map, Mapping, Page, at_least, cell_at, has_page, is_entered, is_hole, is_live, is_shared, is_unconsumed, lacking, lacks_page, part, place_at, unentered}
use Rattle.hp_store.specs.Store.{Store}
use Rattle.hp_mapping.specs.Mapped.{has_reserve}
use Rattle.hp_lookup.proofs.Words.{NumberedFile, cell_shown, map_shown, place_shown}
use Rattle.hp_lookup.proofs.Holes.{asked_shown}
use Rattle.hp_lookup.proofs.Views.{entries_shown, pages_shown, shown_place}
use Rattle.hp_file.proofs.Filling.{lacking_shown}
use Rattle.hp_mount_files.specs.Lent.{IsLent, IsMapLent, IsReadable}

module _ {f : File} {lent : NumberedFile} (is : IsLent f lent) where
  pub len_lent : length lent.cells ≡ length f.cells
  len_lent = sym (ap (λ (x : File). length x.cells) is.is ∙ length-map lent.cells (cell_shown is.store))

  pub pages_lent : count_by has_page lent.cells ≡ count_by has_page f.cells
  pages_lent = sym (ap (λ (x : File). count_by has_page x.cells) is.is ∙ pages_shown is.store lent.cells)

  pub entries_lent : count_by is_entered lent.cells ≡ count_by is_entered f.cells
  entries_lent = sym (ap (λ (x : File). count_by is_entered x.cells) is.is ∙ entries_shown is.store lent.cells)

  pub maps_lent : length lent.maps ≡ length f.maps
  maps_lent = sym (ap (λ (x : File). length x.maps) is.is ∙ length-map lent.maps (map_shown is.store))

  module _ (a b : ℕ) where
    pub lacking_lent : count_by lacks_page (part a b (at_least b lent.cells)) ≡ lacking a b f
    lacking_lent = lacking_shown is.store (lent ∷ []) 0 a b (omega arith) ∙ sym (ap (lacking a b) is.is)

    pub unentered_lent : a ≤ b → count_by is_hole (take (b - a) (drop a (at_least b lent.cells))) ≡ unentered a b f
    unentered_lent order =
        let end : b ≡ a + (b - a) = omega (arith, order) in
        asked_shown is.store (lent ∷ []) 0 a (b - a) b (omega arith) end ∙ sym (ap (unentered a b) is.is)

pub live_shown : (s : Store) (p : Place ℕ) → is_live (place_shown s p) ≡ is_live p
live_shown s Gone = refl
live_shown s (Live c None) = refl
live_shown s (Live c (Some n)) = refl

unconsumed_shown : (s : Store) (p : Place ℕ) → is_unconsumed (place_shown s p) ≡ is_unconsumed p
unconsumed_shown s Gone = refl
unconsumed_shown s (Live true None) = refl
unconsumed_shown s (Live false None) = refl
unconsumed_shown s (Live true (Some n)) = refl
unconsumed_shown s (Live false (Some n)) = refl

module _ {m : Map} {lent : Mapping ℕ} (is : IsMapLent m lent) where
  pub shared_lent : is_shared lent.sharing ≡ is_shared m.sharing
  shared_lent = sym (ap (λ (x : Map). is_shared x.sharing) is.is)

  pub owner_lent : lent.owner ≡ m.owner
  owner_lent = sym (ap (λ (x : Map). x.owner) is.is)

  pub unmapped_lent : lent.unmapped ≡ m.unmapped
  unmapped_lent = sym (ap (λ (x : Map). x.unmapped) is.is)

  module _ (i : ℕ) where
    place_lent : place_at m i ≡ place_shown is.store (place_at lent i)
    place_lent = ap (λ (x : Map). place_at x i) is.is ∙ shown_place is.store lent i

    pub live_lent : is_live (place_at lent i) ≡ is_live (place_at m i)
    live_lent = sym (ap is_live place_lent ∙ live_shown is.store (place_at lent i))

    pub reserve_lent : has_reserve lent i ≡ (m.owner && is_unconsumed (place_at m i))
    reserve_lent = grind (arith, common_steps, owner_lent, place_lent, unconsumed_shown)

-- ---- a reader who need not ask for a page

module _ {m : Map} {lent : Mapping ℕ} (is : IsMapLent m lent) (i : ℕ) (f : File) where
  pub page_readable : lent.unmapped ≡ false → (page : Page) → cell_at f i ≡ Present page → IsReadable i f m
  page_readable kept page there = record { shared = λ e. ap has_page there; bare = λ none. (sym (unmapped_lent is) ∙ kept, ap has_page there) }
