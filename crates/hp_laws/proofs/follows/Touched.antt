-- An access that is answered leaves its page there: by the footprint and the tests.
use Rattle.std.proofs.lemmas.Grind.{common_steps}
use Rattle.std.proofs.Common.{◌≡◌, subst, ℕ, ◌<◌, Bool, true, false, None, Some, is_some, Ok, List, length, refl, sym, ap, ◌∙◌}
use Rattle.std.proofs.Common.{arith, get_or, slice_set, inl, inr}
use Rattle.std.proofs.lemmas.List.{get_or-set_same}
use Rattle.hp_laws.proofs.Variants.{Answer, Cell, Hole, Intent, Live, Present, Read, Write}
use Rattle.hp_model.specs.declared.step.Step.{Step}
use Rattle.hp_model.specs.declared.step.Step.TheVariants as step
use Rattle.hp_model.proofs.Words.{Copy, File, Map, MeetsTests, Mount, Page, Slot, Spot, State, byte_tests, cell_at, copy_of, fault_tests, has_page, home_of}
use Rattle.hp_model.proofs.Words.{is_live, is_map, is_shared, map_named, new_file, no_map, place_at, slot_at, spot, spot_on, with_cell, with_file, with_map}
use Rattle.hp_model.proofs.Words.{with_place}
use Rattle.hp_laws.proofs.follows.Accessed.{back, back_key, own_back, own_key}
use Rattle.hp_laws.proofs.follows.Ways.{Ways, access_all}
use Rattle.hp_laws.specs.Follows.{Touches, has_its_page}
use Rattle.hp_model.specs.machine.Footprint.{Changes, IsSharedAccess, TakesBack, There, is_spent, losing, over, with_bytes, with_copy_there, with_own}
use Rattle.hp_laws.proofs.counts.MountMoves.{IsSpot, spot_is}
use Rattle.hp_laws.proofs.follows.Gone.{in_range}
use Rattle.hp_laws.proofs.footprint.Ranges.{put_all}
use Rattle.hp_laws.proofs.names.Accessed.{file_put}
use Rattle.hp_laws.proofs.names.Keys.{Where, file_key, keys}
use Rattle.hp_laws.proofs.names.Meanings.{placed_same}

-- ---- places

copied : (m : Map) (i : ℕ) (b : Bool) (c : Copy) → is_live (place_at m i) ≡ true → is_some (copy_of (place_at (with_place m i (Live b (Some c))) i)) ≡ true
copied m i b c live = grind (arith, common_steps)

paged : (f : File) (i : ℕ) (page : Page) → i < length f.cells → has_page (cell_at (with_cell f i (Present page)) i) ≡ true
paged f i page low = ap (λ (c : Cell Page). has_page c) (get_or-set_same f.cells i (Present page) Hole low)

-- ---- an access

module _ (s t : State) (k task number i : ℕ) (m : Mount) (p : Spot) (is : slot_at s k ≡ Some m) (found : spot m (is_map task number) ≡ Some p) where
  at : IsSpot m p
  at = spot_is m (is_map task number) p found

  -- the map as it was, and in another form of its file
  as_was : (intent : Intent) → has_its_page intent i p.file p.map ≡ true → t ≡ s → There (map_named t k task number) (λ q. has_its_page intent i q.file q.map ≡ true)
  as_was intent has e =
      subst (λ (u : State). There (map_named u k task number) (λ q. has_its_page intent i q.file q.map ≡ true)) (sym e)
      (subst (λ x. There (spot_on x task number) (λ q. has_its_page intent i q.file q.map ≡ true)) (sym is)
      (subst (λ o. There o (λ q. has_its_page intent i q.file q.map ≡ true)) (sym found) has))

  put_there : (intent : Intent) (f : File) (y : Map) → file_key f ≡ file_key p.file → get_or f.maps p.map_no no_map ≡ y → has_its_page intent i f y ≡ true
      → t.slots ≡ slice_set s.slots k (Some (with_file m p.file_no f)) → There (map_named t k task number) (λ q. has_its_page intent i q.file q.map ≡ true)
  put_there intent f y key here has e =
      let n : Mount = with_file m p.file_no f in
      let same : keys n ≡ keys m = file_put m p.file_no p.file f at.file.is key in
      let next = (placed_same m n same).numbers task number p found in
      let q : Spot = next.0 in
      let on : IsSpot n q = spot_is n (is_map task number) q next.1 in
      let file_no : q.file_no ≡ p.file_no = ap (λ (x : Where). x.0) next.2 in
      let map_no : q.map_no ≡ p.map_no = ap (λ (x : Where). x.1) next.2 in
      let file : f ≡ q.file =
      sym (get_or-set_same m.files p.file_no f (new_file None) at.file.within) ∙ ap (λ j. get_or n.files j (new_file None)) (sym file_no) ∙ on.file.is (new_file None) in
      let map : y ≡ q.map = sym here ∙ ap (λ j. get_or f.maps j no_map) (sym map_no) ∙ ap (λ (g : File). get_or g.maps q.map_no no_map) file ∙ on.map.is no_map in
      let good : has_its_page intent i q.file q.map ≡ true = subst (λ (g : File). has_its_page intent i g q.map ≡ true) file (subst (λ z. has_its_page intent i f z ≡ true) map has) in
      let slot : slot_at t k ≡ Some n = ap (λ (xs : List Slot). get_or xs k None) e ∙ get_or-set_same s.slots k (Some n) None (in_range s k m is) in
      subst (λ x. There (spot_on x task number) (λ q. has_its_page intent i q.file q.map ≡ true)) (sym slot)
      (subst (λ o. There o (λ q. has_its_page intent i q.file q.map ≡ true)) (sym next.1) good)

  module _ (live : is_live (place_at p.map i) ≡ true) (low : i < length p.file.cells) where
    abbrev pub Has : Intent → Type 0
    Has intent = There (map_named t k task number) (λ q. has_its_page intent i q.file q.map ≡ true)

    page_is : (intent : Intent) (f : File) (y : Map) → is_shared y.sharing ≡ true → has_page (cell_at f i) ≡ true → has_its_page intent i f y ≡ true
    page_is intent f y shared has = grind arith

    copy_is : (intent : Intent) (f : File) (y : Map) → is_shared y.sharing ≡ false → is_some (copy_of (place_at y i)) ≡ true → has_its_page intent i f y ≡ true
    copy_is intent f y apart has = grind arith

    shared_has : (intent : Intent) (w : List ℕ → List ℕ) → is_shared p.map.sharing ≡ true → IsSharedAccess s k m p i w t → Has intent
    shared_has intent w shared it =
        let f : File = with_cell p.file i (Present it.0) in
        put_there intent f p.map refl (at.map.is no_map) (page_is intent f p.map shared (paged p.file i it.0 low)) (ap (λ u. u.slots) it.2.0)

    -- the map has a copy of its own there
    own_has : (intent : Intent) (c : Copy) → is_shared p.map.sharing ≡ false → t.slots ≡ slice_set s.slots k (Some (with_own m p i c)) → Has intent
    own_has intent c apart e =
        let y : Map = with_copy_there p i c in
        let f : File = with_map p.file p.map_no y in
        put_there intent f y (own_key m p at i c) (get_or-set_same p.file.maps p.map_no y no_map at.map.within) (copy_is intent f y apart (copied p.map i (is_spent p.map (place_at p.map i)) c live)) e

    back_has : (intent : Intent) (w : List ℕ → List ℕ) (c : Copy) → is_shared p.map.sharing ≡ false → TakesBack s k m p i w c t → Has intent
    back_has intent w c apart it =
        put_there intent (back m p at i w c) (with_copy_there p i (with_bytes w c)) (back_key m p at i w c) (own_back m p at i w c)
        (copy_is intent (back m p at i w c) (with_copy_there p i (with_bytes w c)) apart (copied p.map i (is_spent p.map (place_at p.map i)) (with_bytes w c) live))
        (ap (λ u. u.slots) it.2
        ∙ ap (λ ms. slice_set s.slots k (Some (with_file m p.file_no (record p.file { maps = ms })))) (sym (put_all (losing c.stamp i) (with_copy_there p i (with_bytes w c)) p.map_no p.file.maps)))

    pub spot_has : (intent : Intent) (w : List ℕ → List ℕ) → Ways s k m p i intent w t → Has intent
    spot_has intent w (inl same) = subst Has (sym same.1) (as_was Read same.3 same.0)
    spot_has intent w (inr (inl it)) = shared_has intent w it.0 it.1
    spot_has intent w (inr (inr (inl own))) = own_has intent own.1 own.0 (ap (λ u. u.slots) own.3.0)
    spot_has intent w (inr (inr (inr back))) = back_has intent w back.2 back.1 back.4

-- ---- a step

pub touched : (s : State) (x : Step) (a : Answer) (t : State) → Changes s x a t → MeetsTests s x (Ok a) → Touches x (Ok a) t
touched s (step.Fault task k number i intent) a t is met =
    access_all s t k task number i intent (λ old. old) _ (λ m p at found live low way. spot_has s t k task number i m p at found live low intent (λ old. old) way) a
    (λ m p. fault_tests i p) (λ m p e. grind arith) (home_of s.table task) (slot_at s k) refl is met
touched s (step.Load task k number i offset count) a t is met =
    access_all s t k task number i Read (λ old. old) _ (λ m p at found live low way. spot_has s t k task number i m p at found live low Read (λ old. old) way) a
    (λ m p. byte_tests s.page_size i offset count p) (λ m p e. grind arith) (home_of s.table task) (slot_at s k) refl is met
touched s (step.Store task k number i offset bytes) a t is met =
    access_all s t k task number i Write (over offset bytes) _ (λ m p at found live low way. spot_has s t k task number i m p at found live low Write (over offset bytes) way) a
    (λ m p. byte_tests s.page_size i offset (length bytes) p) (λ m p e. grind arith) (home_of s.table task) (slot_at s k) refl is met
touched s x a t is met = grind arith
