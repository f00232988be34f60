-- What an access that is answered may leave, in four ways.
use Rattle.std.proofs.Common.{◌++◌, ◌<◌, ◌||◌, ◌≡◌, ◌⊎◌, Bool, Err, List, MatchBool, None, Ok, Option, Some, ap, arith, false, inl, inr, is_some, length, not, refl, sym, true, ℕ, ⊎_elim}
use Rattle.std.proofs.lemmas.Bool.{leb-false, or_left, or_right}
use Rattle.hp_laws.proofs.Variants.{Answer, Intent, NoSuchMap, NoSuchSlot, NoSuchTask, Read, Refusal, Write}
use Rattle.hp_model.proofs.Words.{Copy, IsRefusedBy, Mount, Slot, Spot, State, cell_at, copy_of, cut_off_test, first_failed, has_page, if_there, is_beyond, is_held_once, is_live, is_map, is_shared}
use Rattle.hp_model.proofs.Words.{is_unmapped, place_at, shown, slot_at, spot, value}
use Rattle.hp_model.specs.machine.Footprint.{HasNewCopy, HasOwnCopy, IsCopyAccess, IsSharedAccess, LeavesMount, TakesBack, There, with_bytes, with_own}
use Rattle.hp_laws.proofs.footprint.Walks.{same_but}

module _ (s : State) (k : ℕ) (m : Mount) (p : Spot) (i : ℕ) (intent : Intent) (w : List ℕ → List ℕ) (t : State) where
  -- a read through a private map that has a page there leaves all as it was
  abbrev pub Idles : Type 0
  Idles = (t ≡ s) × (intent ≡ Read) × (is_shared p.map.sharing ≡ false) × ((is_some (copy_of (place_at p.map i)) || has_page (cell_at p.file i)) ≡ true)

  -- the map has a copy of its own there, of what it showed
  abbrev pub Owns : Type 0
  Owns = (is_shared p.map.sharing ≡ false) × (c : Copy) × (c.page.bytes ≡ w (value s.page_size p.file p.map i)) × LeavesMount s k (with_own m p i c) t

  -- or has taken it back from others
  abbrev pub Takes : Type 0
  Takes = (intent ≡ Write) × (is_shared p.map.sharing ≡ false) × (c : Copy) × (copy_of (place_at p.map i) ≡ Some c) × TakesBack s k m p i w c t

  abbrev pub Ways : Type 0
  Ways = Idles ⊎ (((is_shared p.map.sharing ≡ true) × IsSharedAccess s k m p i w t) ⊎ (Owns ⊎ Takes))

  -- what the map shows of its copy
  copy_value : (c : Copy) → copy_of (place_at p.map i) ≡ Some c → w c.page.bytes ≡ w (value s.page_size p.file p.map i)
  copy_value c e = ap (λ (o : Option Copy). w (elim o [ None ↦ shown s.page_size (cell_at p.file i) | Some copy ↦ copy.page.bytes ])) (sym e)

  new_way : is_shared p.map.sharing ≡ false → HasNewCopy s k m p i w t → Ways
  new_way apart new = inr (inr (inl (apart, new.0, new.2, new.3)))

  abbrev pub IsAnswered : Type 0
  IsAnswered = MatchBool (is_shared p.map.sharing) (IsSharedAccess s k m p i w t) (IsCopyAccess s k m p i intent w (copy_of (place_at p.map i)) t)

  copy_ways : (x : Intent) → intent ≡ x → is_shared p.map.sharing ≡ false → (o : Option Copy) → copy_of (place_at p.map i) ≡ o → IsCopyAccess s k m p i x w o t → Ways
  copy_ways Read on apart (Some c) e it = inl (it, on, apart, or_left (is_some (copy_of (place_at p.map i))) (has_page (cell_at p.file i)) (ap is_some e))
  copy_ways Read on apart None e it = by_page (has_page (cell_at p.file i)) refl it
    where
      by_page : (b : Bool) → has_page (cell_at p.file i) ≡ b → MatchBool b (t ≡ s) (HasNewCopy s k m p i w t) → Ways
      by_page true has same = inl (same, on, apart, or_right (is_some (copy_of (place_at p.map i))) (has_page (cell_at p.file i)) has)
      by_page false has new = new_way apart new
  copy_ways Write on apart None e new = new_way apart new
  copy_ways Write on apart (Some c) e it = by_once (is_held_once p.file c.stamp) it
    where
      by_once : (b : Bool) → MatchBool b (HasOwnCopy s k m p i w c t) (HasNewCopy s k m p i w t ⊎ TakesBack s k m p i w c t) → Ways
      by_once true own = inr (inr (inl (apart, with_bytes w c, copy_value c e, same_but _ t own)))
      by_once false both = ⊎_elim (λ new. new_way apart new) (λ back. inr (inr (inr (on, apart, c, e, back)))) both

  pub ways : IsAnswered → Ways
  ways it = by_sharing (is_shared p.map.sharing) refl it
    where
      by_sharing : (b : Bool) → is_shared p.map.sharing ≡ b → MatchBool b (IsSharedAccess s k m p i w t) (IsCopyAccess s k m p i intent w (copy_of (place_at p.map i)) t) → Ways
      by_sharing true shared it = inr (inl (shared, it))
      by_sharing false apart it = copy_ways intent refl apart (copy_of (place_at p.map i)) refl it

-- what follows where the access passed its tests
module _ (s t : State) (k task number i : ℕ) (intent : Intent) (w : List ℕ → List ℕ) (Q : Type 0)
    (each : (m : Mount) (p : Spot) → slot_at s k ≡ Some m → spot m (is_map task number) ≡ Some p → is_live (place_at p.map i) ≡ true → i < length p.file.cells → Ways s k m p i intent w t → Q)
    (a : Answer) (tests : Mount → Spot → List (Bool × Refusal))
    (passes : (m : Mount) (p : Spot) → first_failed (tests m p ++ cut_off_test i p) ≡ None → (is_unmapped p i ≡ false) × (is_beyond p i ≡ false)) where
  not_false : (b : Bool) → not b ≡ false → b ≡ true
  not_false b e = grind arith

  by_failed : (m : Mount) (p : Spot) → slot_at s k ≡ Some m → spot m (is_map task number) ≡ Some p → IsAnswered s k m p i intent w t
      → (o : Option Refusal) → first_failed (tests m p ++ cut_off_test i p) ≡ o → IsRefusedBy o (Ok a) → Q
  by_failed m p is found it (Some r) failed met = (let never : Ok a ≡ Err r = met in cc)
  by_failed m p is found it None failed met =
      let ok = passes m p failed in
      each m p is found (not_false (is_live (place_at p.map i)) ok.0) (leb-false (length p.file.cells) i ok.1) (ways s k m p i intent w t it)

  by_spot : (m : Mount) → slot_at s k ≡ Some m → (o : Option Spot) → spot m (is_map task number) ≡ o → There o (λ p. IsAnswered s k m p i intent w t)
      → IsRefusedBy (if_there o NoSuchMap (λ p. first_failed (tests m p ++ cut_off_test i p))) (Ok a) → Q
  by_spot m is None found there met = absurd there
  by_spot m is (Some p) found it met = by_failed m p is found it (first_failed (tests m p ++ cut_off_test i p)) refl met

  pub access_all : (h : Option ℕ) (x : Slot) → slot_at s k ≡ x → There x (λ m. There (spot m (is_map task number)) (λ p. IsAnswered s k m p i intent w t))
      → IsRefusedBy (if_there h NoSuchTask (λ home. if_there x NoSuchSlot (λ m. if_there (spot m (is_map task number)) NoSuchMap (λ p. first_failed (tests m p ++ cut_off_test i p))))) (Ok a) → Q
  access_all h None is there met = absurd there
  access_all None (Some m) is there met = (let never : Ok a ≡ Err NoSuchTask = met in cc)
  access_all (Some home) (Some m) is there met = by_spot m is (spot m (is_map task number)) refl there met
