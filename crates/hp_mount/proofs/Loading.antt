use Rattle.std.proofs.lemmas.Grind.{common_steps}
-- What a load answers, from a page that it found or had made.
use Rattle.std.proofs.Common.{◌≡◌, ℕ, Bool, true, false, List, length, take, drop, None, Some, Ok, refl, sym, ap, arith, Result}
use denote.Ref.{Bor}
use Rattle.hp_model.proofs.Words.{Choice, Copy, Mount, Page, Spot, access, bytes_reply, cell_at, copy_of, file_in, has_page, is_live, is_shared, map_in, place_at, shared_access, value}
use Rattle.hp_laws.proofs.Variants.{Cell, Entered, Gone, Hole, Intent, Live, Place, PoolAnswer, Present, Read, Refusal, Section}
use Rattle.hp_model.specs.declared.event.SlotEvent.TheVariants.{Load}
use Rattle.hp_lookup.specs.declared.map_place.MapPlace.{MapPlace}
use Rattle.hp_mount_files.specs.Lent.{IsReadable}
use Rattle.hp_mount_laws.specs.Done.{IsAccessed, IsDone, IsReached, done}
use Rattle.hp_mount_laws.specs.Reach.{IsFileTouched, spot_at}
use Rattle.hp_mount_laws.proofs.Private.{copy_read, page_read}
use Rattle.hp_mount_laws.proofs.Shared.{shared_present}
use Rattle.hp_mount_laws.proofs.Shown.{bytes_reply_is}
use Rattle.hp_mount_laws.proofs.Trying.{tried_as}
use Rattle.hp_mount_laws.proofs.Ways.{then_goes}
use Rattle.hp_mount.specs.Found.{IsPlaced}
use Rattle.hp_mount.specs.declared.mount.reach.Asked.TheVariants.{Bytes}
use Rattle.hp_mount.specs.declared.mount.reach.MapAccess.{MapAccess}
use Rattle.hp_mount.proofs.Commands.{again_is, follows, loads, shared_is, went}

present : (c : Cell Page) → has_page c ≡ true → (p : Page) × (c ≡ Present p)
present Hole e = cc
present Entered e = cc
present (Present p) e = (p, refl)

module _ {X : Type 0} (took : X → Section → PoolAnswer → X → Type 0) (full : X → Type 0) (size home : ℕ) (m : Mount) (door : X) (at : MapPlace) (i : ℕ) where
  abbrev s : Spot
  s = spot_at m at.file at.map

  -- a shared map at an index of its file that was reached
  pub reached_shared : (intent : Intent) (result : Result (Unit {0}) Refusal) (n : Mount) (left : X) → is_shared s.map.sharing ≡ true
      → IsReached took full size home at.file i m door result n left
      → IsAccessed took full size home at i intent m door result n left
  reached_shared intent result n left shared reached = tried_as took full (λ (x : Choice). shared_access x size m s home i (cell_at s.file i)) (λ (x : Choice). access x size m s home i intent)
      (λ x. sym (shared_is x size m s home i intent shared)) (Some m) door (done result) (Some n) left (reached s refl refl)

  -- a shared map at a page that is there
  pub present_shared : (intent : Intent) (page : Page) → is_shared s.map.sharing ≡ true → cell_at s.file i ≡ Present page → IsAccessed took full size home at i intent m door (Ok tt) m door
  present_shared intent page shared there =
      reached_shared intent (Ok tt) m door shared (λ t file is. shared_present took full size m home at.file i t file is door page there)

  -- a reader who need not ask for a page
  pub found_read : is_live (place_at s.map i) ≡ true → IsReadable i s.file s.map → IsAccessed took full size home at i Read m door (Ok tt) m door
  found_read live r = either (is_shared s.map.sharing) refl
    where
      here : (p : Place Copy) → place_at s.map i ≡ p → is_live p ≡ true → is_shared s.map.sharing ≡ false → IsAccessed took full size home at i Read m door (Ok tt) m door
      here Gone e live private = cc
      here (Live c None) e live private = (let bare = r.bare (ap copy_of e) in page_read took full size m home at.file at.map i Read door private c e bare.0 bare.1)
      here (Live c (Some copy)) e live private = copy_read took full size m home at.file at.map i Read door private c copy e refl

      either : (b : Bool) → is_shared s.map.sharing ≡ b → IsAccessed took full size home at i Read m door (Ok tt) m door
      either true shared =
          let there = present (cell_at s.file i) (r.shared shared) in
          present_shared Read there.0 shared there.1
      either false private = here (place_at s.map i) refl live private

module _ {X : Type 0} (took : X → Section → PoolAnswer → X → Type 0) (full : X → Type 0) (size home : ℕ) (m : Mount) (door : X) (a : MapAccess) (offset count : ℕ) (at : MapPlace)
    (placed : IsPlaced m a (Bytes offset count) size at) where
  -- a load that got its page answers what the map shows then
  pub loaded : (result : Result (Unit {0}) Refusal) (n : Mount) (left : X) (bytes : Bor (List ℕ)) → result ≡ Ok tt → IsFileTouched m n at.file
      → IsAccessed took full size home at a.index Read m door result n left → length bytes.now ≡ count
      → bytes.now ≡ take count (drop offset (value size (file_in n at.file) (map_in (file_in n at.file) at.map) a.index))
      → (k : ℕ) → IsDone took full size k (Some m) door (Load a.task home a.map a.index offset count) (bytes_reply (Ok bytes)) (Some n) left
  loaded result n left bytes ok touched reached all shown k = grind (arith, common_steps, loads, again_is, bytes_reply_is, went, follows, then_goes)

  -- one that found it leaves all as it was
  pub loaded_found : (bytes : Bor (List ℕ)) → IsReadable a.index (file_in m at.file) (map_in (file_in m at.file) at.map) → length bytes.now ≡ count
      → bytes.now ≡ take count (drop offset (value size (file_in m at.file) (map_in (file_in m at.file) at.map) a.index))
      → (k : ℕ) → IsDone took full size k (Some m) door (Load a.task home a.map a.index offset count) (bytes_reply (Ok bytes)) (Some m) door
  loaded_found bytes readable all shown k =
      loaded (Ok tt) m door bytes refl (record { files = refl; maps = refl; cells = refl }) (found_read took full size home m door at a.index placed.live readable) all shown k
