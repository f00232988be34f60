-- A store, by what code did.
use Rattle.std.proofs.Common.{◌≡◌, ℕ, ◌<◌, true, Option, Some, Ok, Err, List, length, refl, sym, ap, ◌∙◌, Result}
use Rattle.hp_laws.proofs.Variants.{Done, PoolAnswer, Refusal, Section, Write}
use Rattle.hp_model.specs.declared.event.SlotEvent.TheVariants.{Store}
use Rattle.hp_model.proofs.Words.{Mount, Spot, and_then, cell_at, cell_written, file_in, is_shared, with_cell, with_file, written}
use Rattle.hp_subpool.specs.Subpool.{Subpool}
use Rattle.hp_lookup.proofs.Words.{Files, file_at, with_cell_at}
use Rattle.hp_lookup.specs.declared.map_place.MapPlace.{MapPlace}
use Rattle.hp_mount_laws.specs.Done.{IsAccessed, IsDone}
use Rattle.hp_mount_laws.specs.Kept.{mount_from}
use Rattle.hp_mount_laws.specs.Reach.{spot_at}
use Rattle.hp_mount_laws.proofs.Ways.{then_goes}
use Rattle.hp_mount.specs.Found.{IsPlaced}
use Rattle.hp_mount.specs.declared.mount.reach.Asked.TheVariants.{Bytes}
use Rattle.hp_mount.specs.declared.mount.reach.MapAccess.{MapAccess}
use Rattle.hp_mount.proofs.Commands.{denied, follows, stores, went, written_is}

-- a file's page that is written, of a mount by its fields
pub wrote_is : (share : Subpool) (inodes : Option ℕ) (v w : Files) (m : Mount) (s : Spot) (i offset : ℕ) (bytes : List ℕ)
    → is_shared s.map.sharing ≡ true → s.file_no < length m.files → i < length (file_in m s.file_no).cells → mount_from share inodes v.files ≡ m
    → w ≡ with_cell_at s.file_no i (cell_written offset bytes (cell_at (file_at v.files s.file_no) i)) v → mount_from share inodes w.files ≡ written m s i offset bytes
wrote_is share inodes v w m s i offset bytes shared file below seen wrote =
    ap (λ (x : Files). mount_from share inodes x.files) wrote
    ∙ ap (λ (x : Mount). with_file x s.file_no (with_cell (file_in x s.file_no) i (cell_written offset bytes (cell_at (file_in x s.file_no) i)))) seen
    ∙ sym (written_is m s i offset bytes shared file below)

module _ {X : Type 0} (took : X → Section → PoolAnswer → X → Type 0) (full : X → Type 0) (size home : ℕ) (m : Mount) (door : X) (a : MapAccess) (offset : ℕ) (bytes : List ℕ) (at : MapPlace)
    (placed : IsPlaced m a (Bytes offset (length bytes)) size at) where
  -- a store that got its page writes the bytes
  pub stored : (result : Result (Unit {0}) Refusal) (n w : Mount) (left : X) → result ≡ Ok tt → IsAccessed took full size home at a.index Write m door result n left
      → w ≡ written n (spot_at m at.file at.map) a.index offset bytes
      → (k : ℕ) → IsDone took full size k (Some m) door (Store a.task home a.map a.index offset bytes) (Ok Done) (Some w) left
  stored result n w left ok reached wrote k =
      let cont = stores size a.index offset bytes in
      went took full m door size home a Write (Bytes offset (length bytes)) (λ s p. and_then (cont s) p) (follows took full m door cont) at placed result n left Done (Some w) ok
      (λ p h. then_goes took m (cont (spot_at m at.file at.map)) p door left Done n (Ok Done) (Some w) h (refl, ap Some wrote)) reached

  -- one that was refused writes nothing
  pub not_stored : (e : Refusal) (result : Result (Unit {0}) Refusal) (new : Mount) (left : X) → result ≡ Err e → IsAccessed took full size home at a.index Write m door result new left
      → (k : ℕ) → IsDone took full size k (Some m) door (Store a.task home a.map a.index offset bytes) (Err e) (Some new) left
  not_stored e result new left is reached k =
      let cont = stores size a.index offset bytes in
      denied took full m door size home a Write (Bytes offset (length bytes)) (λ s p. and_then (cont s) p) (follows took full m door cont) at placed e result new left is reached
