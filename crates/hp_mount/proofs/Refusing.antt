-- What an access is refused before it begins.
use Rattle.std.proofs.Common.{◌≡◌, ℕ, Some, false, refl}
use Rattle.hp_laws.proofs.Variants.{OutOfRange}
use Rattle.hp_model.proofs.Words.{is_live, place_at}
use Rattle.hp_model.specs.files.Spot.{Spot}
use Rattle.hp_mount.specs.declared.mount.reach.Asked.{Asked}
use Rattle.hp_mount.specs.declared.mount.reach.Asked.TheVariants.{Page, Bytes}
use Rattle.hp_mount.specs.Found.{tests_of}
use Rattle.hp_mount_laws.specs.Reach.{first_of}

-- an index that is no more the map's
pub not_live : (size i : ℕ) (asked : Asked) (s : Spot) → is_live (place_at s.map i) ≡ false → Some OutOfRange ≡ first_of (tests_of size i asked s)
not_live size i Page s gone = rw gone refl
not_live size i (Bytes offset count) s gone = rw gone refl
