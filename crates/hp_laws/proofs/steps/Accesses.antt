-- Each access balances.
use Rattle.std.proofs.Common.{arith, ◌≡◌, ℕ, ◌<◌, Bool, true, false, ◌&&◌, not, None, Some, List, length, map, refl, ap, ◌∙◌, if◌then◌else◌}
use Rattle.std.proofs.lemmas.Bool.{cond_both, and_parts, not-true}
use Rattle.hp_laws.proofs.Variants.{Cell, Done, Entered, GrantPage, Hole, Intent, Live, Place, Present}
use Rattle.hp_model.proofs.Words.{Answered, Ask, Choice, Copy, Finish, Mount, Outcome, Page, Plan, Spot, access, cell_at, copied, copy_write, file_written, grant_page, is_among, is_full, is_held_once}
use Rattle.hp_model.proofs.Words.{is_shared, new_copy, owner_write, place_at, private_access, reserved_page, rise, robbed, shared_access, stamps_of, taken_back, uncopied_access, value, with_cell}
use Rattle.hp_model.proofs.Words.{with_file, with_map, with_place, written, zeros}
use Rattle.hp_laws.specs.Balance.{IsBalanced, Stays, left_by}
use Rattle.hp_laws.proofs.counts.CopiesHeld.{IsAgreed}
use Rattle.hp_laws.proofs.steps.CopyWrites.{copy_parts, takes_back, writes}
use Rattle.hp_laws.proofs.counts.FileMoves.{fill_entry, fill_hole, copy_grows, copy_consumes}
use Rattle.hp_laws.proofs.counts.MountMoves.{MountGrows, IsSpot, file_grows, edit_grows}
use Rattle.hp_laws.proofs.steps.Plans.{stays, balanced_grant_page, balanced_reserved_page, page_granted, grown_same}

module _ (c : Choice) (size : ℕ) (m : Mount) (s : Spot) (at : IsSpot m s) (agreed : IsAgreed s.file) (fresh : is_among c.stamp (stamps_of s.file) ≡ false) (home i : ℕ) where
  shared_balanced : (cell : Cell Page) → i < length s.file.cells → cell_at s.file i ≡ cell → IsBalanced (Some m) (shared_access c size m s home i cell)
  shared_balanced (Present page) l is = stays (Some m)
  shared_balanced Entered l is =
      balanced_reserved_page m home (λ node. with_file m s.file_no (with_cell s.file i (Present (record { node = node; bytes = zeros size }))))
      (λ node. file_grows m s.file_no s.file _ node 1 0 at.file (fill_entry s.file i (record { node = node; bytes = zeros size }) l is))
  shared_balanced Hole l is =
      balanced_grant_page c m home (λ node. with_file m s.file_no (with_cell s.file i (Present (record { node = node; bytes = zeros size }))))
      (λ node. file_grows m s.file_no s.file _ node 1 1 at.file (fill_hole s.file i (record { node = node; bytes = zeros size }) l is))

  abbrev copy_for : ℕ → List ℕ → Copy
  copy_for node bytes = record { stamp = c.stamp; page = record { node = node; bytes = bytes } }

  abbrev with_copy : Bool → ℕ → List ℕ → Mount
  with_copy consumed node bytes = with_file m s.file_no (with_map s.file s.map_no (with_place s.map i (Live consumed (Some (copy_for node bytes)))))

  abbrev shows : List ℕ
  shows = value size s.file s.map i

  new_balanced : (consumed : Bool) → place_at s.map i ≡ Live consumed None → IsBalanced (Some m) (new_copy c size m s home i consumed)
  new_balanced consumed is =
      cond_both (s.map.owner && not consumed)
      (reserved_page home (λ node. copied m s i true (copy_for node shows))) (grant_page c m home (λ node. copied m s i consumed (copy_for node shows))) (IsBalanced (Some m))
      (λ e. (let parts = and_parts s.map.owner (not consumed) e in
      let open_still : place_at s.map i ≡ Live false None = is ∙ ap (λ b. Live b None) (not-true consumed parts.1) in
      balanced_reserved_page m home (λ node. with_copy true node shows)
      (λ node. file_grows m s.file_no s.file _ node 1 0 at.file (copy_consumes s.file s.map_no s.map i (copy_for node shows) at.map open_still parts.0 fresh))))
      (λ e. balanced_grant_page c m home (λ node. with_copy consumed node shows)
      (λ node. file_grows m s.file_no s.file _ node 1 1 at.file (copy_grows s.file s.map_no s.map i consumed (copy_for node shows) at.map is fresh)))

  uncopied_balanced : (consumed : Bool) (intent : Intent) → place_at s.map i ≡ Live consumed None → IsBalanced (Some m) (uncopied_access c size m s home i consumed intent)
  uncopied_balanced consumed intent is = grind (arith, new_balanced, cond_both, stays)

  -- ---- a write into a copy

  takes_back_stays : (consumed : Bool) (copy : Copy) → place_at s.map i ≡ Live consumed (Some copy) → Stays (Some m) (left_by (Some m) (taken_back m s copy.stamp))
  takes_back_stays consumed copy is =
      grown_same m _ (file_grows m s.file_no s.file (with_map (record s.file { maps = map (robbed copy.stamp) s.file.maps }) s.map_no s.map) 0 0 0 at.file
      (takes_back s.file s.map_no s.map i consumed copy at.map is agreed))

  own_copy : (consumed : Bool) (copy : Copy) → place_at s.map i ≡ Live consumed (Some copy) → is_held_once s.file copy.stamp ≡ false → (node : ℕ) →
      MountGrows m (with_copy consumed node copy.page.bytes) node 1 1
  own_copy consumed copy is more node =
      file_grows m s.file_no s.file _ node 1 1 at.file
      (copy_parts s.file s.map_no s.map i consumed copy (copy_for node copy.page.bytes) at.map is agreed more fresh)

  owner_balanced : (consumed : Bool) (copy : Copy) → place_at s.map i ≡ Live consumed (Some copy) → is_held_once s.file copy.stamp ≡ false
      → IsBalanced (Some m) (owner_write m s home copy.stamp (λ node. copied m s i consumed (copy_for node copy.page.bytes)))
  owner_balanced consumed copy is more =
      cond_both (is_full m 1) (Finish (taken_back m s copy.stamp))
      (Ask (λ nr. GrantPage home (rise m 1)) (λ a. if a.granted then copied m s i consumed (copy_for a.node copy.page.bytes) else taken_back m s copy.stamp)) (IsBalanced (Some m))
      (λ e. takes_back_stays consumed copy is)
      (λ e. (
        (λ a. page_granted m (λ node. with_copy consumed node copy.page.bytes) (taken_back m s copy.stamp) a.granted a.node e
            (own_copy consumed copy is more a.node) (takes_back_stays consumed copy is)),
        (λ p. refl),
      ))

  copy_balanced : (consumed : Bool) (copy : Copy) → place_at s.map i ≡ Live consumed (Some copy) → IsBalanced (Some m) (copy_write c m s home i consumed copy)
  copy_balanced consumed copy is =
      let fresh_copy : ℕ → Outcome = λ node. copied m s i consumed (copy_for node copy.page.bytes) in
      let owns : Plan = owner_write m s home copy.stamp fresh_copy in
      let asks : Plan = grant_page c m home fresh_copy in
      cond_both (is_held_once s.file copy.stamp) (Finish (Answered Done (Some m))) (if s.map.owner then owns else asks) (IsBalanced (Some m))
      (λ e. stays (Some m))
      (λ more. cond_both s.map.owner owns asks (IsBalanced (Some m))
      (λ e. owner_balanced consumed copy is more)
      (λ e. balanced_grant_page c m home (λ node. with_copy consumed node copy.page.bytes) (own_copy consumed copy is more)))

  private_balanced : (p : Place Copy) (intent : Intent) → place_at s.map i ≡ p → IsBalanced (Some m) (private_access c size m s home i p intent)
  private_balanced p intent is = grind (arith, stays, copy_balanced, cond_both, uncopied_balanced)

  pub access_balanced : (intent : Intent) → i < length s.file.cells → IsBalanced (Some m) (access c size m s home i intent)
  access_balanced intent l = grind (arith, cond_both, shared_balanced, private_balanced)

pub written_same : (m : Mount) (s : Spot) (i offset : ℕ) (bytes : List ℕ) → MountGrows m (written m s i offset bytes) 0 0 0
written_same m s i offset bytes = edit_grows m s.file_no (file_written s i offset bytes) (writes (is_shared s.map.sharing) s.map_no i offset bytes)
