-- What a machine of these tests is made from.
use Rattle.std.specs.Prelude.{◌≡◌, ℕ, ◌<◌, ◌≤◌, Bool, List, All, length}
use Rattle.hp_history.specs.declared.law.Places as law
use Rattle.hp_history.specs.declared.law.Shape.{Shape}
use Rattle.hp_model.specs.declared.naming.Naming as naming
use Rattle.hp_model.specs.Profile.{most_frames, most_page_bytes, most_places, most_slots}
use Rattle.hp_nodes.specs.Ledgers.{AreFrames, AreFull, blanks_of}
use Rattle.hp_pool.specs.declared.blanks.Blanks.{Blanks}
use Rattle.hp_pool.specs.Ledgers.{AreLedgers, IsWhole}

-- there can be a machine with so many frames of each node, bytes of a page, slots, and places of each trail
pub record IsFit (frames : List ℕ) (page_bytes slots places : ℕ) : Type 0 where
  pub some : 0 < length frames
  pub few : length frames ≤ 4
  pub each : All (λ f. 0 < f) frames
  pub small : All (λ f. f ≤ most_frames) frames
  pub bytes : 0 < page_bytes
  pub few_bytes : page_bytes ≤ most_page_bytes
  pub slot : 0 < slots
  pub few_slots : slots ≤ most_slots
  pub few_places : places ≤ most_places

-- the blanks and the shape of the history that one is made from, which looks homes up or not
pub record AreMade (frames : List ℕ) (page_bytes slots : ℕ) (blanks : Blanks) (shape : Shape) (looks : Bool) : Type 0 where
  pub whole : IsWhole blanks.permits
  pub frames_are : AreFrames (blanks_of blanks.nodes) frames
  pub full : AreFull page_bytes blanks.nodes
  pub shape_is : shape ≡ record { slots = slots; nodes = length frames; looks = looks }

-- there can be a machine that names these
pub record AreNamed {N : Type 0} (names : naming.Ghosts N) (order : law.Ghosts N) (frames : List ℕ) (page_bytes slots places : ℕ) (blanks : Blanks) (shape : Shape) (looks : Bool) : Type 0 where
  pub fit : IsFit frames page_bytes slots places
  pub ledgers : AreLedgers names blanks
  pub frames_are : AreFrames names.frames frames
  pub bytes_are : names.page_bytes ≡ page_bytes
  pub named : shape ≡ order.shape
  pub shape_is : order.shape ≡ record { slots = slots; nodes = length frames; looks = looks }
