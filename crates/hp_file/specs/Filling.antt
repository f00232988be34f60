-- Indices that are filled: they get entries, and those without a page pages of zeros, which a door takes at once.
use Rattle.std.specs.Prelude.{◌≡◌, ℕ, ◌-◌, List, length, map, Ok, Err, Result}
use Rattle.hp_model.specs.declared.refusal.Refusal.{Refusal}
use Rattle.hp_model.specs.declared.refusal.Refusal.TheVariants.{OutOfMemory}
use Rattle.hp_model.specs.declared.section.PoolAnswer.{PoolAnswer}
use Rattle.hp_model.specs.declared.section.Section.{Section}
use Rattle.hp_model.specs.files.File.{File, at_least, entered}
use Rattle.hp_model.specs.files.Fill.{cells_filled, range_filled, zero_page}
use Rattle.hp_model.specs.files.Page.{Page}
use Rattle.hp_model.specs.Lists.{edit_range}
use Rattle.hp_model.specs.pool.Pool.{filled_by}
use Rattle.hp_mount_door.specs.Door.{IsRefusedAt}
use Rattle.hp_mount_door.specs.Filling.{fill_for, with_filled}
use Rattle.hp_subpool.specs.Subpool.{Subpool}
use Rattle.hp_lookup.specs.Files.{Files, file_at, with_file_at}

-- the file reaches to b at least, and its indices from a up to b have entries
abbrev pub with_entries : (a b : ℕ) → File → File
with_entries a b f = record f { cells = edit_range entered a b (at_least b f.cells) }

-- pages of zeros at the nodes of these pages, one after another at the lowest index from a on that has none
abbrev pub with_zeros : (size a : ℕ) → List Page → File → File
with_zeros size a pages f = record f { cells = cells_filled a (map (λ (page : Page). zero_page size page.node) pages) f.cells }

-- the indices of a file from a up to b have entries, and there is this room
abbrev pub entered_at : (k a b room : ℕ) → Files → Files
entered_at k a b room v = record (with_file_at k (with_entries a b (file_at v.files k)) v) { room = room }

-- pages are put at the lowest indices from a on that have none
abbrev pub zeros_at : (size k a : ℕ) → List Page → Files → Files
zeros_at size k a pages v = record (with_file_at k (with_zeros size a pages (file_at v.files k)) v) { room = v.room - length pages }

-- the indices of a file from a up to b are filled by pages of these nodes, and there is this room
abbrev pub pages_put : (size k a b : ℕ) → (nodes : List ℕ) → (room : ℕ) → Files → Files
pages_put size k a b nodes room v = record (with_file_at k (range_filled size a b nodes (file_at v.files k)) v) { room = room }

module _ {X : Type 0} (took : X → Section → PoolAnswer → X → Type 0) (full : X → Type 0) (k count : ℕ) (s : Subpool) (d : X) where
  -- so many pages of these numbers by node come by a section
  pub record AreTakenBy (takes : List ℕ) (new : Subpool) (left : X) : Type 0 where
    pub share : new ≡ with_filled k count s
    pub section : took d (fill_for k count s) (filled_by takes) left

  pub record IsRefused (e : Refusal) (new : Subpool) (left : X) : Type 0 where
    pub share : new ≡ s
    pub why : IsRefusedAt took full (fill_for k count s) d left e

  pub record IsUnasked (new : Subpool) (left : X) : Type 0 where
    pub share : new ≡ s
    pub door : left ≡ d

  -- taken; or for want of memory not asked for; or refused by the door
  abbrev pub IsTaking : Result (Unit {0}) Refusal → (takes : List ℕ) → (new : Subpool) (left : X) → Type 0
  IsTaking (Ok done) takes new left = AreTakenBy takes new left
  IsTaking (Err OutOfMemory) takes new left = IsUnasked new left
  IsTaking (Err other) takes new left = IsRefused other new left

-- the reply of what answers a batch
abbrev pub reply_of : {B : Type 0} → Result B Refusal → Result (Unit {0}) Refusal
reply_of (Ok b) = Ok tt
reply_of (Err e) = Err e
