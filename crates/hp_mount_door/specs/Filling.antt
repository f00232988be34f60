-- Many pages at once through a door.
use Rattle.std.specs.Prelude.{◌≡◌, ℕ, List, map}
use Rattle.hp_model.specs.declared.section.Section.{Section}
use Rattle.hp_model.specs.declared.section.Section.TheVariants.{FillPages}
use Rattle.hp_model.specs.files.Fill.{rising_nodes}
use Rattle.hp_model.specs.files.Page.{Page}
use Rattle.hp_mount_door.specs.Door.{by_node}
use Rattle.hp_subpool.specs.Subpool.{Subpool, rise}
pub use Rattle.hp_subpool.specs.Subpool.{with_pages, with_reserves}

-- what a share asks for: k reservations more, and so many pages at once
abbrev pub fill_for : (k count : ℕ) → Subpool → Section
fill_for k count s = FillPages (rise s k) count

-- the share with k reservations more, so many of which have pages
abbrev pub with_filled : (k count : ℕ) → Subpool → Subpool
with_filled k count s = with_pages count (with_reserves k s)

abbrev pub nodes_in : List Page → List ℕ
nodes_in pages = map (λ (page : Page). page.node) pages

-- they are so many pages, whose nodes rise
abbrev pub AreRising : (count : ℕ) → List Page → Type 0
AreRising count pages = nodes_in pages ≡ rising_nodes count (by_node pages)
