-- What a door answers, and what it does to a share.
use Rattle.std.specs.Prelude.{◌≡◌, ℕ, ◌+◌, ◌-◌, ◌<◌, ◌≤◌, ◌==◌, List, length, map}
use Rattle.std.specs.List.{count_by, range_with_len, sum}
use Rattle.hp_model.specs.declared.refusal.Refusal.{Refusal}
use Rattle.hp_model.specs.declared.refusal.Refusal.TheVariants.{NoPages, TraceFull}
use Rattle.hp_model.specs.files.Page.{Page}
use Rattle.hp_model.specs.declared.section.PoolAnswer.{PoolAnswer}
use Rattle.hp_model.specs.declared.section.Section.{Section}
use Rattle.hp_model.specs.declared.section.Section.TheVariants.{GiveBack, Grant, GrantPage}
use Rattle.hp_model.specs.pool.Pool.{granted_at, no_pages}
use Rattle.hp_model.specs.pool.PoolCounts.{Pool, IsSettled}
use Rattle.hp_subpool.specs.Subpool.{Subpool, rise}
pub use Rattle.hp_subpool.specs.Subpool.{with_page, with_reserves}

-- a door refuses as NoPages, by a section that is refused, or as TraceFull, and then there was none
abbrev pub IsDoorRefusal : Refusal → (denied full : Type 0) → Type 0
IsDoorRefusal NoPages denied full = denied
IsDoorRefusal TraceFull denied full = full
IsDoorRefusal other denied full = ⊥

-- what a share asks for: k reservations more, or a page
abbrev pub grant_for : ℕ → ℕ → Subpool → Section
grant_for home k s = Grant home (rise s k)

abbrev pub grant_one : ℕ → Subpool → Section
grant_one home s = GrantPage home (rise s 1)

-- refused by this section, or with nothing changed as TraceFull
abbrev pub IsRefusedAt : {X : Type 0} (took : X → Section → PoolAnswer → X → Type 0) (is_full : X → Type 0) → Section → X → X → Refusal → Type 0
IsRefusedAt took is_full section door left e = IsDoorRefusal e (took door section no_pages left) ((left ≡ door) × is_full left)

-- a page more, by a grant
abbrev pub with_granted : Subpool → Subpool
with_granted s = record s { pages = s.pages + 1 }

-- so many pages and reservations less
abbrev pub with_less : (pages reserves : ℕ) → Subpool → Subpool
with_less pages reserves s = record s { pages = s.pages - pages; held = s.held - reserves }

-- how many of the pages are of node 0, 1, 2 and 3
abbrev pub by_node : List Page → List ℕ
by_node pages = map (λ n. count_by (λ (page : Page). page.node == n) pages) (range_with_len 0 4)

-- a section that puts the pages back, by node, and uncommits so many; none where that is nothing
pub record GivesBack {X : Type 0} (took : X → Section → PoolAnswer → X → Type 0) (pages : List Page) (commitments : ℕ) (door left : X) : Type 0 where
  pub some : 0 < sum (by_node pages) + commitments → took door (GiveBack (by_node pages) commitments) (granted_at 0) left
  pub none : sum (by_node pages) + commitments ≡ 0 → left ≡ door

-- a pool that nobody works on
pub record IsReady (p : Pool) : Type 0 where
  pub settled : IsSettled p
  pub nodes : length p.nodes.rows ≤ 4
