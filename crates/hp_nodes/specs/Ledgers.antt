-- What the pages of a machine begin with.
use Rattle.std.specs.Prelude.{◌≡◌, ℕ, ◌+◌, ◌<◌, ◌≤◌, ◌==◌, List, [], ◌∷◌, if◌then◌else◌, slice_index}
use Rattle.hp_model.specs.declared.naming.Naming.{Ghosts}
use Rattle.hp_model.specs.Profile.{most_frames}
use Rattle.hp_nodes.specs.declared.blanks.Blanks.{Blanks}
use Rattle.hp_nodes.specs.declared.blanks.NodeBlanks.{NodeBlanks}

-- how many frames the nodes have in all
abbrev pub all_frames : (ℕ → ℕ) → ℕ
all_frames frames = frames 0 + frames 1 + frames 2 + frames 3

-- claims on all frames of each node
abbrev pub AreAll : (ℕ → ℕ) → List ℕ → Type 0
AreAll frames claims = claims ≡ frames 0 ∷ frames 1 ∷ frames 2 ∷ frames 3 ∷ []

-- so many frames of each node, and none of a node that is not there
abbrev pub AreFrames : (ℕ → ℕ) → List ℕ → Type 0
AreFrames frames counts = (k : ℕ) → k < 4 → frames k ≡ slice_index counts k

-- ledgers with a part for each frame of a node, and all those frames, of so many bytes
pub record IsNode (node count page_bytes : ℕ) (b : NodeBlanks) : Type 0 where
  pub count_is : b.count ≡ count
  pub few : count ≤ most_frames
  pub claims_are : b.claims.parts ≡ count
  pub pages_are : b.pages.parts ≡ count
  pub node_is : b.stock.node ≡ node
  pub page_bytes_are : b.stock.page_bytes ≡ page_bytes
  pub all_are : b.stock.all ≡ count
  pub here_are : b.stock.here ≡ count

abbrev pub node_at : Blanks → ℕ → NodeBlanks
node_at b k = if k == 0 then b.zero else if k == 1 then b.one else if k == 2 then b.two else b.three

abbrev pub blanks_of : Blanks → ℕ → ℕ
blanks_of b k = (node_at b k).count

-- all frames of each node, of so many bytes
abbrev pub AreFull : ℕ → Blanks → Type 0
AreFull page_bytes b = IsNode 0 b.zero.count page_bytes b.zero × IsNode 1 b.one.count page_bytes b.one
    × IsNode 2 b.two.count page_bytes b.two × IsNode 3 b.three.count page_bytes b.three

-- what a machine names a node's
pub record IsNamed {N : Type 0} (names : Ghosts N) (k : ℕ) (b : NodeBlanks) : Type 0 where
  pub claims_named : b.claims.name ≡ names.claims k
  pub pages_named : b.pages.name ≡ names.pages k
  pub memory_is : b.stock.memory ≡ names.memory k
  pub full : IsNode k (names.frames k) names.page_bytes b

abbrev pub AreLedgers : {N : Type 0} → Ghosts N → Blanks → Type 0
AreLedgers names b = IsNamed names 0 b.zero × IsNamed names 1 b.one × IsNamed names 2 b.two × IsNamed names 3 b.three

-- the names of a machine over these, with pages of so many bytes and no ledger of permits
abbrev pub names_of : {N : Type 0} → Blanks → ℕ → Ghosts N
names_of b page_bytes = record {
  permits = 0;
  pages = λ k. (node_at b k).pages.name;
  claims = λ k. (node_at b k).claims.name;
  frames = blanks_of b;
  page_bytes = page_bytes;
  memory = λ k. (node_at b k).stock.memory;
}
