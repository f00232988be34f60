-- Files under keys that they keep, in their order.
use Rattle.std.specs.Prelude.{◌≢◌, ℕ, ◌-◌, ◌^◌, List, Option, None, [], map, min}
use Rattle.std.specs.List.{All, AllPairs}
use Rattle.std.specs.Option.{unwrap_or}
use Rattle.slab.specs.Slab.{ContainsKey, Slab, get, slab_len}
use Rattle.hp_lookup.specs.Numbered.{NumberedFile}

-- files in order, and for how many more there is room
pub record Listed : Type 0 where
  pub files : List NumberedFile
  pub room : ℕ

-- the file that lies there, or a bare one
abbrev pub filed : Option NumberedFile → NumberedFile
filed slot = unwrap_or slot (record { name = None; cells = []; maps = [] })

-- the files under the keys of an order
abbrev pub files_in : Slab NumberedFile → List ℕ → List NumberedFile
files_in slab order = map (λ key. filed (get slab key)) order

-- a file more takes the next key, which has 16 bits, and a word in the order
abbrev pub room_in : Slab NumberedFile → (order capacity : ℕ) → ℕ
room_in slab order capacity = min (2 ^ 16 - slab.vacant_key) (min (slab.capacity - slab_len slab) (capacity - order))

-- a file lies under each key of the order, and no two keys are the same
pub record IsFileOrder (slab : Slab NumberedFile) (order : List ℕ) : Type 0 where
  pub there : All (ContainsKey slab) order
  pub apart : AllPairs (λ x y. x ≢ y) order
