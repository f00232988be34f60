-- The bytes of a name, which lie in one of two places. No public clause cites this module.
use Rattle.std.specs.Prelude.{ℕ, ◌≤◌, List, take}
use Rattle.hp_lookup.specs.declared.name_bytes.NameBytes.{NameBytes}
use Rattle.hp_lookup.specs.declared.name_bytes.NameBytes.TheVariants.{Few, Many}

abbrev pub bytes_of : NameBytes → List ℕ
bytes_of (Few count few) = take count few
bytes_of (Many many) = many.items

-- no more bytes are counted than there is room for
abbrev pub HasRoom : NameBytes → Type 0
HasRoom (Few count few) = count ≤ 30
HasRoom (Many many) = Unit
