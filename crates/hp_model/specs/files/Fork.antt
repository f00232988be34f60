-- What a fork leaves on a slot.
use Rattle.std.specs.Prelude.{ℕ, ◌++◌, map}
use Rattle.std.specs.List.{filter}
use Rattle.hp_model.specs.files.File.{File, Mount}
use Rattle.hp_model.specs.files.GiveBack.{file_without, swept}
use Rattle.hp_model.specs.files.Mapping.{map_for, is_of}

abbrev pub file_forked : ℕ → ℕ → File → File
file_forked parent child f =
    record (file_without child f) { maps = (file_without child f).maps ++ map (map_for child) (filter (is_of parent) f.maps) }

-- maps that already stand under the child's number go first
abbrev pub forked : ℕ → ℕ → Mount → Mount
forked parent child m = swept (record m { files = map (file_forked parent child) m.files })
