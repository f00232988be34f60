-- When a page is kept for an index of a map.
use Rattle.std.specs.Prelude.{ℕ, ◌&&◌, Bool, if◌then◌else◌}
use Rattle.hp_model.specs.files.File.{File, cell_at, is_entered}
use Rattle.hp_model.specs.files.Mapping.{Map, is_shared, is_unconsumed, place_at}

-- whether a reservation of the map, or of its file, stands for the index
abbrev pub is_reserved : File → Map → ℕ → Bool
is_reserved f m i = if is_shared m.sharing then is_entered (cell_at f i) else (m.owner && is_unconsumed (place_at m i))
