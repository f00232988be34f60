-- Unmap, exit, punch, truncate and unlink: the mount that each leaves.
use Rattle.std.specs.Prelude.{ℕ, ◌+◌, ◌||◌, Bool, not, None, is_some, length, map, if◌then◌else◌, nat_lt}
use Rattle.std.specs.List.{filter}
use Rattle.hp_model.specs.files.File.{File, Mount, cell_punched, cells_to}
use Rattle.hp_model.specs.Lists.{edit_range}
use Rattle.hp_model.specs.files.Mapping.{Map, is_mapped, is_of, is_map, without_range, map_punched}

-- a file without a name and without maps is gone
abbrev pub is_kept : File → Bool
is_kept f = is_some f.name || (nat_lt 0 (length f.maps))

abbrev pub swept : Mount → Mount
swept m = record m { files = filter is_kept m.files }

-- ---- maps

-- of the maps that pass the indices go, and with its last index a map
abbrev pub map_unmapped : (Map → Bool) → ℕ → ℕ → Map → Map
map_unmapped test a b m = if test m then without_range a b m else m

abbrev pub is_left : (Map → Bool) → Map → Bool
is_left test m = is_mapped m || not (test m)

abbrev pub file_unmapped : (Map → Bool) → ℕ → ℕ → File → File
file_unmapped test a b f = record f { maps = filter (is_left test) (map (map_unmapped test a b) f.maps) }

-- unmap
abbrev pub unmapped_from : ℕ → ℕ → ℕ → ℕ → Mount → Mount
unmapped_from task number a b m = swept (record m { files = map (file_unmapped (is_map task number) a b) m.files })

-- all maps of a task go
abbrev pub file_without : ℕ → File → File
file_without task f = record f { maps = filter (λ m. not (is_of task m)) f.maps }

abbrev pub without_task : ℕ → Mount → Mount
without_task task m = swept (record m { files = map (file_without task) m.files })

-- ---- files

-- pages with their entries, and private copies go
abbrev pub punched : ℕ → ℕ → File → File
punched a b f = record f { cells = edit_range cell_punched a b f.cells; maps = map (map_punched a b) f.maps }

-- pages, entries and private copies from n on go
abbrev pub truncated : ℕ → File → File
truncated n f = record f { cells = cells_to n f.cells; maps = map (map_punched n (n + length f.cells)) f.maps }

abbrev pub unlinked : File → File
unlinked f = record f { name = None }
