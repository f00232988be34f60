-- The limits of this profile, as `src/profile.rt` has them for code.
use Rattle.std.specs.Prelude.{ℕ, ◌*◌}

-- nodes of a machine
abbrev pub most_nodes : ℕ
most_nodes = 4

-- frames of a node
abbrev pub most_frames : ℕ
most_frames = 65536

-- frames of all nodes
abbrev pub most_frames_in_all : ℕ
most_frames_in_all = most_nodes * most_frames

-- the size of a page, in bytes, is a power of two from here on
abbrev pub least_page_bytes : ℕ
least_page_bytes = 1024

-- bytes of a page
abbrev pub most_page_bytes : ℕ
most_page_bytes = 2097152

-- slots of a machine, for a mount each
abbrev pub most_slots : ℕ
most_slots = 64

-- files of a slot, named or not
abbrev pub most_files : ℕ
most_files = 1024

-- maps of a slot
abbrev pub most_maps : ℕ
most_maps = 4096

-- tasks of the table, and tasks with maps of a slot
abbrev pub most_tasks : ℕ
most_tasks = 4096

-- pages of a file
abbrev pub most_file_pages : ℕ
most_file_pages = 16777216

-- pages of a map, and indices that one step fills
abbrev pub most_map_pages : ℕ
most_map_pages = 65536

-- bytes of a load, a store or a read
abbrev pub most_bytes : ℕ
most_bytes = 256

-- surplus pages that may be asked for
abbrev pub most_overcommit : ℕ
most_overcommit = 4294967295

-- bytes of a name
abbrev pub most_name_bytes : ℕ
most_name_bytes = 64

-- bytes of a line, without its end
abbrev pub most_line_bytes : ℕ
most_line_bytes = 1024

-- bytes of an input
abbrev pub most_input_bytes : ℕ
most_input_bytes = 1073741824

-- entries that each trail has room for, and receipts each session
abbrev pub most_places : ℕ
most_places = 16777216
