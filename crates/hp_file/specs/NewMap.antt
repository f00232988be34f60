-- A file that gets a map of a range.
use Rattle.std.specs.Prelude.{ℕ, [], None}
use Rattle.hp_lookup.specs.declared.next_map.MapRange.{MapRange}
use Rattle.hp_lookup.specs.Asking.{entered_from}
use Rattle.hp_lookup.specs.Numbered.{NumberedFile, new_mapping, with_mapping}

abbrev pub with_new_map : MapRange → (number : ℕ) → NumberedFile → NumberedFile
with_new_map r number f =
    with_mapping (entered_from r.sharing r.reserving r.start r.pages) (new_mapping r.task number r.start r.pages r.sharing r.reserving) f

-- a file that has nothing
abbrev pub nameless : NumberedFile
nameless = record { name = None; cells = []; maps = [] }
