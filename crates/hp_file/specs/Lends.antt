-- What a list of files ends as, where a `&mut` to one of its files is returned.
use Rattle.std.specs.Prelude.{ℕ}
use Rattle.std.specs.Borrow.{Fml, Lends, MutBor}
use Rattle.std.specs.List.{slice_set}
use Rattle.hp_file.specs.FileList.{Listed}
use Rattle.hp_lookup.specs.Numbered.{NumberedFile}
use Rattle.hp_file.specs.contracts.file.File.{the_row as file_row}
use Rattle.hp_file.specs.contracts.file_list.FileList.{the_row}

-- the list with a file in the place of another
abbrev pub with_listed : Listed → ℕ → NumberedFile → Listed
with_listed l at f = record l { files = slice_set l.files at f }

abbrev pub LendsFile : MutBor Listed → ℕ → MutBor NumberedFile → Fml
LendsFile l at r = Lends the_row file_row l r (with_listed l.now at)
