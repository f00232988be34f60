-- A machine's page size, and the numbers that it starts with.
use Rattle.std.specs.Prelude.{◌≡◌, ℕ, ◌<◌}
use Rattle.hp_model.specs.declared.answer.Counts.{Counts}
use Rattle.hp_model.specs.machine.State.{State}

-- what holds of the bytes of a page
pub record IsSized (page_size bytes : ℕ) : Type 0 where
  pub size : page_size ≡ bytes
  pub some : 0 < page_size

-- the numbers of a pool whose pages are all free and promised to nobody
abbrev pub all_free : State → Counts
all_free s = record { total = s.nr; free = s.nr; rsvd = 0; surp = 0; nr = s.nr; overcommit = s.overcommit }
