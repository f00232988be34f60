use Rattle.hp_pool.specs.Ledgers.{names_of}
use Rattle.hp_sessions_tests.proofs.stage.traced.Given as goal

abbrev pub ghosts-on_traced-N-Naming : goal.ghosts-on_traced-N-Naming
ghosts-on_traced-N-Naming g a = names_of a.source.blanks a.source.sizes.page_bytes

abbrev pub ghosts-on_traced-N-Places : goal.ghosts-on_traced-N-Places
ghosts-on_traced-N-Places g a = record { history = a.source.history.table.shared.table_id; shape = a.source.history.shape }
