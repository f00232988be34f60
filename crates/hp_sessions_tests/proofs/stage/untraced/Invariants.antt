use Rattle.hp_pool.specs.Ledgers.{names_of}
use Rattle.hp_sessions_tests.proofs.stage.untraced.Given as goal

abbrev pub ghosts-on_untraced-N-Naming : goal.ghosts-on_untraced-N-Naming
ghosts-on_untraced-N-Naming g a = names_of a.source.blanks a.source.sizes.page_bytes

abbrev pub ghosts-on_untraced-N-Places : goal.ghosts-on_untraced-N-Places
ghosts-on_untraced-N-Places g a = record { history = a.source.history.table.shared.table_id; shape = a.source.history.shape }
