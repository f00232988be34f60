use Rattle.hp_pool.specs.Ledgers.{names_of}
use Rattle.hp_system_tests.proofs.trial.tried.Given as goal

abbrev pub ghosts-named : goal.ghosts-named
ghosts-named g a = names_of a.blanks 1024
