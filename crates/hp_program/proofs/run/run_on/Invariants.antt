use Rattle.hp_pool.specs.Ledgers.{names_of}
use Rattle.hp_program.proofs.run.run_on.Given as goal

abbrev pub ghosts-run_machine : goal.ghosts-run_machine
ghosts-run_machine g a = names_of a.blanks a.config.now.page
