use Rattle.hp_pool.specs.Ledgers.{names_of}
use Rattle.hugetlbd.proofs.over_tcp.serve_over.Given as goal

abbrev pub ghosts-serve_kept-N-Naming : goal.ghosts-serve_kept-N-Naming
ghosts-serve_kept-N-Naming g a = names_of a.blanks a.machine.now.page

abbrev pub ghosts-serve_kept-N-Places : goal.ghosts-serve_kept-N-Places
ghosts-serve_kept-N-Places g a = record { history = a.opened.table.shared.table_id; shape = a.opened.shape }
