use Rattle.hp_serving.proofs.serving.serve.Given as goal

-- the ledger that was just made
abbrev pub ghosts-serve_named-L-Ledger : goal.ghosts-serve_named-L-Ledger
ghosts-serve_named-L-Ledger g a = record { name = a.blank.name; parts = a.blank.parts }

-- what was asked for
abbrev pub ghosts-serve_named-P-Plan : goal.ghosts-serve_named-P-Plan
ghosts-serve_named-P-Plan g a = record { sessions = a.sessions; rights = a.blank.parts }
