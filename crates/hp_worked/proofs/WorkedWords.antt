-- The words of the worked runs.
use Rattle.std.proofs.Common.{ℕ, ◌-◌, Ok, List, [], ◌∷◌, ◌++◌, length, replicate}
use Rattle.hp_laws.proofs.Variants.{Bytes, NodeCount, Numbers, PerNode}
use Rattle.hp_model.proofs.Words.{Reply, State, no_count, start}

-- two nodes of four frames, pages of 1,024 bytes, four slots
abbrev pub machine : State
machine = start (4 ∷ 4 ∷ []) 1024 4

abbrev pub counts : (total free rsvd surp nr overcommit : ℕ) → Reply
counts t f r s nr over = Ok (Numbers (record { total = t; free = f; rsvd = r; surp = s; nr = nr; overcommit = over }))

-- the answer with these bytes
abbrev pub bytes : List ℕ → Reply
bytes bs = Ok (Bytes (length bs) (bs ++ replicate (256 - length bs) 0))

abbrev pub node_row : (total free surp : ℕ) → NodeCount
node_row t f s = record { total = t; free = f; surp = s }

abbrev pub nodes : List NodeCount → Reply
nodes rows = Ok (PerNode (length rows) (rows ++ replicate (4 - length rows) no_count))

-- a script, the machine that it runs on, and the replies that it must get
pub record Worked : Type 0 where
  pub machine : State
  pub input : List ℕ
  pub replies : List ℕ
