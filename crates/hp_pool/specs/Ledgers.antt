-- The ledgers and the frames that a machine begins with.
use Rattle.std.specs.Prelude.{◌≡◌, ℕ}
use Rattle.std.specs.declared.sync.ledger.Blank.{Blank}
use Rattle.hp_model.specs.declared.naming.Naming.{Ghosts}
use Rattle.hp_nodes.specs.Ledgers as of_nodes
use Rattle.hp_pool.specs.declared.blanks.Blanks.{Blanks}

-- cut into as many parts as there can be permits
abbrev pub IsWhole : Blank → Type 0
IsWhole b = b.parts ≡ 18446744073709551615

-- the ledger that a machine counts its permits in
abbrev pub IsLedger : ℕ → Blank → Type 0
IsLedger name b = (b.name ≡ name) × IsWhole b

-- the ledgers that a machine names, and its memory
abbrev pub AreLedgers : {N : Type 0} → Ghosts N → Blanks → Type 0
AreLedgers names b = IsLedger names.permits b.permits × of_nodes.AreLedgers names b.nodes

-- the names of a machine over these ledgers and this memory, with pages of so many bytes
abbrev pub names_of : {N : Type 0} → Blanks → ℕ → Ghosts N
names_of b page_bytes = record (of_nodes.names_of b.nodes page_bytes) { permits = b.permits.name }
