-- What the books of ledgers, and parts of them, own names no thread.
use Rattle.std.proofs.Common.{ℕ, zero, suc, List, [], ◌∷◌}
use base.Shift.{Keyless}
use denote.Param.Send.{IsSend, owning_send, sendable}
use denote.RattleType.{RattleType}
use Rattle.std.specs.Sync.Ledger.{chain, row, Rule, book_owns, share_owns}
use Rattle.std.specs.declared.sync.ledger.Ledger.{Ghosts}
use Rattle.std.specs.contracts.sync.ledger.Book as Book
use Rattle.std.specs.contracts.sync.ledger.Share as Share
use Rattle.hp_permit.specs.contracts.parts.Parts as Parts
use Rattle.hp_permit.specs.contracts.quad.Quad as Quad

chain-keyless : (rows : List (ℕ × ℕ)) (name : ℕ) → Keyless (chain rows name)
chain-keyless [] name = (tt, tt)
chain-keyless (r ∷ rows) name = λ cell. (tt, (tt, (tt, chain-keyless rows cell.1)))

rule-keyless : (name parts : ℕ) → Keyless (Rule name parts)
rule-keyless name parts = λ s. (chain-keyless ((0, s.0) ∷ s.1) name, λ balanced. tt)

row-keyless : (i : ℕ) (r : ℕ × ℕ) (name : ℕ) → Keyless (row i r name)
row-keyless zero r name = λ cell. (tt, tt)
row-keyless (suc i) r name = λ cell. (tt, row-keyless i r cell.1)

book-keyless : (name parts total : ℕ) → Keyless (book_owns name parts total)
unfolding book_owns
book-keyless name parts total = (rule-keyless name parts, row-keyless 0 (0, total) name)

share-keyless : (name parts held amount : ℕ) → Keyless (share_owns name parts held amount)
unfolding share_owns
share-keyless name parts held amount = (rule-keyless name parts, λ i. row-keyless (suc i) (held, amount) name)

module _ (L : RattleType) (g : Ghosts L.Denot) where
  pub book_send : IsSend (Book.the_row L g)
  book_send = owning_send (Book.the_type L g) (search sendable, tt) (λ b. book-keyless g.name g.parts b.total) (λ k x w. tt)

  pub share_send : IsSend (Share.the_row L g)
  share_send = owning_send (Share.the_type L g) (search sendable, tt) (λ s. share-keyless g.name g.parts s.parts s.amount) (λ k x w. tt)

  pub parts_send : IsSend (Parts.the_row L g)
  parts_send = search (sendable, share_send) depth 20

module _ (A B C D : RattleType) (a : Ghosts A.Denot) (b : Ghosts B.Denot) (c : Ghosts C.Denot) (d : Ghosts D.Denot) where
  pub quad_send : IsSend (Quad.the_row A B C D a b c d)
  quad_send = search (sendable, parts_send) depth 20
