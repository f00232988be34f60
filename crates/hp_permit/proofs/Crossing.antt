-- What permits and their book own names no thread.
use denote.Param.Send.{IsSend, sendable}
use denote.RattleType.{RattleType}
use Rattle.hp_model.specs.declared.naming.Naming.{Ghosts}
use Rattle.hp_permit.specs.contracts.book.Book as Book
use Rattle.hp_permit.specs.contracts.permit.Permit as Permit
use Rattle.hp_permit.proofs.CrossingParts.{book_send as ledger_send, share_send}

module _ (N : RattleType) (names : Ghosts N.Denot) where
  pub permit_send : IsSend (Permit.the_row N names)
  permit_send = search (sendable, share_send) depth 20

  pub book_send : IsSend (Book.the_row N names)
  book_send = search (sendable, ledger_send, share_send) depth 20
