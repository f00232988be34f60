-- What a record of bytes owns names no thread.
use denote.Param.Send.{IsSend, owning_send}
use Rattle.hp_wire.specs.contracts.written.Written as Written

pub written_send : IsSend Written.the_row
written_send = owning_send Written.the_type tt (λ w. tt) (λ k x w. tt)
