use denote.Param.Send.{sendable}
use Rattle.hp_serving.proofs.serving.fn.run.scope.Goals as goal

pub take_all-requires-send-L : goal.take_all-requires-send-L
take_all-requires-send-L g c = search (sendable) depth 40

pub take_all-requires-send-M-Told : goal.take_all-requires-send-M-Told
take_all-requires-send-M-Told g c = search (sendable) depth 40

pub take_all-requires-send-C-Reader : goal.take_all-requires-send-C-Reader
take_all-requires-send-C-Reader g c = search (sendable) depth 40

pub take_all-requires-send-C-Writer : goal.take_all-requires-send-C-Writer
take_all-requires-send-C-Writer g c = search (sendable) depth 40

pub take_all-requires-send-C-Gone : goal.take_all-requires-send-C-Gone
take_all-requires-send-C-Gone g c = search (sendable) depth 40
