-- What pages, the lists and the frames of the nodes own names no thread.
use denote.Param.Send.{IsSend, sendable}
use denote.RattleType.{RattleType}
use Rattle.hp_frames.proofs.Crossing.{frame_send, stock_send}
use Rattle.hp_model.specs.declared.naming.Naming.{Ghosts}
use Rattle.hp_nodes.specs.contracts.frames.Frames as Frames
use Rattle.hp_nodes.specs.contracts.frames.NodeFrames as NodeFrames
use Rattle.hp_nodes.specs.contracts.lists.NodeLists as NodeLists
use Rattle.hp_nodes.specs.contracts.page.Page as Page
use Rattle.hp_permit.proofs.CrossingParts.{quad_send}
use Rattle.std.proofs.Crossing.{crosses}

module _ (N : RattleType) (names : Ghosts N.Denot) where
  pub page_send : IsSend (Page.the_row N names)
  page_send = search (sendable, frame_send, quad_send) depth 20

  pub lists_send : IsSend (NodeLists.the_row N names)
  lists_send = search (sendable, crosses, quad_send) depth 20

  pub node_frames_send : (k : RattleType) → IsSend (NodeFrames.the_row N k names)
  node_frames_send k = search (sendable, crosses, stock_send, quad_send) depth 20

  pub frames_send : IsSend (Frames.the_row N names)
  frames_send = search (sendable, node_frames_send) depth 20
