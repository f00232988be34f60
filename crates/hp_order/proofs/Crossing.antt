-- What a ranked lock owns names no thread, on cache lines of its own or not.
use denote.Param.Send.{IsSend, IsSync, sendable}
use denote.RattleType.{RattleType}
use Rattle.crossbeam_utils.specs.contracts.cache_padded.CachePadded as CachePadded
use Rattle.hp_order.specs.contracts.line_lock.LineLock as LineLock
use Rattle.hp_order.specs.contracts.ranked_lock.RankedLock as RankedLock
use Rattle.std.proofs.Crossing.{crosses}

pub ranked_lock_send : (T : RattleType) → IsSend T → IsSend (RankedLock.the_row T)
ranked_lock_send T t = search (sendable, crosses) depth 30

pub ranked_lock_sync : (T : RattleType) → IsSend T → IsSync (RankedLock.the_row T)
ranked_lock_sync T t = search (sendable, crosses) depth 30

padded_send : (T : RattleType) → IsSend T → IsSend (CachePadded.the_row T)
padded_send T t = search (sendable, crosses) depth 30

padded_sync : (T : RattleType) → IsSync T → IsSync (CachePadded.the_row T)
padded_sync T t = search (sendable, crosses) depth 30

pub line_lock_send : (T : RattleType) → IsSend T → IsSend (LineLock.the_row T)
line_lock_send T t = search (sendable, crosses, padded_send, ranked_lock_send) depth 30

pub line_lock_sync : (T : RattleType) → IsSend T → IsSync (LineLock.the_row T)
line_lock_sync T t = search (sendable, crosses, padded_sync, ranked_lock_sync) depth 30
