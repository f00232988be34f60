-- What is left of a machine that was served.
use Rattle.std.specs.Prelude.{◌≡◌, ◌≢◌, ◌==◌, ℕ, List, Some, is_some, false, true}
use Rattle.hp_model.specs.machine.State.{State}
use Rattle.hp_serving.specs.declared.host.Closed.{Closed}
use Rattle.hp_closing.specs.Joined.{WasJoined}
use Rattle.hp_closing.specs.OneRun.{WasOneRun, all_told}
use Rattle.hp_shared.specs.Ended.{FinishedView}

-- What may be left of a machine that started so, keeps entries (1) or none, and was closed with what its sessions left.
-- Unless sessions were found to be missing, this is one run from that start, at whose end all pages are free; and where entries are
-- kept, their trails were joined with it.
pub record MayLeave (keeps : ℕ) (machine : State) (left : List FinishedView) (closed : Closed) : Type 0 where
  pub page : closed.page ≡ machine.page_size
  pub audited : closed.audit ≢ Some false → is_some closed.audit ≡ (keeps == 1)
  pub run : closed.audit ≢ Some false → WasOneRun machine left closed.counts
  pub joined : closed.audit ≡ Some true → WasJoined machine (all_told left) closed.counts
