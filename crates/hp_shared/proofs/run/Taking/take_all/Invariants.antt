use Rattle.std.proofs.Common.{◌≡◌, length}
use Rattle.hp_subpool.specs.Subpool.{with_pages}
use Rattle.hp_shared.specs.Runs.{HasEntered}
use Rattle.hp_shared.proofs.run.Taking.take_all.Given as goal

abbrev pub invariant-loop-done : goal.invariant-loop-done
invariant-loop-done g l = record {
  entered : HasEntered l.fn.self l.self.waiting l.self;
  counted : length l.self.waiting ≡ l.done;
  share : l.share ≡ with_pages l.done l.fn.share;
}
