use Rattle.std.proofs.Common.{◌≡◌, take, drop}
use Rattle.hp_model.proofs.Words.{DoesAll}
use Rattle.hp_model.proofs.service.Service.do_queued.Given as goal

abbrev pub invariant-loop-at : goal.invariant-loop-at
invariant-loop-at g l = record {
  done : DoesAll g.Self.Service.may_answer l.fn.self (take l.at l.fn.queue) (take l.at l.queue) l.self;
  left : drop l.at l.queue ≡ drop l.at l.fn.queue;
  ready : g.Self.Service.is_ready l.self;
  page : g.Self.Service.page l.self ≡ g.Self.Service.page l.fn.self;
}
