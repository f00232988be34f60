use Rattle.hp_trail.specs.Tellers.{AreListed, Fit}
use Rattle.hp_trail.specs.Walk.{lists, trails_of}
use Rattle.hp_trail.proofs.tellers.Tellers.list.Given as goal

abbrev pub invariant-loop-session : goal.invariant-loop-session
invariant-loop-session l = record {
  fit : Fit (trails_of l.trails.tasks.now l.trails.slots.now l.trails.pool.now) l.tellers;
  listed : AreListed (trails_of l.trails.tasks.now l.trails.slots.now l.trails.pool.now) (lists l.receipts) l.session 0 l.tellers;
}

abbrev pub invariant-loop-receipt : goal.invariant-loop-receipt
invariant-loop-receipt l = record {
  fit : Fit (trails_of l.trails.tasks.now l.trails.slots.now l.trails.pool.now) l.tellers;
  listed : AreListed (trails_of l.trails.tasks.now l.trails.slots.now l.trails.pool.now) (lists l.receipts) l.session l.receipt-index l.tellers;
}
