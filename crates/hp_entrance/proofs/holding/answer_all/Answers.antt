use Rattle.std.proofs.Common.{◌≡◌, ◌<◌, ◌≤◌, ◌∙◌, false, Ok, List, length, ap, subst, arith}
use Rattle.std.specs.List.{All}
use Rattle.std.proofs.lemmas.List.{take_all}
use Rattle.std.proofs.lemmas.List.Elements.{All-set}
use Rattle.hp_model.specs.beside.Queue.{is_load}
use Rattle.hp_model.proofs.Words.{QueuedView}
use Rattle.hp_laws.proofs.Variants.{Done}
use Rattle.hp_entrance.proofs.Runs.{answered_next}
use Rattle.hp_entrance.proofs.holding.answer_all.Goals as goal

pub loop-i-preserved : goal.loop-i-preserved
loop-i-preserved c =
    let i = c.loop-i.i in
    let queue = c.loop-i.queue in
    let same = c.loop-i.auto.queue in
    let here = c.loop-i-test.true in
    let within : i < length queue = omega (arith, here, same) in
    let answered = c.answer_done.new.self in
    record {
      faults = All-set (λ (q : QueuedView). is_load q.step ≡ false) queue i answered
          (ap is_load c.answer_done.ensures.step ∙ c.loop-i.invariant.faults i c.index-queue-i.result within) c.loop-i.invariant.faults;
      done = answered_next queue i answered within c.loop-i.invariant.done c.answer_done.ensures.reply;
    }

pub returns : goal.returns
returns c =
    let queue = c.loop-i.queue in
    let same = c.loop-i.auto.queue in
    let over = c.loop-i-test.false in
    let all : length queue ≤ c.loop-i.i = omega (arith, over, same) in
    subst (λ (qs : List QueuedView). All (λ q. q.reply ≡ Ok Done) qs) (take_all c.loop-i.i queue all) c.loop-i.invariant.done
