use Rattle.std.proofs.Common.{◌≡◌, ℕ, Ok, refl, ap, subst, arith}
use Rattle.std.specs.List.{range_with_len}
use Rattle.hp_laws.proofs.Variants.{Done, Remove}
use Rattle.hp_model.proofs.Words.{Answer_with, exit_slots}
use Rattle.hp_sessions.specs.Calls.{Carries, SessionView}
use Rattle.hp_sessions.proofs.Carrying.{ends, grows_then}
use Rattle.hp_sessions.proofs.Forking.{first_exited, table_done, table_refused}
use Rattle.hp_sessions.proofs.asking.Asking.exit.Goals as goal

pub loop-at-preserved : goal.loop-at-preserved
loop-at-preserved g c =
    let was = c.loop-at.invariant in
    let size = g.P.Parts.page in
    record {
      gone = first_exited g.P.Parts.keeps size c.make_table.new.self c.loop-at.self c.make_exit.new.self c.loop-at.at c.args.task was.gone c.make_exit.ensures.leads;
      grows = grows_then c.loop-at.at 1 c.make_table.new.self c.loop-at.self c.make_exit.new.self was.grows c.make_exit.ensures.grows;
    }

pub returns : goal.returns
returns g c =
    let size = g.P.Parts.page in
    let s = c.args.self.now in
    let t = c.make_table.new.self in
    let u = c.loop-at.self in
    let many = c.count-at-end.ensures.count in
    let view = ap (λ (v : SessionView). v.slots) c.self.view_is in
    let same = c.make_table.ensures.grows.slots in
    let over = c.loop-at-test.false in
    let under = c.loop-at.auto.at-end in
    let all : c.loop-at.at ≡ s.slots = omega (arith, many, view, same, over, under) in
    let next = exit_slots (range_with_len 0 s.slots) c.args.task (Answer_with (Ok Done)) in
    table_done g.P.Parts.keeps size s t (Remove c.args.task) c.make_table.result next (Ok Done) u c.in_default.not-Refused c.make_table.ensures.made
    (subst (λ (n : ℕ). Carries g.P.Parts.keeps size t (exit_slots (range_with_len 0 n) c.args.task (Answer_with (Ok Done))) (Ok Done) u) all
    (c.loop-at.invariant.gone (Answer_with (Ok Done)) (Ok Done) u (ends g.P.Parts.keeps size u (Ok Done) refl)))

pub returns-in-Refused : goal.returns-in-Refused
returns-in-Refused g c =
    let s = c.args.self.now in
    table_refused g.P.Parts.keeps g.P.Parts.page s c.make_table.new.self (Remove c.args.task) c.in-Refused.refusal
    (exit_slots (range_with_len 0 s.slots) c.args.task (Answer_with (Ok Done))) c.in-Refused.ensures.made
