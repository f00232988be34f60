use Rattle.std.proofs.Common.{ℕ, [], subst}
use Rattle.std.specs.List.{range_with_len}
use Rattle.hp_laws.proofs.Variants.{FindAndAdd}
use Rattle.hp_model.proofs.Words.{done_reply, fork_slots}
use Rattle.hp_sessions.specs.Calls.{Carries}
use Rattle.hp_sessions.proofs.Forking.{table_done, table_refused}
use Rattle.hp_sessions.proofs.asking.Asking.fork.Goals as goal

pub returns-in-Refused : goal.returns-in-Refused
returns-in-Refused g c =
    let s = c.args.self.now in
    table_refused g.P.Parts.keeps g.P.Parts.page s c.make_table.new.self (FindAndAdd c.args.parent c.args.child) c.in-Refused.refusal
    (fork_slots (range_with_len 0 s.slots) [] c.args.parent c.args.child) c.in-Refused.ensures.made

pub returns : goal.returns
returns g c =
    let size = g.P.Parts.page in
    let s = c.args.self.now in
    let t = c.make_table.new.self in
    let u = c.fork_slots.new.self in
    let reply = done_reply c.fork_slots.result in
    table_done g.P.Parts.keeps size s t (FindAndAdd c.args.parent c.args.child) c.make_table.result (fork_slots (range_with_len 0 s.slots) [] c.args.parent c.args.child) reply u
    c.in_default.not-Refused c.make_table.ensures.made
    (subst (λ (n : ℕ). Carries g.P.Parts.keeps size t (fork_slots (range_with_len 0 n) [] c.args.parent c.args.child) reply u) c.make_table.ensures.grows.slots c.fork_slots.ensures)
