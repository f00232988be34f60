use Rattle.std.proofs.Common.{◌≡◌, ◌++◌, ◌∷◌, [], arith, ap, length, sym, ◌∙◌}
use Rattle.std.proofs.lemmas.List.{length-append}
use Rattle.hp_model.proofs.Words.{map_for}
use Rattle.hp_file.proofs.Joining.{among_next, among_taken}
use Rattle.hp_file.proofs.file.File.children_at.Goals as goal

pub loop-at-preserved : goal.loop-at-preserved
loop-at-preserved c =
    let was = c.loop-at in
    let m = c.map-map.result.now in
    let child : c.in_ok-fork_for.field-0 ≡ map_for c.args.child m = c.in_ok-fork_for.ensures in
    let items = c.push_reserved.ensures.items ∙ ap (λ x. was.list.items ++ x ∷ []) child in
    let within = c.if-at-map_count.false in
    let behind = c.if-at-next.false in
    let count = c.map_count.ensures in
    record {
      among = among_next c.args.parent c.args.child c.args.self.now.maps was.next _ m was.list.items _ behind (omega (arith, within, count))
          c.map-map.ensures (sym c.task.ensures ∙ c.if-task-parent.false) was.invariant.among items;
      within = omega (arith, within, count);
      few = (let few = was.invariant.few in let long = ap length items in let all = length-append was.list.items (map_for c.args.child m ∷ []) in omega (arith, few, long, all));
      room = (let room = was.invariant.room in let same = c.push_reserved.ensures.capacity in omega (arith, room, same));
    }

pub returns-clause-among : goal.returns-clause-among
returns-clause-among c =
    among_taken c.args.parent c.args.child c.args.self.now.maps c.loop-at.next c.loop-at.list.items c.loop-at.invariant.among
