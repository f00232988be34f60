use Rattle.std.proofs.Common.{arith, ap, length, subst, sum_by, sym, ◌∙◌}
use Rattle.hp_file.specs.ForkLists.{AreSome, spread}
use Rattle.hp_file.proofs.Joining.{part_ready, some_few, some_more, some_none, some_push}
use Rattle.hp_file.proofs.fork_lists.children.Goals as goal

pub loop-from-init : goal.loop-from-init
loop-from-init c = record {
  some = subst (AreSome c.args.parent c.args.child 0 c.args.files.now.files) (sym c.new-lists.ensures.items) (some_none c.args.parent c.args.child c.args.files.now.files);
  left = (let none = ap (λ xs. sum_by length (spread xs)) c.new-lists.ensures.items in omega (arith, none, c.requires));
}

pub overflow_sub-left : goal.overflow_sub-left
overflow_sub-left c =
    let was = c.loop-from in
    let fs = c.args.files.now.files in
    let list = c.in_ok-list.list in
    let behind = c.if-file-next.false in
    let within = c.if-file-len.false in
    let some = some_push c.args.parent c.args.child fs was.lists.items was.next _ c.index.result.now list was.invariant.some behind (omega (arith, within, c.len.ensures))
    c.index.ensures c.in_ok-list.ensures.room c.in_ok-list.ensures.among in
    let few = some_few c.args.parent c.args.child _ fs was.lists.items _ some in
    omega (arith, few, was.invariant.left, c.requires, c.len-in-loop-from.ensures, list.ok.0)

pub loop-from-preserved : goal.loop-from-preserved
loop-from-preserved c =
    let was = c.loop-from in
    let fs = c.args.files.now.files in
    let list = c.in_ok-list.list in
    let behind = c.if-file-next.false in
    let within = c.if-file-len.false in
    let some = some_push c.args.parent c.args.child fs was.lists.items was.next _ c.index.result.now list was.invariant.some behind (omega (arith, within, c.len.ensures))
    c.index.ensures c.in_ok-list.ensures.room c.in_ok-list.ensures.among in
    let few = some_few c.args.parent c.args.child _ fs was.lists.items _ some in
    let more = ap (λ xs. sum_by length (spread xs)) c.in_ok-push.ensures.items ∙ some_more was.lists.items _ in
    record {
      some = subst (AreSome c.args.parent c.args.child _ fs) (sym c.in_ok-push.ensures.items) some;
      left = omega (arith, few, more, was.invariant.left, c.requires, c.len-in-loop-from.ensures, list.ok.0);
    }

pub returns-then-left-eq0-clause-ready : goal.returns-then-left-eq0-clause-ready
returns-then-left-eq0-clause-ready c =
    let all = c.loop-from.invariant.left in
    let none = c.if-left-eq0.true in
    part_ready c.args.parent c.args.child c.args.files.now.files _ c.loop-from.invariant.some.part (omega (arith, all, none, c.requires))
