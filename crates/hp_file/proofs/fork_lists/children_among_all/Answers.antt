use Rattle.std.proofs.Common.{◌≡◌, arith, ap, length, subst, sum_by, sym, take, ◌∙◌, ◌+◌}
use Rattle.std.proofs.Math.Seq.{take-length}
use Rattle.std.proofs.lemmas.List.Sums.{sum_by_more}
use Rattle.hp_lookup.proofs.Words.{children_of, maps_by}
use Rattle.hp_file.specs.ForkLists.{AreSome, IsAmong, spread}
use Rattle.hp_file.proofs.Joining.{among_all, children_long, part_ready, some_more, some_none, some_push}
use Rattle.hp_file.proofs.fork_lists.children_among_all.Goals as goal

pub loop-file-init : goal.loop-file-init
loop-file-init c = record {
  some = subst (AreSome c.args.parent c.args.child 0 c.args.files.now.files) (sym c.new-lists.ensures.items) (some_none c.args.parent c.args.child c.args.files.now.files);
  all = ap (λ xs. sum_by length (spread xs)) c.new-lists.ensures.items;
}

pub loop-file-preserved : goal.loop-file-preserved
loop-file-preserved c =
    let was = c.loop-file in
    let fs = c.args.files.now.files in
    let f = c.index.result.now in
    let list = c.in_ok-list.list in
    let children = c.in_ok-list.ensures.children in
    let within = c.loop-file-test.true in
    let among = subst (λ xs. IsAmong xs (children_of c.args.parent c.args.child f.maps)) (sym children) (among_all (children_of c.args.parent c.args.child f.maps)) in
    let more = ap (λ xs. sum_by length (spread xs)) c.in_ok-push.ensures.items ∙ some_more was.lists.items _ in
    let long = ap length children ∙ children_long c.args.parent c.args.child f in
    let next = sum_by_more (maps_by c.args.parent) fs was.file f (omega (arith, within, c.len-file-end.ensures)) in
    let own = ap (maps_by c.args.parent) c.index.ensures in
    let all = was.invariant.all in
    record {
      some = subst (AreSome c.args.parent c.args.child (was.file + 1) fs) (sym c.in_ok-push.ensures.items)
          (some_push c.args.parent c.args.child fs was.lists.items was.file was.file f list was.invariant.some (omega arith) (omega (arith, within, c.len-file-end.ensures))
          c.index.ensures c.in_ok-list.ensures.room among);
      all = omega (arith, more, long, next, own, all);
    }

pub returns-clause-ready : goal.returns-clause-ready
returns-clause-ready c =
    let fs = c.args.files.now.files in
    let all = c.loop-file.invariant.all in
    let last = c.loop-file-test.false in
    let inside = c.loop-file.auto.file-end in
    let end : c.loop-file.file ≡ length fs = omega (arith, last, inside, c.len-file-end.ensures) in
    let whole = ap (λ i. sum_by (maps_by c.args.parent) (take i fs)) end ∙ ap (sum_by (maps_by c.args.parent)) (take-length fs) in
    part_ready c.args.parent c.args.child fs _ c.loop-file.invariant.some.part (omega (arith, all, whole))
