use Rattle.std.proofs.Common.{◌≡◌, ◌∷◌, length, ap, sym, ◌∙◌, arith}
use Rattle.hp_model.proofs.Words.{Page}
use Rattle.hp_mount.proofs.Running.{step_filled, step_reserved, step_there}
use Rattle.hp_mount.proofs.mount.running.fill_from.Goals as goal

pub fill-requires-clause-below : goal.fill-requires-clause-below
fill-requires-clause-below g c =
    let long = ap length c.in-Some.ensures.some in
    (c.loop-taken.invariant.reserved c.loop-taken.end (omega arith) (omega (arith, long))).below

pub loop-taken-preserved : goal.loop-taken-preserved
loop-taken-preserved g c =
    let at = c.args.at in
    let end = c.loop-taken.end in
    let kept = c.loop-taken.invariant in
    let old = g.D.RunDoor.waiting c.loop-taken.door in
    let rest = g.D.RunDoor.waiting c.next_page.new.self in
    let page = c.zero.new.self in
    let size = g.N.Naming.page_bytes in
    let node = ap (λ (p : Page). p.node) c.zero.ensures in
    let waits : old ≡ page.node ∷ rest = c.in-Some.ensures.some ∙ ap (λ n. n ∷ rest) (sym node) in
    let long = ap length waits in
    record {
      from = omega (arith, kept.from);
      left = omega (arith, kept.left, long);
      file = step_there size at.file end c.loop-taken.files c.fill.new.self old rest page waits c.fill.ensures kept.file;
      reserved = step_reserved size at.file end c.loop-taken.files c.fill.new.self old rest page waits c.fill.ensures at.map kept.file kept.reserved;
      room = (let room = ap (λ f. f.room) c.fill.ensures in let was = kept.room in omega (arith, room, was, long));
      filled = step_filled size at.file end c.loop-taken.files c.fill.new.self old rest page waits c.fill.ensures (ap (λ (p : Page). p.bytes) c.zero.ensures) ∙ kept.filled;
      took = λ d nodes took. c.next_page.ensures.took d nodes (kept.took d nodes took);
    }
