use Rattle.std.proofs.Common.{◌≡◌, ◌<◌, ◌≤◌, length, get_or, set, sym, ap, ◌∙◌, arith}
use Rattle.std.proofs.lemmas.List.{get_or_read}
use Rattle.hp_inode.specs.Chunks.{bare, promised}
use Rattle.hp_inode.proofs.Chunks.{promised_next, promised_there, slotted_next, used_next}
use Rattle.hp_inode.proofs.chunk_list.promise.Goals as goal
use Rattle.hp_inode.proofs.chunk_list.promise.Goals.{then-index, else-index}

pub loop-at-preserved : goal.loop-at-preserved
loop-at-preserved c =
    let homes = c.loop-at.homes.items in
    let at = c.loop-at.at in
    let kept = c.loop-at.invariant in
    let low : c.args.from ≤ at = omega arith in
    let lt : at < length homes = omega (arith, kept.promised.len, c.requires.within, c.loop-at-test.true) in
    let read : c.index.result.now ≡ get_or homes at bare = get_or_read homes at c.index.result.now lt c.index.ensures bare in
    elim c.if-index.branch [
      | then-index w ↦
          let none : get_or homes at bare ≡ bare = sym read ∙ w.if-index.true in
          let is : c.if-index.homes.items ≡ set homes at promised = ap (λ v. v.items) w.homes-is in
          record {
            promised = rw is (promised_next c.args.from at c.args.homes.now.items homes low kept.promised lt none);
            counted = rw is (omega (arith, slotted_next homes at lt none, kept.counted, w.count-is));
            used = rw is (used_next homes at lt none ∙ kept.used);
            few = omega (arith, kept.few, w.count-is, low);
          }
      | else-index w ↦
          let is : c.if-index.homes.items ≡ homes = ap (λ v. v.items) w.homes-is in
          let some : get_or homes at bare ≤ promised = omega (arith, read, w.if-index.false) in
          record {
            promised = rw is (promised_there c.args.from at c.args.homes.now.items homes low kept.promised some);
            counted = rw is (omega (arith, kept.counted, w.count-is));
            used = rw is kept.used;
            few = omega (arith, kept.few, w.count-is);
          }
    ]
