use Rattle.std.proofs.Common.{arith, rules, ◌≡◌, ◌*◌, ◌+◌, ◌<◌, ◌^◌, get_or, set, count_ones}
use Rattle.hp_marks.proofs.Bits.{full_ones}
use Rattle.hp_inode.proofs.Removed.{joined, removed_word}
use Rattle.hp_inode.proofs.entry_block.clear_full.Goals as goal

pub loop-at-preserved : goal.loop-at-preserved
loop-at-preserved c =
    let words = c.loop-at.words in
    let at = c.loop-at.at in
    let small : get_or words at 0 < 2 ^ 64 = search rules in
    let full : count_ones (get_or words at 0) ≡ 64 = full_ones (get_or words at 0) (omega arith) in
    record {
      from = omega arith;
      within = omega arith;
      removed = joined c.args.words.now words (set words at 0) (64 * c.args.from) (64 * at) (64 * (at + 1)) _ _ _ (omega arith) (omega arith)
          (omega (arith, full)) c.loop-at.invariant.removed (removed_word words at (omega arith) small);
    }
