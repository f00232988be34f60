use Rattle.std.proofs.Common.{arith, sym, ◌∙◌, ◌<◌, ◌^◌, ◌*◌, ◌+◌, ◌-◌, ◌/◌, ◌≡◌, get_or, None, Some, count_by}
use Rattle.std.specs.List.{range_with_len}
use Rattle.hp_marks.proofs.Range.{bit_marked}
use Rattle.hp_inode.specs.EntryBlock.{IsNextWord}
use Rattle.hp_inode.proofs.Spread.{finds_word, ours, counted_none, counted_few, counted_full, counted_next, counted_end}
use Rattle.hp_inode.proofs.bits.count_in_words.Goals as goal

pub loop-next-init : goal.loop-next-init
loop-next-init c = record { from = omega arith; counted = sym (counted_none c.args.words.now c.args.a c.args.b (64 * (c.args.a / 64)) (omega arith)) }

next_word : (c : goal.After-full_to-at) → IsNextWord c.args.words.now c.loop-next.at c.div_ceil-end.result c.in-Some.next
next_word c = finds_word c.args.words.now c.args.marks.now c.requires c.loop-next.at c.div_ceil-end.result (Some c.in-Some.next) c.in-Some.ensures

more : (c : goal.After-full_to-at) → c.loop-next.count + (c.from-here.result + 64 * (c.full_to-at.result - c.in-Some.next - 1))
    ≡ count_by (ours c.args.words.now c.args.a c.args.b) (range_with_len 0 (64 * c.full_to-at.result))
more c =
    let words = c.args.words.now in
    let next = c.in-Some.next in
    let past = c.full_to-at.result in
    let found = next_word c in
    let small : c.bits_within.result < 2 ^ 64 = omega arith in
    let one = counted_next words c.args.a c.args.b c.loop-next.at next (get_or words next 0)
    c.bits_within.result found.from found.none_before small (bit_marked words next)
    c.bits_within.ensures in
    let rest = counted_full words c.args.a c.args.b (64 * (next + 1)) (64 * past) (omega (arith, c.full_to-at.ensures.from)) (omega (arith, c.loop-next.invariant.from, found.from))
    (λ more. omega (arith, more, c.full_to-at.ensures.to)) c.full_to-at.ensures.full in
    omega (arith, one, c.from-here.ensures, rest, c.loop-next.invariant.counted, c.full_to-at.ensures.from)

pub overflow_add-count-in-Some : goal.overflow_add-count-in-Some
overflow_add-count-in-Some c = omega (arith, more c, counted_few c.args.words.now c.args.a c.args.b (64 * c.full_to-at.result))

pub loop-next-preserved : goal.loop-next-preserved
loop-next-preserved c = record { from = omega (arith, c.loop-next.invariant.from, (next_word c).from, c.full_to-at.ensures.from); counted = more c }

pub returns : goal.returns
returns c = c.loop-next.invariant.counted ∙ counted_end c.args.words.now c.args.a c.args.b c.loop-next.at c.div_ceil-end.result c.div_ceil-end.ensures
    (finds_word c.args.words.now c.args.marks.now c.requires c.loop-next.at c.div_ceil-end.result None c.in_default.ensures)
