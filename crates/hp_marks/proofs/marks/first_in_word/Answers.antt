use Rattle.std.proofs.Common.{◌/◌, ◌<◌, ◌^◌, arith, rules, slice_index_or}
use Rattle.hp_marks.proofs.Words.{rest_found, rest_none}
use Rattle.hp_marks.proofs.marks.first_in_word.Goals as goal

pub returns-then-rest-eq0 : goal.returns-then-rest-eq0
returns-then-rest-eq0 c = rest_none c.args.words.now c.args.n (omega arith)

pub overflow_add-result : goal.overflow_add-result
overflow_add-result c =
    let small : slice_index_or c.args.words.now (c.args.n / 64) 0 < 2 ^ 64 = search rules in
    let found = rest_found c.args.words.now c.args.n (omega arith) small in
    omega (arith, found.0)

pub returns : goal.returns
returns c =
    let small : slice_index_or c.args.words.now (c.args.n / 64) 0 < 2 ^ 64 = search rules in
    let found = rest_found c.args.words.now c.args.n (omega arith) small in
    record { below = omega (arith, found.0); first = found.1 }
