use Rattle.std.proofs.Common.{◌≡◌, ◌∙◌, [], ap, append-nil, sym, take}
use Rattle.hp_serving.specs.FirstLine.{is_foreign_from}
use Rattle.hp_serving.proofs.first_line.read_on.Goals as goal

pub returns-then-is_foreign-clause-refused : goal.returns-then-is_foreign-clause-refused
returns-then-is_foreign-clause-refused g c = λ none.
    (let read = take c.in_ok-len.len c.read_again.new.buf in
    let whole : is_foreign_from c.args.first.now read ≡ is_foreign_from c.with-line.result [] =
    ap (is_foreign_from c.args.first.now) (sym (append-nil read)) ∙ sym (c.with-line.ensures.same []) in
    (c.in_ok-len.len, c.in_ok-len.ensures, whole ∙ c.is_foreign.ensures.foreign c.if-is_foreign.true))
