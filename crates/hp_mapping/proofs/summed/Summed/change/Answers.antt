use Rattle.std.proofs.Common.{◌≡◌, ◌<◌, ◌/◌, ◌^◌, ◌∙◌, slice_index_or, rules}
use Rattle.hp_mapping.proofs.SummedWords.{summed_gone, summed_left, summed_marked}
use Rattle.hp_mapping.proofs.summed.Summed.change.Goals as goal
use Rattle.hp_mapping.proofs.summed.Summed.change.Goals.{then-on-via-then-on, then-on-via-else-on+then-as_slice-at-eq0}

pub invariant_of-self : goal.invariant_of-self
invariant_of-self c =
    let s = c.self.inside in
    let new = c.change_mark.new.words.items in
    let one = c.change_mark.ensures in
    let more : 0 < slice_index_or new (c.args.at / 64) 0 = search rules in
    let small : slice_index_or new (c.args.at / 64) 0 < 2 ^ 64 = search rules in
    summed_left s.words.items s.above.items new c.args.at c.self.invariant one.others one.len (one.here ∙ c.if-on.false) more small

pub invariant_of-self-then-on : goal.invariant_of-self-then-on
invariant_of-self-then-on c =
    let s = c.self.inside in
    let new = c.change_mark.new.words.items in
    let now = c.change_mark-then-on.new.words.items in
    let one = c.change_mark.ensures in
    let above = c.change_mark-then-on.ensures in
    elim c.then-on.branch [
      | then-on-via-then-on w ↦
          summed_marked s.words.items s.above.items new c.args.at c.self.invariant one.others one.len now (one.here ∙ w.if-on.true) above.len (above.here ∙ w.if-on.true) above.others
      | then-on-via-else-on+then-as_slice-at-eq0 w ↦
          (let zero : slice_index_or new (c.args.at / 64) 0 ≡ 0 = rw w.as_slice.ensures at w.if-as_slice-at-eq0.true in
          summed_gone s.words.items s.above.items new c.args.at c.self.invariant one.others one.len (one.here ∙ w.if-on.false) now zero above.len (above.here ∙ w.if-on.false) above.others)
    ]
