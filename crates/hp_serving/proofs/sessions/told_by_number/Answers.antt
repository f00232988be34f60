use Rattle.std.proofs.Common.{◌≡◌, ◌∙◌, ◌++◌, ap, append-nil, arith, length, rules, sym}
use Rattle.std.specs.Vec.Iter.{into_iter_items}
use Rattle.hp_serving.proofs.Known.{all_ended, one_ended}
use Rattle.hp_serving.proofs.sessions.told_by_number.Goals as goal

pub loop-entry-preserved-in-Some-into_told : goal.loop-entry-preserved-in-Some-into_told
loop-entry-preserved-in-Some-into_told g c =
    let i = c.loop-entry.invariant in
    let told = c.loop-entry.told.items in
    record {
      fits = omega (arith, i.fits, c.push_reserved.ensures.len, c.push_reserved.ensures.capacity, c.in-Some.ensures.len);
      ending = one_ended _ _ _ _ _ _ _ c.in-Some.entry i.ending c.in-Some.ensures.items
          (c.push_reserved.ensures.items ∙ ap (λ ts. told ++ ts) (sym c.in-Some-into_told.ensures.some)) c.in-Some.entry.was;
    }

pub loop-entry-preserved : goal.loop-entry-preserved
loop-entry-preserved g c =
    let i = c.loop-entry.invariant in
    let told = c.loop-entry.told.items in
    record {
      fits = omega (arith, i.fits, c.in-Some.ensures.len);
      ending = one_ended _ _ _ _ _ _ _ c.in-Some.entry i.ending c.in-Some.ensures.items
          (sym (append-nil told) ∙ ap (λ ts. told ++ ts) (sym c.in_default-into_told.ensures.none)) c.in-Some.entry.was;
    }

pub returns-clause-closed : goal.returns-clause-closed
returns-clause-closed g c =
    let none : length (into_iter_items c.loop-entry.rest) ≡ 0 = search rules in
    (all_ended _ _ _ _ _ c.loop-entry.invariant.ending none).1
