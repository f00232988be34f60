use Rattle.std.proofs.lemmas.Grind.{common_steps}
use Rattle.std.proofs.Common.{◌∙◌, length, ap, arith}
use Rattle.hp_mapping.proofs.Chunked.{all_forked, chunked_forked}
use Rattle.hp_mapping.proofs.sparse.Sparse.forked.Goals as goal

pub invariant_of-result : goal.invariant_of-result
invariant_of-result c =
    let s = c.self.inside in
    let homes = c.in_ok-homes.ensures.items ∙ c.deref-2.ensures.value in
    let places = c.in_ok-places.ensures.items in
    let same = ap length homes in (
      rw (homes, places, c.deref.ensures.value) (chunked_forked s.homes.items s.places.items c.self.invariant.0),
      omega
          (arith, same, c.in_ok-places.ensures.room, c.len.ensures),
      omega (arith, same, c.self.invariant.2),
      omega (arith, same, c.self.invariant.3),
    )

pub returns : goal.returns
returns c = grind (arith, common_steps, all_forked)
