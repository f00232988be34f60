use Rattle.hp_mapping.proofs.Untouched.{forked_fresh}
use Rattle.hp_mapping.proofs.dense.Dense.forked.Goals as goal

pub returns : goal.returns
returns c = rw (c.in_ok-touched.ensures.items, c.deref.ensures.value, ← c.self.view_is) (forked_fresh c.self.inside.count c.self.inside.touched.items)
