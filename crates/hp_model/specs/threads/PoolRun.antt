-- The pool by itself: a run of sections, and of events of the pool alone.
use Rattle.std.specs.Prelude.{◌≡◌, List, [], ◌∷◌}
use Rattle.hp_model.specs.declared.entry.PoolEntry.{PoolEntry}
use Rattle.hp_model.specs.declared.entry.PoolEntry.TheVariants.{OfSlot, OfPool}
use Rattle.hp_model.specs.pool.Pool.{section}
use Rattle.hp_model.specs.pool.PoolCounts.{Pool}
use Rattle.hp_model.specs.pool.Resize.{pool_event}

abbrev pub IsPoolStep : Pool → PoolEntry → Pool → Type 0
IsPoolStep p (OfSlot s a) q = section p s ≡ (a, q)
IsPoolStep p (OfPool e r) q = pool_event p e ≡ (r, q)

abbrev pub IsPoolRun : Pool → List PoolEntry → Pool → Type 0
IsPoolRun p [] q = p ≡ q
IsPoolRun p (e ∷ es) q = (mid : Pool) × IsPoolStep p e mid × IsPoolRun mid es q
