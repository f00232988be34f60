-- What is kept of a trail, with one entry more, is that trail with it.
use Rattle.std.proofs.Common.{List, [], ◌∷◌, ◌++◌, Option, None, Some, ap}
use Rattle.hp_locked.specs.Views.{IsTrailOf}
use Rattle.hp_trail.specs.Keeping.{with_entry}

pub kept_more : {E : Type 0} (o : Option (List E)) (es : List E) (e : E) → IsTrailOf es o → IsTrailOf (es ++ e ∷ []) (with_entry o e)
kept_more None es e is = tt
kept_more (Some xs) es e is = ap (λ ys. ys ++ e ∷ []) is
