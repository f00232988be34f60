-- Runs by steps of any kind.
use Rattle.std.proofs.Common.{arith, List, [], ◌∷◌, ◌++◌, refl, sym, subst}
use Rattle.hp_laws.proofs.Variants.{Step}
use Rattle.hp_model.proofs.Words.{Reply, RunsBy, State}

-- a run goes on by one step
pub run_more : (R : State → Step → Reply → State → Type 0) (s mid t : State) (steps : List Step) (replies : List Reply) (step : Step) (reply : Reply)
    → RunsBy R s steps replies mid → R mid step reply t → RunsBy R s (steps ++ step ∷ []) (replies ++ reply ∷ []) t
run_more R s mid t [] [] step reply run next = (t, subst (λ x. R x step reply t) (sym run) next, refl)
run_more R s mid t (x ∷ xs) (r ∷ rs) step reply run next = (run.0, run.1, run_more R run.0 mid t xs rs step reply run.2 next)
run_more R s mid t steps replies step reply run next = grind arith
