-- What a plan always comes to, an event that went came to.
use Rattle.std.proofs.Common.{Option, None, Some}
use Rattle.hp_laws.proofs.Variants.{Asked}
use Rattle.hp_model.proofs.Words.{Ask, Finish, Gives, Goes, Outcome, Plan, Reply, Slot}
use Rattle.hp_laws.specs.Balance.{Always}

-- the outcome that an event came to
pub always_came : (P : Outcome → Type 0) (p : Plan) (asked : Option Asked) (old : Slot) (reply : Reply) (new : Slot) → Always P p →
    Goes p asked old reply new → (o : Outcome) × P o × Gives o old reply new
always_came P (Finish o) None old reply new h g = (o, h, g)
always_came P (Finish o) (Some a) old reply new h g = absurd g
always_came P (Ask sec f) None old reply new h g = absurd g
always_came P (Ask sec f) (Some a) old reply new h g = (f a.answer, h a.answer, g.1)
