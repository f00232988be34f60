use Rattle.std.proofs.Common.{subst, refl}
use Rattle.hp_lookup.proofs.Words.{IsMoreButMapsOf, Noted, names_of}
use Rattle.hp_lookup.proofs.hints.Hints.forget_maps_of.Goals as goal

pub returns : goal.returns
returns c =
    subst (λ (n : Noted). IsMoreButMapsOf c.args.task n (record { names = names_of c.self.inside.files.entries; table = c.forget_task.new.self })) c.self.view_is
    (record { names = λ name. refl; numbers = c.forget_task.ensures.with; room = c.forget_task.ensures.room })
