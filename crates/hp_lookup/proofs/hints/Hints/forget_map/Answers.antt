use Rattle.std.proofs.Common.{subst}
use Rattle.hp_lookup.proofs.Words.{IsMoreButMap, Noted, names_of}
use Rattle.hp_lookup.proofs.Notes.{noted_less}
use Rattle.hp_lookup.proofs.hints.Hints.forget_map.Goals as goal

pub returns : goal.returns
returns c =
    subst (λ (n : Noted). IsMoreButMap c.args.task c.args.number n (record { names = names_of c.self.inside.files.entries; table = c.forget.new.self })) c.self.view_is
    (noted_less (names_of c.self.inside.files.entries) c.self.inside.maps c.forget.new.self c.args.task c.args.number c.forget.ensures)
