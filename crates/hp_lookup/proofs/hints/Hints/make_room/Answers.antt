use Rattle.std.proofs.Common.{subst, ap, ◌∙◌}
use Rattle.hp_lookup.specs.Table.{numbers_under}
use Rattle.hp_lookup.proofs.Words.{AreSame, Noted, names_of}
use Rattle.hp_lookup.proofs.Notes.{same_noted}
use Rattle.hp_lookup.proofs.hints.Hints.make_room.Goals as goal

pub returns-clause-same : goal.returns-clause-same
returns-clause-same c =
    subst (λ (n : Noted). AreSame n (record { names = names_of c.self.inside.files.entries; table = c.make_room.new.self })) c.self.view_is
    (same_noted (names_of c.self.inside.files.entries) c.self.inside.maps c.make_room.new.self
    (λ t. ap (λ ts. numbers_under t ts c.make_room.new.self.maps) c.make_room.ensures.tasks ∙ ap (numbers_under t c.self.inside.maps.tasks) c.make_room.ensures.maps))
