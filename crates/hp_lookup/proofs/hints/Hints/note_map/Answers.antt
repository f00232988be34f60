use Rattle.std.proofs.Common.{OnErr, OnOk, Ok, Err, Result, subst}
use Rattle.hp_lookup.proofs.Words.{AreSame, IsMoreByMap, Noted, names_of}
use Rattle.hp_lookup.proofs.Notes.{noted_more, same_noted}
use Rattle.hp_lookup.proofs.hints.Hints.note_map.Goals as goal

pub returns-clause-ok : goal.returns-clause-ok
returns-clause-ok c =
    subst (λ (n : Noted). OnOk c.note.result (IsMoreByMap c.args.task c.args.number n (record { names = names_of c.self.inside.files.entries; table = c.note.new.self }))) c.self.view_is
    (on_ok c.note.result (noted_more (names_of c.self.inside.files.entries) c.self.inside.maps c.note.new.self c.args.task c.args.number) c.note.ensures.ok)
  where
    on_ok : {P Q X E : Type 0} (r : Result X E) → (P → Q) → OnOk r P → OnOk r Q
    on_ok (Ok x) through p = through p
    on_ok (Err e) through p = tt

pub returns-clause-err : goal.returns-clause-err
returns-clause-err c =
    subst (λ (n : Noted). OnErr c.note.result (AreSame n (record { names = names_of c.self.inside.files.entries; table = c.note.new.self }))) c.self.view_is
    (on_err c.note.result (same_noted (names_of c.self.inside.files.entries) c.self.inside.maps c.note.new.self) c.note.ensures.err)
  where
    on_err : {P Q X E : Type 0} (r : Result X E) → (P → Q) → OnErr r P → OnErr r Q
    on_err (Ok x) through p = tt
    on_err (Err e) through p = through p
