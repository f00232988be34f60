use Rattle.std.proofs.lemmas.Grind.{common_steps}
use Rattle.std.proofs.Common.{◌≡◌, ℕ, List, [], Ok, Err, OnOk, Result, cond, get_or, slice_set, arith, refl, subst, sym, ap, ◌∙◌, eq-eqb}
use Rattle.hp_lookup.specs.Table.{IsGap, IsMoreBy, IsPlace, TaskNumbers, numbers_at, numbers_under}
use Rattle.hp_lookup.proofs.Tables.{no_numbers, noted_set}
use Rattle.hp_lookup.proofs.map_table.MapTable.note.Goals as goal

on_ok : {P Q X E : Type 0} (r : Result X E) → (P → Q) → OnOk r P → OnOk r Q
on_ok (Ok x) through p = through p
on_ok (Err e) through p = tt

pub returns-in-Ok-clause-ok : goal.returns-in-Ok-clause-ok
returns-in-Ok-clause-ok c =
    let s = c.self.inside in
    let place = subst (λ (ys : List ℕ). IsPlace ys c.args.task c.in-Ok.at) c.deref.ensures.value c.in-Ok.ensures.ok in
    let had : c.index_mut.result.now ≡ get_or s.maps.items c.in-Ok.at [] = grind (arith, common_steps) in
    on_ok c.note.result (λ (more : IsMoreBy c.args.number c.index_mut.result.now c.note.new.self).
    (let noted = noted_set s.tasks.items s.maps.items c.self.invariant c.args.task c.in-Ok.at place c.args.number 0 0 c.note.new.self
    (subst (λ (ns : List ℕ). IsMoreBy c.args.number ns c.note.new.self) had more) in
    record {
      others = λ t other. noted.others t other ∙ ap (λ (v : TaskNumbers). numbers_at t v) c.self.view_is;
      own = subst (λ (ns : List ℕ). IsMoreBy c.args.number ns (numbers_under c.args.task s.tasks.items (slice_set s.maps.items c.in-Ok.at c.note.new.self)))
          (ap (λ (v : TaskNumbers). numbers_at c.args.task v) c.self.view_is) noted.own;
    })) c.note.ensures.ok

pub returns-in_ok-note-in-Err-clause-ok : goal.returns-in_ok-note-in-Err-clause-ok
returns-in_ok-note-in-Err-clause-ok c =
    let s = c.self.inside in
    let task = c.args.task in
    let gap = subst (λ (ys : List ℕ). IsGap ys task c.in-Err.at) c.deref.ensures.value c.in-Err.ensures.err in
    let none : numbers_at task c.args.self.now ≡ [] =
    subst (λ (v : TaskNumbers). numbers_at task v ≡ []) c.self.view_is (no_numbers s.tasks.items s.maps.items c.self.invariant task c.in-Err.at gap) in
    let own : numbers_at task c.insert.new.self ≡ c.note-in-Err.new.self =
    c.insert.ensures task ∙ ap (λ b. cond b c.note-in-Err.new.self (numbers_at task c.make_room.new.self)) (eq-eqb task task refl) in
    record {
      others = λ t other. c.insert.ensures t ∙ ap (λ b. cond b c.note-in-Err.new.self (numbers_at t c.make_room.new.self)) other
          ∙ ap (λ (ts : List ℕ). numbers_under t ts c.make_room.new.self.maps) c.make_room.ensures.tasks
          ∙ ap (numbers_under t c.args.self.now.tasks) c.make_room.ensures.maps;
      own = subst (λ (ns : List ℕ). IsMoreBy c.args.number ns (numbers_at task c.insert.new.self)) (sym none)
          (subst (λ (ns : List ℕ). IsMoreBy c.args.number [] ns) (sym own)
          (subst (λ (ns : List ℕ). IsMoreBy c.args.number ns c.note-in-Err.new.self) c.new-maps.ensures c.in_ok-note-in-Err.ensures.ok));
    }
