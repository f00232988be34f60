-- What a door notes of its event, and what it has of the history.
use Rattle.std.specs.Prelude.{◌≡◌, [], ℕ, Bool, true, Option, None, Some, List, is_some}
use Rattle.atomic_table.specs.Seated.{TableId}
use Rattle.hp_history.specs.declared.held.Held.{Held}
use Rattle.hp_history.specs.Sections.{IsFree, asked_in}
use Rattle.hp_model.specs.declared.entry.Asked.{Asked}

-- whether a section was entered, and where sections are noted which
pub record NotedView : Type 0 where
  pub is_entered : Bool
  pub section : Option Asked

-- the section that is noted once this one was entered, if one was
abbrev pub later : Option Asked → Option Asked → Option Asked
later None before = before
later (Some a) before = Some a

-- a door's seat has a slot and a session, and is busy with the section that was entered, if one was, which is noted where entries are kept
pub record IsDoor (history : TableId) (keeps notes : Bool) (id : TableId) (me : List Held × List (ℕ × Unit {0})) (n : NotedView) : Type 0 where
  pub fits : keeps ≡ true → notes ≡ true
  pub named : id ≡ history
  pub alone : me.1 ≡ []
  pub free : asked_in me.0 ≡ None → IsFree me.0
  pub entered : n.is_entered ≡ is_some (asked_in me.0)
  pub noted : keeps ≡ true → n.section ≡ asked_in me.0
