-- The task table by itself: a run of its events.
use Rattle.std.specs.Prelude.{◌≡◌, ℕ, List, [], ◌∷◌}
use Rattle.hp_model.specs.declared.entry.TableEntry.{TableEntry}
use Rattle.hp_model.specs.machine.Table.{Table, table_event}

abbrev pub IsTableRun : (nodes : ℕ) → Table → List TableEntry → Table → Type 0
IsTableRun nodes old [] new = old ≡ new
IsTableRun nodes old (e ∷ es) new =
    (mid : Table) × (table_event nodes old e.event ≡ (e.reply, mid)) × IsTableRun nodes mid es new
