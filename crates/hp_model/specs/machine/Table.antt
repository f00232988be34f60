-- The task table: tasks in order of adding, each with its home node.
use Rattle.std.specs.Prelude.{ℕ, ◌==◌, Bool, not, Option, None, Some, is_some, Ok, Err, List, [], ◌∷◌, ◌++◌, length, if◌then◌else◌, nat_le}
use Rattle.std.specs.List.{filter, find}
use Rattle.std.specs.Option.{option_map}
use Rattle.hp_model.specs.declared.answer.Answer.TheVariants.{Done, Home}
use Rattle.hp_model.specs.declared.refusal.Refusal.{Refusal}
use Rattle.hp_model.specs.declared.refusal.Refusal.TheVariants.{NoSuchTask, TaskExists, NoSuchNode, TooMany}
use Rattle.hp_model.specs.declared.event.TableEvent.{TableEvent}
use Rattle.hp_model.specs.declared.event.TableEvent.TheVariants.{Add, Find, FindAndAdd, Remove}
use Rattle.hp_model.specs.machine.Plan.{Reply}
use Rattle.hp_model.specs.Profile.{most_tasks}

abbrev pub Table : Type 0
Table = List (ℕ × ℕ)

abbrev pub home_of : Table → ℕ → Option ℕ
home_of table task = option_map (λ e. e.1) (find (λ e. e.0 == task) table)

abbrev pub added : Table → (task home : ℕ) → Table
added table task home = table ++ (task, home) ∷ []

abbrev pub removed : Table → (task : ℕ) → Table
removed table task = filter (λ e. not (e.0 == task)) table

-- the first refusal whose test holds, or else the answer and the table after it
abbrev pub or_refused : List (Bool × Refusal) → Table → Reply × Table → Reply × Table
or_refused [] table after = after
or_refused (t ∷ ts) table after = if t.0 then (Err t.1, table) else or_refused ts table after

abbrev pub is_known : Table → ℕ → Bool
is_known table task = is_some (home_of table task)

abbrev pub is_crowded : Table → Bool
is_crowded table = nat_le most_tasks (length table)

abbrev pub when_known : Table → Option ℕ → (ℕ → Reply × Table) → Reply × Table
when_known table None f = (Err NoSuchTask, table)
when_known table (Some home) f = f home

abbrev pub table_event : (nodes : ℕ) → Table → TableEvent → Reply × Table
table_event nodes table (Add task home) =
    or_refused ((nat_le nodes home, NoSuchNode) ∷ (is_known table task, TaskExists) ∷ (is_crowded table, TooMany) ∷ []) table
    (Ok Done, added table task home)
table_event nodes table (Find task) = when_known table (home_of table task) (λ home. (Ok (Home home), table))
table_event nodes table (FindAndAdd parent child) =
    when_known table (home_of table parent)
    (λ home. or_refused ((is_known table child, TaskExists) ∷ (is_crowded table, TooMany) ∷ []) table (Ok Done, added table child home))
table_event nodes table (Remove task) = when_known table (home_of table task) (λ home. (Ok Done, removed table task))
