-- The table's trail keeps its fact with one entry more.
use Rattle.std.proofs.Common.{◌≡◌, ℕ, ◌≤◌, ◌||◌, Bool, true, false, List, [], ◌∷◌, ◌++◌, Option, None, Some, length, refl, sym, ap, subst, arith}
use Rattle.hp_laws.proofs.Variants.{TableEntry, TableEvent}
use Rattle.hp_model.proofs.Words.{IsTableRun, KeepsPlaces, Reply, Table, most_tasks, removes_task, table_event, to_remove}
use Rattle.hp_laws.proofs.settled.Closing.{table_places}
use Rattle.hp_history.proofs.Folds.{run_table}
use Rattle.hp_history.proofs.Steps.{table_step, table_turns}
use Rattle.hp_history.specs.declared.held.Held.{Held}
use Rattle.hp_history.specs.declared.held.Held.TheVariants.{Tasks}
use Rattle.hp_history.specs.declared.law.Change.{Change}
use Rattle.hp_history.specs.declared.law.Shape.{Shape}
use Rattle.hp_history.specs.History.{IsChange, IsSeatStep, Turns, Whole, number_in, receipts_in}
use Rattle.hp_history.specs.Sections.{session_view}
use Rattle.hp_locked.specs.Views.{HasPlaces, IsNewTrail, IsTrailOf}
use Rattle.hp_trail.specs.Keeping.{has_room, one_less, with_entry}
use Rattle.hp_shared.specs.Tables.{IsLockedTable, IsNext, table_entry, table_item, table_over}
use Rattle.hp_shared.proofs.Kept.{kept_more}
use Rattle.hp_shared.proofs.Places.{has_closing, places_after, room_closing}

pub fresh_table : (nodes : ℕ) (o : Option (List TableEntry)) (left : Option ℕ) (extra : ℕ) (t : Table) → t ≡ [] → IsNewTrail o → most_tasks ≤ extra → IsLockedTable nodes [] o left extra t
fresh_table nodes o left extra t is fresh enough = record {
  ends = sym is;
  kept = nothing o fresh;
  few = (let none = ap length is in omega (arith, none));
  enough = enough;
  places = room left (ap length is);
}
  where
    nothing : (o : Option (List TableEntry)) → IsNewTrail o → IsTrailOf [] o
    nothing None fresh = tt
    nothing (Some es) fresh = fresh

    room : (l : Option ℕ) → length t ≡ 0 → HasPlaces l (length t)
    room None e = tt
    room (Some n) e = omega (arith, e)

table_push : (nodes : ℕ) (t : Table) (es : List TableEntry) (m : Table) (e : TableEntry) (q : Table) → IsTableRun nodes t es m →
    table_event nodes m e.event ≡ (e.reply, q) → IsTableRun nodes t (es ++ e ∷ []) q
table_push nodes t [] m e q run step = (q, subst (λ (x : Table). table_event nodes x e.event ≡ (e.reply, q)) (sym run) step, refl)
table_push nodes t (x ∷ es) m e q run step = (run.0, run.1, table_push nodes run.0 es m e q run.2 step)

-- the step of the order by which an event of the table is told
pub told_step : (sh : Shape) (es : List TableEntry) (e : TableEvent) (r : Reply) (change : Change) (w v : List Held) → v ≡ Tasks es ∷ session_view w ∷ []
    → IsNext sh.nodes es e r change → (f : Whole → Whole) × IsSeatStep sh f v (table_over e r v) × ((t : Table) × (u : Table) × IsChange t u change × Turns sh f v t u)
told_step sh es e r change w v is (t, u, run, does, changes) =
    subst (λ x. (f : Whole → Whole) × IsSeatStep sh f x (table_over e r x) × ((t : Table) × (u : Table) × IsChange t u change × Turns sh f x t u)) (sym is) (
      _,
      table_step sh (number_in w) es (receipts_in w) (table_entry e r) (table_item e r (length es) (number_in w)) refl,
      (
        t,
        u,
        changes,
        table_turns sh es (session_view w ∷ []) (table_entry e r) (table_item e r (length es) (number_in w)) refl t u (run_table sh.nodes [] es t run)
            (ap (λ (x : Reply × Table). x.1) does),
      ),
    )

module _ (nodes : ℕ) (es : List TableEntry) (o : Option (List TableEntry)) (left : Option ℕ) (extra : ℕ) (t : Table) (e : TableEvent) (reply : Reply) (q : Table)
    (was : IsLockedTable nodes es o left extra t) (step : table_event nodes t e ≡ (reply, q)) where
  keeps : KeepsPlaces most_tasks (to_remove t) (to_remove q) (removes_task t e)
  keeps = subst (λ (x : Reply × Table). KeepsPlaces most_tasks (to_remove t) (to_remove x.1) (removes_task t e)) step (table_places nodes t e was.few)

  pub table_noted : (o2 : Option (List TableEntry)) (left2 : Option ℕ) (extra2 : ℕ) → o2 ≡ with_entry o (table_entry e reply) →
      left2 ≡ one_less left → extra2 ≡ extra → (removes_task t e ≡ false → has_room false left extra ≡ true)
      → IsLockedTable nodes (es ++ table_entry e reply ∷ []) o2 left2 extra2 q
  table_noted o2 left2 extra2 noted lessens stays room = record {
    ends = table_push nodes [] es t (table_entry e reply) q was.ends step;
    kept = subst (IsTrailOf (es ++ table_entry e reply ∷ [])) (sym noted) (kept_more o es (table_entry e reply) was.kept);
    few = keeps.enough;
    enough = (let enough = was.enough in omega (arith, enough, stays));
    places = subst (λ (x : Option ℕ). HasPlaces x (to_remove q)) (sym lessens) (places_after most_tasks (to_remove t) (to_remove q) extra (removes_task t e) left keeps was.enough was.places room);
  }

  pub closing_room : (removes_task t e || has_room false left extra) ≡ true → has_room true left extra ≡ true
  closing_room may = by (removes_task t e) keeps may
    where
      by : (b : Bool) → KeepsPlaces most_tasks (to_remove t) (to_remove q) b → (b || has_room false left extra) ≡ true → has_room true left extra ≡ true
      by true k m = has_closing most_tasks (to_remove t) (to_remove q) extra left k was.places
      by false k m = room_closing left extra m
