-- Tests that the pool's numbers after a section are the sums over the mounts, and that the rows add up.
use Rattle.std.proofs.Common.{ℕ, ◌-◌, Bool, true, false, ◌&&◌, ◌==◌, nat_eq, nat_le, List, [], ◌∷◌, max, length, flat_map, filter_map, Option, None, Some, Ok, Err}
use Rattle.std.specs.List.{list_all, starts_with}
use Rattle.hp_model.proofs.Words.{Answer_with, Ask, Do, Finish, Line, Plan, Pool, Reply, Script, State, Where_mapped, has_maps_of, lines, plain_choice, plain_event, plain_step, planned, pool_of}
use Rattle.hp_model.proofs.Words.{script, section, slot_at, slot_event, step_of, surp_of, total_of, used_pages}
use Rattle.hp_laws.proofs.Variants.{Event, NodeRow, Pool as OnPool, Slot as OnSlot, Step, Tasks}
use Rattle.hp_model.specs.pool.PoolCounts.{used}

abbrev row_numbers : NodeRow → List ℕ
row_numbers r = r.frames ∷ r.total ∷ r.free ∷ r.surp ∷ []

abbrev pool_numbers : Pool → List ℕ
pool_numbers p = p.nr ∷ p.overcommit ∷ p.committed ∷ p.nodes.growth ∷ p.nodes.release ∷ flat_map row_numbers p.nodes.rows

abbrev same_pool : Pool → Pool → Bool
same_pool p q = starts_with nat_eq (pool_numbers p) (pool_numbers q) && (length (pool_numbers p) == length (pool_numbers q))

abbrev plan_agrees : State → ℕ → Plan → Bool
plan_agrees s k (Finish o) = same_pool (pool_of s) (pool_of (planned s k (Finish o)).1)
plan_agrees s k (Ask sec f) = same_pool (section (pool_of s) (sec s.nr)).1 (pool_of (planned s k (Ask sec f)).1)

abbrev event_agrees : State → Event → Bool
event_agrees s (Tasks e) = true
event_agrees s (OnSlot k e) = plan_agrees s k (slot_event s.page_size k (plain_choice s (OnSlot k e)) (slot_at s k) e)
event_agrees s (OnPool e) = true

abbrev is_row : NodeRow → Bool
is_row r = nat_le r.total r.frames && nat_le r.free r.total && nat_le r.surp r.total

abbrev rows_add_up : State → Bool
rows_add_up s =
    let p : Pool = pool_of s in
    (total_of p.nodes.rows == max s.nr p.committed) && (surp_of p.nodes.rows == (max s.nr p.committed - s.nr)) && nat_le (used p) p.committed
    && (used p == used_pages s) && list_all is_row p.nodes.rows

abbrev script_agrees : Script → State → Bool
script_agrees (Answer_with r) s = rows_add_up s
script_agrees (Do e next) s = event_agrees s e && (let q : Reply × State = plain_event s e in script_agrees (next q.0) q.1)
script_agrees (Where_mapped k task mapped other) s = elim (has_maps_of task (slot_at s k)) [ true ↦ script_agrees mapped s | false ↦ script_agrees other s ]

abbrev pub run_agrees : State → List Step → Bool
run_agrees s [] = true
run_agrees s (step ∷ steps) = script_agrees (script (length s.slots) step) s && run_agrees (plain_step s step).1 steps

-- the steps of the lines that are steps
abbrev step_in : Line → Option Step
step_in line = elim (step_of line) [ Ok step ↦ Some step | Err refusal ↦ None ]

abbrev pub text_agrees : State → List ℕ → Bool
text_agrees s input = run_agrees s (filter_map step_in (lines input))
