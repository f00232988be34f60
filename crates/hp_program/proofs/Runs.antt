-- A run of a machine, from the run of one that starts as it.
use Rattle.std.proofs.Common.{◌≡◌, ◌≤◌, ℕ, Bool, true, false, List, arith, subst, Option, Some, None, Result, Ok, Err, OnOk, IfErr, IfSome}
use Rattle.std.specs.Io.KnownBytes.{Consumes}
use Rattle.hp_model.proofs.Words.{AnswersInput, IsMemoryOrTooLong, IsPromisedStep, Serves, State}
use Rattle.hp_serving.specs.Ended as serving
use Rattle.hp_serving.specs.declared.sessions.Ended.{Ended}
use Rattle.hp_serving.specs.declared.sessions.Ended.TheVariants.{Printed, Unprinted, Failed}
use Rattle.hp_model.specs.declared.fault.RunFault.{RunFault}
use Rattle.hp_program.specs.Program.{AnswersScript, Run, status_of_run}

-- the machine ran
pub run_ended : (s t machine : State) (r0 r1 w0 w1 : Option (List ℕ)) (result : Result ℕ RunFault) (reads writes : Type 0) → s ≡ machine
    → (input : List ℕ) × Consumes r0 r1 input × Serves IsPromisedStep s.page_size s t w0 w1 input result
    → (reads → writes → IfErr result IsMemoryOrTooLong)
    → Run machine r0 r1 (reads × writes) w0 w1 result
run_ended s t machine r0 r1 w0 w1 result reads writes same served never = record {
  input = served.0;
  then = t;
  consumed = served.1;
  served = subst (λ (u : State). Serves IsPromisedStep u.page_size u t w0 w1 served.0 result) same served.2;
  never = λ h. never h.0 h.1;
}

-- the machine answered a script that is known
pub script_answered : (s t machine : State) (r0 w0 w1 : Option (List ℕ)) (result : Result ℕ RunFault) → s ≡ machine
    → IfSome r0 (λ input. OnOk result (AnswersInput IsPromisedStep s.page_size input s t w0 w1))
    → OnOk result (IfSome r0 (λ script. AnswersScript machine script w0 w1))
script_answered s t machine r0 w0 w1 (Err e) same h = tt
script_answered s t machine None w0 w1 (Ok n) same h = tt
script_answered s t machine (Some xs) w0 w1 (Ok n) same h = (t, subst (λ (u : State). AnswersInput IsPromisedStep u.page_size xs u t w0 w1) same h)

-- a run that ended well answered the script
pub answered_well : (machine : State) (r0 w0 w1 : Option (List ℕ)) (ended : Result ℕ RunFault) (status : ℕ) → status ≡ status_of_run ended
    → OnOk ended (IfSome r0 (λ script. AnswersScript machine script w0 w1)) → status ≡ 0 → IfSome r0 (λ script. AnswersScript machine script w0 w1)
answered_well machine r0 w0 w1 (Ok n) status same h zero = h
answered_well machine r0 w0 w1 (Err e) status same h zero = absurd (omega (arith, same, zero))

-- and so did a machine that is the same
pub answered_as : (machine other : State) (r0 w0 w1 : Option (List ℕ)) → machine ≡ other → IfSome r0 (λ script. AnswersScript machine script w0 w1)
    → IfSome r0 (λ script. AnswersScript other script w0 w1)
answered_as machine other r0 w0 w1 same h = subst (λ (m : State). IfSome r0 (λ script. AnswersScript m script w0 w1)) same h

-- a run ends with status 0 or 1
pub ends_below_2 : (ended : Result ℕ RunFault) (status : ℕ) → status ≡ status_of_run ended → status ≡ 2 → ⊥
ends_below_2 (Ok n) status same two = omega (arith, same, two)
ends_below_2 (Err e) status same two = omega (arith, same, two)

pub ran_as : {machine other : State} {r0 r1 w0 w1 : Option (List ℕ)} {sure : Type 0} {ended : Result ℕ RunFault} → machine ≡ other
    → Run machine r0 r1 sure w0 w1 ended → Run other r0 r1 sure w0 w1 ended
ran_as {r0 = r0} {r1 = r1} {w0 = w0} {w1 = w1} {sure = sure} {ended = ended} same h = subst (λ (m : State). Run m r0 r1 sure w0 w1 ended) same h

after_not_2 : (audit : Option Bool) (other status : ℕ) → other ≤ 1 → status ≡ serving.status_after audit other → status ≡ 2 → ⊥
after_not_2 None other status few same two = omega (arith, few, same, two)
after_not_2 (Some true) other status few same two = omega (arith, few, same, two)
after_not_2 (Some false) other status few same two = omega (arith, same, two)

-- sessions that were served end with status 0, 1 or 3
pub served_not_2 : (ended : Ended) (status : ℕ) → status ≡ serving.status_of ended → status ≡ 2 → ⊥
served_not_2 (Printed closed) status same two = after_not_2 closed.audit 0 status (omega arith) same two
served_not_2 (Unprinted closed) status same two = after_not_2 closed.audit 1 status (omega arith) same two
served_not_2 (Failed fault) status same two = omega (arith, same, two)
