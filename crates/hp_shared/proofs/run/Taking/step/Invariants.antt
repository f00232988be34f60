use Rattle.std.proofs.Common.{◌+◌, Ok}
use Rattle.hp_laws.proofs.Variants.{Done}
use Rattle.hp_shared.specs.Runs.{fault_in_run, faults_of}
use Rattle.hp_shared.proofs.run.Taking.step.Given as goal

-- the fault that this index is of, which is done
abbrev pub ghosts-leave : goal.ghosts-leave
ghosts-leave g a =
    let access = a.told.0.now in
    record { event = fault_in_run (faults_of 0 access a.told.1) a.told.2 (access.index + a.told.3); reply = Ok Done }
