use Rattle.std.proofs.Common.{◌≡◌, ◌==◌, true, Option, List, Ok, sym, ap, subst, ◌∙◌, IfSome, is_some}
use Rattle.hp_locked.specs.Views.{frames_list}
use Rattle.hp_laws.proofs.Variants.{Receipt}
use Rattle.hp_model.proofs.Words.{start}
use Rattle.hp_trail.specs.Audit.{Disagree, IsJointList}
use Rattle.hp_shared.specs.Sharing.{EndsRuns, entries_of}
use Rattle.hp_shared.specs.declared.shared.Trails.{Trails}
use Rattle.hp_closing.proofs.Ready.{joined_ready}
use Rattle.hp_closing.proofs.Whole.{never_differ, one_run, run_ready}
use Rattle.hp_closing.specs.OneRun.{all_told}
use Rattle.hp_closing.proofs.closing.close.Goals as goal

pub returns-clause-run : goal.returns-clause-run
returns-clause-run g c = λ whole.
    let join = c.all_join-is_whole.ensures in
    let system = c.into_system-system in
    let fs = frames_list g.N.Naming.frames in
    let h = system.ensures.ends (join.in_order whole) in
    let run =
    one_run (g.row.K == 1) fs c.args.shared.page_size c.args.shared.slots g.N.Places.shape system.result.0 system.result.1 system.result.2.sessions
    system.result.2.seat.me.0 c.args.sessions.items system.ensures.shape h (join.count whole) (join.joined whole) c.histories_are_one.ensures system.ensures.settled in
    record {
      machine = system.result.0;
      run = run;
      free =
          c.close-counts.ensures.free (run_ready (g.row.K == 1) fs c.args.shared.page_size c.args.shared.slots g.N.Places.shape system.result.0 system.result.1
          system.result.2.sessions system.result.2.seat.me.0 c.args.sessions.items system.ensures.shape h (join.count whole) (join.joined whole) run);
    }

pub returns-clause-agrees : goal.returns-clause-agrees
returns-clause-agrees g c = λ whole differs.
    let join = c.all_join-is_whole.ensures in
    let system = c.into_system-system in
    let kept : (g.row.K == 1) ≡ true = sym (sym (ap is_some differs) ∙ c.in_ok-audit.ensures.kept) in
    let differ = c.is_joined.ensures.differ (c.in_ok-audit.was ∙ ap Ok differs) in
    never_differ (g.row.K == 1) (frames_list g.N.Naming.frames) c.args.shared.page_size c.args.shared.slots g.N.Places.shape system.result.0 system.result.1
    system.result.2.sessions system.result.2.seat.me.0 c.args.sessions.items system.ensures.shape (system.ensures.ends (join.in_order whole)) (join.count whole) (join.joined whole)
    c.histories_agree.ensures kept
    (subst (λ (all : List (List Receipt)). IfSome system.result.1 (λ t. Disagree (entries_of t) all)) (join.told kept) differ)

pub returns-clause-joined : goal.returns-clause-joined
returns-clause-joined g c = λ ok.
    let from = start (frames_list g.N.Naming.frames) c.args.shared.page_size c.args.shared.slots in
    let system = c.into_system-system in
    let told = all_told c.args.sessions.items in
    let kept : (g.row.K == 1) ≡ true = sym (sym (ap is_some ok) ∙ c.in_ok-audit.ensures.kept) in
    let joined = c.is_joined.ensures.joined (c.in_ok-audit.was ∙ ap Ok ok) in
    let joint : IsJointList (entries_of joined.given) told joined.events =
    subst (λ (all : List (List Receipt)). IsJointList (entries_of joined.given) all joined.events) (c.all_join-is_whole.ensures.told kept) joined.joint in
    let ends : EndsRuns from (entries_of joined.given) system.result.0 =
    subst (λ (x : Option Trails). IfSome x (λ t. EndsRuns from (entries_of t) system.result.0)) joined.are system.ensures.runs in
    let ready = joined_ready from (entries_of joined.given) told joined.events system.result.0 system.ensures.settled ends joint in
    record {
      trails = entries_of joined.given;
      events = joined.events;
      machine = system.result.0;
      ends = ends;
      joint = joint;
      free = c.close-counts.ensures.free ready;
    }
