use Rattle.std.proofs.Common.{◌≡◌, ◌∙◌, ℕ, List, ap, arith}
use denote.Param.Send.{sendable}
use Rattle.hp_locked.specs.Views.{frames_list}
use Rattle.hp_model.proofs.Words.{start}
use Rattle.hp_shared.proofs.Crossing.{shared_sync}
use Rattle.hp_shared.proofs.Opened.{frames_named}
use Rattle.hp_shared.specs.Sharing.{SharedView}
use Rattle.hugetlbd.proofs.Serving.{as_asked, ended_by, leaves}
use Rattle.hp_words.specs.Config.{choice_of, chosen}
use Rattle.hugetlbd.proofs.over_tcp.serve_on.Goals as goal

pub returns : goal.returns
returns g c =
    let e = c.serve_sessions.ensures in
    let fs = c.args.machine.now.frames.items in
    let limits = c.requires.limits.frames in
    let some = limits.0 in
    let named : frames_list g.N.Naming.frames ≡ fs = frames_named g.N.Naming.frames fs (omega (arith, some)) limits.1 (λ k d below. (limits.2 k d below).0) c.requires.frames in
    let same : start (frames_list g.N.Naming.frames) c.in-Ok.shared.page_size c.in-Ok.shared.slots ≡ chosen (choice_of c.args.machine.now) =
    ap (λ (xs : List ℕ). start xs c.in-Ok.shared.page_size c.in-Ok.shared.slots) named ∙ ap (λ (s : SharedView). start fs s.page_size s.slots) c.in-Ok.ensures in
    record {
      ended = e.0;
      leaves = leaves _ _ _ _ _ e.0
          (ended_by (choice_of c.args.machine.now) c.args.serving _ _ _ _ _ _ _ _ _ c.requires.keeps c.requires.bytes)
          (as_asked (choice_of c.args.machine.now) c.args.serving _ _ same c.requires.keeps) e.1;
      ends = e.2;
      prints = e.3;
      says = e.4;
    }

pub serve_sessions-requires-sync-M : goal.serve_sessions-requires-sync-M
serve_sessions-requires-sync-M g c κs within = search (sendable, shared_sync) depth 40
