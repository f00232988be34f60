use Rattle.std.proofs.Common.{◌<◌, ℕ, List, length, sym, ◌∙◌}
use Rattle.hp_lookup.proofs.Words.{file_at}
use Rattle.hp_mount_files.proofs.Lent.{shared_lent}
use Rattle.hp_mount.specs.Running.{AreReserved}
use Rattle.hp_mount.proofs.Here.{file_here}
use Rattle.hp_mount.proofs.Running.{fewer_reserved, run_faulted, run_kept}
use Rattle.hp_mount.proofs.mount.Mount.fault_run.Given.{Over}
use Rattle.hp_mount.proofs.mount.Mount.fault_run.Goals as goal
use Rattle.hp_mount.proofs.mount.Mount.fault_run.Goals.{After-take_pages}

-- the pages that were taken, and the indices that get them
module _ (g : Over) (c : After-take_pages g) where
  abbrev nodes : List ℕ
  nodes = g.D.RunDoor.waiting c.take_pages.new.self

  there : c.in-Ok.at.file < length c.self.inside.files.files
  there = file_here c.self.view_is c.in-Ok.at.file c.in-Ok.ensures.placed.file

  reserved : AreReserved (file_at c.self.inside.files.files c.in-Ok.at.file) c.in-Ok.at.map c.args.access.now.index (length nodes)
  reserved = fewer_reserved (file_at c.self.inside.files.files c.in-Ok.at.file) c.in-Ok.at.map c.args.access.now.index (length nodes) c.reserved_from-count.result
      c.take_pages.ensures.few c.reserved_from-count.ensures.reserved

pub invariant_of-self : goal.invariant_of-self
invariant_of-self g c =
    let o = c.self.inside in
    let at = c.in-Ok.at in
    let taken = (goal.at.invariant_of-self g c).After-take_pages in
    run_kept g.N.Naming.page_bytes at.file at.map c.args.access.now.index (nodes g taken) o.inodes o.share o.files (there g taken) (reserved g taken)
    c.take_pages.new.share c.fill_from.new.files c.take_pages.ensures.share c.fill_from.ensures.filled c.self.invariant

pub returns-clause-done : goal.returns-clause-done
returns-clause-done g c slot =
    let o = c.self.inside in
    let at = c.in-Ok.at in
    let a = c.args.access.now in
    let taken = (goal.at.returns-clause-done g c).After-take_pages in
    record {
      nodes = nodes g taken;
      counted = sym c.fill_from.ensures.all;
      took = c.fill_from.ensures.took c.args.door.now (nodes g taken) c.take_pages.ensures.took;
      faulted =
          run_faulted g.N.Naming.page_bytes at.file at.map a.index (nodes g taken) o.inodes o.share o.files (there g taken) (reserved g taken)
          c.take_pages.new.share c.fill_from.new.files c.take_pages.ensures.share c.fill_from.ensures.filled a.task a.map slot c.args.self.now c.self.view_is
          c.in-Ok.ensures.placed.found (sym (c.is_shared.ensures ∙ shared_lent c.map.ensures) ∙ c.if-not-is_shared.false);
    }
