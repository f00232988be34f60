use Rattle.std.proofs.Common.{◌≡◌, ◌<◌, Bool, None, Ok, Err, Some, ap, subst, sym, ◌∙◌, arith}
use Rattle.hp_laws.proofs.Variants.{Done}
use Rattle.hp_model.specs.declared.refusal.Refusal.TheVariants.{MountFull}
use Rattle.hp_model.proofs.Words.{Mount, file_in, file_named, is_full, lacking, range_filled, rising_nodes, unentered, with_file}
use Rattle.hp_lookup.proofs.Words.{file_at}
use Rattle.hp_mount_files.proofs.Lent.{lacking_lent, unentered_lent}
use Rattle.hp_mount_laws.specs.Kept.{mount_from}
use Rattle.hp_mount_laws.proofs.Keeping.{full_as, rise_as, room_left}
use Rattle.hp_mount.proofs.Filling.{enough_held, fill_denied, fill_full, fill_given, fill_nothing, fill_nowhere, fill_refused, fill_went, filled_kept, filled_left, taken_share}
use Rattle.hp_mount.proofs.mount.Mount.preallocate.Given.{Over}
use Rattle.hp_mount.proofs.mount.Mount.preallocate.Goals as goal
use Rattle.hp_mount.proofs.mount.Mount.preallocate.Goals.{After-is_full}

pub returns-in_default-clause-done : goal.returns-in_default-clause-done
returns-in_default-clause-done g c k =
    let a = c.args in
    fill_nowhere g.D.PoolDoor.took g.D.PoolDoor.is_full a.self.now g.N.Naming.page_bytes k a.start a.end a.name.now a.door.now
    (subst (λ (x : Mount). file_named x a.name.now ≡ None) c.self.view_is c.in_default.ensures.none)

pub returns-in-Some-refused_range-clause-done : goal.returns-in-Some-refused_range-clause-done
returns-in-Some-refused_range-clause-done g c k =
    let a = c.args in
    let file = c.in-Some.file in
    let named = subst (λ (x : Mount). file_named x a.name.now ≡ Some (file, file_in x file)) c.self.view_is c.in-Some.ensures.some.is in
    fill_refused g.D.PoolDoor.took g.D.PoolDoor.is_full a.self.now g.N.Naming.page_bytes k a.start a.end a.name.now a.door.now file named c.in-Some-refused_range.refusal
    (sym c.in-Some-refused_range.ensures.refused)

pub returns-then-count-eq0-clause-done : goal.returns-then-count-eq0-clause-done
returns-then-count-eq0-clause-done g c k =
    let a = c.args in
    let file = c.in-Some.file in
    let named = subst (λ (x : Mount). file_named x a.name.now ≡ Some (file, file_in x file)) c.self.view_is c.in-Some.ensures.some.is in
    let count_is = c.lacking-count.ensures ∙ lacking_lent c.file.ensures a.start a.end ∙ ap (λ (x : Mount). lacking a.start a.end (file_in x file)) c.self.view_is in
    let none : lacking a.start a.end (file_in a.self.now file) ≡ 0 = omega (arith, count_is, c.if-count-eq0.true) in
    fill_nothing g.D.PoolDoor.took g.D.PoolDoor.is_full a.self.now g.N.Naming.page_bytes k a.start a.end a.name.now a.door.now file named
    (sym c.in_default-refused_range.ensures.refused) none

-- how many indices of the file have no page, how many no entry, and what was asked of the share
module _ (g : Over) (c : After-is_full g) where
  named : file_named c.args.self.now c.args.name.now ≡ Some (c.in-Some.file, file_in c.args.self.now c.in-Some.file)
  named = subst (λ (x : Mount). file_named x c.args.name.now ≡ Some (c.in-Some.file, file_in x c.in-Some.file)) c.self.view_is c.in-Some.ensures.some.is

  lack : c.lacking-count.result ≡ lacking c.args.start c.args.end (file_at c.self.inside.files.files c.in-Some.file)
  lack = c.lacking-count.ensures ∙ lacking_lent c.file.ensures c.args.start c.args.end

  count_is : c.lacking-count.result ≡ lacking c.args.start c.args.end (file_in c.args.self.now c.in-Some.file)
  count_is = lack ∙ ap (λ (x : Mount). lacking c.args.start c.args.end (file_in x c.in-Some.file)) c.self.view_is

  some : 0 < lacking c.args.start c.args.end (file_in c.args.self.now c.in-Some.file)
  some = omega (arith, count_is, c.if-count-eq0.false)

  missing : c.missing-k.result ≡ unentered c.args.start c.args.end (file_at c.self.inside.files.files c.in-Some.file)
  missing = c.missing-k.ensures ∙ unentered_lent c.file-2.ensures c.args.start c.args.end (omega (arith, c.in_default-refused_range.ensures.order))

  more_is : c.missing-k.result ≡ unentered c.args.start c.args.end (file_in c.args.self.now c.in-Some.file)
  more_is = missing ∙ ap (λ (x : Mount). unentered c.args.start c.args.end (file_in x c.in-Some.file)) c.self.view_is

  full : {b : Bool} → c.is_full.result ≡ b → is_full c.args.self.now (unentered c.args.start c.args.end (file_in c.args.self.now c.in-Some.file)) ≡ b
  full e =
      let o = c.self.inside in
      full_as o.share o.files o.inodes c.args.self.now c.self.invariant c.self.view_is _ c.missing-k.result c.is_full.result more_is c.is_full.ensures ∙ e

pub returns-then-is_full-clause-done : goal.returns-then-is_full-clause-done
returns-then-is_full-clause-done g c k =
    let a = c.args in
    let file = c.in-Some.file in
    let asked = (goal.at.returns-then-is_full-clause-done g c).After-is_full in
    fill_went g.D.PoolDoor.took g.D.PoolDoor.is_full a.self.now g.N.Naming.page_bytes k a.start a.end a.name.now a.door.now file (named g asked)
    (sym c.in_default-refused_range.ensures.refused) (some g asked) (Err MountFull) (Some a.self.now) a.door.now
    (fill_full g.D.PoolDoor.took g.D.PoolDoor.is_full g.N.Naming.page_bytes a.self.now file a.start a.end a.door.now (full g asked c.if-is_full.true))

pub preallocate-requires-clause-k : goal.preallocate-requires-clause-k
preallocate-requires-clause-k g c = missing g (goal.at.preallocate-requires-clause-k g c).After-is_full

pub preallocate-requires-clause-count : goal.preallocate-requires-clause-count
preallocate-requires-clause-count g c = lack g (goal.at.preallocate-requires-clause-count g c).After-is_full

pub preallocate-requires-clause-held : goal.preallocate-requires-clause-held
preallocate-requires-clause-held g c =
    let o = c.self.inside in
    let asked = (goal.at.preallocate-requires-clause-held g c).After-is_full in
    enough_held o.share o.files o.inodes c.self.invariant c.in-Some.file c.in-Some.ensures.some.within g.N.Naming.page_bytes c.args.start c.args.end
    c.missing-k.result c.lacking-count.result (missing g asked) (lack g asked)

pub invariant_of-self-2 : goal.invariant_of-self-2
invariant_of-self-2 g c =
    let o = c.self.inside in
    let asked = (goal.at.invariant_of-self-2 g c).After-is_full in
    let done = c.in_default-preallocate.ensures.filled in
    filled_kept o.share o.files o.inodes c.self.invariant c.in-Some.file c.in-Some.ensures.some.within g.N.Naming.page_bytes c.args.start c.args.end
    c.missing-k.result c.lacking-count.result (missing g asked) (lack g asked) done.0 c.preallocate.new.share c.preallocate.new.self done.1.share done.2

pub returns-clause-done : goal.returns-clause-done
returns-clause-done g c k =
    let o = c.self.inside in
    let a = c.args in
    let file = c.in-Some.file in
    let count = c.lacking-count.result in
    let asked = (goal.at.returns-clause-done g c).After-is_full in
    let size = g.N.Naming.page_bytes in
    let done = c.in_default-preallocate.ensures.filled in
    fill_went g.D.PoolDoor.took g.D.PoolDoor.is_full a.self.now size k a.start a.end a.name.now a.door.now file (named g asked)
    (sym c.in_default-refused_range.ensures.refused) (some g asked) (Ok Done) _ c.preallocate.new.door
    (fill_given g.D.PoolDoor.took g.D.PoolDoor.is_full size a.self.now file a.start a.end a.door.now (full g asked c.if-is_full.false) o.share c.missing-k.result count (more_is g asked)
    (count_is g asked) (rise_as o.share o.files o.inodes a.self.now c.self.invariant c.self.view_is c.missing-k.result) done.0 c.preallocate.new.share c.preallocate.new.door _ done.1
    (filled_left o.share o.files o.inodes c.self.invariant file c.in-Some.ensures.some.within size a.start a.end c.missing-k.result count (missing g asked) (lack g asked) done.0
    c.preallocate.new.share c.preallocate.new.self done.1.share done.2
    ∙ ap (λ (x : Mount). with_file x file (range_filled size a.start a.end (rising_nodes count done.0) (file_in x file))) c.self.view_is))

pub returns-in-Err-clause-done : goal.returns-in-Err-clause-done
returns-in-Err-clause-done g c k =
    let o = c.self.inside in
    let a = c.args in
    let file = c.in-Some.file in
    let count = c.lacking-count.result in
    let asked = (goal.at.returns-in-Err-clause-done g c).After-is_full in
    let took = g.D.PoolDoor.took in
    let size = g.N.Naming.page_bytes in
    let same = taken_share took g.D.PoolDoor.is_full c.missing-k.result count o.share a.door.now c.in-Err.refusal c.preallocate.new.share c.preallocate.new.door c.in-Err.ensures.refused in
    let stays = ap (λ x. mount_from x o.inodes c.preallocate.new.self.files) same
    ∙ room_left o.share o.files c.preallocate.new.self o.inodes c.self.invariant c.in-Err.ensures.err ∙ c.self.view_is in
    fill_went took g.D.PoolDoor.is_full a.self.now size k a.start a.end a.name.now a.door.now file (named g asked)
    (sym c.in_default-refused_range.ensures.refused) (some g asked) (Err c.in-Err.refusal) _ c.preallocate.new.door
    (fill_denied took g.D.PoolDoor.is_full size a.self.now file a.start a.end a.door.now (full g asked c.if-is_full.false) o.share c.missing-k.result count (more_is g asked)
    (count_is g asked) (rise_as o.share o.files o.inodes a.self.now c.self.invariant c.self.view_is c.missing-k.result) c.in-Err.refusal c.preallocate.new.share
    c.preallocate.new.door _ c.in-Err.ensures.refused stays)
