use Rattle.std.proofs.Common.{[], ◌∷◌, nat_lt}
use Rattle.hp_laws.proofs.Variants.{OutOfRange}
use Rattle.hp_model.proofs.Words.{Mount, truncated}
use Rattle.hp_mount_laws.specs.Kept.{mount_from}
use Rattle.hp_mount_laws.proofs.Giving.{gave_back, gave_through, keeps, no_more, long_file, nowhere, out_of_range, short_file}
use Rattle.hp_mount.proofs.mount.Mount.truncate.Goals as goal

pub returns-in_default-clause-done : goal.returns-in_default-clause-done
returns-in_default-clause-done g c size k =
    let o = c.self.inside in
    let m : Mount = mount_from o.share o.inodes o.files.files in
    rw (← c.self.view_is) (nowhere g.D.PoolDoor.took g.D.PoolDoor.is_full m c.args.name.now ((nat_lt 16777216 c.args.pages, OutOfRange) ∷ []) (truncated c.args.pages)
    c.args.door.now c.in_default.ensures.none)

pub returns-then-pages-gt-MOST_FILE_PAGES-clause-done : goal.returns-then-pages-gt-MOST_FILE_PAGES-clause-done
returns-then-pages-gt-MOST_FILE_PAGES-clause-done g c size k =
    let o = c.self.inside in
    let m : Mount = mount_from o.share o.inodes o.files.files in
    rw (← c.self.view_is) (out_of_range g.D.PoolDoor.took g.D.PoolDoor.is_full m c.args.name.now ((nat_lt 16777216 c.args.pages, OutOfRange) ∷ []) (truncated c.args.pages)
    c.args.door.now c.in-Some.file c.in-Some.ensures.some.is (long_file c.args.pages c.if-pages-gt-MOST_FILE_PAGES.true))

pub invariant_of-self : goal.invariant_of-self
invariant_of-self g c = keeps c.self.invariant c.truncate-reserves.ensures.left c.truncate-reserves.ensures.files c.give_back.ensures.share c.give_back.ensures.going
    (no_more c.in-Some.file _ c.self.inside.files.files)

pub returns-clause-done : goal.returns-clause-done
returns-clause-done g c size k =
    let o = c.self.inside in
    let m : Mount = mount_from o.share o.inodes o.files.files in
    rw (← c.self.view_is) (gave_back g.D.PoolDoor.took g.D.PoolDoor.is_full m c.args.name.now ((nat_lt 16777216 c.args.pages, OutOfRange) ∷ []) (truncated c.args.pages)
    c.args.door.now c.in-Some.file c.in-Some.ensures.some.is (short_file c.args.pages c.if-pages-gt-MOST_FILE_PAGES.false)
    (mount_from c.give_back.new.share o.inodes c.give_back.new.self.files) c.give_back.new.door
    (gave_through c.self.invariant c.truncate-reserves.ensures.left c.truncate-reserves.ensures.files c.give_back.ensures.share c.give_back.ensures.going c.give_back.ensures.given))
