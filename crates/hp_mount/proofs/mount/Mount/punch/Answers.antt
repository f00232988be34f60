use Rattle.std.proofs.Common.{[], ◌∷◌}
use Rattle.hp_laws.proofs.Variants.{OutOfRange}
use Rattle.hp_model.proofs.Words.{Mount, is_bad_range, punched}
use Rattle.hp_mount_laws.specs.Kept.{mount_from}
use Rattle.hp_mount_laws.proofs.Giving.{bad_range, gave_back, gave_through, good_range, keeps, no_more, nowhere, out_of_range}
use Rattle.hp_mount.proofs.mount.Mount.punch.Goals as goal

pub returns-in_default-clause-done : goal.returns-in_default-clause-done
returns-in_default-clause-done g c size k =
    let o = c.self.inside in
    let m : Mount = mount_from o.share o.inodes o.files.files in
    rw (← c.self.view_is) (nowhere g.D.PoolDoor.took g.D.PoolDoor.is_full m c.args.name.now ((is_bad_range c.args.range.start c.args.range.end, OutOfRange) ∷ [])
    (punched c.args.range.start c.args.range.end)
    c.args.door.now c.in_default.ensures.none)

pub returns-then-end-start-clause-done : goal.returns-then-end-start-clause-done
returns-then-end-start-clause-done g c size k =
    let o = c.self.inside in
    let m : Mount = mount_from o.share o.inodes o.files.files in
    rw (← c.self.view_is) (out_of_range g.D.PoolDoor.took g.D.PoolDoor.is_full m c.args.name.now ((is_bad_range c.args.range.start c.args.range.end, OutOfRange) ∷ [])
    (punched c.args.range.start c.args.range.end)
    c.args.door.now c.in-Some.file c.in-Some.ensures.some.is (bad_range c.args.range.start c.args.range.end c.then-end-start.either))

pub invariant_of-self : goal.invariant_of-self
invariant_of-self g c = keeps c.self.invariant c.punch.ensures.left c.punch.ensures.files c.give_back.ensures.share c.give_back.ensures.going
    (no_more c.in-Some.file _ c.self.inside.files.files)

pub returns-clause-done : goal.returns-clause-done
returns-clause-done g c size k =
    let o = c.self.inside in
    let m : Mount = mount_from o.share o.inodes o.files.files in
    rw (← c.self.view_is) (gave_back g.D.PoolDoor.took g.D.PoolDoor.is_full m c.args.name.now ((is_bad_range c.args.range.start c.args.range.end, OutOfRange) ∷ [])
    (punched c.args.range.start c.args.range.end)
    c.args.door.now c.in-Some.file c.in-Some.ensures.some.is (good_range c.args.range.start c.args.range.end c.if-end-start.false c.if-end-gt-MOST_FILE_PAGES.false)
    (mount_from c.give_back.new.share o.inodes c.give_back.new.self.files) c.give_back.new.door
    (gave_through c.self.invariant c.punch.ensures.left c.punch.ensures.files c.give_back.ensures.share c.give_back.ensures.going c.give_back.ensures.given))
