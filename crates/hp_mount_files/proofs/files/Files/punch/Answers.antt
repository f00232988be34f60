use Rattle.std.proofs.lemmas.Grind.{common_steps}
use Rattle.std.proofs.Common.{◌<◌, length, ap, subst, sym, ◌∙◌, arith, slice_set}
use Rattle.hp_model.proofs.Words.{punched}
use Rattle.hp_lookup.proofs.Words.{Files, IsLeft, tally_of, edited_at, file_at}
use Rattle.hp_lookup.proofs.GivingBack.{punch_files, punch_keeps, punch_left}
use Rattle.hp_lookup.proofs.Views.{view}
use Rattle.hp_mount_files.proofs.Here.{file_inside, held_inside}
use Rattle.hp_mount_files.proofs.files.Files.punch.Goals as goal

pub index_mut-at-requires : goal.index_mut-at-requires
index_mut-at-requires g c = grind (arith, common_steps, file_inside)

pub punch-requires : goal.punch-requires
punch-requires g c = grind (arith, common_steps, held_inside)

pub invariant_of-self : goal.invariant_of-self
invariant_of-self g c =
    let s = c.self.inside in
    let k = c.args.file in
    punch_keeps s.hints s.pages.store c.punch.new.pages.store s.pages.more c.punch.new.pages.more s.maps (tally_of s.hints) s.list.files c.self.invariant k
    (subst (λ v. k < length v.files) (sym c.self.view_is) c.requires) c.index_mut-at.result.now c.punch.new.self c.index_mut-at.ensures.value
    c.punch.ensures.dropping.dropping c.punch.ensures.dropping.counted c.args.a c.args.b c.punch.ensures.file

pub returns-clause-files : goal.returns-clause-files
returns-clause-files g c =
    let s = c.self.inside in
    let k = c.args.file in
    punch_files s.hints s.pages.store c.punch.new.pages.store s.pages.more c.punch.new.pages.more s.maps (tally_of s.hints) s.list.files c.self.invariant k
    (subst (λ v. k < length v.files) (sym c.self.view_is) c.requires) c.index_mut-at.result.now c.punch.new.self c.index_mut-at.ensures.value
    c.punch.ensures.dropping.dropping c.punch.ensures.dropping.counted c.args.a c.args.b c.punch.ensures.file
    ∙ ap (λ (v : Files). edited_at k (punched c.args.a c.args.b (file_at v.files k)) v.files) c.self.view_is

pub returns-clause-left : goal.returns-clause-left
returns-clause-left g c =
    let s = c.self.inside in
    let k = c.args.file in
    subst (λ v. IsLeft 0 v (view c.punch.new.pages.store c.punch.new.pages.more (slice_set s.list.files k c.punch.new.self))) c.self.view_is
    (punch_left s.hints s.pages.store c.punch.new.pages.store s.pages.more c.punch.new.pages.more s.maps (tally_of s.hints) s.list.files c.self.invariant k
    (subst (λ v. k < length v.files) (sym c.self.view_is) c.requires) c.index_mut-at.result.now c.punch.new.self c.index_mut-at.ensures.value
    c.punch.ensures.dropping.dropping c.punch.ensures.dropping.counted c.args.a c.args.b c.punch.ensures.file)
