use Rattle.std.proofs.lemmas.Grind.{common_steps}
use Rattle.std.proofs.Common.{◌<◌, length, ap, subst, sym, ◌∙◌, arith, slice_set}
use Rattle.hp_model.proofs.Words.{truncated}
use Rattle.hp_lookup.proofs.Words.{Files, IsLeft, tally_of, edited_at, file_at}
use Rattle.hp_lookup.proofs.GivingBack.{cut_files, cut_keeps, cut_left}
use Rattle.hp_lookup.proofs.Views.{view}
use Rattle.hp_mount_files.proofs.Here.{file_inside, held_inside}
use Rattle.hp_mount_files.proofs.files.Files.truncate.Goals as goal

pub index_mut-at-requires : goal.index_mut-at-requires
index_mut-at-requires g c = grind (arith, common_steps, file_inside)

pub truncate-requires-clause-held : goal.truncate-requires-clause-held
truncate-requires-clause-held g c = grind (arith, common_steps, held_inside)

pub invariant_of-self : goal.invariant_of-self
invariant_of-self g c =
    let s = c.self.inside in
    let k = c.args.file in
    cut_keeps s.hints s.pages.store c.truncate.new.pages.store s.pages.more c.truncate.new.pages.more s.maps (tally_of s.hints) s.list.files c.self.invariant k
    (subst (λ v. k < length v.files) (sym c.self.view_is) c.requires.file) c.index_mut-at.result.now c.truncate.new.self
    c.index_mut-at.ensures.value
    c.truncate.ensures.dropping.dropping c.truncate.ensures.dropping.counted c.args.pages c.truncate.result c.truncate.ensures.file c.truncate.ensures.entries

pub returns-clause-files : goal.returns-clause-files
returns-clause-files g c =
    let s = c.self.inside in
    let k = c.args.file in
    cut_files s.hints s.pages.store c.truncate.new.pages.store s.pages.more c.truncate.new.pages.more s.maps (tally_of s.hints) s.list.files c.self.invariant k
    (subst (λ v. k < length v.files) (sym c.self.view_is) c.requires.file) c.index_mut-at.result.now c.truncate.new.self
    c.index_mut-at.ensures.value
    c.truncate.ensures.dropping.dropping c.truncate.ensures.dropping.counted c.args.pages c.truncate.result c.truncate.ensures.file c.truncate.ensures.entries
    ∙ ap (λ (v : Files). edited_at k (truncated c.args.pages (file_at v.files k)) v.files) c.self.view_is

pub returns-clause-left : goal.returns-clause-left
returns-clause-left g c =
    let s = c.self.inside in
    let k = c.args.file in
    subst (λ v. IsLeft c.truncate.result v (view c.truncate.new.pages.store c.truncate.new.pages.more (slice_set s.list.files k c.truncate.new.self))) c.self.view_is
    (cut_left s.hints s.pages.store c.truncate.new.pages.store s.pages.more c.truncate.new.pages.more s.maps (tally_of s.hints) s.list.files c.self.invariant k
    (subst (λ v. k < length v.files) (sym c.self.view_is) c.requires.file) c.index_mut-at.result.now c.truncate.new.self
    c.index_mut-at.ensures.value
    c.truncate.ensures.dropping.dropping c.truncate.ensures.dropping.counted c.args.pages c.truncate.result c.truncate.ensures.file c.truncate.ensures.entries)
