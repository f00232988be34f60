use Rattle.std.proofs.lemmas.Grind.{common_steps}
use Rattle.std.proofs.Common.{◌≡◌, arith, ◌<◌, length, ap, subst, sym, ◌∙◌, slice_set}
use Rattle.hp_model.proofs.Words.{unlinked}
use Rattle.hp_lookup.proofs.Words.{Files, IsLeft, IsNamed, tally_of, edited_at, file_at}
use Rattle.hp_mount_files.proofs.Unlinking.{gone_files, gone_keeps, gone_left, named_files, named_keeps, named_left, same_maps}
use Rattle.hp_lookup.proofs.Keys.{files_recounted}
use Rattle.hp_lookup.proofs.Views.{view}
use Rattle.hp_mount_files.proofs.Here.{file_inside, held_inside}
use Rattle.hp_mount_files.proofs.files.Files.unlink.Goals as goal

pub index-requires : goal.index-requires
index-requires g c = grind (arith, common_steps, file_inside)

pub index_mut-at-requires : goal.index_mut-at-requires
index_mut-at-requires g c = grind (arith, common_steps, file_inside)

pub remove-gone-requires : goal.remove-gone-requires
remove-gone-requires g c = grind (arith, common_steps, file_inside)

pub close-requires : goal.close-requires
close-requires g c = grind (arith, common_steps, held_inside)

pub invariant_of-self : goal.invariant_of-self
invariant_of-self g c =
    let s = c.self.inside in
    let k = c.args.file in
    let same = same_maps s.pages.store s.list.files k c.args.name.now (subst (λ v. IsNamed v.files c.args.name.now k) (sym c.self.view_is) c.requires)
    c.index.result.now c.index_mut-at.result.now c.index.ensures c.index_mut-at.ensures.value in
    let some : 0 < length c.index_mut-at.result.now.maps = omega (arith, same, c.map_count.ensures, c.if-map_count-gt0.true) in
    files_recounted c.forget_file.new.self s.pages.store s.pages.more s.maps (tally_of s.hints) (tally_of c.forget_file.new.self)
    (slice_set s.list.files k c.drop_name.new.self) c.forget_file.ensures.tally
    (named_keeps s.hints c.forget_file.new.self c.args.name.now c.forget_file.ensures s.pages.store s.pages.more s.maps (tally_of s.hints) s.list.files
    c.self.invariant k (subst (λ v. IsNamed v.files c.args.name.now k) (sym c.self.view_is) c.requires) c.index_mut-at.result.now
    c.index_mut-at.ensures.value c.drop_name.new.self c.drop_name.ensures some)

pub returns-then-map_count-gt0-clause-files : goal.returns-then-map_count-gt0-clause-files
returns-then-map_count-gt0-clause-files g c =
    let s = c.self.inside in
    let k = c.args.file in
    let same = same_maps s.pages.store s.list.files k c.args.name.now (subst (λ v. IsNamed v.files c.args.name.now k) (sym c.self.view_is) c.requires)
    c.index.result.now c.index_mut-at.result.now c.index.ensures c.index_mut-at.ensures.value in
    let some : 0 < length c.index_mut-at.result.now.maps = omega (arith, same, c.map_count.ensures, c.if-map_count-gt0.true) in
    named_files s.hints c.forget_file.new.self c.args.name.now c.forget_file.ensures s.pages.store s.pages.more s.maps (tally_of s.hints) s.list.files
    c.self.invariant k (subst (λ v. IsNamed v.files c.args.name.now k) (sym c.self.view_is) c.requires) c.index_mut-at.result.now
    c.index_mut-at.ensures.value c.drop_name.new.self c.drop_name.ensures some
    ∙ ap (λ (v : Files). edited_at k (unlinked (file_at v.files k)) v.files) c.self.view_is

pub returns-then-map_count-gt0-clause-left : goal.returns-then-map_count-gt0-clause-left
returns-then-map_count-gt0-clause-left g c =
    let s = c.self.inside in
    let k = c.args.file in
    let same = same_maps s.pages.store s.list.files k c.args.name.now (subst (λ v. IsNamed v.files c.args.name.now k) (sym c.self.view_is) c.requires)
    c.index.result.now c.index_mut-at.result.now c.index.ensures c.index_mut-at.ensures.value in
    let some : 0 < length c.index_mut-at.result.now.maps = omega (arith, same, c.map_count.ensures, c.if-map_count-gt0.true) in
    subst (λ v. IsLeft 0 v (view s.pages.store s.pages.more (slice_set s.list.files k c.drop_name.new.self))) c.self.view_is
    (named_left s.hints c.forget_file.new.self c.args.name.now c.forget_file.ensures s.pages.store s.pages.more s.maps (tally_of s.hints) s.list.files
    c.self.invariant k (subst (λ v. IsNamed v.files c.args.name.now k) (sym c.self.view_is) c.requires) c.index_mut-at.result.now
    c.index_mut-at.ensures.value c.drop_name.new.self c.drop_name.ensures some)

pub invariant_of-self-2 : goal.invariant_of-self-2
invariant_of-self-2 g c =
    let s = c.self.inside in
    let k = c.args.file in
    let same = same_maps s.pages.store s.list.files k c.args.name.now (subst (λ v. IsNamed v.files c.args.name.now k) (sym c.self.view_is) c.requires)
    c.index.result.now c.remove-gone.result c.index.ensures c.remove-gone.ensures.value in
    let bare : length c.remove-gone.result.maps ≡ 0 = omega (arith, same, c.map_count.ensures, c.if-map_count-gt0.false) in
    files_recounted c.forget_file.new.self c.close.new.pages.store c.close.new.pages.more s.maps (tally_of s.hints) (tally_of c.forget_file.new.self)
    c.remove-gone.new.self.files c.forget_file.ensures.tally
    (gone_keeps s.hints c.forget_file.new.self c.args.name.now c.forget_file.ensures s.pages.store s.pages.more s.maps (tally_of s.hints) s.list.files
    c.self.invariant k (subst (λ v. IsNamed v.files c.args.name.now k) (sym c.self.view_is) c.requires) c.remove-gone.result
    c.remove-gone.ensures.value
    c.close.new.pages.store c.close.new.pages.more c.close.result c.remove-gone.new.self.files c.remove-gone.ensures.files bare c.close.ensures.dropping.dropping c.close.ensures.dropping.counted
    c.close.ensures.entries)

pub returns-clause-files : goal.returns-clause-files
returns-clause-files g c =
    let s = c.self.inside in
    let k = c.args.file in
    let same = same_maps s.pages.store s.list.files k c.args.name.now (subst (λ v. IsNamed v.files c.args.name.now k) (sym c.self.view_is) c.requires)
    c.index.result.now c.remove-gone.result c.index.ensures c.remove-gone.ensures.value in
    let bare : length c.remove-gone.result.maps ≡ 0 = omega (arith, same, c.map_count.ensures, c.if-map_count-gt0.false) in
    gone_files s.hints c.forget_file.new.self c.args.name.now c.forget_file.ensures s.pages.store s.pages.more s.maps (tally_of s.hints) s.list.files
    c.self.invariant k (subst (λ v. IsNamed v.files c.args.name.now k) (sym c.self.view_is) c.requires) c.remove-gone.result
    c.remove-gone.ensures.value
    c.close.new.pages.store c.close.new.pages.more c.close.result c.remove-gone.new.self.files c.remove-gone.ensures.files bare c.close.ensures.dropping.dropping c.close.ensures.dropping.counted
    c.close.ensures.entries
    ∙ ap (λ (v : Files). edited_at k (unlinked (file_at v.files k)) v.files) c.self.view_is

pub returns-clause-left : goal.returns-clause-left
returns-clause-left g c =
    let s = c.self.inside in
    let k = c.args.file in
    let same = same_maps s.pages.store s.list.files k c.args.name.now (subst (λ v. IsNamed v.files c.args.name.now k) (sym c.self.view_is) c.requires)
    c.index.result.now c.remove-gone.result c.index.ensures c.remove-gone.ensures.value in
    let bare : length c.remove-gone.result.maps ≡ 0 = omega (arith, same, c.map_count.ensures, c.if-map_count-gt0.false) in
    subst (λ v. IsLeft c.close.result v (view c.close.new.pages.store c.close.new.pages.more c.remove-gone.new.self.files)) c.self.view_is
    (gone_left s.hints c.forget_file.new.self c.args.name.now c.forget_file.ensures s.pages.store s.pages.more s.maps (tally_of s.hints) s.list.files
    c.self.invariant k (subst (λ v. IsNamed v.files c.args.name.now k) (sym c.self.view_is) c.requires) c.remove-gone.result
    c.remove-gone.ensures.value
    c.close.new.pages.store c.close.new.pages.more c.close.result c.remove-gone.new.self.files c.remove-gone.ensures.files bare c.close.ensures.dropping.dropping c.close.ensures.dropping.counted
    c.close.ensures.entries)
