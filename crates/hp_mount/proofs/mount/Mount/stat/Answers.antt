use Rattle.std.proofs.Common.{◌≡◌, None, Some, length, refl, subst, ap, ◌∙◌, count_by}
use Rattle.hp_laws.proofs.Variants.{StatAnswer}
use Rattle.hp_model.specs.declared.event.SlotEvent.TheVariants.{Stat}
use Rattle.hp_model.proofs.Words.{Mount, file_in, file_named, has_page, is_entered, stat}
use Rattle.hp_mount_files.proofs.Lent.{entries_lent, len_lent, maps_lent, pages_lent}
use Rattle.hp_mount_laws.proofs.Looking.{is_answered, not_named}
use Rattle.hp_mount.proofs.mount.Mount.stat.Goals as goal

pub returns-in_default-clause-done : goal.returns-in_default-clause-done
returns-in_default-clause-done g c size k =
    let m = c.args.self.now in
    not_named size k m c.args.name.now (Stat c.args.name.now) (stat m) (λ x. refl) (subst (λ (x : Mount). file_named x c.args.name.now ≡ None) c.self.view_is c.in_default.ensures.none)

pub returns-clause-done : goal.returns-clause-done
returns-clause-done g c size k =
    let m = c.args.self.now in
    let file = c.in-Some.at in
    let f = file_in m file in
    let named = subst (λ (x : Mount). file_named x c.args.name.now ≡ Some (file, file_in x file)) c.self.view_is c.in-Some.ensures.some.is in
    let len = c.len.ensures ∙ len_lent c.file-file.ensures ∙ ap (λ (x : Mount). length (file_in x file).cells) c.self.view_is in
    let pages = c.page_count.ensures ∙ pages_lent c.file-file.ensures ∙ ap (λ (x : Mount). count_by has_page (file_in x file).cells) c.self.view_is in
    let entries = c.entry_count.ensures ∙ entries_lent c.file-file.ensures ∙ ap (λ (x : Mount). count_by is_entered (file_in x file).cells) c.self.view_is in
    let maps = c.map_count.ensures ∙ maps_lent c.file-file.ensures ∙ ap (λ (x : Mount). length (file_in x file).maps) c.self.view_is in
    is_answered size k m c.args.name.now (Stat c.args.name.now) (stat m) (λ x. refl) (file, f) named _ _ refl
    (ap (λ n. StatAnswer n c.page_count.result c.entry_count.result c.map_count.result) len
    ∙ ap (λ n. StatAnswer (length f.cells) n c.entry_count.result c.map_count.result) pages
    ∙ ap (λ n. StatAnswer (length f.cells) (count_by has_page f.cells) n c.map_count.result) entries
    ∙ ap (λ n. StatAnswer (length f.cells) (count_by has_page f.cells) (count_by is_entered f.cells) n) maps)
