use Rattle.std.proofs.lemmas.Grind.{common_steps}
use Rattle.std.proofs.Common.{◌≡◌, ◌≤◌, None, arith, length, subst}
use Rattle.std.proofs.lemmas.List.Sums.{position_or_len_is}
use Rattle.hp_model.proofs.Words.{found, has_name}
use Rattle.hp_lookup.proofs.Words.{Files, NumberedFile, has_label, label_of}
use Rattle.hp_lookup.proofs.Cells.{no_file}
use Rattle.hp_lookup.proofs.Unique.{named_first, named_nowhere}
use Rattle.hp_mount_files.proofs.files.Files.named_among_all.Goals as goal

pub returns-then-is_named-clause-some : goal.returns-then-is_named-clause-some
returns-then-is_named-clause-some g c = grind (arith, common_steps, position_or_len_is, named_first)

pub returns-clause-none : goal.returns-clause-none
returns-clause-none g c =
    let s = c.self.inside in
    let files = s.list.files in
    let name = c.args.name.now in
    let own = λ (f : NumberedFile). has_label name (label_of f) in
    let past : length files ≤ c.loop-at.at = omega (arith, c.loop-at-test.false, c.len-at-end.ensures) in
    let none = position_or_len_is own files (length files) no_file (omega arith) (λ k less. c.loop-at.invariant k no_file (omega (arith, less, past))) (λ l. absurd (omega (arith, l))) in
    subst (λ (v : Files). found (has_name name) v.files ≡ None) c.self.view_is (named_nowhere s.pages.store files name (omega (arith, none)))
