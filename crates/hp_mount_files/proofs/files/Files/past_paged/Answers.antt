use Rattle.std.proofs.Common.{◌<◌, ◌≤◌, ◌≡◌, ⊎_elim, sym, ◌∙◌, arith}
use Rattle.std.proofs.lemmas.Bool.{cases_lt}
use Rattle.hp_file.proofs.Filling.{all_paged}
use Rattle.hp_lookup.proofs.Words.{file_at}
use Rattle.hp_mount_files.proofs.files.Files.past_paged.Goals as goal

pub loop-at-preserved : goal.loop-at-preserved
loop-at-preserved g c =
    let was = c.loop-at.invariant in
    let end = c.word_end-end.result in
    let none : c.lacking_in.result ≡ 0 = omega arith in
    record {
      from = omega (arith, was.from, c.word_end-end.ensures.past);
      to = c.word_end-end.ensures.to;
      paged = λ j from below. ⊎_elim
          (λ (early : j < c.loop-at.at). was.paged j from early)
          (λ (late : c.loop-at.at ≤ j). all_paged (file_at c.args.self.now.files c.args.file).cells c.loop-at.at end (sym c.lacking_in.ensures ∙ none) j late below)
          (cases_lt j c.loop-at.at);
    }
