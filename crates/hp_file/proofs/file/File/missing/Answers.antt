use Rattle.std.proofs.Common.{◌+◌, ◌-◌, min, ap, drop, take, ◌∙◌, count_by}
use Rattle.hp_model.proofs.Words.{at_least, is_hole}
use Rattle.hp_lookup.proofs.Words.{NumberedFile}
use Rattle.hp_lookup.proofs.Holes.{holes_known}
use Rattle.hp_file.proofs.file.File.missing.Goals as goal

pub returns : goal.returns
returns c =
    let cells = c.self.inside.inode in
    ap (λ n. c.missing.result + (c.args.b - n)) c.max.ensures ∙ holes_known cells c.args.a c.args.b c.min-known.result c.missing.result c.requires
    (c.min-known.ensures ∙ ap (min c.args.b) c.len.ensures.len) c.missing.ensures
    ∙ ap (λ (f : NumberedFile). count_by is_hole (take (c.args.b - c.args.a) (drop c.args.a (at_least c.args.b f.cells)))) c.self.view_is
