use Rattle.std.proofs.Common.{ℕ, ◌∙◌, ap, rules, tests}
use Rattle.std.specs.List.{list_any}
use Rattle.std.proofs.lemmas.Iterator.{YieldsList-from_slice}
use Rattle.std.proofs.lemmas.Iterator.Search.{any_from_yields_List}
use Rattle.hp_model.proofs.Words.{is_map}
use Rattle.hp_lookup.proofs.Words.{NumberedFile}
use Rattle.hp_file.proofs.file.File.has_map.Goals as goal

pub returns : goal.returns
returns c =
    let maps = c.self.inside.maps.items in
    let test = is_map {C = ℕ} c.args.task c.args.number in
    any_from_yields_List test _ _ c.any.result c.any.ensures.ran (YieldsList-from_slice maps (c.iter.ensures.rest ∙ c.deref.ensures.value)) (λ x b q k. search (rules, tests))
    ∙ ap (λ (f : NumberedFile). list_any (is_map c.args.task c.args.number) f.maps) c.self.view_is
