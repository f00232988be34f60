use Rattle.std.proofs.Common.{ℕ, ◌∙◌, ap, length, rules, tests, unwrap_or}
use Rattle.std.specs.List.{position_or_len}
use Rattle.std.proofs.lemmas.Iterator.{YieldsList-from_slice}
use Rattle.std.proofs.lemmas.Iterator.Search.{position_from_yields_List}
use Rattle.hp_model.proofs.Words.{is_map}
use Rattle.hp_lookup.proofs.Words.{NumberedFile}
use Rattle.hp_lookup.proofs.Finding.{found_or_len, position_le}
use Rattle.hp_file.proofs.file.File.place_of.Goals as goal

pub returns : goal.returns
returns c =
    let maps = c.self.inside.maps.items in
    let test = is_map {C = ℕ} c.args.task c.args.number in
    let found = position_from_yields_List test _ _ c.position.result c.position.ensures.ran
    (YieldsList-from_slice maps (c.iter.ensures.rest ∙ c.as_slice-maps.ensures.value)) (λ x b q k. search (rules, tests)) in
    c.unwrap_or.ensures ∙ ap (λ n. unwrap_or c.position.result n) (ap length c.as_slice-maps.ensures.value) ∙ ap (λ o. unwrap_or o (length maps)) found ∙ found_or_len _ _ (position_le test maps)
    ∙ ap (λ (f : NumberedFile). position_or_len (is_map c.args.task c.args.number) f.maps) c.self.view_is
