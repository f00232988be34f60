use Rattle.std.proofs.Common.{◌∙◌, ap, length, rules, tests, unwrap_or}
use Rattle.std.proofs.lemmas.Iterator.{YieldsList-from_slice}
use Rattle.std.proofs.lemmas.Iterator.Search.{position_from_yields_List}
use Rattle.hp_model.proofs.Words.{has}
use Rattle.hp_nodes.proofs.Finds.{found_or_len, lowest_le}
use Rattle.hp_nodes.proofs.search.lowest.Goals as goal

pub returns-clause-node : goal.returns-clause-node
returns-clause-node c =
    let rows = c.args.nodes.now in
    let found = position_from_yields_List (has c.args.kind) _ _ c.position.result c.position.ensures.ran (YieldsList-from_slice rows c.iter.ensures.rest) (λ x b q k. search (rules, tests)) in
    c.unwrap_or.ensures ∙ (ap (λ o. unwrap_or o (length rows)) found ∙ found_or_len _ _ (lowest_le c.args.kind rows))
