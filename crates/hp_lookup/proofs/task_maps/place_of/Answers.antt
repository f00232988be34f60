use Rattle.std.proofs.Common.{rules}
use Rattle.std.proofs.lemmas.List.Sorted.{answers_always}
use Rattle.hp_lookup.proofs.Rising.{search_gap, search_place}
use Rattle.hp_lookup.proofs.task_maps.place_of.Goals as goal

pub returns-clause-ok : goal.returns-clause-ok
returns-clause-ok c =
    let by_key = c.binary_search_by_key.ensures.position (λ number. number) (answers_always _ _ _ (λ f a r g called. search rules)) in
    search_place c.args.maps.now c.requires c.args.number c.binary_search_by_key.result by_key

pub returns-clause-err : goal.returns-clause-err
returns-clause-err c =
    let by_key = c.binary_search_by_key.ensures.position (λ number. number) (answers_always _ _ _ (λ f a r g called. search rules)) in
    search_gap c.args.maps.now c.requires c.args.number c.binary_search_by_key.result by_key
