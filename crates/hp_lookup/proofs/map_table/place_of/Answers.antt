use Rattle.hp_lookup.proofs.Rising.{search_gap}
use Rattle.hp_lookup.proofs.map_table.place_of.Goals as goal

pub returns-in_default-found-clause-err : goal.returns-in_default-found-clause-err
returns-in_default-found-clause-err c = search_gap c.args.tasks.now c.requires c.args.task c.binary_search-found.result c.binary_search-found.ensures.position
