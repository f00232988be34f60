use Rattle.std.proofs.lemmas.Grind.{common_steps}
use Rattle.std.proofs.Common.{◌≡◌, ◌/◌, ap, length, arith, ◌∙◌}
use Rattle.hp_mapping.proofs.Chunked.{home_few, same_more}
use Rattle.hp_mapping.proofs.sparse.add_chunk.Goals as goal

pub push_fresh-requires : goal.push_fresh-requires
push_fresh-requires c =
    let home : c.len.result / 64 ≡ length c.args.places.now.items / 64 = ap (λ n. n / 64) (c.len.ensures ∙ c.args.places.now.ok.0) in
    let few = home_few c.args.homes.now.items c.args.places.now.items c.args.index (c.len.result / 64) c.requires.chunked c.requires.none c.requires.within home in
    omega (arith, few, home, c.requires.chunked.used, c.requires.room, c.args.places.now.ok.0)

pub returns-clause-same : goal.returns-clause-same
returns-clause-same c = grind (arith, common_steps, same_more)
