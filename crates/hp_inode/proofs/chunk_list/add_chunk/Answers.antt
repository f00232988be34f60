use Rattle.std.proofs.lemmas.Grind.{common_steps}
use Rattle.std.proofs.Common.{◌≡◌, ◌/◌, ap, length, arith, ◌∙◌}
use Rattle.hp_inode.proofs.Chunks.{room_there, rows_more}
use Rattle.hp_inode.proofs.chunk_list.add_chunk.Goals as goal

pub push_bare-requires : goal.push_bare-requires
push_bare-requires c =
    let home : c.len-home.result / 64 ≡ length c.args.slots.now.items / 64 = ap (λ n. n / 64) (c.len-home.ensures ∙ c.args.slots.now.ok.0) in
    omega (arith, room_there c.args.homes.now.items c.args.slots.now.items c.args.at (c.len-home.result / 64) c.requires.given c.requires.none home _ c.requires.room, c.args.slots.now.ok.0)

pub returns : goal.returns
returns c = grind (arith, common_steps, rows_more)
