use Rattle.std.proofs.Common.{◌<◌, ◌-◌, ◌^◌, arith}
use Rattle.hp_file.proofs.fork_lists.room_for.Goals as goal

pub returns : goal.returns
returns c few =
    let short : c.all_copies.result < 2 ^ 64 - 1 = omega (arith, few, c.saturating_add.ensures) in
    let copies = c.all_copies.ensures short in
    omega (arith, few, copies, c.saturating_add.ensures, c.saturating_add-room.ensures)
