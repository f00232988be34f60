use Rattle.std.proofs.Common.{◌==◌}
use Rattle.hp_text.proofs.Firsts.{first_position}
use Rattle.hp_text.proofs.pieces.far_place_of.Goals as goal

pub returns : goal.returns
returns c = first_position (λ b. b == c.args.byte) c.args.bytes.now c.memchr.result c.memchr.ensures
