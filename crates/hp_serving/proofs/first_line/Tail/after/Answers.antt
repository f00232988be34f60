use Rattle.std.proofs.Common.{◌≡◌, arith}
use Rattle.hp_serving.proofs.Tails.{after_space}
use Rattle.hp_serving.proofs.first_line.Tail.after.Goals as goal

pub returns-in_default-eq32 : goal.returns-in_default-eq32
returns-in_default-eq32 c = λ rest. (let space : c.args.byte ≡ 32 = grind arith in rw space (after_space c.args.self rest))
