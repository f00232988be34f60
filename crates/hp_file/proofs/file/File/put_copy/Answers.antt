use Rattle.std.proofs.lemmas.Grind.{common_steps}
use Rattle.std.proofs.Common.{arith}
use Rattle.std.proofs.lemmas.List.{get_or_default}
use Rattle.hp_file.proofs.FirstCopy.{first_consumed, first_put}
use Rattle.hp_file.proofs.file.File.put_copy.Goals.{then-is_owner, else-is_owner}
use Rattle.hp_file.proofs.file.File.put_copy.Goals as goal

pub returns : goal.returns
returns c = grind (arith, common_steps, get_or_default, first_consumed, first_put, then-is_owner, else-is_owner)
