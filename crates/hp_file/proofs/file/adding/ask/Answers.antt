use Rattle.std.proofs.Common.{refl}
use Rattle.hp_file.proofs.file.adding.ask.Goals as goal

pub returns-in-Ok-clause-asked : goal.returns-in-Ok-clause-asked
returns-in-Ok-clause-asked g c = record {
  share = c.in-Ok.ensures.share;
  none = c.get.ensures.same;
  some = c.in-Ok.ensures.ok refl;
}
