use Rattle.std.proofs.Common.{◌==◌}
use Rattle.hp_shared.proofs.Opened.{has_extra_ok, is_empty_ok, is_fresh_ok}
use Rattle.hp_shared.proofs.making.open_trail.Goals as goal

pub returns : goal.returns
returns g c = record {
  fresh = is_fresh_ok _ (g.row.K == 1) c.args.places c.args.extra c.open.result c.open.ensures;
  none = is_empty_ok _ (g.row.K == 1) c.args.places c.args.extra c.open.result c.open.ensures;
  enough = has_extra_ok _ (g.row.K == 1) c.args.places c.args.extra c.open.result c.requires.extra c.open.ensures;
}
