use Rattle.std.proofs.Common.{rules, ◌≡◌, ℕ, Some, ap}
use Rattle.hp_model.proofs.Words.{Mapping, copy_of, place_at}
use Rattle.hp_lookup.proofs.Words.{in_map}
use Rattle.hp_file.proofs.Counting.{none_dropped, one_dropped}
use Rattle.hp_file.proofs.Drops.{less_copy}
use Rattle.hp_file.proofs.dropping.take_from.Goals as goal

pub returns-clause-dropping : goal.returns-clause-dropping
returns-clause-dropping g c =
    let m = c.args.map.now in
    let copy : copy_of (place_at m c.args.index) ≡ Some c.args.number = search rules in
    one_dropped c.requires (none_dropped c.requires) c.args.number (λ n. in_map n c.take_away.new.self)
    (less_copy m c.args.index c.args.number c.take_away.new.self.places copy (ap (λ (x : Mapping ℕ). x.places) c.take_away.ensures))
    c.drop_holder.ensures.dropped c.drop_holder.ensures.counted
