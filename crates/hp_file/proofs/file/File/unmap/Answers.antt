use Rattle.std.proofs.lemmas.Grind.{common_steps}
use Rattle.std.proofs.Common.{◌≡◌, false, cond, ap, arith, sym, ◌∙◌}
use Rattle.std.proofs.lemmas.List.{get_or_default, get_or-set_same}
use Rattle.hp_model.proofs.Words.{is_mapped, without_range}
use Rattle.hp_lookup.proofs.Words.{mapping_at}
use Rattle.hp_file.proofs.Counting.{dropped_as}
use Rattle.hp_file.proofs.Ended.{all_gone, cut_holds, cut_left, cut_owes, left_without}
use Rattle.hp_file.proofs.file.File.unmap.Given.{Over}
use Rattle.hp_file.proofs.file.File.unmap.Goals as goal
use Rattle.hp_file.proofs.file.File.unmap.Goals.{After-end_map-reserves, After-remove_map}

-- the range was all of the map
whole : (g : Over) (c : After-end_map-reserves g) → is_mapped (without_range c.args.a c.args.b (mapping_at c.args.self.now c.args.map)) ≡ false
whole g c = grind (arith, common_steps, get_or_default, all_gone)

-- or the last indices of it
last : (g : Over) (c : After-remove_map g) → is_mapped (without_range c.args.a c.args.b (mapping_at c.args.self.now c.args.map)) ≡ false
last g c = grind (arith, common_steps, get_or-set_same)

pub returns-then-end-b-clause-file : goal.returns-then-end-b-clause-file
returns-then-end-b-clause-file g c = c.end_map-reserves.ensures.file ∙ sym (left_without c.args.a c.args.b c.args.map c.args.self.now
    c.requires.within (whole g (goal.at.returns-then-end-b-clause-file g c).After-end_map-reserves))

pub returns-then-end-b-clause-maps : goal.returns-then-end-b-clause-maps
returns-then-end-b-clause-maps g c = ap (λ t. cond t 0 1) (sym (whole g (goal.at.returns-then-end-b-clause-maps g c).After-end_map-reserves))

pub returns-clause-file : goal.returns-clause-file
returns-clause-file g c = grind (arith, common_steps, cut_left, last)

pub returns-clause-dropping : goal.returns-clause-dropping
returns-clause-dropping g c = grind (arith, common_steps, dropped_as, cut_holds, last)

pub returns-clause-reserves : goal.returns-clause-reserves
returns-clause-reserves g c = grind (arith, common_steps, cut_owes, last)
