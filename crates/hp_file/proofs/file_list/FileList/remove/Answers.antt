use Rattle.std.proofs.lemmas.Grind.{common_steps}
use Rattle.std.proofs.Common.{ℕ, ◌<◌, None, ap, length, subst, sym, ◌∙◌, arith, slice_index_or}
use Rattle.std.proofs.lemmas.Grind.{get_or_default_zero}
use Rattle.std.proofs.lemmas.List.{length-map}
use Rattle.slab.specs.Slab.{Updates}
use Rattle.hp_file.specs.FileList.{Listed}
use Rattle.hp_file.proofs.Listed.{removed_files, removed_order}
use Rattle.hp_file.proofs.file_list.FileList.remove.Goals as goal

module _ (c : goal.After-remove) where
  inside : c.args.at < length c.self.inside.order.items
  inside = subst (λ (n : ℕ). c.args.at < n) (ap (λ (l : Listed). length l.files) (sym c.self.view_is) ∙ length-map c.self.inside.order.items _) c.requires

  updates : Updates c.self.inside.files c.remove.new.self (slice_index_or c.self.inside.order.items c.args.at 0) None
  updates = grind (arith, common_steps, get_or_default_zero, inside)

pub invariant_of-self : goal.invariant_of-self
invariant_of-self c =
    let s = c.self.inside in
    rw c.remove-spot.ensures.items (removed_order s.files s.order.items c.self.invariant c.args.at (inside c) c.remove.new.self (updates c))

pub returns-clause-files : goal.returns-clause-files
returns-clause-files c = grind (arith, common_steps, removed_files)
