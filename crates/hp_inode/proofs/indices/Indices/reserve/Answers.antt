use Rattle.std.proofs.lemmas.Grind.{common_steps}
use Rattle.std.proofs.Common.{ℕ, Bool, true, false, cond, refl, ap, ◌∙◌, ◌≡◌, ◌≤◌, ◌<◌, arith}
use mir.Val.{bool_byte}
use Rattle.hp_inode.proofs.CellFacts.{length-cells}
use Rattle.hp_inode.proofs.Readying.{few_entered, one_cells, one_entered, same_unready}
use Rattle.hp_inode.proofs.indices.Indices.reserve.Goals as goal

byte_is : (b : Bool) → bool_byte b ≡ cond {A = ℕ} b 1 0
byte_is true = refl
byte_is false = refl

one_at_most : (b : Bool) → bool_byte b ≤ 1
one_at_most true = omega arith
one_at_most false = omega arith

pub make_slot-requires : goal.make_slot-requires
make_slot-requires c = grind (arith, common_steps, length-cells)

pub invariant_of-self : goal.invariant_of-self
invariant_of-self c =
    let s = c.self.inside in
    same_unready s.len s.count s.entries s.entries s.table c.make_slot.new.self (λ k. refl) c.make_slot.ensures.pages c.self.invariant c.make_slot.ensures.kept _

pub enter-requires : goal.enter-requires
enter-requires c = grind (arith, common_steps, length-cells)

pub invariant_of-self-in_err-fresh : goal.invariant_of-self-in_err-fresh
invariant_of-self-in_err-fresh c =
    let s = c.self.inside in
    same_unready s.len s.count s.entries c.enter.new.self s.table c.make_slot.new.self c.in_err-fresh.ensures.err c.make_slot.ensures.pages c.self.invariant c.make_slot.ensures.kept _

pub overflow_add-self : goal.overflow_add-self
overflow_add-self c =
    let s = c.self.inside in
    omega (arith, few_entered s.len s.count s.entries s.table c.self.invariant.kept, c.self.invariant.kept.small, c.from.ensures, one_at_most c.in_ok-fresh.fresh)

pub invariant_of-self-2 : goal.invariant_of-self-2
invariant_of-self-2 c =
    let s = c.self.inside in
    let within : c.args.i < s.len = rw (← c.self.view_is, length-cells s.len s.entries s.table) at c.requires in
    one_entered s.len s.count s.pages s.entries c.enter.new.self s.table c.make_slot.new.self c.args.i c.self.invariant.kept within c.in_ok-fresh.ensures.ok c.make_slot.ensures.pages
    c.from.result (c.from.ensures ∙ byte_is c.in_ok-fresh.fresh
    ∙ ap (λ b. cond {A = ℕ} b 1 0) c.in_ok-fresh.ensures.fresh) c.self.invariant.paged c.make_slot.ensures.kept c.in_ok-make_slot.ensures.made s.from

pub returns-clause-ok : goal.returns-clause-ok
returns-clause-ok c =
    let s = c.self.inside in
    let within : c.args.i < s.len = rw (← c.self.view_is, length-cells s.len s.entries s.table) at c.requires
    in
    rw (← c.self.view_is) (one_cells s.len s.count s.pages s.entries c.enter.new.self s.table c.make_slot.new.self c.args.i c.self.invariant.kept within
    c.in_ok-fresh.ensures.ok c.make_slot.ensures.pages)
