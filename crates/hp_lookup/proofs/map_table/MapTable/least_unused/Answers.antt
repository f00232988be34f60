use Rattle.std.proofs.lemmas.Grind.{common_steps}
use Rattle.std.proofs.Common.{◌≡◌, ◌-◌, ◌<◌, ◌≤◌, ℕ, List, [], get_or, true, false, ap, arith, subst, sym, ◌∙◌}
use Rattle.hp_model.specs.Lists.{is_among}
use Rattle.hp_lookup.specs.Table.{IsGap, IsPlace, TaskNumbers, numbers_at}
use Rattle.hp_lookup.proofs.Tables.{no_numbers, own_numbers}
use Rattle.hp_lookup.proofs.map_table.MapTable.least_unused.Goals as goal

pub returns-in-Ok-clause-used : goal.returns-in-Ok-clause-used
returns-in-Ok-clause-used c =
    let s = c.self.inside in
    let place = subst (λ (ys : List ℕ). IsPlace ys c.args.task c.in-Ok.at) c.deref.ensures.value c.in-Ok.ensures.ok in
    let here : c.index.result.now ≡ get_or s.maps.items c.in-Ok.at [] = grind (arith, common_steps) in
    let own : c.index.result.now ≡ numbers_at c.args.task c.args.self.now =
    subst (λ (v : TaskNumbers). c.index.result.now ≡ numbers_at c.args.task v) c.self.view_is
    (here ∙ sym (own_numbers s.tasks.items s.maps.items c.self.invariant c.args.task c.in-Ok.at place)) in
    subst (λ (ns : List ℕ). (k : ℕ) → 1 ≤ k → k < c.least_unused.result → is_among k ns ≡ true) own c.least_unused.ensures.used

pub returns-in-Ok-clause-free : goal.returns-in-Ok-clause-free
returns-in-Ok-clause-free c =
    let s = c.self.inside in
    let place = subst (λ (ys : List ℕ). IsPlace ys c.args.task c.in-Ok.at) c.deref.ensures.value c.in-Ok.ensures.ok in
    let here : c.index.result.now ≡ get_or s.maps.items c.in-Ok.at [] = grind (arith, common_steps) in
    let own : c.index.result.now ≡ numbers_at c.args.task c.args.self.now =
    subst (λ (v : TaskNumbers). c.index.result.now ≡ numbers_at c.args.task v) c.self.view_is
    (here ∙ sym (own_numbers s.tasks.items s.maps.items c.self.invariant c.args.task c.in-Ok.at place)) in
    subst (λ (ns : List ℕ). is_among c.least_unused.result ns ≡ false) own c.least_unused.ensures.free

pub returns-in-Err-clause-free : goal.returns-in-Err-clause-free
returns-in-Err-clause-free c =
    let s = c.self.inside in
    let gap = subst (λ (ys : List ℕ). IsGap ys c.args.task c.in-Err.field-0) c.deref.ensures.value c.in-Err.ensures.err in
    let none : numbers_at c.args.task c.args.self.now ≡ [] =
    subst (λ (v : TaskNumbers). numbers_at c.args.task v ≡ []) c.self.view_is (no_numbers s.tasks.items s.maps.items c.self.invariant c.args.task c.in-Err.field-0 gap) in
    ap (is_among 1) none
