use Rattle.std.proofs.lemmas.Grind.{common_steps}
use Rattle.std.proofs.Common.{◌≡◌, ℕ, List, [], length, get_or, remove, slice_set, arith, subst, sym, ap, ◌∙◌}
use Rattle.hp_lookup.specs.Table.{IsForgottenIn, IsGap, IsLessBy, IsPlace, TaskNumbers, numbers_at, numbers_under}
use Rattle.hp_lookup.proofs.Tables.{forgotten_none, forgotten_removed, forgotten_set, removed_set}
use Rattle.hp_lookup.proofs.map_table.MapTable.forget.Goals as goal

pub returns-in_default : goal.returns-in_default
returns-in_default c =
    let s = c.self.inside in
    let gap = subst (λ (ys : List ℕ). IsGap ys c.args.task c.in_default.field-0) c.deref.ensures.value c.in_default.ensures.err in
    subst (λ (v : TaskNumbers). IsForgottenIn c.args.task c.args.number v v) c.self.view_is
    (forgotten_none s.tasks.items s.maps.items c.self.invariant c.args.task c.in_default.field-0 gap c.args.number _)

pub returns-then-len-eq0 : goal.returns-then-len-eq0
returns-then-len-eq0 c =
    let s = c.self.inside in
    let place = subst (λ (ys : List ℕ). IsPlace ys c.args.task c.in-Ok.at) c.deref.ensures.value c.in-Ok.ensures.ok in
    let had : c.index_mut.result.now ≡ get_or s.maps.items c.in-Ok.at [] = grind (arith, common_steps) in
    let none : length c.forget.new.self ≡ 0 = grind (arith, common_steps) in
    let at = c.in-Ok.at in
    let gone = forgotten_removed s.tasks.items s.maps.items c.self.invariant c.args.task at place c.args.number 0 0 c.forget.new.self
    (subst (λ (ns : List ℕ). IsLessBy c.args.number ns c.forget.new.self) had c.forget.ensures) none (omega arith) in
    let maps : c.remove-then-len-eq0.new.self.items ≡ remove s.maps.items at = c.remove-then-len-eq0.ensures.items ∙ removed_set s.maps.items at c.forget.new.self in
    let same : (t : ℕ) → numbers_under t c.remove.new.self.items c.remove-then-len-eq0.new.self.items ≡ numbers_under t (remove s.tasks.items at) (remove s.maps.items at) =
    λ t. ap (λ (ts : List ℕ). numbers_under t ts c.remove-then-len-eq0.new.self.items) c.remove.ensures.items ∙ ap (numbers_under t (remove s.tasks.items at)) maps in
    record {
      others = λ t other. same t ∙ gone.others t other ∙ ap (λ (v : TaskNumbers). numbers_at t v) c.self.view_is;
      own = subst (λ (ns : List ℕ). IsLessBy c.args.number ns (numbers_under c.args.task c.remove.new.self.items c.remove-then-len-eq0.new.self.items))
          (ap (λ (v : TaskNumbers). numbers_at c.args.task v) c.self.view_is)
          (subst (λ (ns : List ℕ). IsLessBy c.args.number (numbers_under c.args.task s.tasks.items s.maps.items) ns) (sym (same c.args.task)) gone.own);
      room = grind (arith, common_steps);
    }

pub returns-else-len-eq0 : goal.returns-else-len-eq0
returns-else-len-eq0 c =
    let s = c.self.inside in
    let place = subst (λ (ys : List ℕ). IsPlace ys c.args.task c.in-Ok.at) c.deref.ensures.value c.in-Ok.ensures.ok in
    let had : c.index_mut.result.now ≡ get_or s.maps.items c.in-Ok.at [] = grind (arith, common_steps) in
    let gone = forgotten_set s.tasks.items s.maps.items c.self.invariant c.args.task c.in-Ok.at place c.args.number 0 0 c.forget.new.self
    (subst (λ (ns : List ℕ). IsLessBy c.args.number ns c.forget.new.self) had c.forget.ensures) (omega arith) in
    record {
      others = λ t other. gone.others t other ∙ ap (λ (v : TaskNumbers). numbers_at t v) c.self.view_is;
      own = subst (λ (ns : List ℕ). IsLessBy c.args.number ns (numbers_under c.args.task s.tasks.items (slice_set s.maps.items c.in-Ok.at c.forget.new.self)))
          (ap (λ (v : TaskNumbers). numbers_at c.args.task v) c.self.view_is) gone.own;
      room = grind (arith, common_steps);
    }
