use Rattle.std.proofs.Common.{◌≡◌, ◌*◌, ◌<◌, ◌++◌, true, length, take, drop, sym, subst, ap, ◌∙◌, rules, tests, arith, All, count_by}
use Rattle.std.proofs.lemmas.List.{get_or_read}
use Rattle.std.specs.Fn.{iterate}
use Rattle.hp_model.specs.declared.node.Kind.TheVariants.{Free}
use Rattle.hp_model.proofs.Words.{NodeRows, has, next_node, no_row, row_at, shrunk, sum_row}
use Rattle.hp_nodes.specs.Moves.{amount, HasMany, where_has, shrink_by}
use Rattle.hp_nodes.proofs.Each.{each_written, kept_shrink_each, shrink_each_sums}
use Rattle.hp_nodes.proofs.Finds.{has_amount}
use Rattle.hp_nodes.proofs.Turns.{rounds_shrunk}
use Rattle.hp_nodes.proofs.lists.NodeLists.shrink_rounds.Goals as goal

pub invariant_of-self : goal.invariant_of-self
invariant_of-self g c =
    let s = c.self.inside in
    let rows = s.nodes.items in
    let r = c.min-rounds.result in
    let new = c.shrink_each.new.nodes in
    let left = each_written (where_has Free (shrink_by r)) s.nodes.len new _ rows (omega (arith, c.shrink_each.auto.nodes, c.deref_mut.ensures.len)) c.shrink_each.ensures c.deref_mut.ensures.value in
    let least : All (HasMany Free c.least.result) rows = subst (All (HasMany Free c.least.result)) c.deref-2.ensures.value c.least.ensures in
    let enough : All (HasMany Free r) rows = λ k d below e. (let h = least k d below e in omega (arith, h, c.min-rounds.ensures)) in
    let bare : All (λ x. x.surp ≡ 0) rows = subst (λ v. All (λ x. x.surp ≡ 0) v.rows) (sym c.self.view_is) c.requires.no_surplus in
    rw left (kept_shrink_each rows s.growth s.release s.claims r c.self.invariant enough bare)

pub returns-clause-moved : goal.returns-clause-moved
returns-clause-moved g c =
    let s = c.self.inside in
    let rows = s.nodes.items in
    let r = c.min-rounds.result in
    let new = c.shrink_each.new.nodes in
    let left = each_written (where_has Free (shrink_by r)) s.nodes.len new _ rows (omega (arith, c.shrink_each.auto.nodes, c.deref_mut.ensures.len)) c.shrink_each.ensures c.deref_mut.ensures.value in
    let least : All (HasMany Free c.least.result) rows = subst (All (HasMany Free c.least.result)) c.deref-2.ensures.value c.least.ensures in
    let enough : All (HasMany Free r) rows = λ k d below e. (let h = least k d below e in omega (arith, h, c.min-rounds.ensures)) in
    let count : c.having-round.result ≡ count_by (has Free) rows = c.having-round.ensures.count ∙ ap (count_by (has Free)) c.deref.ensures.value in
    let lists : NodeRows = record { rows = rows; growth = s.growth; release = s.release } in
    let behind : s.release ≡ next_node c.args.at rows = ap (λ v. v.release) c.self.view_is ∙ c.requires.behind ∙ ap (λ v. next_node c.args.at v.rows) (sym c.self.view_is) in
    let below : c.args.at < length rows = subst (λ v. c.args.at < length v.rows) (sym c.self.view_is) c.requires.within in
    let is : c.index.result.now ≡ row_at rows c.args.at = get_or_read rows _ _ below c.index.ensures no_row in
    let passes : c.has.result ≡ true = search (rules, tests) in
    let some : 0 < amount Free (row_at rows c.args.at) = has_amount Free (row_at rows c.args.at) (ap (has Free) (sym is) ∙ sym c.has.ensures ∙ passes) in
    let all : record lists { rows = take s.nodes.len (new ++ drop (length new) rows) } ≡ iterate shrunk (r * c.having-round.result) lists =
    ap (λ l. record lists { rows = l }) left ∙ sym (rounds_shrunk lists r c.args.at behind below some enough) ∙ ap (λ k. iterate shrunk (r * k) lists) (sym count)
    in
    rw (← c.self.view_is) all

pub returns-clause-sums : goal.returns-clause-sums
returns-clause-sums g c =
    let s = c.self.inside in
    let rows = s.nodes.items in
    let r = c.min-rounds.result in
    let new = c.shrink_each.new.nodes in
    let left = each_written (where_has Free (shrink_by r)) s.nodes.len new _ rows (omega (arith, c.shrink_each.auto.nodes, c.deref_mut.ensures.len)) c.shrink_each.ensures c.deref_mut.ensures.value in
    let least : All (HasMany Free c.least.result) rows = subst (All (HasMany Free c.least.result)) c.deref-2.ensures.value c.least.ensures in
    let enough : All (HasMany Free r) rows = λ k d below e. (let h = least k d below e in omega (arith, h, c.min-rounds.ensures)) in
    let count : c.having-round.result ≡ count_by (has Free) rows = c.having-round.ensures.count ∙ ap (count_by (has Free)) c.deref.ensures.value in
    let all : sum_row (take s.nodes.len (new ++ drop (length new) rows)) ≡ shrink_by (r * c.having-round.result) (sum_row rows) =
    ap sum_row left ∙ shrink_each_sums rows r c.self.invariant.sound enough ∙ ap (λ k. shrink_by (r * k) (sum_row rows)) (sym count)
    in
    rw (← c.self.view_is) all
