use Rattle.std.proofs.Common.{◌≡◌, ◌*◌, ◌<◌, ◌++◌, true, length, take, drop, sym, subst, ap, ◌∙◌, rules, tests, arith, All, count_by}
use Rattle.std.proofs.lemmas.List.{get_or_read}
use Rattle.std.specs.Fn.{iterate}
use Rattle.hp_model.specs.declared.node.Kind.TheVariants.{Idle}
use Rattle.hp_model.proofs.Words.{NodeRows, grown, has, next_node, no_row, row_at, sum_row}
use Rattle.hp_nodes.specs.Moves.{amount, HasMany, where_has, grow_by}
use Rattle.hp_nodes.proofs.Each.{each_written, kept_grow_each, grow_each_sums}
use Rattle.hp_nodes.proofs.Finds.{has_amount}
use Rattle.hp_nodes.proofs.Turns.{rounds_grown}
use Rattle.hp_nodes.proofs.lists.NodeLists.grow_rounds.Goals as goal

pub invariant_of-self : goal.invariant_of-self
invariant_of-self g c =
    let s = c.self.inside in
    let rows = s.nodes.items in
    let r = c.min-rounds.result in
    let new = c.grow_each.new.nodes in
    let left = each_written (where_has Idle (grow_by r)) s.nodes.len new _ rows (omega (arith, c.grow_each.auto.nodes, c.deref_mut.ensures.len)) c.grow_each.ensures c.deref_mut.ensures.value in
    let least : All (HasMany Idle c.least.result) rows = subst (All (HasMany Idle c.least.result)) c.deref-2.ensures.value c.least.ensures in
    let enough : All (HasMany Idle r) rows = λ k d below e. (let h = least k d below e in omega (arith, h, c.min-rounds.ensures)) in
    rw left (kept_grow_each rows s.growth s.release s.claims r c.self.invariant enough)

pub returns-clause-moved : goal.returns-clause-moved
returns-clause-moved g c =
    let s = c.self.inside in
    let rows = s.nodes.items in
    let r = c.min-rounds.result in
    let new = c.grow_each.new.nodes in
    let left = each_written (where_has Idle (grow_by r)) s.nodes.len new _ rows (omega (arith, c.grow_each.auto.nodes, c.deref_mut.ensures.len)) c.grow_each.ensures c.deref_mut.ensures.value in
    let least : All (HasMany Idle c.least.result) rows = subst (All (HasMany Idle c.least.result)) c.deref-2.ensures.value c.least.ensures in
    let enough : All (HasMany Idle r) rows = λ k d below e. (let h = least k d below e in omega (arith, h, c.min-rounds.ensures)) in
    let count : c.having-round.result ≡ count_by (has Idle) rows = c.having-round.ensures.count ∙ ap (count_by (has Idle)) c.deref.ensures.value in
    let lists : NodeRows = record { rows = rows; growth = s.growth; release = s.release } in
    let behind : s.growth ≡ next_node c.args.at rows = ap (λ v. v.growth) c.self.view_is ∙ c.requires.behind ∙ ap (λ v. next_node c.args.at v.rows) (sym c.self.view_is) in
    let below : c.args.at < length rows = subst (λ v. c.args.at < length v.rows) (sym c.self.view_is) c.requires.within in
    let is : c.index.result.now ≡ row_at rows c.args.at = get_or_read rows _ _ below c.index.ensures no_row in
    let passes : c.has.result ≡ true = search (rules, tests) in
    let some : 0 < amount Idle (row_at rows c.args.at) = has_amount Idle (row_at rows c.args.at) (ap (has Idle) (sym is) ∙ sym c.has.ensures ∙ passes) in
    let all : record lists { rows = take s.nodes.len (new ++ drop (length new) rows) } ≡ iterate grown (r * c.having-round.result) lists =
    ap (λ l. record lists { rows = l }) left ∙ sym (rounds_grown lists r c.args.at behind below some enough) ∙ ap (λ k. iterate grown (r * k) lists) (sym count)
    in
    rw (← c.self.view_is) all

pub returns-clause-sums : goal.returns-clause-sums
returns-clause-sums g c =
    let s = c.self.inside in
    let rows = s.nodes.items in
    let r = c.min-rounds.result in
    let new = c.grow_each.new.nodes in
    let left = each_written (where_has Idle (grow_by r)) s.nodes.len new _ rows (omega (arith, c.grow_each.auto.nodes, c.deref_mut.ensures.len)) c.grow_each.ensures c.deref_mut.ensures.value in
    let count : c.having-round.result ≡ count_by (has Idle) rows = c.having-round.ensures.count ∙ ap (count_by (has Idle)) c.deref.ensures.value in
    let all : sum_row (take s.nodes.len (new ++ drop (length new) rows)) ≡ grow_by (r * c.having-round.result) (sum_row rows) =
    ap sum_row left ∙ grow_each_sums rows r ∙ ap (λ k. grow_by (r * k) (sum_row rows)) (sym count)
    in
    rw (← c.self.view_is) all
