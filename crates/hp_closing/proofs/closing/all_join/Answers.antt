use Rattle.std.proofs.Common.{length, rules, ◌≡◌, ◌==◌, ◌+◌, ◌++◌, ◌∷◌, [], true, refl, sym, ap, ◌∙◌, arith}
use Rattle.std.proofs.lemmas.Bool.{eqb-true, false≢true}
use Rattle.std.proofs.lemmas.List.{map-append}
use Rattle.std.specs.Global.{Vec}
use Rattle.std.specs.Vec.Iter.{into_iter_items}
use Rattle.hp_laws.proofs.Variants.{Receipt}
use Rattle.hp_trail.specs.Walk.{lists}
use Rattle.hp_closing.proofs.Whole.{all_joined, one_joins}
use Rattle.hp_closing.proofs.closing.all_join.Given.{Over}
use Rattle.hp_closing.proofs.closing.all_join.Goals as goal
use Rattle.hp_closing.proofs.closing.all_join.Goals.{After-with-now, then-is_whole, else-is_whole}

module _ (g : Over) (c : After-with-now g) where
  order : c.if-is_whole.is_whole ≡ true → (c.loop-session.is_whole ≡ true) × (c.in-Some.session.number ≡ c.loop-session.at)
  order is =
      elim c.if-is_whole.branch as (λ _. (c.loop-session.is_whole ≡ true) × (c.in-Some.session.number ≡ c.loop-session.at)) [
        | then-is_whole b ↦
            let same = eqb-true b.number.result c.loop-session.at (sym b.is_whole-is ∙ is) in
            let all = (c.loop-session.invariant.whole b.if-is_whole.true).1 in
            (b.if-is_whole.true, b.number.ensures (omega (arith, same, all.0, all.1, c.loop-session.invariant.left, c.in-Some.ensures.len)) ∙ same)
        | else-is_whole b ↦ absurd (false≢true (sym b.if-is_whole.false ∙ (sym b.is_whole-is ∙ is)))
      ]

pub loop-session-preserved-then-this-eq1 : goal.loop-session-preserved-then-this-eq1
loop-session-preserved-then-this-eq1 g c =
    let a = (goal.at.loop-session-preserved-then-this-eq1 g c).After-with-now in
    let was = c.loop-session.invariant in
    let next = c.in-Some.ensures in
    let pushed = c.push_reserved.ensures in
    record {
      left = omega (arith, was.left, next.len);
      fits = λ kept. omega (arith, was.fits kept, pushed.len, pushed.capacity, next.len);
      whole = λ is. was.whole (order g a is).0;
      joined =
          one_joins (g.row.K == 1) c.loop-session.is_whole c.if-is_whole.is_whole c.args.ended.seat.me.0 c.loop-session.ended.seat.me.0 c.with-now.result.0.seat.me.0
          c.args.sessions.items (into_iter_items c.loop-session.rest) (into_iter_items c.next.new.self) (lists c.loop-session.told.items)
          (lists c.push_reserved.new.self.items) c.loop-session.at (c.loop-session.at + 1) c.in-Some.session was.joined next.items refl (order g a) c.with-now.ensures.parts
          (λ kept. ap lists pushed.items ∙ (map-append (λ (x : Vec Receipt). x.items) c.loop-session.told.items (c.with-now.result.1 ∷ [])
          ∙ ap (λ x. lists c.loop-session.told.items ++ x ∷ []) (c.with-now.ensures.receipts kept)));
    }

pub loop-session-preserved : goal.loop-session-preserved
loop-session-preserved g c =
    let a = (goal.at.loop-session-preserved g c).After-with-now in
    let was = c.loop-session.invariant in
    let next = c.in-Some.ensures in
    record {
      left = omega (arith, was.left, next.len);
      fits = λ kept. omega (arith, was.fits kept, next.len);
      whole = λ is. was.whole (order g a is).0;
      joined =
          one_joins (g.row.K == 1) c.loop-session.is_whole c.if-is_whole.is_whole c.args.ended.seat.me.0 c.loop-session.ended.seat.me.0 c.with-now.result.0.seat.me.0
          c.args.sessions.items (into_iter_items c.loop-session.rest) (into_iter_items c.next.new.self) (lists c.loop-session.told.items)
          (lists c.loop-session.told.items) c.loop-session.at (c.loop-session.at + 1) c.in-Some.session was.joined next.items refl (order g a) c.with-now.ensures.parts
          (λ kept. absurd (c.if-this-eq1.false (eqb-true g.row.K 1 kept)));
    }

pub returns-clause-joined : goal.returns-clause-joined
returns-clause-joined g c = λ is.
    let none : length (into_iter_items c.loop-session.rest) ≡ 0 = search rules in
    all_joined (g.row.K == 1) c.loop-session.is_whole g.N.Places.shape c.args.ended.seat.me.0 c.loop-session.ended.seat.me.0 c.args.sessions.items
    (into_iter_items c.loop-session.rest) (lists c.loop-session.told.items) c.loop-session.at c.loop-session.invariant.joined none is c.learn.ensures
