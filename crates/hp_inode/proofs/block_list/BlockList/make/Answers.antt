use Rattle.std.proofs.lemmas.Grind.{common_steps}
use Rattle.std.proofs.Common.{◌≡◌, ◌-◌, ◌∷◌, ◌++◌, [], suc, length, get_or, refl, ap₂, ◌∙◌, arith}
use Rattle.std.proofs.lemmas.List.{get_or_read}
use Rattle.hp_inode.proofs.Later.{has_number, made_alike, made_there, number_fits, numbers_alike, places_alike}
use Rattle.hp_inode.proofs.block_list.BlockList.make.Goals as goal

pub returns-in_err-make_place-clause-same : goal.returns-in_err-make_place-clause-same
returns-in_err-make_place-clause-same g c = grind (arith, common_steps, places_alike)

pub returns-in_err-reserve_exact-clause-same : goal.returns-in_err-reserve_exact-clause-same
returns-in_err-reserve_exact-clause-same g c = grind (arith, common_steps, places_alike)

pub overflow_cast-len : goal.overflow_cast-len
overflow_cast-len g c =
    let s = c.self.inside in
    let new = c.make_place.new.places.items in
    let at = c.args.at - 1 in
    let none : get_or new at 0 ≡ 0 = omega (arith, get_or_read new at c.index.result.now c.in_ok-make_place.ensures.ok c.index.ensures 0, c.if-index-eq0.true) in
    let are = numbers_alike s.places.items new (length s.made.items) c.make_place.ensures.few c.make_place.ensures.same c.make_place.ensures.made c.self.invariant in
    omega (arith, number_fits new at (length s.made.items) c.in_ok-make_place.ensures.ok none are, c.len.ensures, c.push_reserved.ensures.len, c.reserve_exact.ensures.len, s.made.ok.0)

pub returns-in_ok-reserve_exact-clause-ok : goal.returns-in_ok-reserve_exact-clause-ok
returns-in_ok-reserve_exact-clause-ok g c = grind (arith, common_steps, get_or_read, made_there, numbers_alike)

pub returns-in_ok-reserve_exact-clause-same : goal.returns-in_ok-reserve_exact-clause-same
returns-in_ok-reserve_exact-clause-same g c j =
    let s = c.self.inside in
    let new = c.make_place.new.places.items in
    let at = c.args.at - 1 in
    let none : get_or new at 0 ≡ 0 = omega (arith, get_or_read new at c.index.result.now c.in_ok-make_place.ensures.ok c.index.ensures 0, c.if-index-eq0.true) in
    let are = numbers_alike s.places.items new (length s.made.items) c.make_place.ensures.few c.make_place.ensures.same c.make_place.ensures.made c.self.invariant in
    let pushed = c.push_reserved.ensures.items ∙ ap₂ (λ xs b. xs ++ b ∷ []) c.reserve_exact.ensures.items c.new.ensures in
    let count : c.len.result ≡ suc (length s.made.items) = omega (arith, c.len.ensures, c.push_reserved.ensures.len, c.reserve_exact.ensures.len, s.made.ok.0) in
    rw (← c.self.view_is) (made_alike s.first new s.made.items c.args.at g.B.Block.empty c.if-at-gt0.true c.in_ok-make_place.ensures.ok none are
    c.push_reserved.new.self.items pushed c.len.result count j
    ∙ places_alike s.first s.places.items new s.made.items s.made.items g.B.Block.empty refl c.make_place.ensures.same j)

pub returns-else-index-eq0-clause-ok : goal.returns-else-index-eq0-clause-ok
returns-else-index-eq0-clause-ok g c = grind (arith, common_steps, get_or_read, has_number, numbers_alike)

pub returns-else-index-eq0-clause-same : goal.returns-else-index-eq0-clause-same
returns-else-index-eq0-clause-same g c = grind (arith, common_steps, places_alike)
