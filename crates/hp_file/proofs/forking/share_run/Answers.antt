use Rattle.std.proofs.lemmas.Grind.{common_steps}
use Rattle.std.proofs.Common.{◌+◌, ◌∷◌, drop, refl, sym, ◌∙◌, arith, sum_by}
use Rattle.hp_lookup.proofs.Words.{in_place}
use Rattle.hp_lookup.proofs.Lifting.{is_it}
use Rattle.hp_file.proofs.Sharing.{copied_in, drop_read, has_one, shared_as, shared_none, shared_one, some_one, shared_then, sum_read}
use Rattle.hp_file.proofs.forking.share_run.Goals as goal

pub loop-at-init : goal.loop-at-init
loop-at-init g c = grind (arith, common_steps, shared_none)

pub add_holder-requires-clause-held : goal.add_holder-requires-clause-held
add_holder-requires-clause-held g c = grind (arith, common_steps, is_it, copied_in, sum_read)

pub add_holder-requires-clause-few : goal.add_holder-requires-clause-few
add_holder-requires-clause-few g c = grind (arith, common_steps, has_one, some_one, sum_read)

pub loop-at-preserved : goal.loop-at-preserved
loop-at-preserved g c =
    let ps = c.args.places.now in
    let i = c.loop-at.at in
    let was = c.loop-at.invariant in
    let p = c.index-places-at.result in
    let number = c.in-Some.number in
    let is = sym c.copy_in.ensures ∙ c.in-Some.is in
    let step = sum_read has_one ps i p c.loop-at-test.true c.index-places-at.is in
    let one = some_one p number is in
    record {
      high = omega (arith, c.loop-at-test.true);
      shared = shared_then ps (drop i ps) (drop (i + 1) ps) c.args.pages.now.store c.loop-at.pages.store c.add_holder.new.store was.shared
          (shared_as (drop i ps) (p ∷ drop (i + 1) ps) (drop (i + 1) ps) (drop (i + 1) ps) c.loop-at.pages.store c.add_holder.new.store
          (shared_one p (drop (i + 1) ps) number c.loop-at.pages.store c.add_holder.new.store is c.add_holder.ensures.sharing)
          (λ n. drop_read (sum_by (in_place n)) ps i p c.loop-at-test.true c.index-places-at.is) (λ n. refl));
      counted = omega (arith, was.counted, c.add_holder.ensures.counted);
      kept = was.kept;
      copies = omega (arith, step, one, was.copies);
    }
