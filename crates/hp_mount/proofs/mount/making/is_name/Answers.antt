use Rattle.std.proofs.Common.{rules, tests, ◌≡◌, arith, true, refl, length}
use Rattle.std.proofs.lemmas.Bool.Decides.{nat_tests}
use Rattle.std.proofs.lemmas.Iterator.{YieldsList-from_slice}
use Rattle.std.proofs.lemmas.Iterator.Search.{all_from_yields_List}
use Rattle.std.specs.List.{list_all}
use Rattle.hp_model.proofs.Words.{is_between, is_name_byte}
use Rattle.hp_mount.proofs.mount.making.is_name.Goals as goal

pub returns-clause-is : goal.returns-clause-is
returns-clause-is c =
    let bytes : c.all.result ≡ list_all is_name_byte c.args.name.now = all_from_yields_List is_name_byte _ _ c.all.result c.all.ensures.ran
    (YieldsList-from_slice c.args.name.now c.iter.ensures.rest) (λ x b q k. search (rules, tests)) in
    let inside : is_between 1 64 (length c.args.name.now) ≡ true = grind (arith, nat_tests, c.if-name-lt1.false, c.if-name-gt-MOST_NAME_BYTES.false) in
    rw (bytes, inside) refl
