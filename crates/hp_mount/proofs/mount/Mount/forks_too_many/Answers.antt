use Rattle.std.proofs.lemmas.Grind.{common_steps}
use Rattle.std.proofs.Common.{◌≡◌, ℕ, ◌<◌, ◌≤◌, ⊎_elim, true, false, nat_lt, sym, ◌∙◌, arith}
use Rattle.std.proofs.lemmas.Bool.{cases_lt}
use Rattle.std.proofs.lemmas.Bool.Decides.{nat_tests}
use Rattle.hp_lookup.proofs.NewKey.{byte_few, byte_is}
use Rattle.hp_mount_laws.proofs.Forking.{by_tasks, many, many_maps, maps_are, tasks_are}
use Rattle.hp_mount.proofs.mount.Mount.forks_too_many.Goals as goal

same_test : (a b : ℕ) → (4096 < b → 4096 < a) → (b ≤ 4096 → a ≤ 4096) → nat_lt 4096 a ≡ nat_lt 4096 b
same_test a b over under = ⊎_elim
    (λ (l : 4096 < b). (let m = over l in let s : nat_lt 4096 a ≡ true = grind (arith, nat_tests, m) in let t : nat_lt 4096 b ≡ true = grind (arith, nat_tests, l) in s ∙ sym t))
    (λ (l : b ≤ 4096). (let m = under l in let s : nat_lt 4096 a ≡ false = grind (arith, nat_tests, m) in let t : nat_lt 4096 b ≡ false = grind (arith, nat_tests, l) in s ∙ sym t))
    (cases_lt 4096 b)

pub returns-then-saturating_add-gt-MOST_MAPS : goal.returns-then-saturating_add-gt-MOST_MAPS
returns-then-saturating_add-gt-MOST_MAPS g c = grind (arith, common_steps, many, many_maps, maps_are)

pub returns : goal.returns
returns g c = grind (arith, common_steps, byte_few, byte_is, by_tasks, many, maps_are, tasks_are, same_test)
