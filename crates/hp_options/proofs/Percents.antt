-- A percentage is taken of the hundreds and of the rest.
use Rattle.std.proofs.Common.{◌≡◌, ℕ, ◌+◌, ◌*◌, ◌/◌, ◌%◌, arith, ap, sym, ◌∙◌}
use Rattle.std.proofs.Math.Nat.{mul-add-div_right}
use Rattle.std.proofs.lemmas.Nat.{div-add-mod'}

spread : (h r p : ℕ) → h * p * 100 + r * p ≡ (h * 100 + r) * p
spread h r p = omega arith

pub percent_split : (nr p : ℕ) → nr / 100 * p + nr % 100 * p / 100 ≡ nr * p / 100
percent_split nr p =
    sym (mul-add-div_right (omega arith) (nr / 100 * p) (nr % 100 * p))
    ∙ ap (λ n. n / 100) (spread (nr / 100) (nr % 100) p ∙ ap (λ n. n * p) (div-add-mod' nr 100))
