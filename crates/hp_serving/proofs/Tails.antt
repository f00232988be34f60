-- What a space does.
use Rattle.std.proofs.Common.{◌≡◌, ◌<◌, ◌+◌, ◌∷◌, ◌++◌, ℕ, List, add-one, arith, drop, drop-cons, get_or, length, refl}
use Rattle.hp_serving.specs.declared.first_line.Tail.{Tail}
use Rattle.hp_serving.specs.declared.first_line.Tail.TheVariants.{Other, Space, H, Ht, Htt, Http, Slash, Digit}
use Rattle.hp_serving.specs.FirstLine.{ends_so}

-- whatever stands before a space, behind it only what comes counts
pub after_space : (tail : Tail) (rest : List ℕ) → ends_so Space rest ≡ ends_so tail (32 ∷ rest)
after_space Other rest = refl
after_space Space rest = refl
after_space H rest = refl
after_space Ht rest = refl
after_space Htt rest = refl
after_space Http rest = refl
after_space Slash rest = refl
after_space Digit rest = refl

-- what is left from a place on is the byte there, and what is left behind it
pub next_byte : (bytes : List ℕ) (i : ℕ) (input : List ℕ) → i < length bytes → get_or bytes i 0 ∷ (drop (i + 1) bytes ++ input) ≡ drop i bytes ++ input
next_byte bytes i input inside = grind (arith, drop-cons bytes i 0 inside, add-one)
