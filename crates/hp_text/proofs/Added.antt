-- What is added after what was added.
use Rattle.std.proofs.Common.{◌≡◌, ◌++◌, ◌+◌, ◌<◌, ◌≤◌, ℕ, List, ◌∷◌, length, arith, append_assoc, length-append, ◌∙◌, ap, sym, Vec, vec_len, vec_capacity, drop, get_or, add-one, drop-cons, flat_map}
use Rattle.std.specs.declared.alloc.Global.{Global}
use Rattle.hp_text.specs.Output.{Adds}

pub adds_then : {a b c : Vec ℕ Global} {xs ys : List ℕ} → Adds a b xs → Adds b c ys → Adds a c (xs ++ ys)
adds_then {xs} {ys} h k = record {
  bytes = k.bytes ∙ ap (λ zs. zs ++ ys) h.bytes ∙ append_assoc _ xs ys;
  len = omega (arith, h.len, k.len, length-append xs ys);
  capacity = omega (arith, h.capacity, k.capacity);
}

-- text is added in part: with the rest, all of it
pub record Adding (old new : Vec ℕ Global) (rest all : List ℕ) : Type 0 where
  pub bytes : new.items ++ rest ≡ old.items ++ all
  pub len : vec_len new + length rest ≡ vec_len old + length all
  pub capacity : vec_capacity old ≤ vec_capacity new

pub adding_more : {old a b : Vec ℕ Global} {rest all : List ℕ} (piece left : List ℕ) → Adding old a rest all → rest ≡ piece ++ left → Adds a b piece → Adding old b left all
adding_more {a} piece left h cut k = record {
  bytes = ap (λ (xs : List ℕ). xs ++ left) k.bytes ∙ append_assoc a.items piece left ∙ ap (λ (xs : List ℕ). a.items ++ xs) (sym cut) ∙ h.bytes;
  len = omega (arith, h.len, k.len, length-append piece left, ap length cut);
  capacity = omega (arith, h.capacity, k.capacity);
}

pub flat_map_cut : {X : Type 0} (f : X → List ℕ) (xs : List X) (i : ℕ) (d : X) → i < length xs → flat_map f (drop i xs) ≡ f (get_or xs i d) ++ flat_map f (drop (i + 1) xs)
flat_map_cut {X} f xs i d within =
    let cut : drop i xs ≡ get_or xs i d ∷ drop (i + 1) xs = rw add-one (drop-cons xs i d within) in ap (flat_map f) cut
