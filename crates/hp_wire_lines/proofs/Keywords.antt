-- The end of a line that makes a map.
use Rattle.std.proofs.Common.{◌≡◌, ℕ, List, [], ◌∷◌, refl, ap, ◌∙◌, Ok, Err, codes, if◌then◌else◌}
use Rattle.std.specs.Str.{bytes_eq}
use Rattle.hp_model.proofs.Words.{Read, end_at, piece_at, reserving_at}
use Rattle.hp_model.specs.declared.refusal.Refusal.{Refusal}
use Rattle.hp_model.specs.declared.refusal.Refusal.TheVariants.{BadLine}
use Rattle.hp_model.specs.declared.step.Reserving.TheVariants.{Reserve, NoReserve}

pub reserving_none : (words : List (List ℕ)) (e : Refusal) → piece_at words ≡ Err e → reserving_at words ≡ Ok Reserve
unfolding piece_at reserving_at
reserving_none [] e h = refl
reserving_none (piece ∷ more) e h = cc

abbrev first_of : Read (List ℕ) → List ℕ
first_of (Ok x) = x.0
first_of (Err e) = []

abbrev others_of : Read (List ℕ) → List (List ℕ)
others_of (Ok x) = x.1
others_of (Err e) = []

pub reserving_last : (words : List (List ℕ)) (piece : List ℕ) (more : List (List ℕ)) → piece_at words ≡ Ok (piece, more) → end_at more ≡ Ok tt →
    reserving_at words ≡ (if bytes_eq piece (codes "noreserve") then Ok NoReserve else Err BadLine)
unfolding piece_at end_at reserving_at
reserving_last [] piece more h e = cc
reserving_last (p ∷ []) piece more h e = ap (λ (x : List ℕ). if bytes_eq x (codes "noreserve") then Ok NoReserve else Err BadLine) (ap first_of h)
reserving_last (p ∷ q ∷ r) piece more h e = let not : end_at (q ∷ r) ≡ Ok tt = ap end_at (ap others_of h) ∙ e in cc

pub reserving_more : (words : List (List ℕ)) (piece : List ℕ) (more : List (List ℕ)) (e : Refusal) → piece_at words ≡ Ok (piece, more) → end_at more ≡ Err e → reserving_at words ≡ Err e
unfolding piece_at end_at reserving_at
reserving_more [] piece more e h k = cc
reserving_more (p ∷ []) piece more e h k = let not : end_at [] ≡ Err e = ap end_at (ap others_of h) ∙ k in cc
reserving_more (p ∷ q ∷ r) piece more e h k =
    let same : end_at (q ∷ r) ≡ Err e = ap end_at (ap others_of h) ∙ k in cc
