-- Reading the frames of one node after another.
use Rattle.std.proofs.Common.{◌≡◌, ◌≤◌, ◌<◌, ◌==◌, ◌∙◌, ◌++◌, ◌∷◌, ℕ, List, [], map, length, get_or, Result, Ok, refl, sym, ap, arith, append-nil}
use Rattle.std.proofs.Math.ListN.{get_or-map}
use Rattle.std.proofs.Math.Seq.{get_or-append_seam}
use Rattle.std.proofs.lemmas.List.{length-append, length-map}
use Rattle.std.proofs.lemmas.List.Splits.{length-slice_split}
use Rattle.hp_model.proofs.Words.{most_frames, number_read}
use Rattle.hp_model.specs.declared.refusal.Refusal.{Refusal}
use Rattle.hp_words.specs.Asked.{CanBe, comma_pieces, node_frames}

one_more : (frames : List ℕ) (n : ℕ) (left : List (Result ℕ Refusal)) → map Ok frames ++ Ok n ∷ left ≡ map Ok (frames ++ n ∷ []) ++ left
one_more [] n left = refl
one_more (f ∷ fs) n left = ap (λ (xs : List (Result ℕ Refusal)). Ok f ∷ xs) (one_more fs n left)

pub frame_read : (all piece rest more : List ℕ) (frames : List ℕ) (n : ℕ) → map number_read (comma_pieces all) ≡ map Ok frames ++ map number_read (comma_pieces rest)
    → comma_pieces rest ≡ piece ∷ comma_pieces more → number_read piece ≡ Ok n → map number_read (comma_pieces all) ≡ map Ok (frames ++ n ∷ []) ++ map number_read (comma_pieces more)
frame_read all piece rest more frames n so_far cut read =
    so_far ∙ ap (λ (xs : List (Result ℕ Refusal)). map Ok frames ++ xs) (ap (map number_read) cut ∙ ap (λ (r : Result ℕ Refusal). r ∷ map number_read (comma_pieces more)) read)
    ∙ one_more frames n (map number_read (comma_pieces more))

pub last_frame_read : (all piece rest : List ℕ) (frames : List ℕ) (n : ℕ) → map number_read (comma_pieces all) ≡ map Ok frames ++ map number_read (comma_pieces rest)
    → comma_pieces rest ≡ piece ∷ [] → number_read piece ≡ Ok n → map number_read (comma_pieces all) ≡ map Ok (frames ++ n ∷ [])
last_frame_read all piece rest frames n so_far cut read =
    so_far ∙ ap (λ (xs : List (Result ℕ Refusal)). map Ok frames ++ xs) (ap (map number_read) cut ∙ ap (λ (r : Result ℕ Refusal). r ∷ []) read)
    ∙ one_more frames n [] ∙ append-nil (map Ok (frames ++ n ∷ []))

abbrev oks : List ℕ → List (Result ℕ Refusal)
oks = map Ok

length-oks : (fs : List ℕ) → length (oks fs) ≡ length fs
length-oks fs = length-map {B = Result ℕ Refusal} fs Ok

-- a text that can be frames has those of a node in each piece
pub piece_read : (all piece rest : List ℕ) (more : List (List ℕ)) (frames : List ℕ) → map number_read (comma_pieces all) ≡ map Ok frames ++ map number_read (comma_pieces rest)
    → comma_pieces rest ≡ piece ∷ more → CanBe node_frames all → (n : ℕ) × (number_read piece ≡ Ok n) × (1 ≤ n) × (n ≤ most_frames)
piece_read all piece rest more frames so_far cut can =
    let k = length (oks frames) in
    let left = map number_read more in
    let same : oks can.0 ≡ oks frames ++ number_read piece ∷ left = sym can.1 ∙ so_far ∙ ap (λ (ps : List (List ℕ)). oks frames ++ map number_read ps) cut in
    let long : k < length can.0 = omega (arith, ap length same, length-oks can.0, length-append (oks frames) (number_read piece ∷ left)) in
    let read : number_read piece ≡ Ok (get_or can.0 k 0) = sym (get_or-append_seam (oks frames) (number_read piece) left (Ok 0))
    ∙ ap (λ (xs : List (Result ℕ Refusal)). get_or xs k (Ok 0)) (sym same) ∙ get_or-map Ok can.0 k 0 in
    let limits = can.2.2 k 0 long in
    (get_or can.0 k 0, read, limits.0, limits.1)

-- and no more than four pieces
pub too_many : (all rest : List ℕ) (frames : List ℕ) → map number_read (comma_pieces all) ≡ map Ok frames ++ map number_read (comma_pieces rest) → 4 ≤ length frames
    → CanBe node_frames all → ⊥
too_many all rest frames so_far four can =
    let same : oks can.0 ≡ oks frames ++ map number_read (comma_pieces rest) = sym can.1 ∙ so_far in
    omega (
      arith,
      four,
      can.2.1,
      ap length same,
      length-oks can.0,
      length-oks frames,
      length-map (comma_pieces rest) number_read,
      length-append (oks frames) (map number_read (comma_pieces rest)),
      length-slice_split (λ b. b == 44) rest,
    )
