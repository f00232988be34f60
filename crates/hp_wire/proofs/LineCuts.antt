-- The lines of bytes that are cut at a newline.
use Rattle.std.proofs.Common.{◌≡◌, ℕ, List, [], ◌∷◌, ◌++◌, refl, sym, ◌∙◌, ap, ◌==◌, append_assoc, nat_eq, Bool, true, false}
use Rattle.hp_model.proofs.Words.{Line, after_lines, ended, ended_lines, ended_pieces, last_piece, pieces}
use Rattle.hp_wire_lines.proofs.Pieces.{first_piece, joined, slice_split-append}
use Rattle.std.specs.List.{onto_first}
use Rattle.std.proofs.lemmas.List.Splits.{slice_split-cons_yes, slice_split-cons_no}

ended_front : (line : List ℕ) (ps : List (List ℕ)) (f : List ℕ) (m : List (List ℕ)) → ps ≡ f ∷ m → ended_pieces (line ∷ ps) ≡ ended line ∷ ended_pieces ps
ended_front line [] f m e = cc
ended_front line (p ∷ ps) f m e = refl

last_front : (line : List ℕ) (ps : List (List ℕ)) (f : List ℕ) (m : List (List ℕ)) → ps ≡ f ∷ m → last_piece (line ∷ ps) ≡ last_piece ps
last_front line [] f m e = cc
last_front line (p ∷ ps) f m e = refl

cut_ended : (rest line next : List ℕ) → pieces rest ≡ line ∷ pieces next → ended_lines rest ≡ ended line ∷ ended_lines next
cut_ended rest line next h = let f = first_piece (λ b. b == 10) next in
    ap ended_pieces h ∙ ended_front line (pieces next) f.0 f.1 f.2

cut_after : (rest line next : List ℕ) → pieces rest ≡ line ∷ pieces next → after_lines rest ≡ after_lines next
cut_after rest line next h = let f = first_piece (λ b. b == 10) next in
    ap last_piece h ∙ last_front line (pieces next) f.0 f.1 f.2

-- lines were cut off the front of bytes, and these are left
pub record CutOff (bytes rest : List ℕ) (done : List Line) : Type 0 where
  pub front : List ℕ
  pub whole : bytes ≡ front ++ rest
  pub lines : ended_lines bytes ≡ done ++ ended_lines rest
  pub after : after_lines bytes ≡ after_lines rest

pub none_off : (bytes : List ℕ) → CutOff bytes bytes []
none_off bytes = record { front = []; whole = refl; lines = refl; after = refl }

pub one_off : {bytes rest : List ℕ} {done : List Line} (line next : List ℕ) → CutOff bytes rest done → pieces rest ≡ line ∷ pieces next → rest ≡ line ++ 10 ∷ next
    → CutOff bytes next (done ++ ended line ∷ [])
one_off {rest} {done} line next h cut whole = record {
  front = h.front ++ (line ++ 10 ∷ []);
  whole = h.whole ∙ ap (λ (xs : List ℕ). h.front ++ xs) (whole ∙ sym (append_assoc line (10 ∷ []) next)) ∙ sym (append_assoc h.front (line ++ 10 ∷ []) next);
  lines = h.lines ∙ ap (λ (ls : List Line). done ++ ls) (cut_ended rest line next cut) ∙ sym (append_assoc done (ended line ∷ []) (ended_lines next));
  after = h.after ∙ cut_after rest line next cut;
}

-- bytes after bytes
joined_some : (c : List ℕ) (front bs : List (List ℕ)) → (f : List ℕ) × (m : List (List ℕ)) × (joined (c ∷ front) bs ≡ f ∷ m)
joined_some c [] [] = (c, [], refl)
joined_some c [] (b ∷ bs) = (c ++ b, bs, refl)
joined_some c (a ∷ front) bs = (c, joined (a ∷ front) bs, refl)

ended_joined : (front bs : List (List ℕ)) (f : List ℕ) (m : List (List ℕ)) (g : List ℕ) (n : List (List ℕ)) → front ≡ f ∷ m → bs ≡ g ∷ n →
    ended_pieces (joined front bs) ≡ ended_pieces front ++ ended_pieces (joined (last_piece front ∷ []) bs)
ended_joined [] bs f m g n e h = cc
ended_joined (a ∷ []) bs f m g n e h = refl
ended_joined (a ∷ c ∷ front) [] f m g n e h = cc
ended_joined (a ∷ c ∷ front) (b ∷ bs) f m g n e h =
    let j = joined_some c front (b ∷ bs) in
    ended_front a (joined (c ∷ front) (b ∷ bs)) j.0 j.1 j.2 ∙ ap (λ (ls : List Line). ended a ∷ ls) (ended_joined (c ∷ front) (b ∷ bs) c front b bs refl refl)

last_joined : (front bs : List (List ℕ)) (f : List ℕ) (m : List (List ℕ)) (g : List ℕ) (n : List (List ℕ)) → front ≡ f ∷ m → bs ≡ g ∷ n →
    last_piece (joined front bs) ≡ last_piece (joined (last_piece front ∷ []) bs)
last_joined [] bs f m g n e h = cc
last_joined (a ∷ []) bs f m g n e h = refl
last_joined (a ∷ c ∷ front) [] f m g n e h = cc
last_joined (a ∷ c ∷ front) (b ∷ bs) f m g n e h =
    let j = joined_some c front (b ∷ bs) in
    last_front a (joined (c ∷ front) (b ∷ bs)) j.0 j.1 j.2 ∙ last_joined (c ∷ front) (b ∷ bs) c front b bs refl refl

last_whole_go : (x : ℕ) (xs : List ℕ) (ps : List (List ℕ)) → (f : List ℕ) (m : List (List ℕ)) → ps ≡ f ∷ m → nat_eq x 10 ≡ false →
    pieces (last_piece ps) ≡ last_piece ps ∷ [] → pieces (last_piece (onto_first x ps)) ≡ last_piece (onto_first x ps) ∷ []
last_whole_go x xs [] f m e t ih = cc
last_whole_go x xs (p ∷ []) f m e t ih = slice_split-cons_no (λ b. b == 10) x p t ∙ ap (onto_first x) ih
last_whole_go x xs (p ∷ q ∷ r) f m e t ih = ih

last_whole_at : (x : ℕ) (xs : List ℕ) (b : Bool) → nat_eq x 10 ≡ b → pieces (after_lines xs) ≡ after_lines xs ∷ [] → pieces (after_lines (x ∷ xs)) ≡ after_lines (x ∷ xs) ∷ []
last_whole_at x xs true t ih =
    let f = first_piece (λ b. b == 10) xs in
    let e : after_lines (x ∷ xs) ≡ after_lines xs = ap last_piece (slice_split-cons_yes (λ b. b == 10) x xs t) ∙ last_front [] (pieces xs) f.0 f.1 f.2 in
    ap pieces e ∙ ih ∙ ap (λ (p : List ℕ). p ∷ []) (sym e)
last_whole_at x xs false t ih =
    let f = first_piece (λ b. b == 10) xs in
    let e : pieces (x ∷ xs) ≡ onto_first x (pieces xs) = slice_split-cons_no (λ b. b == 10) x xs t in
    ap (λ ps. pieces (last_piece ps)) e ∙ last_whole_go x xs (pieces xs) f.0 f.1 f.2 t ih ∙ ap (λ ps. last_piece ps ∷ []) (sym e)

pub last_whole : (xs : List ℕ) → pieces (after_lines xs) ≡ after_lines xs ∷ []
last_whole [] = refl
last_whole (x ∷ xs) = last_whole_at x xs (nat_eq x 10) refl (last_whole xs)

pub join_ended : (xs ys : List ℕ) → ended_lines (xs ++ ys) ≡ ended_lines xs ++ ended_lines (after_lines xs ++ ys)
join_ended xs ys =
    let f = first_piece (λ b. b == 10) xs in
    let g = first_piece (λ b. b == 10) ys in
    ap ended_pieces (slice_split-append (λ b. b == 10) xs ys) ∙ ended_joined (pieces xs) (pieces ys) f.0 f.1 g.0 g.1 f.2 g.2
    ∙ ap (λ ps. ended_lines xs ++ ended_pieces (joined ps (pieces ys))) (sym (last_whole xs))
    ∙ ap (λ ps. ended_lines xs ++ ended_pieces ps) (sym (slice_split-append (λ b. b == 10) (after_lines xs) ys))

pub join_after : (xs ys : List ℕ) → after_lines (xs ++ ys) ≡ after_lines (after_lines xs ++ ys)
join_after xs ys =
    let f = first_piece (λ b. b == 10) xs in
    let g = first_piece (λ b. b == 10) ys in
    ap last_piece (slice_split-append (λ b. b == 10) xs ys) ∙ last_joined (pieces xs) (pieces ys) f.0 f.1 g.0 g.1 f.2 g.2
    ∙ ap (λ ps. last_piece (joined ps (pieces ys))) (sym (last_whole xs))
    ∙ ap last_piece (sym (slice_split-append (λ b. b == 10) (after_lines xs) ys))
