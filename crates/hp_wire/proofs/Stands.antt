-- The bytes that are held of an unended line stand for all of it.
use Rattle.std.proofs.Common.{◌≡◌, ℕ, zero, suc, List, [], ◌∷◌, ◌++◌, ◌<◌, ◌≤◌, length, take, refl, sym, ◌∙◌, ap, arith, Bool, true, false, nat_eq, ◌==◌, ◌⊎◌, inl, inr, Err, length-append}
use Rattle.std.proofs.Common.{length-take, nat_le, take_all}
use Rattle.std.proofs.lemmas.Bool.Decides.{nat_tests}
use Rattle.std.proofs.lemmas.List.Splits.{slice_split-cons_yes, slice_split-cons_no}
use Rattle.std.specs.List.{onto_first}
use Rattle.hp_model.proofs.Words.{Line, after_lines, ended, ended_lines, ended_pieces, last_piece, pieces}
use Rattle.hp_model.specs.declared.refusal.Refusal.TheVariants.{LineTooLong}
use Rattle.hp_wire_lines.proofs.Pieces.{first_piece, joined, slice_split-append}
use Rattle.hp_wire.proofs.LineCuts.{last_whole}

-- both are pieces of a line, and they are equal or both too long
pub record StandsFor (held line : List ℕ) : Type 0 where
  pub whole : pieces held ≡ held ∷ []
  pub same : pieces line ≡ line ∷ []
  pub like : (held ≡ line) ⊎ ((1024 < length held) × (1024 < length line))

ended_long : (a : List ℕ) → 1024 < length a → ended a ≡ Err LineTooLong
ended_long a h = grind (arith, nat_tests)

ended_like : (a b : List ℕ) (n : List (List ℕ)) → 1024 < length a → 1024 < length b → ended_pieces (a ∷ n) ≡ ended_pieces (b ∷ n)
ended_like a b [] h k = refl
ended_like a b (x ∷ n) h k = ap (λ (l : Line). l ∷ ended_pieces (x ∷ n)) (ended_long a h ∙ sym (ended_long b k))

pieces_after : (b y g : List ℕ) (n : List (List ℕ)) → pieces b ≡ b ∷ [] → pieces y ≡ g ∷ n → pieces (b ++ y) ≡ (b ++ g) ∷ n
pieces_after b y g n h k = slice_split-append (λ x. x == 10) b y ∙ ap (λ ps. joined ps (pieces y)) h ∙ ap (joined (b ∷ [])) k

longer : (a g : List ℕ) → 1024 < length a → 1024 < length (a ++ g)
longer a g h = omega (arith, length-append a g)

pub stand_ended : (h b y : List ℕ) → StandsFor h b → ended_lines (b ++ y) ≡ ended_lines (h ++ y)
stand_ended h b y s = elim s.like [
  | inl e ↦ ap (λ xs. ended_lines (xs ++ y)) (sym e)
  | inr l ↦ (let g = first_piece (λ x. x == 10) y in
      ap ended_pieces (pieces_after b y g.0 g.1 s.same g.2) ∙ ended_like (b ++ g.0) (h ++ g.0) g.1 (longer b g.0 l.1) (longer h g.0 l.0)
      ∙ ap ended_pieces (sym (pieces_after h y g.0 g.1 s.whole g.2)))
]

last_like : (a b : List ℕ) (n : List (List ℕ)) → 1024 < length a → 1024 < length b
    → (last_piece (a ∷ n) ≡ last_piece (b ∷ n)) ⊎ ((1024 < length (last_piece (a ∷ n))) × (1024 < length (last_piece (b ∷ n))))
last_like a b [] h k = inr (h, k)
last_like a b (x ∷ n) h k = inl refl

after_like : (h b y : List ℕ) → pieces h ≡ h ∷ [] → pieces b ≡ b ∷ [] → 1024 < length h → 1024 < length b
    → (after_lines (h ++ y) ≡ after_lines (b ++ y)) ⊎ ((1024 < length (after_lines (h ++ y))) × (1024 < length (after_lines (b ++ y))))
after_like h b y wh wb lh lb =
    let g = first_piece (λ x. x == 10) y in
    let eh : after_lines (h ++ y) ≡ last_piece ((h ++ g.0) ∷ g.1) = ap last_piece (pieces_after h y g.0 g.1 wh g.2) in
    let eb : after_lines (b ++ y) ≡ last_piece ((b ++ g.0) ∷ g.1) = ap last_piece (pieces_after b y g.0 g.1 wb g.2) in
    elim (last_like (h ++ g.0) (b ++ g.0) g.1 (longer h g.0 lh) (longer b g.0 lb)) [
      | inl e ↦ inl (eh ∙ e ∙ sym eb)
      | inr l ↦ inr (rw eh l.0, rw eb l.1)
    ]

pub stand_after : (h b y : List ℕ) → StandsFor h b → StandsFor (after_lines (h ++ y)) (after_lines (b ++ y))
stand_after h b y s = record {
  whole = last_whole (h ++ y);
  same = last_whole (b ++ y);
  like = elim s.like [
    | inl e ↦ inl (ap (λ xs. after_lines (xs ++ y)) e)
    | inr l ↦ after_like h b y s.whole s.same l.0 l.1
  ];
}

front_go : (k x : ℕ) (xs : List ℕ) (b : Bool) → nat_eq x 10 ≡ b → pieces (x ∷ xs) ≡ (x ∷ xs) ∷ [] →
    (pieces xs ≡ xs ∷ [] → pieces (take k xs) ≡ take k xs ∷ []) → pieces (x ∷ take k xs) ≡ (x ∷ take k xs) ∷ []
front_go k x xs true t e ih =
    let h : [] ∷ pieces xs ≡ (x ∷ xs) ∷ [] = sym (slice_split-cons_yes (λ b. b == 10) x xs t) ∙ e in
    cc
front_go k x xs false t e ih =
    let f = first_piece (λ b. b == 10) xs in
    let h : (x ∷ f.0) ∷ f.1 ≡ (x ∷ xs) ∷ [] = sym (slice_split-cons_no (λ b. b == 10) x xs t ∙ ap (onto_first x) f.2) ∙ e in
    let i : f.0 ≡ xs = cc in
    let j : f.1 ≡ [] = cc in
    let w : pieces xs ≡ xs ∷ [] = f.2 ∙ ap (λ (p : List ℕ). p ∷ f.1) i ∙ ap (λ (m : List (List ℕ)). xs ∷ m) j in
    slice_split-cons_no (λ b. b == 10) x (take k xs) t ∙ ap (onto_first x) (ih w)

pub front_whole : (k : ℕ) (xs : List ℕ) → pieces xs ≡ xs ∷ [] → pieces (take k xs) ≡ take k xs ∷ []
front_whole zero xs e = refl
front_whole (suc k) [] e = refl
front_whole (suc k) (x ∷ xs) e = front_go k x xs (nat_eq x 10) refl e (front_whole k xs)

cut_like : (h b : List ℕ) (k : ℕ) (t : Bool) → nat_le (length h) k ≡ t → 1025 ≤ k → (h ≡ b) ⊎ ((1024 < length h) × (1024 < length b)) →
    (take k h ≡ b) ⊎ ((1024 < length (take k h)) × (1024 < length b))
cut_like h b k true e big s =
    let short : length h ≤ k = grind (arith, nat_tests) in
    elim s [ inl same ↦ inl (take_all k h short ∙ same) | inr l ↦ inr (rw (take_all k h short) l.0, l.1) ]
cut_like h b k false e big s =
    let long : k < length h = grind (arith, nat_tests) in
    let front : 1024 < length (take k h) = omega (arith, length-take k h) in
    elim s [ inl same ↦ inr (front, omega (arith, ap length same)) | inr l ↦ inr (front, l.1) ]

pub stand_cut : (h b : List ℕ) (k : ℕ) → 1025 ≤ k → StandsFor h b → StandsFor (take k h) b
stand_cut h b k big s = record {
  whole = front_whole k h s.whole;
  same = s.same;
  like = cut_like h b k (nat_le (length h) k) refl big s.like;
}

pub stand_none : StandsFor [] []
stand_none = record { whole = refl; same = refl; like = inl refl }
