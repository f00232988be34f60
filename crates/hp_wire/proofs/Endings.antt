-- The end of an input.
use Rattle.std.proofs.Common.{◌≡◌, ◌≤◌, ℕ, zero, suc, List, [], ◌∷◌, ◌++◌, ◌+◌, ◌<◌, length, refl, sym, ◌∙◌, ap, subst, arith, Option, Result, Ok, Err, Bool, true, false, nat_le, inl, inr, append-nil}
use Rattle.std.proofs.Common.{length-append, cond, IfOk, IfErr, OnOk}
use Rattle.std.proofs.lemmas.Bool.Decides.{nat_tests}
use Rattle.std.proofs.lemmas.List.{nil_from_length}
use Rattle.std.specs.Io.KnownBytes.{Appends}
use Rattle.hp_wire.specs.Reading.{Reading, Reads}
use Rattle.hp_model.proofs.Words.{AnswersLines, AppendsFront, Line, Ran, RanInPart, Reply, Serves, after_lines, ended_lines, line_of, lines, text, text_of_refusals, unended, unended_by}
use Rattle.hp_model.specs.declared.step.Step.{Step}
use Rattle.hp_model.specs.declared.refusal.Refusal.{Refusal}
use Rattle.hp_model.specs.declared.refusal.Refusal.TheVariants.{BadLine, LineTooLong}
use Rattle.hp_wire.specs.Sent.{IsWriteCut}
use Rattle.hp_wire.specs.Unanswered.{Gets}
use Rattle.hp_model.specs.declared.fault.RunFault.{RunFault}
use Rattle.hp_wire.proofs.Known.{ran_then, ran_cut}
use Rattle.hp_wire.proofs.Stands.{StandsFor}
use Rattle.hp_wire.proofs.Turns.{Progress, reads_then}

abbrev refused : List Refusal → List Line
refused [] = []
refused (r ∷ rs) = Err r ∷ refused rs

abbrev replies_of : List Refusal → List Reply
replies_of [] = []
replies_of (r ∷ rs) = Err r ∷ replies_of rs

answers_refused : {S : Type 0} (may_answer : S → Step → Reply → S → Type 0) (s : S) (rs : List Refusal) → AnswersLines may_answer s (refused rs) (replies_of rs) s
answers_refused may_answer s [] = refl
answers_refused may_answer s (r ∷ rs) = (s, (refl, refl), answers_refused may_answer s rs)

text_refused : (page : ℕ) (rs : List Refusal) → text_of_refusals page rs ≡ text page (replies_of rs)
text_refused page [] = refl
text_refused page (r ∷ rs) = ap (λ (xs : List ℕ). line_of page (Err r) ++ xs) (text_refused page rs)

if_line : (b : Bool) → cond {A = Line} b (Err BadLine) (Err LineTooLong) ≡ Err (cond b BadLine LineTooLong)
if_line true = refl
if_line false = refl

unended_is : (xs : List ℕ) → unended xs ≡ refused (unended_by (length xs))
unended_is [] = refl
unended_is (b ∷ bs) = ap (λ (l : Line). l ∷ []) (if_line (nat_le (length (b ∷ bs)) 1024))

by_long : (n : ℕ) → 1024 < n → unended_by n ≡ LineTooLong ∷ []
by_long zero h = absurd (omega arith)
by_long (suc n) h = let t : nat_le (suc n) 1024 ≡ false = grind (arith, nat_tests) in ap (λ b. cond b BadLine LineTooLong ∷ []) t

pub unended_stands : (held line : List ℕ) → StandsFor held line → unended line ≡ refused (unended_by (length held))
unended_stands held line s = elim s.like [
  | inl e ↦ unended_is line ∙ ap (λ xs. refused (unended_by (length xs))) (sym e)
  | inr l ↦ unended_is line ∙ ap refused (by_long (length line) l.1 ∙ sym (by_long (length held) l.0))
]

ends_ran : {S : Type 0} {may_answer : S → Step → Reply → S → Type 0} {page : ℕ} {s : S} {a b : Option (List ℕ)} (rs : List Refusal) →
    Appends a b (text_of_refusals page rs) → Ran may_answer page s (refused rs) s a b
ends_ran {may_answer} {page} {s} rs h = record { text = text_of_refusals page rs; replies = (replies_of rs, answers_refused may_answer s rs, text_refused page rs); written = h }

ends_part : {S : Type 0} {may_answer : S → Step → Reply → S → Type 0} {page : ℕ} {s : S} {a b : Option (List ℕ)} (rs : List Refusal) →
    AppendsFront a b (text_of_refusals page rs) → RanInPart may_answer page s (refused rs) s a b
ends_part {may_answer} {page} {s} rs h = record {
  done = refused rs;
  rest = [];
  first = sym (append-nil (refused rs));
  text = text_of_refusals page rs;
  replies = (replies_of rs, answers_refused may_answer s rs, text_refused page rs);
  written = h;
}

length_refused : (rs : List Refusal) → length (refused rs) ≡ length rs
length_refused [] = refl
length_refused (r ∷ rs) = ap suc (length_refused rs)

-- the lines of an input, where so much of the last one is held
all_lines : {S : Type 0} {may_answer : S → Step → Reply → S → Type 0} {page : ℕ} {r0 r : Reading} {s0 s : S} {w0 w : Option (List ℕ)} {held : List ℕ} {total count : ℕ}
    → (p : Progress may_answer page r0 r s0 s w0 w held total count) → lines p.input ≡ ended_lines p.input ++ refused (unended_by (length held))
all_lines {held} p = ap (λ (ls : List Line). ended_lines p.input ++ ls) (unended_stands held (after_lines p.input) p.stands)

-- the input ended, and the line that it ended in was answered
finished_at : {S : Type 0} (may_answer : S → Step → Reply → S → Type 0) (page q : ℕ) (r0 r : Reading) (s0 s : S) (w0 w w1 : Option (List ℕ))
    (held : List ℕ) (total count : ℕ) (result : Result ℕ RunFault)
    → (p : Progress may_answer page r0 r s0 s w0 w held total count) → q ≡ page → total ≤ 1073741824
    → IfOk result (λ m. m ≡ count + length (unended_by (length held))) → OnOk result (Appends w w1 (text_of_refusals q (unended_by (length held))))
    → IfErr result (IsWriteCut w w1 (text_of_refusals q (unended_by (length held))))
    → Serves may_answer page s0 s w0 w1 p.input result
finished_at may_answer page q r0 r s0 s w0 w w1 held total count (Ok m) p same within all written cut =
    let rs = unended_by (length held) in (
      rw (all_lines p) (ran_then p.ran (ends_ran rs (subst (λ (x : ℕ). Appends w w1 (text_of_refusals x rs)) same written))),
      all ∙ ap (λ k. k + length rs) p.answered ∙ ap (λ k. length (ended_lines p.input) + k) (sym (length_refused rs))
          ∙ sym (length-append (ended_lines p.input) (refused rs)) ∙ ap (λ (ls : List Line). length ls) (sym (all_lines p)),
      omega (arith, within, p.size),
    )
finished_at may_answer page q r0 r s0 s w0 w w1 held total count (Err e) p same within all written cut =
    rw (cut.0, all_lines p) (ran_cut p.ran (ends_part (unended_by (length held)) (subst (λ (x : ℕ). AppendsFront w w1 (text_of_refusals x (unended_by (length held)))) same cut.1)))

pub finished : {S : Type 0} {may_answer : S → Step → Reply → S → Type 0} {page q : ℕ} {r0 r r1 : Reading} {s0 s : S} {w0 w : Option (List ℕ)}
    {held chunk : List ℕ} {n total count : ℕ} (w1 : Option (List ℕ)) (result : Result ℕ RunFault)
    → Progress may_answer page r0 r s0 s w0 w held total count → Gets held chunk r r1 n → n ≡ 0 → q ≡ page → total ≤ 1073741824
    → IfOk result (λ m. m ≡ count + length (unended_by (length chunk))) → OnOk result (Appends w w1 (text_of_refusals q (unended_by (length chunk))))
    → IfErr result (IsWriteCut w w1 (text_of_refusals q (unended_by (length chunk))))
    → (input : List ℕ) × Reads r0 r1 input × Serves may_answer page s0 s w0 w1 input result
finished {may_answer} {page} {q} {r0} {r} {r1} {s0} {s} {w0} {w} {held} {chunk} {total} {count} w1 result before got none_read same within all written cut =
    let none : got.bytes ≡ [] = nil_from_length got.bytes (sym got.all ∙ none_read) in
    let same_held : chunk ≡ held = got.behind ∙ ap (λ (bs : List ℕ). held ++ bs) none ∙ append-nil held in
    let p : Progress may_answer page r0 r s0 s w0 w chunk total count = rw same_held before in
    let reads : Reads r r1 [] = subst (λ (bs : List ℕ). Reads r r1 bs) none got.consumed in (
      p.input,
      subst (λ (bs : List ℕ). Reads r0 r1 bs) (append-nil p.input) (reads_then r0 r r1 p.input [] p.consumed reads),
      finished_at may_answer page q r0 r s0 s w0 w w1 chunk total count result p same within all written cut,
    )
