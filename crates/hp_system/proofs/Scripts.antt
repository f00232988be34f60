-- A run over a whole input that is known.
use Rattle.std.proofs.Common.{◌≡◌, ℕ, List, [], sym, ◌∙◌, ap, subst, append-nil, ◌++◌, Option, Some, None, Result, Ok, Err, OnOk, IfSome}
use Rattle.std.specs.Io.KnownBytes.{Appends, Consumes, IsAtEnd}
use Rattle.hp_model.proofs.Words.{AnswersInput, AnswersLines, Reply, Serves, lines}
use Rattle.hp_laws.proofs.Variants.{RunFault, Step}

whole_input : (xs ys input : List ℕ) → xs ≡ input ++ ys → ys ≡ [] → input ≡ xs
whole_input xs ys input cut end = sym (cut ∙ ap (λ (zs : List ℕ). input ++ zs) end ∙ append-nil input)

-- a run to the end of a known input answered its lines, and wrote the text of the replies
pub ran_script : {S : Type 0} (may_answer : S → Step → Reply → S → Type 0) (page : ℕ) (r0 r1 : Option (List ℕ)) (s0 s1 : S) (w0 w1 : Option (List ℕ)) (result : Result ℕ RunFault)
    → (input : List ℕ) × Consumes r0 r1 input × Serves may_answer page s0 s1 w0 w1 input result
    → OnOk result (IsAtEnd r1)
    → IfSome r0 (λ input. OnOk result (AnswersInput may_answer page input s0 s1 w0 w1))
ran_script may_answer page None r1 s0 s1 w0 w1 result served whole = tt
ran_script may_answer page (Some xs) r1 s0 s1 w0 w1 (Err e) served whole = tt
ran_script may_answer page (Some xs) None s0 s1 w0 w1 (Ok n) served whole = absurd served.1
ran_script {S} may_answer page (Some xs) (Some ys) s0 s1 w0 w1 (Ok n) served whole =
    let same : served.0 ≡ xs = whole_input xs ys served.0 served.1 whole in
    let ran = served.2.0 in (
      ran.replies.0,
      subst (λ (zs : List ℕ). AnswersLines may_answer s0 (lines zs) ran.replies.0 s1) same ran.replies.1,
      subst (λ (zs : List ℕ). Appends w0 w1 zs) ran.replies.2 ran.written,
    )
