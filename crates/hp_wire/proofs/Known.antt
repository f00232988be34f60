-- Known bytes that grow again, and replies to lines after lines.
use Rattle.std.proofs.Common.{◌≡◌, ℕ, List, [], ◌∷◌, ◌++◌, ◌+◌, ◌≤◌, length, take, drop, refl, sym, ◌∙◌, ap, subst, arith, append_assoc, Option, Some, None, take-add, append-nil, ◌-◌, length-drop}
use Rattle.std.proofs.Math.Seq.{take-append-add, take-append_seam, take-length}
use Rattle.std.proofs.lemmas.List.{take-append-drop}
use Rattle.std.proofs.lemmas.Grind.{flat_map-append}
use Rattle.std.specs.Io.KnownBytes.{Appends}
use Rattle.hp_model.proofs.Words.{AnswersLines, AnswersStep, AppendsFront, IsTextOfReplies, Line, Ran, RanInPart, Reply, line_of, step_of, text}
use Rattle.hp_model.specs.declared.step.Step.{Step}
use Rattle.hp_wire.specs.Answered.{Gains, Answered, AnsweredInPart}
use Rattle.hp_text.proofs.Cuts.{rest_is}

pub appends_then : (a b c : Option (List ℕ)) (xs ys : List ℕ) → Appends a b xs → Appends b c ys → Appends a c (xs ++ ys)
appends_then None b c xs ys h k = tt
appends_then (Some a) None c xs ys h k = absurd h
appends_then (Some a) (Some b) None xs ys h k = k
appends_then (Some a) (Some b) (Some c) xs ys h k = k ∙ ap (λ (zs : List ℕ). zs ++ ys) h ∙ append_assoc a xs ys

pub appends_none : (a : Option (List ℕ)) → Appends a a []
appends_none None = tt
appends_none (Some a) = sym (append-nil a)

pub appends_same : (a b : Option (List ℕ)) (xs ys : List ℕ) → xs ≡ ys → Appends a b xs → Appends a b ys
appends_same a b xs ys e h = subst (λ (zs : List ℕ). Appends a b zs) e h

pub front_whole : (a b : Option (List ℕ)) (xs : List ℕ) → Appends a b xs → AppendsFront a b xs
front_whole a b xs h = (length xs, appends_same a b xs (take (length xs) xs) (sym (take-length xs)) h)

pub front_then : (a b c : Option (List ℕ)) (xs ys : List ℕ) → Appends a b xs → AppendsFront b c ys → AppendsFront a c (xs ++ ys)
front_then a b c xs ys h k =
    (length xs + k.0, appends_same a c (xs ++ take k.0 ys) (take (length xs + k.0) (xs ++ ys)) (sym (take-append-add xs ys k.0)) (appends_then a b c xs (take k.0 ys) h k.1))

pub front_more : (a b : Option (List ℕ)) (xs rest all : List ℕ) → xs ++ rest ≡ all → AppendsFront a b xs → AppendsFront a b all
front_more a b xs rest all e h =
    let n = length (take h.0 xs) in
    let cut : take h.0 xs ++ (drop h.0 xs ++ rest) ≡ all =
    sym (append_assoc (take h.0 xs) (drop h.0 xs) rest) ∙ ap (λ (zs : List ℕ). zs ++ rest) (take-append-drop h.0 xs) ∙ e in
    let same : take h.0 xs ≡ take n all = sym (take-append_seam (take h.0 xs) (drop h.0 xs ++ rest)) ∙ ap (take n) cut in
    (n, appends_same a b (take h.0 xs) (take n all) same h.1)

pub appends_more : (a b c : Option (List ℕ)) (at n : ℕ) (bytes : List ℕ) → Appends a b (take at bytes) → Appends b c (take n (drop at bytes)) → Appends a c (take (at + n) bytes)
appends_more a b c at n bytes h k = appends_same a c (take at bytes ++ take n (drop at bytes)) (take (at + n) bytes) (sym (take-add at n bytes))
    (appends_then a b c (take at bytes) (take n (drop at bytes)) h k)

pub appends_rest : (a b c : Option (List ℕ)) (at n : ℕ) (bytes : List ℕ) → Appends a b (take at bytes) →
    Appends b c (take n (take (length bytes - at) (drop at bytes))) → Appends a c (take (at + n) bytes)
appends_rest a b c at n bytes h k = appends_more a b c at n bytes h (appends_same b c (take n (take (length bytes - at) (drop at bytes))) (take n (drop at bytes)) (ap (take n) (rest_is at bytes)) k)

pub within_rest : (at n : ℕ) (bytes : List ℕ) → at ≤ length bytes → n ≤ length (take (length bytes - at) (drop at bytes)) → at + n ≤ length bytes
within_rest at n bytes h k = let same : length (take (length bytes - at) (drop at bytes)) ≡ length bytes - at = ap length (rest_is at bytes) ∙ length-drop at bytes in omega arith

pub answers_then : {S : Type 0} (may_answer : S → Step → Reply → S → Type 0) (s : S) (ls : List Line) (rs : List Reply) (m : S) (ks : List Line) (qs : List Reply) (t : S)
    → AnswersLines may_answer s ls rs m → AnswersLines may_answer m ks qs t → AnswersLines may_answer s (ls ++ ks) (rs ++ qs) t
answers_then {S} may_answer s [] [] m ks qs t h k = subst (λ (u : S). AnswersLines may_answer u ks qs t) h k
answers_then may_answer s [] (r ∷ rs) m ks qs t h k = absurd h
answers_then may_answer s (l ∷ ls) [] m ks qs t h k = absurd h
answers_then may_answer s (l ∷ ls) (r ∷ rs) m ks qs t h k = (h.0, h.1, answers_then may_answer h.0 ls rs m ks qs t h.2 k)

pub text_then : {S : Type 0} (may_answer : S → Step → Reply → S → Type 0) (page : ℕ) (s : S) (ls : List Line) (m : S) (xs : List ℕ) (ks : List Line) (t : S) (ys : List ℕ)
    → IsTextOfReplies may_answer page s ls m xs → IsTextOfReplies may_answer page m ks t ys → IsTextOfReplies may_answer page s (ls ++ ks) t (xs ++ ys)
text_then may_answer page s ls m xs ks t ys h k = (
  h.0 ++ k.0,
  answers_then may_answer s ls h.0 m ks k.0 t h.1 k.1,
  ap (λ (zs : List ℕ). zs ++ ys) h.2 ∙ ap (λ (zs : List ℕ). text page h.0 ++ zs) k.2 ∙ sym (flat_map-append (line_of page) h.0 k.0),
)

pub gains_then : {a b c : Option (List ℕ)} {o p q xs ys : List ℕ} → Gains a o b p xs → Gains b p c q ys → Gains a o c q (xs ++ ys)
gains_then {a} {b} {c} {o} {p} {q} {xs} {ys} h k = record {
  sent = h.sent ++ k.sent;
  written = appends_then a b c h.sent k.sent h.written k.written;
  same = sym (append_assoc o xs ys) ∙ ap (λ (zs : List ℕ). zs ++ ys) h.same ∙ append_assoc h.sent p ys ∙ ap (λ (zs : List ℕ). h.sent ++ zs) k.same ∙ sym (append_assoc h.sent k.sent q);
}

pub gains_none : (a : Option (List ℕ)) (o : List ℕ) → Gains a o a o []
gains_none a o = record { sent = []; written = appends_none a; same = append-nil o }

pub answered_then : {S : Type 0} {may_answer : S → Step → Reply → S → Type 0} {page : ℕ} {s m t : S} {ls ks : List Line} {a b c : Option (List ℕ)} {o p q : List ℕ}
    → Answered may_answer page s ls m a o b p → Answered may_answer page m ks t b p c q → Answered may_answer page s (ls ++ ks) t a o c q
answered_then {may_answer} {page} {s} {m} {t} {ls} {ks} h k = record {
  text = h.text ++ k.text;
  replies = text_then may_answer page s ls m h.text ks t k.text h.replies k.replies;
  gained = gains_then h.gained k.gained;
}

pub answered_none : {S : Type 0} {may_answer : S → Step → Reply → S → Type 0} {page : ℕ} {s : S} {a : Option (List ℕ)} {o : List ℕ} → Answered may_answer page s [] s a o a o
answered_none {a} {o} = record { text = []; replies = ([], refl, refl); gained = gains_none a o }

-- what waited and goes out in part, after lines that were answered
pub answered_cut : {S : Type 0} {may_answer : S → Step → Reply → S → Type 0} {page : ℕ} {s m t : S} {all ls : List Line} {a b c : Option (List ℕ)} {o p : List ℕ} (ks : List Line)
    → Answered may_answer page s ls m a o b p → all ≡ ls ++ ks → t ≡ m → AppendsFront b c p → AnsweredInPart may_answer page s all t a o c
answered_cut {may_answer} {page} {s} {ls} {a} {b} {c} {p} ks h whole same k = record {
  done = ls;
  rest = ks;
  first = whole;
  text = h.text;
  replies = rw same h.replies;
  written = subst (λ (zs : List ℕ). AppendsFront a c zs) (sym h.gained.same) (front_then a b c h.gained.sent p h.gained.written k);
}

-- a line that was answered, after room was made
pub answered_one : {S : Type 0} {may_answer : S → Step → Reply → S → Type 0} {page here : ℕ} {s t : S} {line : Line} {a b : Option (List ℕ)} {o p q : List ℕ} (reply : Reply)
    → Gains a o b p [] → AnswersStep may_answer s (step_of line) reply t → here ≡ page → q ≡ p ++ line_of here reply → Answered may_answer page s (line ∷ []) t a o b q
answered_one {page} {t} {o} {p} {q} reply h k same e =
    let added : q ≡ p ++ line_of page reply = e ∙ ap (λ n. p ++ line_of n reply) same in
    record {
      text = line_of page reply;
      replies = (reply ∷ [], (t, k, refl), sym (append-nil (line_of page reply)));
      gained = record {
        sent = h.sent;
        written = h.written;
        same = ap (λ (zs : List ℕ). zs ++ line_of page reply) (sym (append-nil o) ∙ h.same) ∙ append_assoc h.sent p (line_of page reply) ∙ ap (λ (zs : List ℕ). h.sent ++ zs) (sym added);
      };
    }

pub ran_none : {S : Type 0} {may_answer : S → Step → Reply → S → Type 0} {page : ℕ} {s : S} {a : Option (List ℕ)} → Ran may_answer page s [] s a a
ran_none {a} = record { text = []; replies = ([], refl, refl); written = appends_none a }

pub ran_then : {S : Type 0} {may_answer : S → Step → Reply → S → Type 0} {page : ℕ} {s m t : S} {ls ks : List Line} {a b c : Option (List ℕ)}
    → Ran may_answer page s ls m a b → Ran may_answer page m ks t b c → Ran may_answer page s (ls ++ ks) t a c
ran_then {may_answer} {page} {s} {m} {t} {ls} {ks} {a} {b} {c} h k = record {
  text = h.text ++ k.text;
  replies = text_then may_answer page s ls m h.text ks t k.text h.replies k.replies;
  written = appends_then a b c h.text k.text h.written k.written;
}

pub ran_cut : {S : Type 0} {may_answer : S → Step → Reply → S → Type 0} {page : ℕ} {s m t : S} {ls ks : List Line} {a b c : Option (List ℕ)}
    → Ran may_answer page s ls m a b → RanInPart may_answer page m ks t b c → RanInPart may_answer page s (ls ++ ks) t a c
ran_cut {may_answer} {page} {s} {m} {t} {ls} {ks} {a} {b} {c} h k = record {
  done = ls ++ k.done;
  rest = k.rest;
  first = ap (λ (xs : List Line). ls ++ xs) k.first ∙ sym (append_assoc ls k.done k.rest);
  text = h.text ++ k.text;
  replies = text_then may_answer page s ls m h.text k.done t k.text h.replies k.replies;
  written = front_then a b c h.text k.text h.written k.written;
}

-- what waited is written after the lines were answered
pub ran_sent : {S : Type 0} {may_answer : S → Step → Reply → S → Type 0} {page : ℕ} {s t : S} {ls : List Line} {a b c : Option (List ℕ)} {o p : List ℕ}
    → o ≡ [] → Answered may_answer page s ls t a o b p → Appends b c p → Ran may_answer page s ls t a c
ran_sent {a} {b} {c} {p} e h k = record {
  text = h.text;
  replies = h.replies;
  written = appends_same a c (h.gained.sent ++ p) h.text (sym h.gained.same ∙ ap (λ (zs : List ℕ). zs ++ h.text) e) (appends_then a b c h.gained.sent p h.gained.written k);
}

pub ran_part : {S : Type 0} {may_answer : S → Step → Reply → S → Type 0} {page : ℕ} {s t : S} {ls : List Line} {a c : Option (List ℕ)} {o : List ℕ}
    → o ≡ [] → AnsweredInPart may_answer page s ls t a o c → RanInPart may_answer page s ls t a c
ran_part {a} {c} {o} e h = record {
  done = h.done;
  rest = h.rest;
  first = h.first;
  text = h.text;
  replies = h.replies;
  written = (h.written.0, appends_same a c (take h.written.0 (o ++ h.text)) (take h.written.0 h.text) (ap (λ (zs : List ℕ). take h.written.0 (zs ++ h.text)) e) h.written.1);
}

pub ran_unsent : {S : Type 0} {may_answer : S → Step → Reply → S → Type 0} {page : ℕ} {s t : S} {ls : List Line} {a b c : Option (List ℕ)} {o p : List ℕ}
    → o ≡ [] → Answered may_answer page s ls t a o b p → AppendsFront b c p → RanInPart may_answer page s ls t a c
ran_unsent {ls} e h k = ran_part e (answered_cut [] h (sym (append-nil ls)) refl k)
