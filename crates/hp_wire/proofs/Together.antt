-- Lines that wait, and are answered together.
use Rattle.std.proofs.Common.{◌≡◌, ℕ, List, [], ◌∷◌, ◌++◌, length, take, drop, ◌+◌, ◌<◌, Option, Result, Ok, Err, refl, sym, ◌∙◌, ap, subst, append_assoc, append-nil, IfErr, OnOk}
use Rattle.std.proofs.lemmas.Grind.{flat_map-append}
use Rattle.std.proofs.lemmas.List.{take-append-drop, take_more}
use lib.ListN.{get_or}
use Rattle.hp_model.proofs.Words.{AnswersStep, AppendsFront, DoesAll, IsTextOfReplies, Line, QueuedView, Reply, ended_lines, ended_pieces, line_of, pieces, step_of}
use Rattle.hp_model.specs.declared.step.Step.{Step}
use Rattle.hp_wire.specs.Answered.{Answered, AnsweredInPart, Gains}
use Rattle.hp_wire.specs.Queues.{AreRead, IsLineTaken, queued_text}
use Rattle.hp_wire.proofs.LineCuts.{CutOff}
use Rattle.hp_wire.proofs.Known.{answered_then, appends_none, front_more, front_then, gains_then, text_then}

-- ---- what holds by how a call ended

pub on_ok : {A E : Type 0} {P Q R : Type 0} (r : Result A E) → (P → Q → R) → OnOk r P → OnOk r Q → OnOk r R
on_ok (Ok a) f p q = f p q
on_ok (Err e) f p q = tt

pub if_err : {A E : Type 0} {P Q R : E → Type 0} (r : Result A E) → ((e : E) → P e → Q e → R e) → IfErr r P → IfErr r Q → IfErr r R
if_err (Ok a) f p q = tt
if_err (Err e) f p q = f e p q

-- ---- what waits is read from lines

read_more : (ls : List Line) (qs : List QueuedView) (l : Line) (q : QueuedView) → AreRead ls qs → step_of l ≡ Ok q.step → AreRead (ls ++ l ∷ []) (qs ++ q ∷ [])
read_more [] [] l q read is = (is, tt)
read_more [] (x ∷ qs) l q read is = absurd read
read_more (k ∷ ls) [] l q read is = absurd read
read_more (k ∷ ls) (x ∷ qs) l q read is = (read.0, read_more ls qs l q read.1 is)

pub read_taken : (ls : List Line) (old new : List QueuedView) (l : Line) → AreRead ls old → IsLineTaken l old new → AreRead (ls ++ l ∷ []) new
read_taken ls old new l read taken = subst (λ (qs : List QueuedView). AreRead (ls ++ l ∷ []) qs) (sym taken.1) (read_more ls old l taken.0 read taken.2)

-- what was done has the text of the lines' replies
pub texts : {S : Type 0} (m : S → Step → Reply → S → Type 0) (page : ℕ) (s t : S) (ls : List Line) (before after : List QueuedView)
    → AreRead ls before → DoesAll m s before after t → IsTextOfReplies m page s ls t (queued_text page after)
texts m page s t [] [] [] read done = ([], sym done, refl)
texts m page s t [] [] (a ∷ after) read done = absurd done
texts m page s t [] (b ∷ before) after read done = absurd read
texts m page s t (l ∷ ls) [] after read done = absurd read
texts m page s t (l ∷ ls) (b ∷ before) [] read done = absurd done
texts m page s t (l ∷ ls) (b ∷ before) (a ∷ after) read done =
    let others = texts m page done.0 t ls before after read.1 done.2 in (
      a.reply ∷ others.0,
      (done.0, subst (λ r. AnswersStep m s r a.reply done.0) (sym read.0) done.1, others.1),
      ap (λ zs. line_of page a.reply ++ zs) others.2,
    )

-- ---- their text comes to what is written and what waits

pub gains_line : {a b c : Option (List ℕ)} {o p r : List ℕ} {text : List ℕ} (line q : List ℕ) → Gains a o b p text → Gains b p c r [] → q ≡ r ++ line → Gains a o c q (text ++ line)
gains_line {a} {c} {o} {r} {text} line q all room is =
    let added : Gains c r c q line = record { sent = []; written = appends_none c; same = sym is } in
    subst (λ xs. Gains a o c q (xs ++ line)) (append-nil text) (gains_then (gains_then all room) added)

-- the text of one more
pub text_more : (page : ℕ) (qs : List QueuedView) (at : ℕ) (d : QueuedView) → at < length qs
    → queued_text page (take at qs) ++ line_of page (get_or qs at d).reply ≡ queued_text page (take (at + 1) qs)
text_more page qs at d within =
    let line = line_of page (get_or qs at d).reply in
    sym (
    ap (queued_text page) (take_more qs at d within) ∙ flat_map-append (λ q. line_of page q.reply) (take at qs) (get_or qs at d ∷ [])
    ∙ ap (λ xs. queued_text page (take at qs) ++ xs) (append-nil line)
    )

-- a write failed behind some of the text
pub cut_text : (a b c : Option (List ℕ)) {o p : List ℕ} (page : ℕ) (qs : List QueuedView) (at : ℕ)
    → Gains a o b p (queued_text page (take at qs)) → AppendsFront b c p → AppendsFront a c (o ++ queued_text page qs)
cut_text a b c {o} {p} page qs at all cut =
    let front = queued_text page (take at qs) in
    let back = queued_text page (drop at qs) in
    let whole : front ++ back ≡ queued_text page qs = sym (flat_map-append (λ q. line_of page q.reply) (take at qs) (drop at qs)) ∙ ap (queued_text page) (take-append-drop at qs) in
    front_more a c (all.sent ++ p) back (o ++ queued_text page qs)
    (ap (λ xs. xs ++ back) (sym all.same) ∙ append_assoc o front back ∙ ap (λ xs. o ++ xs) whole)
    (front_then a b c all.sent p all.written cut)

-- ---- some of the lines are answered

-- lines that were not reached come behind
pub part_longer : {S : Type 0} {m : S → Step → Reply → S → Type 0} {page : ℕ} {s t : S} {ls all : List Line} {a c : Option (List ℕ)} {o : List ℕ} (more : List Line)
    → all ≡ ls ++ more → AnsweredInPart m page s ls t a o c → AnsweredInPart m page s all t a o c
part_longer more whole h = record {
  done = h.done;
  rest = h.rest ++ more;
  first = whole ∙ ap (λ ls. ls ++ more) h.first ∙ append_assoc h.done h.rest more;
  text = h.text;
  replies = h.replies;
  written = h.written;
}

-- lines were answered before
pub part_later : {S : Type 0} {m : S → Step → Reply → S → Type 0} {page : ℕ} {s u t : S} {ls ks : List Line} {a b c : Option (List ℕ)} {o p : List ℕ}
    → Answered m page s ls u a o b p → AnsweredInPart m page u ks t b p c → AnsweredInPart m page s (ls ++ ks) t a o c
part_later {m} {page} {s} {u} {t} {ls} {ks} {a} {b} {c} {o} {p} h k = record {
  done = ls ++ k.done;
  rest = k.rest;
  first = ap (λ xs. ls ++ xs) k.first ∙ sym (append_assoc ls k.done k.rest);
  text = h.text ++ k.text;
  replies = text_then m page s ls u h.text k.done t k.text h.replies k.replies;
  written = subst (λ xs. AppendsFront a c xs) (later o h.gained.sent p h.text k.text h.gained.same) (front_then a b c h.gained.sent (p ++ k.text) h.gained.written k.written);
}
  where
    later : (o sent p text more : List ℕ) → o ++ text ≡ sent ++ p → sent ++ (p ++ more) ≡ o ++ (text ++ more)
    later o sent p text more same = sym (append_assoc sent p more) ∙ ap (λ xs. xs ++ more) (sym same) ∙ append_assoc o text more

-- all of them were, and their text was written in part
pub part_whole : {S : Type 0} {m : S → Step → Reply → S → Type 0} {page : ℕ} {s t : S} {ls : List Line} {a c : Option (List ℕ)} {o : List ℕ} (text : List ℕ)
    → IsTextOfReplies m page s ls t text → AppendsFront a c (o ++ text) → AnsweredInPart m page s ls t a o c
part_whole {ls} text replies written = record {
  done = ls;
  rest = [];
  first = sym (append-nil ls);
  text = text;
  replies = replies;
  written = written;
}

-- all lines that were cut off are answered, those that wait with the others
pub all_together : {S : Type 0} {m : S → Step → Reply → S → Type 0} {page here : ℕ} {s u t : S} {bytes rest line : List ℕ} {a b c : Option (List ℕ)} {o p q : List ℕ}
    {qs : List QueuedView} (done waiting : List Line) → CutOff bytes rest (done ++ waiting) → pieces rest ≡ line ∷ [] → Answered m page s done u a o b p → here ≡ page → AreRead waiting qs
    → ((lines : List Line) → AreRead lines qs → Answered m here u lines t b p c q) → Answered m page s (ended_lines bytes) t a o c q
all_together {rest} done waiting cut one first same read others =
    let none : ended_lines rest ≡ [] = ap ended_pieces one in
    rw (cut.lines ∙ ap (λ ls. (done ++ waiting) ++ ls) none ∙ append-nil (done ++ waiting)) (answered_then first (rw same at others waiting read))

-- lines read as nothing are none
pub none_read : (lines : List Line) → AreRead lines [] → lines ≡ []
none_read [] read = refl
none_read (l ∷ ls) read = absurd read

-- all lines that were cut off are answered where none waits
pub all_alone : {S : Type 0} {m : S → Step → Reply → S → Type 0} {page : ℕ} {s u : S} {bytes rest line : List ℕ} {a b : Option (List ℕ)} {o p : List ℕ} (done waiting : List Line)
    → CutOff bytes rest (done ++ waiting) → pieces rest ≡ line ∷ [] → Answered m page s done u a o b p → AreRead waiting [] → Answered m page s (ended_lines bytes) u a o b p
all_alone {rest} done waiting cut one first read =
    let none : ended_lines rest ≡ [] = ap ended_pieces one in
    let same : (done ++ waiting) ++ ended_lines rest ≡ done =
    ap (λ ls. (done ++ waiting) ++ ls) none ∙ append-nil (done ++ waiting) ∙ ap (λ ls. done ++ ls) (none_read waiting read) ∙ append-nil done in
    rw (cut.lines ∙ same) first
