-- A run, read after read.
use Rattle.std.proofs.Common.{◌≡◌, ℕ, List, [], ◌∷◌, ◌++◌, ◌+◌, ◌-◌, ◌<◌, ◌≤◌, length, take, drop, refl, sym, ◌∙◌, ap, subst, arith, append_assoc, length-append, Option, Some, None, append-nil, ◌==◌}
use Rattle.std.proofs.lemmas.List.{take-append-drop}
use Rattle.std.proofs.lemmas.List.Sums.{count_by-le-length}
use Rattle.std.proofs.lemmas.List.Splits.{length-slice_split}
use Rattle.hp_model.proofs.Words.{Line, Ran, RanInPart, Reply, after_lines, ended_lines, ended_pieces, lines, pieces, unended}
use Rattle.std.proofs.Math.Seq.{take-append-add, take-append_seam}
use Rattle.std.specs.Io.KnownBytes.{Appends, Consumes}
use Rattle.hp_wire.specs.Reading.{Reading, Reads}
use Rattle.hp_model.specs.declared.step.Step.{Step}
use Rattle.hp_wire.specs.Unanswered.{CountsLines, Gets}
use Rattle.hp_wire.proofs.Known.{appends_none, appends_then, ran_none, ran_then, ran_cut}
use Rattle.hp_wire.proofs.LineCuts.{join_ended, join_after}
use Rattle.hp_wire.proofs.Stands.{StandsFor, stand_none, stand_ended, stand_after, stand_cut}

consumes_none : (a : Option (List ℕ)) → Consumes a a []
consumes_none None = tt
consumes_none (Some a) = refl

consumes_then : (a b c : Option (List ℕ)) (xs ys : List ℕ) → Consumes a b xs → Consumes b c ys → Consumes a c (xs ++ ys)
consumes_then None b c xs ys h k = tt
consumes_then (Some a) None c xs ys h k = absurd h
consumes_then (Some a) (Some b) None xs ys h k = k
consumes_then (Some a) (Some b) (Some c) xs ys h k = h ∙ ap (λ (zs : List ℕ). xs ++ zs) k ∙ sym (append_assoc xs ys c)

pub reads_none : (a : Reading) → Reads a a []
reads_none a = (consumes_none a.0, appends_none a.1)

pub reads_then : (a b c : Reading) (xs ys : List ℕ) → Reads a b xs → Reads b c ys → Reads a c (xs ++ ys)
reads_then a b c xs ys h k = (consumes_then a.0 b.0 c.0 xs ys h.0 k.0, appends_then a.1 b.1 c.1 xs ys h.1 k.1)

-- so much was read, and what is held stands for the line that it ends in
pub record Progress {S : Type 0} (may_answer : S → Step → Reply → S → Type 0) (page : ℕ) (r0 r : Reading) (s0 s : S) (w0 w : Option (List ℕ)) (held : List ℕ) (total count : ℕ) : Type 0 where
  pub input : List ℕ
  pub consumed : Reads r0 r input
  pub size : total ≡ length input
  pub stands : StandsFor held (after_lines input)
  pub ran : Ran may_answer page s0 (ended_lines input) s w0 w
  pub answered : count ≡ length (ended_lines input)

pub start : {S : Type 0} {may_answer : S → Step → Reply → S → Type 0} {page : ℕ} {r : Reading} {s : S} {w : Option (List ℕ)} → Progress may_answer page r r s s w w [] 0 0
start {r} = record {
  input = [];
  consumed = reads_none r;
  size = refl;
  stands = stand_none;
  ran = ran_none;
  answered = refl;
}

-- the lines of all that was read
chunk_lines : (input held bs : List ℕ) → StandsFor held (after_lines input) → ended_lines (input ++ bs) ≡ ended_lines input ++ ended_lines (held ++ bs)
chunk_lines input held bs h = join_ended input bs ∙ ap (λ (ls : List Line). ended_lines input ++ ls) (stand_ended held (after_lines input) bs h)

-- a front of what was read after what is held was answered
front_ran : {S : Type 0} {may_answer : S → Step → Reply → S → Type 0} {page q : ℕ} {r0 r : Reading} {s0 s t : S} {w0 w w1 : Option (List ℕ)}
    {held : List ℕ} {total count : ℕ} (bs chunk : List ℕ)
    → (p : Progress may_answer page r0 r s0 s w0 w held total count) → chunk ≡ held ++ bs → q ≡ page → Ran may_answer q s (ended_lines chunk) t w w1 →
    Ran may_answer page s0 (ended_lines (p.input ++ bs)) t w0 w1
front_ran {held} bs chunk p cut same ran = rw (chunk_lines p.input held bs p.stands) (ran_then p.ran (rw (same, cut) at ran))

go_on : {S : Type 0} {may_answer : S → Step → Reply → S → Type 0} {page q : ℕ} {r0 r r1 : Reading} {s0 s t : S} {w0 w w1 : Option (List ℕ)} {held chunk next : List ℕ} {total count n more : ℕ}
    → Progress may_answer page r0 r s0 s w0 w held total count → Gets held chunk r r1 n → q ≡ page → Ran may_answer q s (ended_lines chunk) t w w1 →
    next ≡ take 1025 (after_lines chunk) → more ≡ length (ended_lines chunk)
    → Progress may_answer page r0 r1 s0 t w0 w1 next (total + n) (count + more)
go_on {r0} {r} {r1} {held} {chunk} {next} {count} {more} p got same ran e m =
    let bs = got.bytes in
    let last : next ≡ take 1025 (after_lines (held ++ bs)) = e ∙ ap (λ xs. take 1025 (after_lines xs)) got.behind in
    record {
      input = p.input ++ bs;
      consumed = reads_then r0 r r1 p.input bs p.consumed got.consumed;
      size = omega (arith, p.size, got.all, length-append p.input bs);
      stands = subst (λ (h : List ℕ). StandsFor h (after_lines (p.input ++ bs))) (sym last)
          (stand_cut (after_lines (held ++ bs)) (after_lines (p.input ++ bs)) 1025 (omega arith)
          (subst (λ (l : List ℕ). StandsFor (after_lines (held ++ bs)) l) (sym (join_after p.input bs)) (stand_after held (after_lines p.input) bs p.stands)));
      ran = front_ran bs chunk p got.behind same ran;
      answered = ap (λ n. n + more) p.answered ∙ ap (λ n. length (ended_lines p.input) + n) (m ∙ ap (λ xs. length (ended_lines xs)) got.behind)
          ∙ sym (length-append (ended_lines p.input) (ended_lines (held ++ bs))) ∙ ap (λ (ls : List Line). length ls) (sym (chunk_lines p.input held bs p.stands));
    }

-- after the lines that ended were answered, and what follows them was kept
pub turned : {S : Type 0} {may_answer : S → Step → Reply → S → Type 0} {page q : ℕ} {r0 r r1 : Reading} {s0 s t : S}
    {w0 w w1 : Option (List ℕ)} {held chunk next : List ℕ} {total count n left more : ℕ}
    → Progress may_answer page r0 r s0 s w0 w held total count → Gets held chunk r r1 n → q ≡ page → Ran may_answer q s (ended_lines chunk) t w w1
    → CountsLines chunk (left, more) → next ≡ take 1025 (drop (length chunk - left) chunk)
    → Progress may_answer page r0 r1 s0 t w0 w1 next (total + n) (count + more)
turned p got same ran counts kept = go_on p got same ran (kept ∙ ap (take 1025) (sym counts.1)) counts.2

-- the lines of a front come first
more_lines : (xs ys : List ℕ) → (rest : List Line) × (lines (xs ++ ys) ≡ ended_lines xs ++ rest)
more_lines xs ys = (
  ended_lines (after_lines xs ++ ys) ++ unended (after_lines (xs ++ ys)),
  ap (λ (ls : List Line). ls ++ unended (after_lines (xs ++ ys))) (join_ended xs ys) ∙ append_assoc (ended_lines xs) (ended_lines (after_lines xs ++ ys)) (unended (after_lines (xs ++ ys))),
)

part_more : {S : Type 0} {may_answer : S → Step → Reply → S → Type 0} {page : ℕ} {s t : S} {ls all : List Line} {a c : Option (List ℕ)}
    (ks : List Line) → all ≡ ls ++ ks → RanInPart may_answer page s ls t a c → RanInPart may_answer page s all t a c
part_more ks e h = record {
  done = h.done;
  rest = h.rest ++ ks;
  first = e ∙ ap (λ (zs : List Line). zs ++ ks) h.first ∙ append_assoc h.done h.rest ks;
  text = h.text;
  replies = h.replies;
  written = h.written;
}

-- the same bytes, under another name
pub gets_as : {held chunk now : List ℕ} {r r1 : Reading} {n : ℕ} → now ≡ chunk → Gets held chunk r r1 n → Gets held now r r1 n
gets_as same got = record { bytes = got.bytes; consumed = got.consumed; behind = same ∙ got.behind; all = got.all }

-- the bytes that were read, but for the last ones
pub record ButFor (held chunk bytes back : List ℕ) : Type 0 where
  pub front : List ℕ
  pub cut : chunk ≡ held ++ front
  pub all : bytes ≡ front ++ back

pub all_read : {held chunk : List ℕ} {r r1 : Reading} {n : ℕ} (got : Gets held chunk r r1 n) → ButFor held chunk got.bytes []
all_read got = record { front = got.bytes; cut = got.behind; all = sym (append-nil got.bytes) }

-- the last byte is left out
pub but_one : {held all : List ℕ} {r r1 : Reading} {n : ℕ} (got : Gets held all r r1 n) → 0 < n → ButFor held (take (length all - 1) all) got.bytes (drop (n - 1) got.bytes)
but_one {held} {all} {n} got some =
    let size : length all ≡ length held + n = ap length got.behind ∙ length-append held got.bytes ∙ ap (λ k. length held + k) (sym got.all) in
    let at : length all - 1 ≡ length held + (n - 1) = omega arith in
    record {
      front = take (n - 1) got.bytes;
      cut = ap (λ k. take k all) at ∙ ap (take (length held + (n - 1))) got.behind ∙ take-append-add held got.bytes (n - 1);
      all = sym (take-append-drop (n - 1) got.bytes);
    }

-- a write fails while the lines of a front of what was read are answered
pub cut_short : {S : Type 0} {may_answer : S → Step → Reply → S → Type 0} {page q : ℕ} {r0 r r1 : Reading} {s0 s t : S}
    {w0 w w1 : Option (List ℕ)} {held all chunk back : List ℕ} {n total count : ℕ}
    → Progress may_answer page r0 r s0 s w0 w held total count → (got : Gets held all r r1 n) → ButFor held chunk got.bytes back → q ≡ page → RanInPart may_answer q s (ended_lines chunk) t w w1
    → (input : List ℕ) × Reads r0 r1 input × RanInPart may_answer page s0 (lines input) t w0 w1
cut_short {may_answer} {page} {r0} {r} {r1} {s0} {t} {w0} {w1} {held} {back} p got but same ran =
    let part : RanInPart may_answer page s0 (ended_lines (p.input ++ but.front)) t w0 w1 = rw (chunk_lines p.input held but.front p.stands) (ran_cut p.ran (rw (same, but.cut) at ran)) in
    let m = more_lines (p.input ++ but.front) back in (
      p.input ++ got.bytes,
      reads_then r0 r r1 p.input got.bytes p.consumed got.consumed,
      part_more m.0 (ap (λ (xs : List ℕ). lines (p.input ++ xs)) but.all ∙ ap lines (sym (append_assoc p.input but.front back)) ∙ m.1) part,
    )

-- the limit was passed by one byte, which isn't looked at
pub passed : {S : Type 0} {may_answer : S → Step → Reply → S → Type 0} {page q : ℕ} {r0 r r1 : Reading} {s0 s t : S}
    {w0 w w1 : Option (List ℕ)} {held all chunk back : List ℕ} {n total count : ℕ} (limit : ℕ)
    → Progress may_answer page r0 r s0 s w0 w held total count → (got : Gets held all r r1 n) → ButFor held chunk got.bytes back → q ≡ page → Ran may_answer q s (ended_lines chunk) t w w1
    → total + n ≡ limit + 1 → length back ≡ 1
    → (input : List ℕ) × Reads r0 r1 input × (length input ≡ limit + 1) × Ran may_answer page s0 (ended_lines (take limit input)) t w0 w1
passed {may_answer} {page} {r0} {r} {r1} {s0} {t} {w0} {w1} {chunk} {back} limit p got but same ran at one =
    let front = p.input ++ but.front in
    let cut : p.input ++ got.bytes ≡ front ++ back = ap (λ (xs : List ℕ). p.input ++ xs) but.all ∙ sym (append_assoc p.input but.front back) in
    let ends : limit ≡ length front = omega (arith, p.size, got.all, at, one, length-append p.input but.front, ap length but.all, length-append but.front back) in
    let within : take limit (p.input ++ got.bytes) ≡ front = ap (take limit) cut ∙ ap (λ n. take n (front ++ back)) ends ∙ take-append_seam front back in (
      p.input ++ got.bytes,
      reads_then r0 r r1 p.input got.bytes p.consumed got.consumed,
      omega (arith, length-append p.input got.bytes, p.size, got.all, at),
      subst (λ (xs : List ℕ). Ran may_answer page s0 (ended_lines xs) t w0 w1) (sym within) (front_ran but.front chunk p but.cut same ran),
    )

few_pieces : (ps : List (List ℕ)) → length (ended_pieces ps) ≤ length ps - 1
few_pieces [] = omega arith
few_pieces (p ∷ []) = omega arith
few_pieces (p ∷ q ∷ r) = omega (arith, few_pieces (q ∷ r))

pub ended_few : (xs : List ℕ) → length (ended_lines xs) ≤ length xs
ended_few xs = omega (arith, few_pieces (pieces xs), length-slice_split (λ b. b == 10) xs, count_by-le-length (λ b. b == 10) xs)

pub few : {S : Type 0} {may_answer : S → Step → Reply → S → Type 0} {page : ℕ} {r0 r : Reading} {s0 s : S} {w0 w : Option (List ℕ)} {held : List ℕ} {total count : ℕ}
    → Progress may_answer page r0 r s0 s w0 w held total count → count ≤ total
few p = omega (arith, p.size, p.answered, ended_few p.input)
