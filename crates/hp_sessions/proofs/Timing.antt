-- Calls in time.
use Rattle.std.proofs.Common.{◌≡◌, ℕ, zero, suc, ◌+◌, ◌-◌, ◌≤◌, ◌==◌, Bool, true, false, List, [], ◌∷◌, ◌++◌, length, inl, inr, refl, sym, ap, subst, ◌∙◌, arith, if◌then◌else◌}
use Rattle.std.proofs.lemmas.List.{append-nil, append_assoc, length-append}
use Rattle.hp_laws.proofs.Variants.{Step}
use Rattle.hp_model.proofs.Words.{DoesAll, QueuedView, Reply}
use Rattle.hp_events.specs.Time.{Clock, IsFront, made}
use Rattle.hp_sessions.specs.Calls.{HasLooked, IsCallAnswered, IsCallMade, IsTimed, IsToldByReceipts, SessionView, at_clock}

-- ---- fronts of the order

made_one : (t : Bool) (a b : ℕ) → (if t then suc (a + b) else (a + b)) ≡ (if t then suc a else a) + b
made_one true a b = omega arith
made_one false a b = refl

made_append : (n : ℕ) (xs ys : List ℕ) → made n (xs ++ ys) ≡ made n xs + made n ys
made_append n [] ys = omega arith
made_append n (b ∷ bs) ys = ap (λ k. if b == n then suc k else k) (made_append n bs ys) ∙ made_one (b == n) (made n bs) (made n ys)

-- a front with so many events of this session
record HasFront (n k : ℕ) (xs : List ℕ) : Type 0 where
  seen : List ℕ
  front : IsFront seen xs
  made : made n seen ≡ k

front_more : (t : Bool) (n k b : ℕ) (bs : List ℕ) → (b == n) ≡ t → (k ≤ made n bs → HasFront n k bs) → (suc k ≤ made n bs → HasFront n (suc k) bs)
    → suc k ≤ (if t then suc (made n bs) else made n bs) → HasFront n (suc k) (b ∷ bs)
front_more true n k b bs is first other within =
    let f = first (omega (arith, within)) in
    record { seen = b ∷ f.seen; front = (f.front.0, ap (λ xs. b ∷ xs) f.front.1); made = rw (is) (ap suc f.made) }
front_more false n k b bs is first other within =
    let f = other within in
    record { seen = b ∷ f.seen; front = (f.front.0, ap (λ xs. b ∷ xs) f.front.1); made = rw (is) f.made }

front_with : (n k : ℕ) (xs : List ℕ) → k ≤ made n xs → HasFront n k xs
front_with n zero xs within = record { seen = []; front = (xs, refl); made = refl }
front_with n (suc k) [] within = absurd (omega (arith, within))
front_with n (suc k) (b ∷ bs) within = front_more (b == n) n k b bs refl (front_with n k bs) (front_with n (suc k) bs) within

-- ---- a call, whatever was seen of the order

module _ (size : ℕ) (step : Step) (reply : Reply) where
  told_at : (c : Clock) (s t : SessionView) → IsToldByReceipts size s step reply t → IsToldByReceipts size (at_clock c s) step reply (at_clock c t)
  told_at c s t h = record { added = h.added; noted = ap (at_clock c) h.noted; answers = h.answers; tells = h.tells }

  made_at : (kept : Bool) (c : Clock) (s t : SessionView) → IsCallMade kept size s step reply t → IsCallMade kept size (at_clock c s) step reply (at_clock c t)
  made_at true c s t (inl h) = inl (h.0, told_at c s t h.1)
  made_at true c s t (inr h) = inr (ap (at_clock c) h.0, h.1)
  made_at false c s t h = (h.0, told_at c s t h.1)

  -- a call itself does not look
  clock_stays : (kept : Bool) (s t : SessionView) → IsCallMade kept size s step reply t → t.clock ≡ s.clock
  clock_stays true s t (inl h) = ap (λ (v : SessionView). v.clock) h.1.noted
  clock_stays true s t (inr h) = ap (λ (v : SessionView). v.clock) h.0
  clock_stays false s t h = ap (λ (v : SessionView). v.clock) h.1.noted

  more_told : (s t : SessionView) → IsToldByReceipts size s step reply t → length s.receipts ≤ length t.receipts
  more_told s t h =
      let same = ap (λ (v : SessionView). length v.receipts) h.noted ∙ length-append s.receipts h.added in omega (arith, same)

  more_made : (kept : Bool) (s t : SessionView) → IsCallMade kept size s step reply t → length s.receipts ≤ length t.receipts
  more_made true s t (inl h) = more_told s t h.1
  more_made true s t (inr h) = let same = ap (λ (v : SessionView). length v.receipts) h.0 in omega (arith, same)
  more_made false s t h = more_told s t h.1

-- what begins with itself
front_same : {X : Type 0} (xs : List X) → IsFront xs xs
front_same xs = ([], sym (append-nil xs))

front_over : {X : Type 0} (xs ys zs : List X) → IsFront xs ys → IsFront ys zs → IsFront xs zs
front_over xs ys zs a b = (a.0 ++ b.0, b.1 ∙ (ap (λ l. l ++ b.0) a.1 ∙ append_assoc xs a.0 b.0))

-- ---- a look, and a call behind it

pub answered_in_time : (kept : Bool) (size : ℕ) (s n t : SessionView) (step : Step) (reply : Reply) → HasLooked s n → IsCallMade kept size n step reply t
    → IsCallAnswered kept size s step reply t
answered_in_time kept size s n t step reply looked call =
    let same = clock_stays size step reply kept n t call in (record {
      made = subst (λ v. IsCallMade kept size v step reply (at_clock s.clock t)) looked.same (made_at size step reply kept s.clock n t call);
      timed = record {
        start = n.clock.seen;
        known = looked.dated.later;
        not_yet = subst (λ k. made k n.clock.seen ≡ length s.receipts) looked.dated.number looked.dated.made;
        later = subst (λ (c : Clock). IsFront n.clock.seen c.seen) (sym same) (front_same n.clock.seen);
        number = ap (λ (c : Clock). c.number) same ∙ looked.dated.number;
      };
    })

-- ---- a queue, between two looks

-- from one look to the next
record Spans (s t : SessionView) : Type 0 where
  later : IsFront s.clock.seen t.clock.seen
  not_yet : made s.clock.number s.clock.seen ≡ length s.receipts
  all : made t.clock.number t.clock.seen ≡ length t.receipts
  number : t.clock.number ≡ s.clock.number

timed_of : (s t : SessionView) → Spans s t → IsTimed s t
timed_of s t h = record { start = s.clock.seen; known = front_same s.clock.seen; not_yet = h.not_yet; later = h.later; number = h.number }

-- a front between two, with the events that were made between
between : (s m t : SessionView) (c d : Clock) → Spans (at_clock c s) (at_clock d t) → length s.receipts ≤ length m.receipts → length m.receipts ≤ length t.receipts
    → (e : Clock) × Spans (at_clock c s) (at_clock e m) × Spans (at_clock e m) (at_clock d t)
between s m t c d span first more =
    let rest = span.later.0 in
    let not_yet = span.not_yet in
    let added = length m.receipts - length s.receipts in
    let whole = sym (made_append c.number c.seen rest) ∙ ap (made c.number) (sym span.later.1) ∙ ap (λ n. made n d.seen) (sym span.number) ∙ span.all in
    let front = front_with c.number added rest (omega (arith, whole, not_yet, more)) in
    let fewer = front.made in
    let joined = made_append c.number c.seen front.seen in
    let all : made c.number (c.seen ++ front.seen) ≡ length m.receipts = omega (arith, joined, fewer, not_yet, first) in (
      record { number = c.number; seen = c.seen ++ front.seen },
      record { later = (front.seen, refl); not_yet = span.not_yet; all = all; number = refl },
      record {
        later = (front.front.0, span.later.1 ∙ ap (λ xs. c.seen ++ xs) front.front.1 ∙ sym (append_assoc c.seen front.seen front.front.0));
        not_yet = all;
        all = span.all;
        number = span.number;
      },
    )

module _ (kept : Bool) (size : ℕ) where
  abbrev Made : SessionView → Step → Reply → SessionView → Type 0
  Made s step reply t = IsCallMade kept size s step reply t

  abbrev InTime : SessionView → Step → Reply → SessionView → Type 0
  InTime s step reply t = IsCallAnswered kept size s step reply t

  more_all : (s t : SessionView) (before after : List QueuedView) → DoesAll Made s before after t → length s.receipts ≤ length t.receipts
  more_all s t [] [] all = let same = ap (λ (v : SessionView). length v.receipts) all in omega (arith, same)
  more_all s t [] (y ∷ ys) all = absurd all
  more_all s t (x ∷ xs) [] all = absurd all
  more_all s t (x ∷ xs) (y ∷ ys) all =
      let one = more_made size x.step y.reply kept s all.0 all.1 in
      let others = more_all all.0 t xs ys all.2 in
      omega (arith, one, others)

  clock_stays_all : (s t : SessionView) (before after : List QueuedView) → DoesAll Made s before after t → t.clock ≡ s.clock
  clock_stays_all s t [] [] all = ap (λ (v : SessionView). v.clock) (sym all)
  clock_stays_all s t [] (y ∷ ys) all = absurd all
  clock_stays_all s t (x ∷ xs) [] all = absurd all
  clock_stays_all s t (x ∷ xs) (y ∷ ys) all = clock_stays_all all.0 t xs ys all.2 ∙ clock_stays size x.step y.reply kept s all.0 all.1

  -- each is in time, where all are
  each_in_time : (s t : SessionView) (c d : Clock) (x : QueuedView) (xs after : List QueuedView) → Spans (at_clock c s) (at_clock d t)
      → DoesAll Made s (x ∷ xs) after t → DoesAll InTime (at_clock c s) (x ∷ xs) after (at_clock d t)
  each_in_time s t c d x xs [] span all = absurd all
  each_in_time s t c d x [] (y ∷ []) span all = (
    at_clock d t,
    record {
      made = made_at size x.step y.reply kept c s t (subst (λ v. Made s x.step y.reply v) all.2 all.1);
      timed = timed_of (at_clock c s) (at_clock d t) span;
    },
    refl,
  )
  each_in_time s t c d x [] (y ∷ z ∷ ys) span all = absurd all.2
  each_in_time s t c d x (w ∷ xs) (y ∷ ys) span all =
      let middle = between s all.0 t c d span (more_made size x.step y.reply kept s all.0 all.1) (more_all all.0 t (w ∷ xs) ys all.2) in (
        at_clock middle.0 all.0,
        record { made = made_at size x.step y.reply kept c s all.0 all.1; timed = timed_of (at_clock c s) (at_clock middle.0 all.0) middle.1 },
        each_in_time all.0 t middle.0 d w xs ys middle.2 all.2,
      )

  -- the first begins with what was seen before the look as well
  first_later : (s n t : SessionView) (x : QueuedView) (xs after : List QueuedView) → HasLooked s n → DoesAll InTime n (x ∷ xs) after t → DoesAll InTime s (x ∷ xs) after t
  first_later s n t x xs [] looked all = absurd all
  first_later s n t x xs (y ∷ ys) looked all =
      let one = all.1 in
      let timed = one.timed in (
        all.0,
        record {
          made =
              subst (λ v. IsCallMade kept size v x.step y.reply (at_clock s.clock all.0)) looked.same
              (made_at size x.step y.reply kept s.clock n (at_clock n.clock all.0) one.made);
          timed = record {
            start = timed.start;
            known = front_over s.clock.seen n.clock.seen timed.start looked.dated.later timed.known;
            not_yet =
                subst (λ k. made k timed.start ≡ length s.receipts) looked.dated.number
                (timed.not_yet ∙ ap (λ (v : SessionView). length v.receipts) looked.same);
            later = timed.later;
            number = timed.number ∙ looked.dated.number;
          };
        },
        all.2,
      )

  -- one by itself needs no look behind it
  pub one_in_time : (s n t : SessionView) (before after : List QueuedView) → (length before == 0) ≡ false → length before ≤ 1 → HasLooked s n → DoesAll Made n before after t
      → DoesAll InTime s before after t
  one_in_time s n t [] after some few looked all = cc
  one_in_time s n t (x ∷ y ∷ xs) after some few looked all = absurd (omega (arith, few))
  one_in_time s n t (x ∷ []) [] some few looked all = absurd all
  one_in_time s n t (x ∷ []) (y ∷ []) some few looked all = (all.0, answered_in_time kept size s n all.0 x.step y.reply looked all.1, all.2)
  one_in_time s n t (x ∷ []) (y ∷ z ∷ ys) some few looked all = absurd all.2

  pub queue_in_time : (s n m t : SessionView) (before after : List QueuedView) → (length before == 0) ≡ false → HasLooked s n → DoesAll Made n before after m → HasLooked m t
      → DoesAll InTime s before after t
  queue_in_time s n m t [] after some first all last = cc
  queue_in_time s n m t (x ∷ xs) after some first all last =
      let same = clock_stays_all n m (x ∷ xs) after all in
      let span : Spans n (at_clock t.clock m) = record {
        later = subst (λ (c : Clock). IsFront c.seen t.clock.seen) same last.dated.later;
        not_yet = first.dated.made ∙ sym (ap (λ (v : SessionView). length v.receipts) first.same);
        all = last.dated.made;
        number = last.dated.number ∙ ap (λ (c : Clock). c.number) same;
      } in
      first_later s n t x xs after first
      (subst (λ v. DoesAll InTime n (x ∷ xs) after v) (sym (ap (at_clock t.clock) last.same)) (each_in_time n m n.clock t.clock x xs after span all))
