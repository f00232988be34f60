-- A step's script, carried out event by event.
use Rattle.std.proofs.Common.{if◌then◌else◌, ◌≡◌, ℕ, ◌+◌, ◌<◌, ◌≤◌, Bool, true, false, List, [], ◌∷◌, ◌++◌, Ok, Err, inl, inr, map, refl, sym, ap, subst, ◌∙◌, arith, MatchBool}
use Rattle.std.proofs.lemmas.List.{append-nil, append_assoc, map-append}
use Rattle.std.proofs.lemmas.Bool.{le-ltb, lt-ltb}
use Rattle.std.proofs.lemmas.List.Elements.{All-cons, All-nil}
use Rattle.hp_laws.proofs.Variants.{Event, Find, Home, NoSuchSlot, Receipt, Refusal, Slot as OnSlot, SlotEvent, Step, Tasks as OnTasks, TraceFull}
use Rattle.hp_model.proofs.Words.{Answer_with, Do, Reply, Script, Tells, TellsFront, TellsStep, Where_mapped, finding, has_place, home_in, on_slot, only, script, told_of}
use Rattle.hp_events.specs.Replies.{is_trace_full}
use Rattle.hp_events.specs.Answered.{CanAnswer, IsHanded, IsToldOf}
use Rattle.hp_sessions.specs.Calls.{AreAdded, AreAnswers, Carries, Grows, HasRoomFor, IsCallMade, IsMade, IsRefusedFirst, IsToldByReceipts}
use Rattle.hp_sessions.specs.Calls.{Leads, SessionView, TellsOrStops, noted}

-- ---- cases of a test

pub full_in : (b : Bool) (A B : Type 0) → b ≡ true → MatchBool b A B → A
full_in true A B e t = t
full_in false A B e t = cc

pub done_in : (b : Bool) (A B : Type 0) → b ≡ false → MatchBool b A B → B
done_in true A B e t = cc
done_in false A B e t = t

full_put : (b : Bool) (A B : Type 0) → b ≡ true → A → MatchBool b A B
full_put true A B e t = t
full_put false A B e t = cc

done_put : (b : Bool) (A B : Type 0) → b ≡ false → B → MatchBool b A B
done_put true A B e t = cc
done_put false A B e t = t

map_match : (b : Bool) (A B C D : Type 0) → (A → C) → (B → D) → MatchBool b A B → MatchBool b C D
map_match true A B C D f g t = f t
map_match false A B C D f g t = g t

pub is_full : (r : Reply) → is_trace_full r ≡ true → r ≡ Err TraceFull
is_full (Ok a) e = cc
is_full (Err TraceFull) e = refl
is_full (Err other) e = cc

-- ---- receipts

abbrev pub with_receipts : SessionView → List Receipt → SessionView
with_receipts s rs = record { slots = s.slots; receipts = rs; room = s.room; clock = s.clock }

noted_none : (s : SessionView) → s ≡ noted s []
noted_none s = ap (with_receipts s) (sym (append-nil s.receipts))

noted_then : (s : SessionView) (a b : List Receipt) → noted (noted s a) b ≡ noted s (a ++ b)
noted_then s a b = ap (with_receipts s) (append_assoc s.receipts a b)

added_none : (s : SessionView) → AreAdded s [] s
added_none s = ([], noted_none s, refl)

added_then : (s t u : SessionView) (xs ys : List (Event × Reply)) → AreAdded s xs t → AreAdded t ys u → AreAdded s (xs ++ ys) u
added_then s t u xs ys a b = (
  a.0 ++ b.0,
  b.1 ∙ ap (λ (v : SessionView). noted v b.0) a.1 ∙ noted_then s a.0 b.0,
  map-append told_of a.0 b.0 ∙ ap (λ zs. zs ++ map told_of b.0) a.2 ∙ ap (λ zs. xs ++ zs) b.2,
)

abbrev Can : ℕ → Event × Reply → Type 0
Can size x = CanAnswer size x.0 x.1

module _ (kept : Bool) (size : ℕ) where
  tells_done : (c : Script) (xs : List (Event × Reply)) (reply : Reply) → is_trace_full reply ≡ false → Tells c xs reply → TellsOrStops kept c xs reply
  tells_done c xs reply is h = done_put (is_trace_full reply) ((kept ≡ true) × TellsFront c xs) (Tells c xs reply) is h

  tells_full : (c : Script) (xs : List (Event × Reply)) (reply : Reply) → is_trace_full reply ≡ true → kept ≡ true → TellsFront c xs → TellsOrStops kept c xs reply
  tells_full c xs reply is k h = full_put (is_trace_full reply) ((kept ≡ true) × TellsFront c xs) (Tells c xs reply) is (k, h)

  tells_by : (c d : Script) (xs ys : List (Event × Reply)) (reply : Reply) → (TellsFront c xs → TellsFront d ys) → (Tells c xs reply → Tells d ys reply) →
      TellsOrStops kept c xs reply → TellsOrStops kept d ys reply
  tells_by c d xs ys reply f g h =
      map_match (is_trace_full reply) ((kept ≡ true) × TellsFront c xs) (Tells c xs reply) ((kept ≡ true) × TellsFront d ys) (Tells d ys reply) (λ t. (t.0, f t.1)) g h

  -- nothing more comes
  pub ends : (s : SessionView) (r : Reply) → is_trace_full r ≡ false → Carries kept size s (Answer_with r) r s
  ends s r is = record {
    events = [];
    added = added_none s;
    answers = All-nil (Can size);
    tells = tells_done (Answer_with r) [] r is refl;
  }

  module _ (s t : SessionView) (e : Event) (r : Reply) (made : IsMade kept size s e r t) where
    abbrev FullOnes : Type 0
    FullOnes = (kept ≡ true) × (has_place e ≡ false) × (t ≡ s)

    abbrev MadeOnes : Type 0
    MadeOnes = CanAnswer size e r × AreAdded s ((e, r) ∷ []) t

    -- an event with its reply, and what follows
    pub goes_on : (next : Reply → Script) (reply : Reply) (u : SessionView) → is_trace_full r ≡ false → Carries kept size t (next r) reply u → Carries kept size s (Do e next) reply u
    goes_on next reply u is rest =
        let done = done_in (is_trace_full r) FullOnes MadeOnes is made in
        record {
          events = (e, r) ∷ rest.events;
          added = added_then s t u ((e, r) ∷ []) rest.events done.1 rest.added;
          answers = All-cons (Can size) (e, r) rest.events done.0 rest.answers;
          tells = tells_by (next r) (Do e next) rest.events ((e, r) ∷ rest.events) reply (λ h. (refl, h)) (λ h. (refl, h)) rest.tells;
        }

    -- an event for which there was no place
    pub stops : (next : Reply → Script) → is_trace_full r ≡ true → Carries kept size s (Do e next) r t
    stops next is =
        let full = full_in (is_trace_full r) FullOnes MadeOnes is made in
        record {
          events = [];
          added = subst (λ (v : SessionView). AreAdded s [] v) (sym full.2) (added_none s);
          answers = All-nil (Can size);
          tells = tells_full (Do e next) [] r is full.0 full.1;
        }

    -- an event whose reply is the step's
    pub only_made : Carries kept size s (only e) r t
    only_made = by (is_trace_full r) refl
      where
        by : (b : Bool) → is_trace_full r ≡ b → Carries kept size s (only e) r t
        by true is = stops (λ x. Answer_with x) is
        by false is = goes_on (λ x. Answer_with x) r t is (ends t r is)

  -- an event that is refused ends the step
  pub refused_made : (s t : SessionView) (e : Event) (x : Refusal) (next : Reply → Script) → next (Err x) ≡ Answer_with (Err x) → IsMade kept size s e (Err x) t →
      Carries kept size s (Do e next) (Err x) t
  refused_made s t e x next is made = by (is_trace_full (Err x)) refl
    where
      by : (b : Bool) → is_trace_full (Err x) ≡ b → Carries kept size s (Do e next) (Err x) t
      by true full = stops s t e (Err x) made next full
      by false clear = goes_on s t e (Err x) made next (Err x) t clear (subst (λ c. Carries kept size t c (Err x) t) (sym is) (ends t (Err x) clear))

  -- ---- an event on a slot

  abbrev Tested : SessionView → ℕ → SlotEvent → Bool → Script
  Tested s k e b = if b then only (OnSlot k e) else Answer_with (Err NoSuchSlot)

  pub on_slot_made : (s t : SessionView) (k : ℕ) (e : SlotEvent) (r : Reply) → k < s.slots → IsMade kept size s (OnSlot k e) r t → Carries kept size s (on_slot s.slots k e) r t
  on_slot_made s t k e r within made =
      subst (λ b. Carries kept size s (Tested s k e b) r t) (sym (lt-ltb k s.slots within)) (only_made s t (OnSlot k e) r made)

  pub no_slot : (s : SessionView) (k : ℕ) (e : SlotEvent) → s.slots ≤ k → Carries kept size s (on_slot s.slots k e) (Err NoSuchSlot) s
  no_slot s k e over = subst (λ b. Carries kept size s (Tested s k e b) (Err NoSuchSlot) s) (sym (le-ltb k s.slots over)) (ends s (Err NoSuchSlot) refl)

  -- ---- a task that is looked up

  pub found : (s t : SessionView) (task home : ℕ) → IsMade kept size s (OnTasks (Find task)) (Ok (Home home)) t → (f : ℕ → Script) → Leads kept size s (finding task f) t (f home)
  found s t task home made f reply u rest = goes_on s t (OnTasks (Find task)) (Ok (Home home)) made (λ r. home_in r f) reply u refl rest

  pub not_found : (s t : SessionView) (task : ℕ) (x : Refusal) → IsMade kept size s (OnTasks (Find task)) (Err x) t → (f : ℕ → Script) → Carries kept size s (finding task f) (Err x) t
  not_found s t task x made f = refused_made s t (OnTasks (Find task)) x (λ r. home_in r f) refl made

  -- ---- a choice by whether a task has a map on a slot goes either way
  pub where_mapped : (s t : SessionView) (k task : ℕ) (mapped other : Script) (reply : Reply) → Carries kept size s mapped reply t → Carries kept size s (Where_mapped k task mapped other) reply t
  where_mapped s t k task mapped other reply c = record {
    events = c.events;
    added = c.added;
    answers = c.answers;
    tells = tells_by mapped (Where_mapped k task mapped other) c.events c.events reply (λ h. inl h) (λ h. inl h) c.tells;
  }

  pub where_other : (s t : SessionView) (k task : ℕ) (mapped other : Script) (reply : Reply) → Carries kept size s other reply t → Carries kept size s (Where_mapped k task mapped other) reply t
  where_other s t k task mapped other reply c = record {
    events = c.events;
    added = c.added;
    answers = c.answers;
    tells = tells_by other (Where_mapped k task mapped other) c.events c.events reply (λ h. inr h) (λ h. inr h) c.tells;
  }

-- ---- a whole step

tells_step : (slots : ℕ) (step : Step) (xs : List (Event × Reply)) (reply : Reply) (kept : Bool)
    → TellsOrStops kept (script slots step) xs reply → TellsStep slots step xs reply
tells_step slots step xs (Ok a) kept h = h
tells_step slots step xs (Err TraceFull) kept h = h.1
tells_step slots step xs (Err other) kept h = h

never_full : (b : Bool) (A B : Type 0) → MatchBool b ((false ≡ true) × A) B → (b ≡ false) × B
never_full true A B h = cc
never_full false A B h = (refl, h)

told_by : (kept : Bool) (size : ℕ) (s t : SessionView) (step : Step) (reply : Reply) → Carries kept size s (script s.slots step) reply t → IsToldByReceipts size s step reply t
told_by kept size s t step reply c = record {
  added = c.added.0;
  noted = c.added.1;
  answers = subst (λ xs. AreAnswers size xs) (sym c.added.2) c.answers;
  tells = subst (λ xs. TellsStep s.slots step xs reply) (sym c.added.2) (tells_step s.slots step c.events reply kept c.tells);
}

-- carried out, the step is answered
pub answered : (kept : Bool) (size : ℕ) (s t : SessionView) (step : Step) (reply : Reply) → (kept ≡ true → HasRoomFor s step) →
    Carries kept size s (script s.slots step) reply t → IsCallMade kept size s step reply t
answered true size s t step reply room c = inl (room refl, told_by true size s t step reply c)
answered false size s t step reply room c =
    ((never_full (is_trace_full reply) (TellsFront (script s.slots step) c.events) (Tells (script s.slots step) c.events reply) c.tells).0, told_by false size s t step reply c)

pub refused_first : (size : ℕ) (s : SessionView) (step : Step) (reply : Reply) → IsRefusedFirst s step reply → IsCallMade true size s step reply s
refused_first size s step reply h = inr (refl, h)

-- ---- an event

-- a session whose parts have these receipts
module _ (s t : SessionView) (slots : t.slots ≡ s.slots) (room : t.room ≡ s.room) (clock : t.clock ≡ s.clock) where
  pub view_is : t ≡ with_receipts s t.receipts
  view_is =
      ap (λ n. record { slots = n; receipts = t.receipts; room = t.room; clock = t.clock }) slots
      ∙ ap (λ n. record { slots = s.slots; receipts = t.receipts; room = n; clock = t.clock }) room
      ∙ ap (λ c. record { slots = s.slots; receipts = t.receipts; room = s.room; clock = c }) clock

  noted_by : (added : List Receipt) → t.receipts ≡ s.receipts ++ added → t ≡ noted s added
  noted_by added is = view_is ∙ ap (with_receipts s) is

  -- nothing was told
  pub same_as : t.receipts ≡ s.receipts → t ≡ s
  same_as is = noted_by [] (is ∙ sym (append-nil s.receipts)) ∙ sym (noted_none s)

  -- what a part answered, and what was told
  pub made : (kept : Bool) (size : ℕ) (e : Event) (reply : Reply) → IsHanded kept size e reply s.receipts t.receipts → IsMade kept size s e reply t
  made kept size e reply handed =
      map_match (is_trace_full reply) ((kept ≡ true) × (has_place e ≡ false) × (t.receipts ≡ s.receipts)) (CanAnswer size e reply × IsToldOf e reply s.receipts t.receipts)
      ((kept ≡ true) × (has_place e ≡ false) × (t ≡ s)) (CanAnswer size e reply × AreAdded s ((e, reply) ∷ []) t)
      (λ h. (h.0, h.1, same_as h.2))
      (λ h. (h.0, (h.1.0 ∷ [], noted_by (h.1.0 ∷ []) h.1.1, ap (λ x. x ∷ []) h.1.2))) handed

-- the same of what a session is seen as
pub made_by : {v : SessionView} (s t : SessionView) → v ≡ s → t.slots ≡ v.slots → t.room ≡ v.room → t.clock ≡ v.clock → (kept : Bool) (size : ℕ) (e : Event) (reply : Reply)
    → IsHanded kept size e reply v.receipts t.receipts → IsMade kept size s e reply t
made_by {v} s t is slots room clock kept size e reply handed = subst (λ w. IsMade kept size w e reply t) is (made v t slots room clock kept size e reply handed)

-- ---- how many receipts came

pub grows_then : (a b : ℕ) (s t u : SessionView) → Grows a s t → Grows b t u → Grows (a + b) s u
grows_then a b s t u g h = record {
  slots = h.slots ∙ g.slots;
  room = h.room ∙ g.room;
  few = (let one = g.few in let two = h.few in omega (arith, one, two));
}

pub grows_more : (n : ℕ) (s t : SessionView) → Grows n s t → Grows (n + 1) s t
grows_more n s t g = record { slots = g.slots; room = g.room; few = (let one = g.few in omega (arith, one)) }
