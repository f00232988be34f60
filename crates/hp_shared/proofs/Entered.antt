-- Faults that follow one another, in the seats of their slot and their session.
use Rattle.std.proofs.Common.{◌≡◌, ℕ, suc, ◌+◌, ◌-◌, Bool, Some, Ok, List, [], ◌∷◌, ◌++◌, length, arith, refl, sym, ap, subst, ◌∙◌}
use Rattle.std.proofs.lemmas.List.{length-append}
use Rattle.hp_history.specs.declared.held.Held.{Held}
use Rattle.hp_history.specs.declared.held.Held.TheVariants.{Busy, Session, Slot as SlotPart}
use Rattle.hp_history.specs.History.{IsSession, front_of, looked, number_in, receipts_in}
use Rattle.hp_history.specs.Sections.{IsEntered, asked_in, busy, entry_with, free_slot, receipts_next, section_at, session_view, slot_in, trail_next}
use Rattle.hp_laws.proofs.Variants.{Asked, Done, Receipt, SlotEntry, TakePage}
use Rattle.hp_model.proofs.Words.{granted_at}
use Rattle.hp_model.specs.machine.SlotEvent.{SlotEvent}
use Rattle.hp_model.specs.declared.service.Access.{Access}
use Rattle.hp_model.specs.declared.step.Intent.{Intent}
use Rattle.hp_mount.specs.Running.{reserved_at}
use Rattle.hp_subpool.specs.Subpool.{Subpool, with_page, with_pages}
use Rattle.hp_shared.specs.Runs.{AreEntered, Faults, HasEntered, IsPageMore, RunView, Seats, fault_entered, fault_in_run, faults_of, look_receipt, run_view}
use Rattle.hp_shared.specs.Seated.{run_in, slot_receipt}

-- ---- pages that were taken one after another

entered_more : (f : Faults) (i : ℕ) (nodes : List ℕ) (home place node : ℕ) (s t u : Seats) → AreEntered f i nodes s t → u ≡ fault_entered f home place node (i + length nodes) t
    → AreEntered f i (nodes ++ node ∷ []) s u
entered_more f i [] home place node s t u are is =
    let at : i + 0 ≡ i = omega arith in
    (home, place, is ∙ (λ k. fault_entered f home place node (at k) (are k)))
entered_more f i (n ∷ nodes) home place node s t u are is =
    let at : i + length (n ∷ nodes) ≡ suc i + length nodes = omega arith in
    (are.0, are.1, entered_more f (suc i) nodes home place node (fault_entered f are.0 are.1 n i s) t u are.2 (is ∙ ap (λ k. fault_entered f home place node k t) at))

pub none_took : (d : RunView) → d.waiting ≡ [] → HasEntered d d.waiting d
none_took d none = record { faults = refl; index = refl; number = refl; entered = subst (λ ns. AreEntered d.faults d.index ns d.seats d.seats) (sym none) refl }

pub took_more : (d e x : RunView) (count : ℕ) → HasEntered d e.waiting e → length e.waiting ≡ count → IsPageMore (e.index + count) e x → HasEntered d x.waiting x
took_more d e x count has counted more =
    let at : e.index + count ≡ d.index + length e.waiting = (let same = has.index in omega (arith, same, counted)) in
    record {
      faults = more.faults ∙ has.faults;
      index = more.index ∙ has.index;
      number = more.number ∙ has.number;
      entered = subst (λ ns. AreEntered d.faults d.index ns d.seats x.seats) (sym more.waiting)
          (entered_more d.faults d.index e.waiting more.home more.place more.node d.seats e.seats x.seats has.entered
          (more.seats ∙ (λ k. fault_entered (has.faults k) more.home more.place more.node (at k) e.seats)));
    }

pub one_counted : (i count : ℕ) (e x : RunView) → length e.waiting ≡ count → IsPageMore i e x → length x.waiting ≡ count + 1
one_counted i count e x counted more = (let is = ap length more.waiting ∙ length-append e.waiting (more.node ∷ []) in omega (arith, is, counted))

pub page_more : (count : ℕ) (s t u : Subpool) → t ≡ with_pages count s → u ≡ with_page t → u ≡ with_pages (count + 1) s
page_more count s t u were is =
    let held : (s.held - count) - 1 ≡ s.held - (count + 1) = omega arith in
    let pages : (s.pages + count) + 1 ≡ s.pages + (count + 1) = omega arith in
    is ∙ (ap with_page were ∙ (λ i. record s { held = held i; pages = pages i }))

pub no_pages_more : (s : Subpool) → s ≡ with_pages 0 s
no_pages_more s =
    let held : s.held ≡ s.held - 0 = omega arith in
    let pages : s.pages ≡ s.pages + 0 = omega arith in
    λ i. record s { held = held i; pages = pages i }

-- ---- a page more, in the seats

-- the slot's seat had views, the session's v; the task's home was told; both seats as one entered the section, and then parted
module _ (keeps : Bool) (views : List (List Held)) (a : Access) (intent : Intent) (i home node : ℕ) (v told both held w : List Held) (now : List (List Held)) (asked : Asked)
    (looks : told ≡ looked a.task (Some home) v) (joins : both ≡ free_slot (front_of views) ∷ session_view told ∷ []) (enters : IsEntered keeps both (Some asked) held)
    (asks : asked.section ≡ TakePage home) (answers : asked.answer ≡ granted_at node) where
  abbrev k : ℕ
  k = slot_in (front_of views)

  abbrev f : Faults
  f = faults_of k a intent

  abbrev e : SlotEvent
  e = fault_in_run f home i

  abbrev place : ℕ
  place = enters.0

  abbrev section : Asked
  section = reserved_at home place node

  abbrev receipts : List Receipt
  receipts = receipts_in v ++ look_receipt a.task home ∷ []

  abbrev later : List SlotEntry
  later = run_in views ++ entry_with e (Ok Done) (Some section) ∷ []

  abbrev heard : List Receipt
  heard = receipts ++ slot_receipt k e (Ok Done) (length (run_in views)) ∷ []

  is_both : both ≡ SlotPart k (run_in views) ∷ Session (number_in v) receipts ∷ []
  is_both = joins ∙ ap (λ x. free_slot (front_of views) ∷ session_view x ∷ []) looks

  is_section : section_at place asked ≡ section
  is_section = λ n. record { place = place; section = asks n; answer = answers n }

  is_held : held ≡ Busy k (run_in views) (number_in v) receipts section ∷ []
  is_held = enters.2 ∙ (λ n. busy (is_section n) (is_both n) ∷ [])

  module _ (slot : now ≡ (trail_next e (Ok Done) (asked_in held) held ∷ []) ∷ []) (session : w ≡ receipts_next e (Ok Done) (asked_in held) held ∷ []) where
    is_now : now ≡ (SlotPart k later ∷ []) ∷ []
    is_now = slot ∙ ap (λ x. (trail_next e (Ok Done) (asked_in x) x ∷ []) ∷ []) is_held

    is_w : w ≡ Session (number_in v) heard ∷ []
    is_w = session ∙ ap (λ x. receipts_next e (Ok Done) (asked_in x) x ∷ []) is_held

    pub slot_stays : now ≡ (free_slot (front_of now) ∷ []) ∷ []
    slot_stays = is_now ∙ sym (ap (λ vs. (free_slot (front_of vs) ∷ []) ∷ []) is_now)

    pub session_stays : IsSession w
    session_stays = is_w ∙ sym (ap (λ x. Session (number_in x) (receipts_in x) ∷ []) is_w)

    pub is_more : (waiting after : List ℕ) (full fuller : Bool) → after ≡ waiting ++ node ∷ [] → IsPageMore i (run_view a intent views v waiting full) (run_view a intent now w after fuller)
    is_more waiting after full fuller waits = record {
      home = home;
      place = place;
      node = node;
      faults = ap (λ vs. faults_of (slot_in (front_of vs)) a intent) is_now;
      index = refl;
      number = ap number_in is_w;
      seats = λ n. record { run = run_in (is_now n); told = receipts_in (is_w n) };
      waiting = waits;
    }
