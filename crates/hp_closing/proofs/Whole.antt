-- What all sessions were told, behind what the history's seat has of the parts.
use Rattle.std.proofs.Common.{◌≡◌, ℕ, ◌+◌, Bool, true, not, Option, List, [], ◌∷◌, ◌++◌, length, map, refl, sym, ap, subst, ◌∙◌, arith, append_assoc, IfSome}
use Rattle.std.proofs.lemmas.List.{append-nil, length-append, length-map, map-append}
use Rattle.hp_events.specs.Time.{IsFront}
use Rattle.hp_history.specs.Ending.{HistoriesAgree, HistoriesAreOne, all_of, by_at, clocks_of, sessions_from}
use Rattle.hp_history.specs.declared.held.Held.{Held}
use Rattle.hp_history.specs.declared.held.Held.TheVariants.{Tasks, Pool, Opener, Seen, Session}
use Rattle.hp_history.specs.declared.law.Shape.{Shape}
use Rattle.hp_history.specs.History.{Each, Ends, held_from}
use Rattle.hp_laws.proofs.Variants.{Receipt}
use Rattle.hp_model.proofs.Words.{IsReadyMachine, IsSettledState, Machine, idle_node, slot_at, start}
use Rattle.hp_shared.specs.Ended.{FinishedView, HasEnded, IsExactly}
use Rattle.hp_shared.specs.Sharing.{entries_of}
use Rattle.hp_shared.specs.declared.shared.Trails.{Trails}
use Rattle.hp_trail.specs.Audit.{Disagree}
use Rattle.hp_closing.specs.Joined.{HaveJoined}
use Rattle.hp_closing.specs.OneRun.{AreNumbered, IsOneRun, all_told}
use Rattle.hp_closing.proofs.Ready.{ready_at}

sessions_append : (n : ℕ) (rss : List (List Receipt)) (rs : List Receipt) → sessions_from n (rss ++ rs ∷ []) ≡ sessions_from n rss ++ Session (n + length rss) rs ∷ []
sessions_append n [] rs = ap (λ k. Session k rs ∷ []) (omega arith)
sessions_append n (x ∷ rss) rs =
    ap (λ hs. Session n x ∷ hs) (sessions_append (n + 1) rss rs ∙ ap (λ k. sessions_from (n + 1) rss ++ Session k rs ∷ []) (omega arith))

numbered_more : (n : ℕ) (xs : List FinishedView) (x : FinishedView) → AreNumbered n xs → x.number ≡ n + length xs → AreNumbered n (xs ++ x ∷ [])
numbered_more n [] x h is = (omega (arith, is), tt)
numbered_more n (y ∷ xs) x h is = (h.0, numbered_more (n + 1) xs x h.1 (omega (arith, is)))

front_more : (order : List ℕ) (xs : List FinishedView) (x : FinishedView) → Each (λ one. IsFront one.seen order) xs → IsFront x.seen order
    → Each (λ one. IsFront one.seen order) (xs ++ x ∷ [])
front_more order [] x h is = (is, tt)
front_more order (y ∷ xs) x h is = (h.0, front_more order xs x h.1 is)

-- so far these have joined, and are what was told; what they saw stands in front. If their numbers are in order, they stand so
pub record Joining (keeps : Bool) (first now : List Held) (all rest : List FinishedView) (told : List (List Receipt)) (at : ℕ) (whole : Bool) : Type 0 where
  pub done : List FinishedView
  pub all_is : done ++ rest ≡ all
  pub at_is : length done ≡ at
  pub are_told : keeps ≡ true → told ≡ all_told done
  pub seen : List (List ℕ)
  pub parts : whole ≡ true → now ≡ clocks_of seen ++ (first ++ sessions_from 0 (all_told done))
  pub theirs : (order : List ℕ) → Each (λ bs. IsFront bs order) seen → Each (λ one. IsFront one.seen order) done
  pub numbered : whole ≡ true → AreNumbered 0 done

pub one_joins : (keeps whole whole' : Bool) (first acc now : List Held) (all rest rest' : List FinishedView) (told told' : List (List Receipt)) (at at' : ℕ) (x : FinishedView)
    → Joining keeps first acc all rest told at whole → rest ≡ x ∷ rest' → at' ≡ at + 1 → (whole' ≡ true → (whole ≡ true) × (x.number ≡ at))
    → now ≡ Seen x.seen ∷ (acc ++ Session x.number x.receipts ∷ []) → (keeps ≡ true → told' ≡ told ++ x.receipts ∷ []) → Joining keeps first now all rest' told' at' whole'
one_joins keeps whole whole' first acc now all rest rest' told told' at at' x h rest_is at_is order now_is told_is =
    let more : all_told (h.done ++ x ∷ []) ≡ all_told h.done ++ x.receipts ∷ [] = map-append (λ (one : FinishedView). one.receipts) h.done (x ∷ []) in
    record {
      done = h.done ++ x ∷ [];
      all_is = append_assoc h.done (x ∷ []) rest' ∙ (ap (λ xs. h.done ++ xs) (sym rest_is) ∙ h.all_is);
      at_is = omega (arith, length-append h.done (x ∷ []), h.at_is, at_is);
      are_told = λ kept. told_is kept ∙ (ap (λ xs. xs ++ x.receipts ∷ []) (h.are_told kept) ∙ sym more);
      parts = λ whole_is.
          let was = order whole_is in
          let last : sessions_from 0 (all_told (h.done ++ x ∷ [])) ≡ sessions_from 0 (all_told h.done) ++ Session x.number x.receipts ∷ [] =
          ap (sessions_from 0) more ∙ (sessions_append 0 (all_told h.done) x.receipts
          ∙ ap (λ n. sessions_from 0 (all_told h.done) ++ Session n x.receipts ∷ []) (omega (arith, was.1, h.at_is, length-map h.done (λ (one : FinishedView). one.receipts)))) in
          let behind : (first ++ sessions_from 0 (all_told h.done)) ++ Session x.number x.receipts ∷ [] ≡ first ++ sessions_from 0 (all_told (h.done ++ x ∷ [])) =
          append_assoc first (sessions_from 0 (all_told h.done)) (Session x.number x.receipts ∷ []) ∙ ap (λ hs. first ++ hs) (sym last) in
          now_is ∙ ap (λ hs. Seen x.seen ∷ hs) (ap (λ hs. hs ++ Session x.number x.receipts ∷ []) (h.parts was.0)
          ∙ (append_assoc (clocks_of h.seen) (first ++ sessions_from 0 (all_told h.done)) (Session x.number x.receipts ∷ []) ∙ ap (λ hs. clocks_of h.seen ++ hs) behind));
      seen = x.seen ∷ h.seen;
      theirs = λ order fronts. front_more order h.done x (h.theirs order fronts.1) fronts.0;
      numbered = λ whole_is. let was = order whole_is in numbered_more 0 h.done x (h.numbered was.0) (omega (arith, was.1, h.at_is));
    }

-- none has joined yet
pub none_joined : (keeps : Bool) (first : List Held) (all : List FinishedView) (told : List (List Receipt)) (at : ℕ) (whole : Bool) → told ≡ [] → at ≡ 0
    → Joining keeps first first all all told at whole
none_joined keeps first all told at whole none zero_is = record {
  done = [];
  all_is = refl;
  at_is = sym zero_is;
  are_told = λ kept. none;
  seen = [];
  parts = λ is. sym (append-nil first);
  theirs = λ order fronts. tt;
  numbered = λ is. tt;
}

-- all have
pub all_joined : (keeps whole : Bool) (sh : Shape) (first now : List Held) (all rest : List FinishedView) (told : List (List Receipt)) (at : ℕ)
    → Joining keeps first now all rest told at whole → length rest ≡ 0 → whole ≡ true → Ends sh now → HaveJoined sh first all
all_joined keeps whole sh first now all (x ∷ rest) told at h none is ends = absurd (omega (arith, none))
all_joined keeps whole sh first now all [] told at h none is ends =
    let same : h.done ≡ all = sym (append-nil h.done) ∙ h.all_is in
    subst (λ d. HaveJoined sh first d) same (record {
      seen = h.seen;
      ends = subst (λ hs. Ends sh hs) (h.parts is) ends;
      theirs = h.theirs;
      numbered = h.numbered is;
    })

module _ (keeps : Bool) (frames : List ℕ) (size slots : ℕ) (sh : Shape) (m : Machine) (given : Option Trails) (opened : ℕ) (seat : List Held) (sessions : List FinishedView)
    (shape : sh ≡ record { slots = slots; nodes = length frames; looks = not keeps }) (h : HasEnded keeps (start frames size slots) slots m given opened seat)
    (count : IsExactly opened (length (all_told sessions))) (joined : HaveJoined sh seat sessions) where
  abbrev pub told : List (List Receipt)
  told = all_told sessions

  -- the one seat has all parts and all sessions
  has_all : Ends sh (clocks_of joined.seen ++ all_of h.trails told)
  has_all =
      let many : h.opened ≡ length told = h.count count.0 ∙ count.1 in
      subst (λ n. Ends sh (clocks_of joined.seen ++ (Tasks h.trails.tasks ∷ Pool h.trails.pool ∷ Opener n ∷ (held_from 0 h.trails.slots ++ sessions_from 0 told)))) many
      (subst (λ hs. Ends sh (clocks_of joined.seen ++ (hs ++ sessions_from 0 told))) h.parts joined.ends)

  slots_are : sh.slots ≡ length h.trails.slots
  slots_are = ap (λ (x : Shape). x.slots) shape ∙ h.long

  pub one_run : HistoriesAreOne → IsSettledState (start frames size slots) → IsOneRun (start frames size slots) sessions m
  one_run are settled =
      let one = are sh h.trails told joined.seen slots_are has_all in
      let nodes : length (map idle_node frames) ≡ sh.nodes = length-map frames idle_node ∙ sym (ap (λ (x : Shape). x.nodes) shape) in
      let ran = one.1.run (start frames size slots) m.state.table (slot_at m.state) m.pool settled refl nodes h.ends.runs in
      record {
        numbered = joined.numbered;
        all = one.1.all;
        are_told = one.1.told;
        seen_first = joined.theirs (map by_at one.1.all) one.1.seen_first;
        end = ran.0;
        run = ran.1;
        settled = ran.2;
        parts = ran.3;
      }

  pub run_ready : IsOneRun (start frames size slots) sessions m → IsReadyMachine m
  run_ready run = ready_at (start frames size slots) run.end h.trails m h.ends run.settled run.parts

  pub never_differ : HistoriesAgree → keeps ≡ true → IfSome given (λ t. Disagree (entries_of t) told) → ⊥
  never_differ agree is differ =
      let kept = h.kept is in
      let some : Disagree (entries_of kept.0) told = subst (λ (x : Option Trails). IfSome x (λ t. Disagree (entries_of t) told)) kept.1 differ in
      agree sh h.trails told joined.seen slots_are (ap (λ (x : Shape). x.looks) shape ∙ ap not is) has_all (subst (λ t. Disagree t told) kept.2 some)
