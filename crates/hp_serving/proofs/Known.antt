-- What is known of a connection once it has ended.
use Rattle.std.proofs.Common.{◌≡◌, ◌∙◌, ℕ, ℤ, List, [], ◌∷◌, ◌++◌, Option, Some, None, Result, Ok, Err}
use Rattle.std.proofs.Common.{All, IfErr, OnErr, OnOk, ap, arith, inl, inr, length, append-nil, append_assoc, map, refl, subst, sym}
use Rattle.std.proofs.lemmas.List.{map-append}
use Rattle.std.proofs.lemmas.List.Elements.{All-nil, All-push}
use Rattle.std.specs.Io.KnownBytes.{Appends}
use Rattle.hp_model.specs.declared.step.Step.{Step}
use Rattle.hp_model.specs.machine.Plan.{Reply}
use Rattle.hp_model.specs.run.Ran.{AppendsFront}
use Rattle.hp_model.specs.run.Served.{Serves}
use Rattle.hp_model.specs.declared.fault.RunFault.{RunFault}
use Rattle.hp_wire.specs.Reading.{Reading}
use Rattle.hp_wire.specs.Sent.{IsWriteCut}
use Rattle.hp_wire.proofs.Known.{front_whole}
use Rattle.hp_serving.specs.Connection.{Became, HasEnded, IsClosed, WasRefused, WasServed, no_session, told_in}
use Rattle.hp_serving.specs.Session.{IsServed}
use Rattle.hp_serving.specs.declared.entry.Outcome.{Outcome}
use Rattle.hp_serving.specs.declared.entry.Outcome.TheVariants.{Served, Refused, Gone}

grown : (b : Option (List ℕ)) (xs : List ℕ) → Appends (Some []) b xs → b ≡ Some xs
grown None xs h = absurd h
grown (Some ys) xs h = ap Some h

-- all that was read of a new connection is what its session was asked
pub was_served : {S T : Type 0} (is_opened : S → Type 0) (was_told : S → T → Type 0) (may_answer : S → Step → Reply → S → Type 0) (page : S → ℕ)
    (unread left : Reading) (before after : Option (List ℕ)) (over failed broken : Type 0) (told : T)
    → IsServed is_opened was_told may_answer page unread left before after over failed broken told → unread.1 ≡ Some [] → before ≡ Some []
    → WasServed is_opened was_told may_answer page left.1 over failed after broken told
was_served is_opened was_told may_answer page unread left before after over failed broken told h new unsaid =
    let opened = h.0 in
    let finished = h.1 in
    let ended = h.2 in
    let ran = h.5 in
    let input = ran.0 in (
      opened,
      finished,
      ended,
      h.3,
      h.4,
      input,
      grown left.1 input (subst (λ (a : Option (List ℕ)). Appends a left.1 input) new ran.1.1),
      subst (λ (a : Option (List ℕ)). Serves may_answer (page opened) opened finished a after input ended) unsaid ran.2,
      h.6,
    )

has_ended : {S T G A B : Type 0} (is_opened : S → Type 0) (was_told : S → T → Type 0) (may_answer : S → Step → Reply → S → Type 0) (page : S → ℕ)
    (of : A → Option ℤ) (heard : A → Option (List ℕ)) (over failed : A → Type 0) (to : B → Option ℤ) (said : B → Option (List ℕ)) (broken : B → Type 0)
    (reader : A) (writer : B) (outcome : Outcome T G) → of reader ≡ to writer
    → Became is_opened was_told may_answer page (heard reader) (over reader) (failed reader) (said writer) (broken writer) outcome
    → HasEnded is_opened was_told may_answer page of heard over failed to said broken outcome
has_ended is_opened was_told may_answer page of heard over failed to said broken reader writer (Served told) same h = (reader, writer, same, h)
has_ended is_opened was_told may_answer page of heard over failed to said broken reader writer (Refused refused) same h = (reader, writer, same, h)
has_ended is_opened was_told may_answer page of heard over failed to said broken reader writer (Gone gone) same h = absurd h

-- what is known of both ends when they are closed stays known
pub was_closed : {S T G A B : Type 0} (is_opened : S → Type 0) (was_told : S → T → Type 0) (may_answer : S → Step → Reply → S → Type 0) (page : S → ℕ)
    (of : A → Option ℤ) (heard : A → Option (List ℕ)) (over failed : A → Type 0) (to : B → Option ℤ) (said : B → Option (List ℕ)) (broken : B → Type 0)
    (reader : A) (writer : B) (outcome : Outcome T G) → of reader ≡ to writer
    → Became is_opened was_told may_answer page (heard reader) (over reader) (failed reader) (said writer) (broken writer) outcome
    → IsClosed is_opened was_told may_answer page of heard over failed to said broken outcome
was_closed is_opened was_told may_answer page of heard over failed to said broken reader writer outcome same h =
    ∣ has_ended is_opened was_told may_answer page of heard over failed to said broken reader writer outcome same h ∣₁

-- these have ended so far, and were told this
pub record Ending {E T G : Type 0} (of : E → Outcome T G) (may_end : Outcome T G → Type 0) (all rest : List E) (told : List T) : Type 0 where
  pub done : List E
  pub all_is : done ++ rest ≡ all
  pub told_is : told ≡ told_in (map of done)
  pub ended : All may_end (map of done)

told_more : {T G : Type 0} (xs ys : List (Outcome T G)) → told_in (xs ++ ys) ≡ told_in xs ++ told_in ys
told_more [] ys = refl
told_more (Served told ∷ xs) ys = ap (λ ts. told ∷ ts) (told_more xs ys)
told_more (Refused refused ∷ xs) ys = told_more xs ys
told_more (Gone gone ∷ xs) ys = told_more xs ys

pub none_ended : {E T G : Type 0} (of : E → Outcome T G) (may_end : Outcome T G → Type 0) (all : List E) → Ending of may_end all all []
none_ended of may_end all = record { done = []; all_is = refl; told_is = refl; ended = All-nil may_end }

pub one_ended : {E T G : Type 0} (of : E → Outcome T G) (may_end : Outcome T G → Type 0) (all rest rest' : List E) (told told' : List T) (x : E)
    → Ending of may_end all rest told → rest ≡ x ∷ rest' → told' ≡ told ++ told_in (of x ∷ []) → may_end (of x) → Ending of may_end all rest' told'
one_ended of may_end all rest rest' told told' x h next more one =
    let same : map of (h.done ++ x ∷ []) ≡ map of h.done ++ of x ∷ [] = map-append of h.done (x ∷ []) in
    record {
      done = h.done ++ x ∷ [];
      all_is = append_assoc h.done (x ∷ []) rest' ∙ (ap (λ xs. h.done ++ xs) (sym next) ∙ h.all_is);
      told_is = more ∙ (ap (λ ts. ts ++ told_in (of x ∷ [])) h.told_is ∙ (sym (told_more (map of h.done) (of x ∷ [])) ∙ ap told_in (sym same)));
      ended = subst (λ xs. All may_end xs) (sym same) (All-push may_end (map of h.done) (of x) h.ended one);
    }

pub all_ended : {E T G : Type 0} (of : E → Outcome T G) (may_end : Outcome T G → Type 0) (all rest : List E) (told : List T)
    → Ending of may_end all rest told → length rest ≡ 0 → (told ≡ told_in (map of all)) × All may_end (map of all)
all_ended of may_end all (x ∷ rest) told h none = absurd (omega (arith, none))
all_ended of may_end all [] told h none =
    let same : h.done ≡ all = sym (append-nil h.done) ∙ h.all_is in (
      h.told_is ∙ ap (λ xs. told_in (map of xs)) same,
      subst (λ xs. All may_end (map of xs)) same h.ended,
    )

-- the line that there is no session was written, or a front of it
pub was_refused : {X : Type 0} {a : Option (List ℕ)} (b : Option (List ℕ)) (result : Result X RunFault) (broken : Type 0) → a ≡ Some [] → OnOk result (Appends a b no_session)
    → IfErr result (IsWriteCut a b no_session) → OnErr result broken → WasRefused b broken
was_refused {a} b (Ok x) broken new sent cut failed =
    let all : Appends (Some []) b no_session = subst (λ (c : Option (List ℕ)). Appends c b no_session) new sent in
    (front_whole (Some []) b no_session all, inl all)
was_refused {a} b (Err e) broken new sent cut failed = (subst (λ (c : Option (List ℕ)). AppendsFront c b no_session) new cut.1, inr failed)
