-- What is left of a machine that was served.
use Rattle.std.proofs.Common.{◌≡◌, ◌==◌, ◌∙◌, ℕ, ℤ, Bool, List, [], Option, nat_lt, ap, subst, sym}
use Rattle.hp_model.proofs.Words.{State}
use Rattle.hp_server.specs.Left as left
use Rattle.hp_serving.specs.Ended.{LeavesAsked}
use Rattle.hp_serving.specs.Connection.{IsClosed}
use Rattle.hp_serving.specs.declared.entry.Outcome.{Outcome}
use Rattle.hp_serving.specs.declared.host.Closed.{Closed}
use Rattle.hp_serving.specs.declared.sessions.Ended.{Ended}
use Rattle.hp_serving.specs.declared.sessions.Ended.TheVariants.{Printed, Unprinted, Failed}
use Rattle.hp_sessions.specs.Calls.{IsCallAnswered, SessionView}
use Rattle.hp_closing.specs.Joined.{WasJoined}
use Rattle.hp_closing.specs.Left.{HasLeft}
use Rattle.hp_closing.specs.OneRun.{WasOneRun, all_told}
use Rattle.hp_shared.specs.Ended.{FinishedView}
use Rattle.hp_words.specs.Config.{MachineChoice, chosen}
use Rattle.hp_program.specs.Program.{EndedBy, MayBeLeft}
use Rattle.hp_words.specs.declared.settings.Serving.{Serving}

-- what sessions left and what is left of the machine, seen otherwise
pub leaves : {T G : Type 0} (count : ℕ) (A B : Outcome T G → Type 0) (L M : List T → Closed → Type 0) (ended : Ended)
    → ((x : Outcome T G) → A x → B x) → ((all : List T) (x : Closed) → L all x → M all x) → LeavesAsked count A L ended → LeavesAsked count B M ended
leaves count A B L M (Printed closed) one all left = (left.0, left.1, (λ k d within. one _ (left.2 k d within)), left.3, left.4, all left.3 closed left.5)
leaves count A B L M (Unprinted closed) one all left = (left.0, left.1, (λ k d within. one _ (left.2 k d within)), left.3, left.4, all left.3 closed left.5)
leaves count A B L M (Failed fault) one all left = tt

-- a machine that started as the one that was asked for
pub as_asked : (c : MachineChoice) (s : Serving) (keeps : ℕ) (machine : State) → machine ≡ chosen c → (keeps == 1) ≡ nat_lt 0 s.room
    → (ended : List FinishedView) (x : Closed) → left.MayLeave keeps machine ended x → MayBeLeft c s ended x
as_asked c s keeps machine same kept ended x h = record {
  page = h.page ∙ ap (λ (m : State). m.page_size) same;
  audited = λ whole. h.audited whole ∙ kept;
  run = λ whole. subst (λ (m : State). WasOneRun m ended x.counts) same (h.run whole);
  joined = λ joined. subst (λ (m : State). WasJoined m (all_told ended) x.counts) same (h.joined joined);
}

-- a connection to it
pub ended_by : {A B G : Type 0} (c : MachineChoice) (s : Serving) (of : A → Option ℤ) (heard : A → Option (List ℕ)) (over failed : A → Type 0)
    (to : B → Option ℤ) (said : B → Option (List ℕ)) (broken : B → Type 0) (kept : Bool) (size : ℕ) → kept ≡ nat_lt 0 s.room → size ≡ c.page → (one : Outcome FinishedView G)
    → IsClosed {S = SessionView} (λ session. session.receipts ≡ []) HasLeft (IsCallAnswered kept size) (λ session. size) of heard over failed to said broken one
    → EndedBy c s of heard over failed to said broken one
ended_by c s of heard over failed to said broken kept size keeps bytes one h = (let kept_is = keeps in let size_is = bytes in rw (sym kept_is, sym size_is) h)
