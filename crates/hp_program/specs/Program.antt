-- A run of the program.
use Rattle.std.specs.Prelude.{◌≡◌, ◌≢◌, ◌≤◌, ◌++◌, ℕ, ℤ, nat_lt, List, [], Option, Some}
use Rattle.std.specs.Prelude.{None, is_some, false, true, Result, Ok, Err, IfErr, IfSome, IsSomeAnd, MatchOption, codes}
use Rattle.std.specs.Io.KnownBytes.{Appends, Consumes}
use Rattle.clap.specs.Faults.{fault_of}
use Rattle.clap.specs.Kinds.{IsAmong}
use Rattle.clap.specs.Values.{kind_of}
use Rattle.clap.specs.Words.{Text}
use Rattle.clap.specs.declared.error.kind.ErrorKind.{ErrorKind}
use Rattle.clap.specs.declared.error.kind.ErrorKind.TheVariants.{DisplayHelp, DisplayVersion}
use Rattle.hp_model.specs.machine.State.{State}
use Rattle.hp_model.specs.machine.Promises.{IsPromisedStep}
use Rattle.hp_model.specs.run.Ran.{AppendsFront}
use Rattle.hp_model.specs.run.Served.{AnswersInput, Serves, IsMemoryOrTooLong, text_of_fault}
use Rattle.hp_model.specs.declared.fault.RunFault.{RunFault}
use Rattle.hp_model.specs.declared.fault.RunFault.TheVariants as fault
use Rattle.hp_serving.specs.Ended as serving
use Rattle.hp_serving.specs.Ended.{Says}
use Rattle.hp_serving.specs.Connection.{IsClosed}
use Rattle.hp_serving.specs.Tcp.{CannotRead, CannotWrite, IsOver, all_heard, all_said, reads_of, writes_to}
use Rattle.hp_serving.specs.declared.entry.Outcome.{Outcome}
use Rattle.hp_serving.specs.declared.tcp.NotOpened.{NotOpened}
use Rattle.hp_sessions.specs.Calls.{IsCallAnswered, SessionView}
use Rattle.hp_serving.specs.declared.host.Closed.{Closed}
use Rattle.hp_serving.specs.declared.sessions.Ended.{Ended}
use Rattle.hp_closing.specs.Joined.{WasJoined}
use Rattle.hp_closing.specs.Left.{HasLeft}
use Rattle.hp_closing.specs.OneRun.{WasOneRun, all_told}
use Rattle.hp_shared.specs.Ended.{FinishedView}
use Rattle.hp_words.specs.Asked.{hugetlbd}
use Rattle.hp_words.specs.Config.{MachineChoice, chosen}
use Rattle.hp_words.specs.declared.config.TheConstants.{HELP, VERSION}
use Rattle.hp_words.specs.declared.settings.Serving.{Serving}
use Rattle.hp_words.specs.declared.settings.Wrong.{Wrong}
use Rattle.hp_words.specs.declared.settings.Wrong.TheVariants.{Memory, Parse, BadValue, OptionFirst}

-- this machine gives replies to the script's lines, one after another, and what was written is their text
abbrev pub AnswersScript : State → List ℕ → Option (List ℕ) → Option (List ℕ) → Type 0
AnswersScript machine script before after = (left : State) × AnswersInput IsPromisedStep machine.page_size script machine left before after

-- so it does, where the script on the input is known
abbrev pub AnswersKnown : {R W : Type 0} → State → (R → Option (List ℕ)) → (W → Option (List ℕ)) → R → W → W → Type 0
AnswersKnown machine remaining contents input before after =
    IfSome (remaining input) (λ script. AnswersScript machine script (contents before) (contents after))

-- the status of a process for the way that its run ended
abbrev pub status_of_run : Result ℕ RunFault → ℕ
status_of_run (Ok count) = 0
status_of_run (Err fault) = 1

-- what the machine read, did and wrote until the run ended; and it ends so only for want of memory or at the limit, where the ends are sure
pub record Run (machine : State) (unread left : Option (List ℕ)) (sure : Type 0) (before after : Option (List ℕ)) (ended : Result ℕ RunFault) : Type 0 where
  pub input : List ℕ
  pub then : State
  pub consumed : Consumes unread left input
  pub served : Serves IsPromisedStep machine.page_size machine then before after input ended
  pub never : sure → IfErr ended IsMemoryOrTooLong

-- so it was on an input and an output, of which `remaining` and `contents` tell what is known
abbrev pub RunsOn : {R W : Type 0} → State → (R → Option (List ℕ)) → (W → Option (List ℕ)) → Type 0 → R → R → W → W → Result ℕ RunFault → Type 0
RunsOn machine remaining contents sure unread left before after ended =
    Run machine (remaining unread) (remaining left) sure (contents before) (contents after) ended

-- the program's own text that words ask for where clap refuses them by this kind
abbrev pub text_for : ErrorKind → Option (List ℕ)
text_for DisplayHelp = Some HELP.now
text_for DisplayVersion = Some VERSION.now
text_for other = None

-- the text that the words ask for
abbrev pub text_asked : Wrong → Option (List ℕ)
text_asked (Parse error) = text_for (kind_of error)
text_asked other = None

-- clap finds that the words ask for this text
abbrev pub AsksForText : List Text → Text → Type 0
AsksForText words text = (kind : ErrorKind) × IsAmong kind (fault_of hugetlbd words) × (text_for kind ≡ Some text)

-- what a process may end with where its words give no configuration: after a text that they ask for 0,
-- or 1 where that can't be written
abbrev pub IsStatusOfWrong : Wrong → ℕ → Type 0
IsStatusOfWrong Memory status = status ≡ 1
IsStatusOfWrong (Parse error) status = MatchOption (text_for (kind_of error)) (status ≡ 2) (λ text. status ≤ 1)
IsStatusOfWrong (BadValue name) status = status ≡ 2
IsStatusOfWrong OptionFirst status = status ≡ 2

-- ---- what is said

-- a line that names what went wrong
abbrev pub named : List ℕ → List ℕ
named text = codes "hugetlbd: " ++ text ++ codes "\n"

-- of the way that a run ended: nothing, or the line of its fault
abbrev pub SaysRunEnd : Type 0 → Option (List ℕ) → Option (List ℕ) → Result ℕ RunFault → Type 0
SaysRunEnd sure before after (Ok count) = after ≡ before
SaysRunEnd sure before after (Err fault) = Says sure before after (named (text_of_fault fault))

-- of words that give no configuration: the line of what is wrong with them, and of a text asked for
-- that can't be written; clap's refusal has a text of its own
abbrev pub SaysWrong : Type 0 → Option (List ℕ) → Option (List ℕ) → Wrong → ℕ → Type 0
SaysWrong sure before after Memory status =
    Says sure before after (named (text_of_fault fault.Memory))
SaysWrong sure before after (Parse error) status =
    IfSome (text_for (kind_of error)) (λ text. (status ≡ 0 → after ≡ before)
    × (status ≡ 1 → Says sure before after (named (text_of_fault fault.Write))))
SaysWrong sure before after (BadValue name) status =
    Says sure before after (named (codes "bad value for --" ++ name.now))
SaysWrong sure before after OptionFirst status =
    Says sure before after (named (codes "option before subcommand"))

-- Words that give no configuration end in this status. The output is as it was, but for the help or the
-- version that they ask for: that is written at status 0, and a front of it else; a sure end takes it.
pub record Refuses {W : Type 0} (contents : W → Option (List ℕ)) (is_sure : W → Type 0) (old new : W)
    (said : Type 0) (before after : Option (List ℕ)) (wrong : Wrong) (status : ℕ) : Type 0 where
  pub ends : IsStatusOfWrong wrong status
  pub quiet : text_asked wrong ≡ None → new ≡ old
  pub told : status ≡ 0 → IsSomeAnd (text_asked wrong) (Appends (contents old) (contents new))
  pub cut : IfSome (text_asked wrong) (AppendsFront (contents old) (contents new))
  pub sure : is_some (text_asked wrong) ≡ true → is_sure old → status ≡ 0
  pub says : SaysWrong said before after wrong status

-- ---- a server

-- How a connection ended, as both its ends tell it: a session that had no receipts yet was asked all that was read, answered it by its
-- calls, and left this; or its client was answered that it has no session; or it could not be opened
abbrev pub EndedBy : {A B G : Type 0} → MachineChoice → Serving → (A → Option ℤ) → (A → Option (List ℕ)) → (A → Type 0) → (A → Type 0)
    → (B → Option ℤ) → (B → Option (List ℕ)) → (B → Type 0) → Outcome FinishedView G → Type 0
EndedBy c s of heard over failed to said broken outcome =
    IsClosed {S = SessionView} (λ session. session.receipts ≡ []) HasLeft (IsCallAnswered (nat_lt 0 s.room) c.page) (λ session. c.page)
    of heard over failed to said broken outcome

-- over TCP: its ends were of one descriptor
abbrev pub EndedOn : MachineChoice → Serving → Outcome FinishedView NotOpened → Type 0
EndedOn c s outcome = EndedBy c s reads_of all_heard IsOver CannotRead writes_to all_said CannotWrite outcome

-- What may be left of the machine that was asked for, once it is closed with what its sessions left. Unless sessions were found
-- to be missing, their events were one run of it, with the replies that they were told, at whose end all its pages are free. Just
-- where there was room for entries it was audited as well.
pub record MayBeLeft (c : MachineChoice) (s : Serving) (left : List FinishedView) (closed : Closed) : Type 0 where
  pub page : closed.page ≡ c.page
  pub audited : closed.audit ≢ Some false → is_some closed.audit ≡ nat_lt 0 s.room
  pub run : closed.audit ≢ Some false → WasOneRun (chosen c) left closed.counts
  pub joined : closed.audit ≡ Some true → WasJoined (chosen c) (all_told left) closed.counts

-- how the serving of all sessions ended, how each of so many connections did, what is left then, what was printed and said, and the status
pub record IsServingEndedBy {G : Type 0} (c : MachineChoice) (s : Serving) (may_end : Outcome FinishedView G → Type 0)
    (before after : Option (List ℕ)) (sure : Type 0) (unsaid said : Option (List ℕ))
    (status : ℕ) : Type 0 where
  pub ended : Ended
  pub leaves : serving.LeavesAsked s.sessions may_end (MayBeLeft c s) ended
  pub ends : status ≡ serving.status_of ended
  pub prints : serving.Prints before after ended
  pub says : serving.SaysEnd sure unsaid said ended

-- so it was over TCP
abbrev pub IsServingEnded : MachineChoice → Serving → Option (List ℕ) → Option (List ℕ) → Type 0 → Option (List ℕ) → Option (List ℕ) → ℕ → Type 0
IsServingEnded c s before after sure unsaid said status = IsServingEndedBy c s (EndedOn c s) before after sure unsaid said status
