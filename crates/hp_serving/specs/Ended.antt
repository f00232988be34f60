-- How the serving of all sessions ends, and what is printed then.
use Rattle.std.specs.Prelude.{◌≡◌, ◌≤◌, ◌++◌, ℕ, Bool, true, false, IsPermutation, List, [], Option, Some, None, codes, length}
use Rattle.std.specs.List.{All}
use Rattle.std.specs.Io.KnownBytes.{Appends}
use Rattle.hp_model.specs.text.Writing.{meminfo_text}
use Rattle.hp_model.specs.Profile.{most_frames_in_all, most_page_bytes}
use Rattle.hp_model.specs.run.Ran.{AppendsFront}
use Rattle.hp_serving.specs.Connection.{told_in}
use Rattle.hp_serving.specs.declared.entry.Outcome.{Outcome}
use Rattle.hp_serving.specs.declared.fault.ServeFault.{ServeFault}
use Rattle.hp_serving.specs.declared.fault.ServeFault.TheVariants.{Memory, Write, Network}
use Rattle.hp_serving.specs.declared.host.Closed.{Closed}
use Rattle.hp_serving.specs.declared.sessions.Ended.{Ended}
use Rattle.hp_serving.specs.declared.sessions.Ended.TheVariants.{Printed, Unprinted, Failed}

-- the line that names a fault
abbrev pub line_of_fault : ServeFault → List ℕ
line_of_fault Memory = codes "hugetlbd: out of memory\n"
line_of_fault Write = codes "hugetlbd: write failed\n"
line_of_fault Network = codes "hugetlbd: network failed\n"

-- the counts and the page are those of a machine
abbrev pub IsOfMachine : Closed → Type 0
IsOfMachine closed = (closed.page ≤ most_page_bytes) × (closed.counts.total ≤ most_frames_in_all)

abbrev pub text_of_audit : Option Bool → List ℕ
text_of_audit None = []
text_of_audit (Some true) = codes "audit ok\n"
text_of_audit (Some false) = codes "audit failed\n"

-- what is printed once all sessions have ended
abbrev pub text_of_close : Closed → List ℕ
text_of_close closed = text_of_audit closed.audit ++ meminfo_text closed.page closed.counts

-- 3 where the audit failed
abbrev pub status_after : Option Bool → ℕ → ℕ
status_after (Some false) other = 3
status_after (Some true) other = other
status_after None other = other

-- the status of a process
abbrev pub status_of : Ended → ℕ
status_of (Printed closed) = status_after closed.audit 0
status_of (Unprinted closed) = status_after closed.audit 1
status_of (Failed fault) = 1

-- So many connections came, and each of them ended as it may. Closing the machine left this, and it was given what the sessions
-- were told that served them.
abbrev pub Leaves : {T G : Type 0} → ℕ → (Outcome T G → Type 0) → (List T → Closed → Type 0) → Closed → Type 0
Leaves {T} {G} sessions may_end may_leave closed =
    (outcomes : List (Outcome T G)) × (length outcomes ≡ sessions) × All may_end outcomes
    × (told : List T) × IsPermutation (told_in outcomes) told × may_leave told closed

-- so it was, where it is told what is left of the machine
abbrev pub LeavesAsked : {T G : Type 0} → ℕ → (Outcome T G → Type 0) → (List T → Closed → Type 0) → Ended → Type 0
LeavesAsked sessions may_end may_leave (Printed closed) = Leaves sessions may_end may_leave closed
LeavesAsked sessions may_end may_leave (Unprinted closed) = Leaves sessions may_end may_leave closed
LeavesAsked sessions may_end may_leave (Failed fault) = Unit {0}

-- what was printed: the text of the close, or a front of it where a write failed, and nothing where a fault came before
abbrev pub Prints : Option (List ℕ) → Option (List ℕ) → Ended → Type 0
Prints before after (Printed closed) = Appends before after (text_of_close closed)
Prints before after (Unprinted closed) = AppendsFront before after (text_of_close closed)
Prints before after (Failed fault) = after ≡ before

-- this is written, or a front of it where a write failed, as none does at a sure end
abbrev pub Says : Type 0 → Option (List ℕ) → Option (List ℕ) → List ℕ → Type 0
Says sure before after text = AppendsFront before after text × (sure → Appends before after text)

-- nothing, or the line of the fault
abbrev pub SaysEnd : Type 0 → Option (List ℕ) → Option (List ℕ) → Ended → Type 0
SaysEnd sure before after (Printed closed) = after ≡ before
SaysEnd sure before after (Unprinted closed) = Says sure before after (line_of_fault Write)
SaysEnd sure before after (Failed fault) = Says sure before after (line_of_fault fault)
