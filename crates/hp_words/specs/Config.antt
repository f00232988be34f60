-- What a configuration holds, and its limits.
use Rattle.std.specs.Prelude.{◌≤◌, ℕ, List, [], ◌∷◌, IsTrue, All, length}
use Rattle.std.specs.Int.{is_power_of_two}
use Rattle.hp_model.specs.machine.Machine.{start}
use Rattle.hp_model.specs.machine.State.{State}
use Rattle.hp_model.specs.Profile.{least_page_bytes, most_frames, most_nodes, most_page_bytes, most_places, most_slots}
use Rattle.hp_words.specs.declared.settings.Config.{Config}
use Rattle.hp_words.specs.declared.settings.Config.TheVariants.{Script, Serve}
use Rattle.hp_words.specs.declared.settings.Machine.{Machine}
use Rattle.hp_words.specs.declared.settings.Serving.{Serving}

-- what a machine starts from
pub record MachineChoice : Type 0 where
  pub frames : List ℕ
  pub page : ℕ
  pub slots : ℕ

-- the machine at its start
abbrev pub chosen : MachineChoice → State
chosen c = start c.frames c.page c.slots

-- two nodes of 4 frames, pages of 1,024 bytes, 4 slots
abbrev pub usual : MachineChoice
usual = record { frames = 4 ∷ 4 ∷ []; page = 1024; slots = 4 }

abbrev pub choice_of : Machine → MachineChoice
choice_of m = record { frames = m.frames.items; page = m.page; slots = m.slots }

-- nodes, each of some frames
abbrev pub IsFrames : List ℕ → Type 0
IsFrames fs = (1 ≤ length fs) × (length fs ≤ most_nodes) × All (λ f. (1 ≤ f) × (f ≤ most_frames)) fs

-- bytes of a page, a power of two
abbrev pub IsPageSize : ℕ → Type 0
IsPageSize n = (least_page_bytes ≤ n) × (n ≤ most_page_bytes) × IsTrue (is_power_of_two n)

abbrev pub IsWithin : ℕ → ℕ → ℕ → Type 0
IsWithin low high n = (low ≤ n) × (n ≤ high)

pub record IsMachineWithin (c : MachineChoice) : Type 0 where
  pub frames : IsFrames c.frames
  pub page : IsPageSize c.page
  pub slots : IsWithin 1 most_slots c.slots

-- a port's number
abbrev pub most_port : ℕ
most_port = 65535

-- sessions that are served one after another or side by side
abbrev pub most_sessions : ℕ
most_sessions = 65535

-- sessions that are served side by side
abbrev pub most_workers : ℕ
most_workers = 64

-- the seconds of a client's silence
abbrev pub most_idle : ℕ
most_idle = 4294967295

-- what a server is asked for
pub record IsServing (s : Serving) : Type 0 where
  pub port : IsWithin 0 most_port s.port
  pub sessions : IsWithin 1 most_sessions s.sessions
  pub workers : IsWithin 1 most_workers s.workers
  pub room : IsWithin 0 most_places s.room
  pub idle : IsWithin 0 most_idle s.idle

abbrev pub IsConfigWithin : Config → Type 0
IsConfigWithin (Script m) = IsMachineWithin (choice_of m)
IsConfigWithin (Serve m s) = IsMachineWithin (choice_of m) × IsServing s
