-- What the words of a command line ask for. The first word is the program's name.
use Rattle.std.specs.Prelude.{◌≡◌, ◌≢◌, ◌≤◌, ◌⊎◌, ◌==◌, ◌&&◌, ◌++◌, ◌∷◌, ℕ, Bool, true, false, if◌then◌else◌, is_some, List, [], map, Option, Some, IsSomeAnd, MatchOption, Ok, codes}
use Rattle.std.specs.List.{list_any, slice_split}
use Rattle.std.specs.Option.{option_map_or}
use Rattle.std.specs.Str.{bytes_eq}
use Rattle.clap.specs.Walk.{Row, Rule, Text, first_of}
use Rattle.clap.specs.Simple.{App, new_app, new_rule, with_rule, with_subcommand, matches_of, subcommand_of}
use Rattle.clap.specs.Faults.{fault_of}
use Rattle.clap.specs.Kinds.{IsAmong}
use Rattle.clap.specs.Takes.{takes}
use Rattle.clap.specs.Values.{kind_of}
use Rattle.clap.specs.declared.error.kind.ErrorKind.TheVariants.{OutOfMemory}
use Rattle.clap.specs.declared.error.Error.{Error}
use Rattle.clap.specs.declared.builder.action.ArgAction.TheVariants.{Set}
use Rattle.clap.specs.declared.builder.command.Command.{Command}
use Rattle.clap.specs.declared.builder.command.Command.TheViews.{out-Command}
use Rattle.clap.specs.declared.parser.matches.ArgMatches.{ArgMatches}
use Rattle.clap.specs.Words.{found_of, rows_of}
use Rattle.std.specs.Borrow.{Bor}
use Rattle.hp_model.specs.text.Words.{number_read}
use Rattle.hp_model.specs.Profile.{most_places, most_slots}
use Rattle.hp_words.specs.Config.{IsFrames, IsPageSize, IsWithin, MachineChoice, choice_of, usual, most_idle, most_port, most_sessions, most_workers}
use Rattle.hp_words.specs.declared.settings.Config.{Config}
use Rattle.hp_words.specs.declared.settings.Config.TheVariants.{Script, Serve}
use Rattle.hp_words.specs.declared.settings.Serving.{Serving}
use Rattle.hp_words.specs.declared.settings.Wrong.{Wrong}
use Rattle.hp_words.specs.declared.settings.Wrong.TheVariants.{Memory, Parse, BadValue, OptionFirst}

-- ---- the options, and what each can have as its value

-- what stands between the commas
abbrev pub comma_pieces : Text → List Text
comma_pieces text = slice_split (λ b. b == 44) text

-- the values of an option: frames of nodes, bytes of a page, or numbers between two bounds
pub data Values : Type 0 where
  node_frames : Values
  page_bytes : Values
  between : ℕ → ℕ → Values

-- the text is one of these values
abbrev pub CanBe : Values → Text → Type 0
CanBe node_frames text = (fs : List ℕ) × (map number_read (comma_pieces text) ≡ map Ok fs) × IsFrames fs
CanBe page_bytes text = (n : ℕ) × (number_read text ≡ Ok n) × IsPageSize n
CanBe (between low high) text = (n : ℕ) × (number_read text ≡ Ok n) × IsWithin low high n

pub record Setting : Type 0 where
  pub name : Text
  pub values : Values
  pub is_required : Bool

-- an option that may be left out, and one that may not
abbrev pub optional : Text → Values → Setting
optional name values = record { name = name; values = values; is_required = false }

abbrev pub required : Text → Values → Setting
required name values = record { name = name; values = values; is_required = true }

abbrev pub machine_options : List Setting
machine_options = optional (codes "frames") node_frames ∷ optional (codes "page") page_bytes
    ∷ optional (codes "slots") (between 1 most_slots) ∷ []

abbrev pub serving_options : List Setting
serving_options = required (codes "port") (between 0 most_port)
    ∷ required (codes "sessions") (between 1 most_sessions)
    ∷ required (codes "workers") (between 1 most_workers)
    ∷ required (codes "trace") (between 0 most_places)
    ∷ optional (codes "idle") (between 0 most_idle) ∷ []

-- ---- the command line, as clap reads it

-- an option `--name` with a value
abbrev pub option : Text → Bool → Rule
option name is_required = record (new_rule name) {
  long = Some name;
  action = Some Set;
  required = is_required;
}

abbrev pub with_options : List Setting → App → App
with_options [] a = a
with_options (s ∷ rest) a = with_options rest (with_rule a (option s.name s.is_required))

abbrev pub script_app : App
script_app = with_options machine_options (new_app (codes "script"))

abbrev pub serve_app : App
serve_app = with_options (machine_options ++ serving_options) (new_app (codes "serve"))

-- it can be asked for its version
abbrev pub with_version : App → App
with_version a = record a { top = record a.top { has_version = true } }

-- the program's options and its version, and its subcommands with theirs
abbrev pub hugetlbd : App
hugetlbd = with_subcommand (with_subcommand (with_options machine_options
    (with_version (new_app (codes "hugetlbd")))) script_app.top) serve_app.top

-- no option of the command stands for its subcommands too
abbrev pub IsLocal : Command → Type 0
IsLocal c = (out-Command c).has_globals ≡ false

-- the options that clap found, at the top or of the subcommand
abbrev pub options_in : ArgMatches → List Row
options_in matches = rows_of (found_of matches)

-- ---- right words

-- the option of this name is given, as this number
abbrev pub IsOptionGiven : Text → List Row → ℕ → Type 0
IsOptionGiven name options n = IsSomeAnd (first_of name options) (λ text. number_read text ≡ Ok n)

-- it is given so, or left out, and this is the usual number
abbrev pub IsGivenOr : ℕ → Text → List Row → ℕ → Type 0
IsGivenOr usual name options n =
    MatchOption (first_of name options) (n ≡ usual) (λ text. number_read text ≡ Ok n)

-- the machine of these options
pub record Sets (options : List Row) (c : MachineChoice) : Type 0 where
  pub frames : MatchOption (first_of (codes "frames") options) (c.frames ≡ usual.frames)
      (λ text. map number_read (comma_pieces text) ≡ map Ok c.frames)
  pub page : IsGivenOr usual.page (codes "page") options c.page
  pub slots : IsGivenOr usual.slots (codes "slots") options c.slots

-- the server of these options
pub record SetsServing (options : List Row) (s : Serving) : Type 0 where
  pub port : IsOptionGiven (codes "port") options s.port
  pub sessions : IsOptionGiven (codes "sessions") options s.sessions
  pub workers : IsOptionGiven (codes "workers") options s.workers
  pub room : IsOptionGiven (codes "trace") options s.room
  pub idle : IsGivenOr 0 (codes "idle") options s.idle

-- one of these options is given
abbrev pub has_options : List Setting → List Row → Bool
has_options settings options = list_any (λ s. is_some (first_of s.name options)) settings

-- an option stands before the subcommand
abbrev pub has_option_first : List Text → Bool
has_option_first words = is_some (subcommand_of hugetlbd words)
    && has_options machine_options (matches_of hugetlbd words)

-- the subcommand is `serve`
abbrev pub is_serve : Option (Text × List Row) → Bool
is_serve sub = option_map_or (λ p. bytes_eq p.0 (codes "serve")) sub false

abbrev pub asks_to_serve : List Text → Bool
asks_to_serve words = is_serve (subcommand_of hugetlbd words)

-- the options that count: those of the subcommand, where there is one
abbrev pub options_given : List Text → List Row
options_given words = option_map_or (λ p. p.1) (subcommand_of hugetlbd words) (matches_of hugetlbd words)

-- the words are a right command line
pub record IsRight (words : List Text) : Type 0 where
  pub faultless : fault_of hugetlbd words ≡ []
  pub behind : has_option_first words ≡ false

-- and ask for a script on this machine
pub record AsksForScript (words : List Text) (c : MachineChoice) : Type 0 where
  pub right : IsRight words
  pub script : asks_to_serve words ≡ false
  pub sets : Sets (options_given words) c

-- and ask for this server, on this machine
pub record AsksToServe (words : List Text) (c : MachineChoice) (s : Serving) : Type 0 where
  pub right : IsRight words
  pub serve : asks_to_serve words ≡ true
  pub sets : Sets (options_given words) c
  pub serving : SetsServing (options_given words) s

abbrev pub AsksFor : List Text → Config → Type 0
AsksFor words (Script m) = AsksForScript words (choice_of m)
AsksFor words (Serve m s) = AsksToServe words (choice_of m) s

-- ---- wrong words

-- the text is a number between the bounds, this one
abbrev pub IsNumberWithin : ℕ → ℕ → Text → ℕ → Type 0
IsNumberWithin low high text n = (number_read text ≡ Ok n) × (low ≤ n) × (n ≤ high)

-- it is no number between them
abbrev pub IsNoneWithin : ℕ → ℕ → Text → Type 0
IsNoneWithin low high text = (n : ℕ) → number_read text ≡ Ok n → low ≤ n → n ≤ high → ⊥

-- what is given is this number, or nothing is, and it is the usual one
abbrev pub IsNumberOr : ℕ → Option (Bor Text) → ℕ → Type 0
IsNumberOr usual given n = MatchOption given (n ≡ usual) (λ text. number_read text.now ≡ Ok n)

-- what is given for the option is none of its values; so is nothing, where it may not be left out
abbrev pub IsBad : Setting → List Row → Type 0
IsBad s options =
    MatchOption (first_of s.name options) (s.is_required ≡ true) (λ text. CanBe s.values text → ⊥)

abbrev pub IsGood : Setting → List Row → Type 0
IsGood s options = MatchOption (first_of s.name options) (s.is_required ≡ false) (CanBe s.values)

-- the first of these options that is bad has this name
abbrev pub HasBadValue : List Setting → List Row → Text → Type 0
HasBadValue [] options name = ⊥
HasBadValue (s ∷ rest) options name = ((name ≡ s.name) × IsBad s options)
    ⊎ (IsGood s options × HasBadValue rest options name)

-- the options that the words may have, in the order in which the first bad one is looked for
abbrev pub settings_of : List Text → List Setting
settings_of words =
    if asks_to_serve words then machine_options ++ serving_options else machine_options

-- it is said that the option of this name has a bad value
abbrev pub IsBadValue : Text → Wrong → Type 0
IsBadValue name (BadValue bad) = bad.now ≡ name
IsBadValue name other = ⊥

-- why this text gives no frames; memory may be refused in place of any answer
abbrev pub IsWrongFrames : Text → Wrong → Type 0
IsWrongFrames text wrong = (wrong ≡ Memory) ⊎ (IsBadValue (codes "frames") wrong × (CanBe node_frames text → ⊥))

-- why these options are wrong; memory may be refused in place of any answer
abbrev pub IsWrongIn : List Setting → List Row → Wrong → Type 0
IsWrongIn settings options Memory = Unit {0}
IsWrongIn settings options (BadValue name) = HasBadValue settings options name.now
IsWrongIn settings options other = ⊥

-- why these words ask for nothing; memory may be refused in place of any answer
abbrev pub IsRefusedFor : List Text → Wrong → Type 0
IsRefusedFor words Memory = Unit {0}
IsRefusedFor words (Parse error) = (takes hugetlbd words ≡ false) × IsAmong (kind_of error) (fault_of hugetlbd words)
IsRefusedFor words OptionFirst = (fault_of hugetlbd words ≡ []) × (has_option_first words ≡ true)
IsRefusedFor words (BadValue name) = IsRight words × HasBadValue (settings_of words) (options_given words) name.now

-- why clap's refusal is passed on
abbrev pub IsWrongOf : Error → Wrong → Type 0
IsWrongOf error (Parse passed) = (passed ≡ error) × (kind_of error ≢ OutOfMemory)
IsWrongOf error Memory = kind_of error ≡ OutOfMemory
IsWrongOf error other = ⊥
