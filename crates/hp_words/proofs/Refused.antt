-- Words that ask for nothing.
use Rattle.std.proofs.Common.{◌≡◌, ◌∙◌, ◌&&◌, ◌++◌, ◌∷◌, ℕ, List, [], map, Bool, true, false, if◌then◌else◌, Option, Some, None, is_some, Ok, MatchOption, IsSomeAnd, refl, sym, ap, subst, inl, inr}
use Rattle.std.specs.Option.{option_map_or}
use Rattle.clap.specs.Faults.{fault_of, is_simple_and_free}
use Rattle.clap.specs.Kinds.{HasKind, IsAmong}
use Rattle.clap.specs.Takes.{takes}
use Rattle.clap.specs.Values.{kind_of}
use Rattle.clap.specs.Words.{App, Row, Text, first_of}
use Rattle.clap.specs.declared.error.Error.{Error}
use Rattle.clap.specs.declared.error.kind.ErrorKind.{ErrorKind}
use Rattle.clap.specs.declared.error.kind.ErrorKind.TheVariants.{OutOfMemory}
use Rattle.hp_words.proofs.Commands.{Found, is_right, options_are}
use Rattle.hp_model.proofs.Words.{most_places, number_read}
use Rattle.hp_words.specs.Asked.{AsksForScript, AsksToServe, CanBe, HasBadValue, IsGood, IsRefusedFor, IsRight, IsWrongIn, IsWrongOf, Sets, SetsServing, Setting}
use Rattle.hp_words.specs.Asked.{comma_pieces, has_options, hugetlbd, is_serve, machine_options, node_frames, options_given, serving_options, settings_of}
use Rattle.hp_words.specs.Config.{IsFrames, IsMachineWithin, IsPageSize, IsServing, IsWithin, MachineChoice, most_idle, most_port, most_sessions, most_workers}
use Rattle.hp_words.specs.declared.settings.Serving.{Serving}
use Rattle.hp_words.specs.declared.settings.Wrong.{Wrong}
use Rattle.hp_words.specs.declared.settings.Wrong.TheVariants.{Memory, Parse, BadValue, OptionFirst}

never : (b : Bool) → (b ≡ true → ⊥) → b ≡ false
never true f = absurd (f refl)
never false f = refl

among : (kinds : List ErrorKind) (error passed : Error) → passed ≡ error → (kind_of error ≡ OutOfMemory → ⊥) → HasKind kinds error → IsAmong (kind_of passed) kinds
among kinds error passed same other (inl memory) = absurd (other memory)
among kinds error passed same other (inr one) = subst (λ (e : Error). IsAmong (kind_of e) kinds) (sym same) one

-- clap's refusal is passed on as one where it doesn't take the words
pub refused_for : (a : App) (words : List Text) (error : Error) (w : Wrong) → a ≡ hugetlbd → (takes a words ≡ true → kind_of error ≡ OutOfMemory)
    → (is_simple_and_free a ≡ true → HasKind (fault_of a words) error) → IsWrongOf error w → IsRefusedFor words w
refused_for a words error Memory same passes kinds is = tt
refused_for a words error (Parse e) same passes kinds is = (
  never (takes hugetlbd words) (λ t. is.1 (passes (ap (λ x. takes x words) same ∙ t))),
  among (fault_of hugetlbd words) error e is.0 is.1 (subst (λ (x : App). is_simple_and_free x ≡ true → HasKind (fault_of x words) error) same kinds refl),
)
refused_for a words error (BadValue name) same passes kinds is = absurd is
refused_for a words error OptionFirst same passes kinds is = absurd is

-- ---- bad values

-- none of the options is bad
pub AllGood : List Setting → List Row → Type 0
AllGood [] options = Unit {0}
AllGood (s ∷ rest) options = IsGood s options × AllGood rest options

all_good : (front behind : List Setting) (options : List Row) → AllGood front options → AllGood behind options → AllGood (front ++ behind) options
unfolding AllGood
all_good [] behind options a b = b
all_good (s ∷ front) behind options a b = (a.0, all_good front behind options a.1 b)

bad_in_front : (front behind : List Setting) (options : List Row) (name : Text) → HasBadValue front options name → HasBadValue (front ++ behind) options name
bad_in_front [] behind options name bad = absurd bad
bad_in_front (s ∷ front) behind options name (inl bad) = inl bad
bad_in_front (s ∷ front) behind options name (inr bad) = inr (bad.0, bad_in_front front behind options name bad.1)

bad_behind : (front behind : List Setting) (options : List Row) (name : Text) → AllGood front options → HasBadValue behind options name
    → HasBadValue (front ++ behind) options name
unfolding AllGood
bad_behind [] behind options name good bad = bad
bad_behind (s ∷ front) behind options name good bad = inr (good.0, bad_behind front behind options name good.1 bad)

pub wrong_in_front : (front behind : List Setting) (options : List Row) (w : Wrong) → IsWrongIn front options w → IsWrongIn (front ++ behind) options w
wrong_in_front front behind options Memory is = tt
wrong_in_front front behind options (Parse e) is = absurd is
wrong_in_front front behind options (BadValue name) is = bad_in_front front behind options name.now is
wrong_in_front front behind options OptionFirst is = absurd is

pub wrong_behind : (front behind : List Setting) (options : List Row) (w : Wrong) → AllGood front options → IsWrongIn behind options w → IsWrongIn (front ++ behind) options w
wrong_behind front behind options Memory good is = tt
wrong_behind front behind options (Parse e) good is = absurd is
wrong_behind front behind options (BadValue name) good is = bad_behind front behind options name.now good is
wrong_behind front behind options OptionFirst good is = absurd is

-- the options that count are wrong
pub wrong_in : (words : List Text) (top : List Row) (sub : Option (Text × List Row)) (serves : Bool) (w : Wrong) → Found words top sub
    → (is_some sub && has_options machine_options top) ≡ false → is_serve sub ≡ serves
    → IsWrongIn (if serves then machine_options ++ serving_options else machine_options) (option_map_or (λ p. p.1) sub top) w → IsRefusedFor words w
wrong_in words top sub serves Memory f behind which is = tt
wrong_in words top sub serves (Parse e) f behind which is = absurd is
wrong_in words top sub serves (BadValue name) f behind which is = (
  is_right words top sub f behind,
  subst (λ (rows : List Row). HasBadValue (settings_of words) rows name.now) (sym (options_are words top sub f))
      (subst (λ (b : Bool). HasBadValue (if b then machine_options ++ serving_options else machine_options) (option_map_or (λ p. p.1) sub top) name.now)
      (sym (ap is_serve f.sub_is ∙ which)) is),
)
wrong_in words top sub serves OptionFirst f behind which is = absurd is

not_both : (s : Setting) (given : Option Text) → MatchOption given (s.is_required ≡ false) (CanBe s.values)
    → MatchOption given (s.is_required ≡ true) (λ text. CanBe s.values text → ⊥) → ⊥
not_both s None good bad = (let both : true ≡ false = sym bad ∙ good in cc)
not_both s (Some text) good bad = bad good

none_bad : (settings : List Setting) (options : List Row) (name : Text) → AllGood settings options → HasBadValue settings options name → ⊥
unfolding AllGood
none_bad [] options name good bad = bad
none_bad (s ∷ rest) options name good (inl bad) = not_both s (first_of s.name options) good.0 bad.1
none_bad (s ∷ rest) options name good (inr bad) = none_bad rest options name good.1 bad.1

good_frames : (given : Option Text) (fs usual : List ℕ) → MatchOption given (fs ≡ usual) (λ text. map number_read (comma_pieces text) ≡ map Ok fs) → IsFrames fs
    → MatchOption given (false ≡ false) (CanBe node_frames)
good_frames None fs usual reads fits = refl
good_frames (Some text) fs usual reads fits = (fs, reads, fits)

good_number : (given : Option Text) (n usual : ℕ) (Fits : ℕ → Type 0) → MatchOption given (n ≡ usual) (λ text. number_read text ≡ Ok n) → Fits n
    → MatchOption given (false ≡ false) (λ text. (m : ℕ) × (number_read text ≡ Ok m) × Fits m)
good_number None n usual Fits reads fits = refl
good_number (Some text) n usual Fits reads fits = (n, reads, fits)

good_given : (given : Option Text) (n : ℕ) (Fits : ℕ → Type 0) → IsSomeAnd given (λ text. number_read text ≡ Ok n) → Fits n
    → MatchOption given (true ≡ false) (λ text. (m : ℕ) × (number_read text ≡ Ok m) × Fits m)
good_given None n Fits reads fits = absurd reads
good_given (Some text) n Fits reads fits = (n, reads, fits)

pub good_machine : (options : List Row) (c : MachineChoice) → Sets options c → IsMachineWithin c → AllGood machine_options options
unfolding AllGood
good_machine options c sets fits =
    (good_frames _ c.frames _ sets.frames fits.frames, (good_number _ c.page _ IsPageSize sets.page fits.page, (good_number _ c.slots _ (IsWithin 1 64) sets.slots fits.slots, tt)))

good_serving : (options : List Row) (s : Serving) → SetsServing options s → IsServing s → AllGood serving_options options
unfolding AllGood
good_serving options s sets fits =
    let port = good_given _ s.port (IsWithin 0 most_port) sets.port fits.port in
    let sessions = good_given _ s.sessions (IsWithin 1 most_sessions) sets.sessions fits.sessions in
    let workers = good_given _ s.workers (IsWithin 1 most_workers) sets.workers fits.workers in
    let room = good_given _ s.room (IsWithin 0 most_places) sets.room fits.room in
    let idle = good_number _ s.idle 0 (IsWithin 0 most_idle) sets.idle fits.idle in
    (port, (sessions, (workers, (room, (idle, tt)))))

right_memory : (words : List Text) (w : Wrong) → IsRefusedFor words w → IsRight words → AllGood (settings_of words) (options_given words) → w ≡ Memory
right_memory words Memory refused right good = refl
right_memory words (Parse error) refused right good = absurd (subst (IsAmong (kind_of error)) right.faultless refused.1)
right_memory words OptionFirst refused right good = (let both : true ≡ false = sym refused.1 ∙ right.behind in cc)
right_memory words (BadValue name) refused right good = absurd (none_bad (settings_of words) (options_given words) name.now good refused.1)

-- right words are refused only for want of memory
pub only_memory : (words : List Text) (w : Wrong) (c : MachineChoice) → IsRefusedFor words w → AsksForScript words c → IsMachineWithin c → w ≡ Memory
only_memory words w c refused a fits =
    right_memory words w refused a.right (subst (λ (b : Bool). AllGood (if b then machine_options ++ serving_options else machine_options) (options_given words)) (sym a.script)
    (good_machine (options_given words) c a.sets fits))

pub only_memory_to_serve : (words : List Text) (w : Wrong) (c : MachineChoice) (s : Serving) → IsRefusedFor words w → AsksToServe words c s → IsMachineWithin c → IsServing s
    → w ≡ Memory
only_memory_to_serve words w c s refused a fits serves =
    right_memory words w refused a.right (subst (λ (b : Bool). AllGood (if b then machine_options ++ serving_options else machine_options) (options_given words)) (sym a.serve)
    (all_good machine_options serving_options (options_given words) (good_machine (options_given words) c a.sets fits) (good_serving (options_given words) s a.serving serves)))
