-- The status and the texts of words that ask for nothing.
use Rattle.std.proofs.Common.{◌≡◌, ◌≤◌, ℕ, List, length, false, Option, Some, None, IsSomeAnd, refl, ap, subst, arith}
use Rattle.clap.specs.Faults.{fault_of}
use Rattle.clap.specs.Kinds.{IsAmong}
use Rattle.clap.specs.Takes.{takes}
use Rattle.clap.specs.Values.{kind_of}
use Rattle.clap.specs.Words.{Text}
use Rattle.clap.specs.declared.error.kind.ErrorKind.{ErrorKind}
use Rattle.hp_words.proofs.Refused.{only_memory, only_memory_to_serve}
use Rattle.hp_words.proofs.Usual.{usual_asked, usual_fits}
use Rattle.hp_words.specs.Asked.{AsksForScript, AsksToServe, IsRefusedFor, hugetlbd}
use Rattle.hp_words.specs.Config.{IsMachineWithin, IsServing, MachineChoice, usual}
use Rattle.hp_words.specs.declared.settings.Serving.{Serving}
use Rattle.hp_words.specs.declared.settings.Wrong.{Wrong}
use Rattle.hp_words.specs.declared.settings.Wrong.TheVariants.{Memory, Parse, BadValue, OptionFirst}
use Rattle.hp_program.specs.Program.{AsksForText, IsStatusOfWrong, text_asked, text_for}

-- right words that are refused end in status 1
pub right_is_1 : (words : List Text) (w : Wrong) (status : ℕ) (c : MachineChoice) → IsRefusedFor words w → IsStatusOfWrong w status → AsksForScript words c → IsMachineWithin c → status ≡ 1
right_is_1 words w status c refused is a fits = subst (λ (x : Wrong). IsStatusOfWrong x status) (only_memory words w c refused a fits) is

pub serves_is_1 : (words : List Text) (w : Wrong) (status : ℕ) (c : MachineChoice) (s : Serving) → IsRefusedFor words w → IsStatusOfWrong w status → AsksToServe words c s → IsMachineWithin c
    → IsServing s → status ≡ 1
serves_is_1 words w status c s refused is a fits serves =
    subst (λ (x : Wrong). IsStatusOfWrong x status) (only_memory_to_serve words w c s refused a fits serves) is

told_by : (words : List Text) (Told : Text → Type 0) (kind : ErrorKind) (asked : Option Text) → text_for kind ≡ asked → IsAmong kind (fault_of hugetlbd words) → IsSomeAnd asked Told
    → (text : Text) × AsksForText words text × Told text
told_by words Told kind None same one told = absurd told
told_by words Told kind (Some text) same one told = (text, (kind, one, same), told)

-- a text that was told is one that the words ask for
pub told_as_asked : (words : List Text) (w : Wrong) (Told : Text → Type 0) → IsRefusedFor words w → IsSomeAnd (text_asked w) Told → (text : Text) × AsksForText words text × Told text
told_as_asked words Memory Told refused told = absurd told
told_as_asked words (Parse error) Told refused told = told_by words Told (kind_of error) (text_for (kind_of error)) refl refused.1 told
told_as_asked words (BadValue name) Told refused told = absurd told
told_as_asked words OptionFirst Told refused told = absurd told

-- status 0 says that clap doesn't take the words
pub not_taken : (words : List Text) (w : Wrong) (status : ℕ) → IsRefusedFor words w → IsStatusOfWrong w status → status ≡ 0 → takes hugetlbd words ≡ false
not_taken words Memory status refused is zero = absurd (omega (arith, is, zero))
not_taken words (Parse error) status refused is zero = refused.0
not_taken words (BadValue name) status refused is zero = absurd (omega (arith, is, zero))
not_taken words OptionFirst status refused is zero = absurd (omega (arith, is, zero))

-- words with none after the program's name end in status 1, where they are refused
pub few_is_1 : (words : List Text) (w : Wrong) (status : ℕ) → length words ≤ 1 → IsRefusedFor words w → IsStatusOfWrong w status → status ≡ 1
few_is_1 words w status few refused is = right_is_1 words w status usual refused is (usual_asked words few) usual_fits

-- and ask for no text
pub few_ask_no_text : (words : List Text) (w : Wrong) → length words ≤ 1 → IsRefusedFor words w → text_asked w ≡ None
few_ask_no_text words w few refused = ap text_asked (only_memory words w usual refused (usual_asked words few) usual_fits)
