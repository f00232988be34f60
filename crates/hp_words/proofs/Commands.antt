-- The program's command line, as clap builds it.
use Rattle.std.proofs.Common.{◌≡◌, ◌∙◌, ◌&&◌, ◌||◌, Bool, refl, sym, ap, ap₂, subst, true, false, List, [], Option, Some, None, is_some, option_map}
use Rattle.std.proofs.lemmas.Option.{none-some}
use Rattle.std.specs.Borrow.{Bor}
use Rattle.std.specs.Box.{box_value}
use Rattle.std.specs.Option.{option_map_or}
use Rattle.clap.specs.Built.{AddsArg}
use Rattle.clap.specs.Matches.{subcommand_name_of}
use Rattle.clap.specs.Words.{App, HasMatchesOf, Row, Rule, Text, app_of, found_of, matches_of, rows_of, rule_of, subcommand_of, subcommand_rows_of, with_rule}
use Rattle.clap.specs.Simple.{app_of_fields}
use Rattle.clap.specs.Faults.{fault_of, is_simple_and_free}
use Rattle.clap.specs.declared.builder.arg.Arg.{Arg}
use Rattle.clap.specs.declared.builder.command.Command.{Command}
use Rattle.clap.specs.declared.builder.command.Command.TheViews.{out-Command}
use Rattle.clap.specs.declared.parser.matches.ArgMatches.{ArgMatches}
use Rattle.clap.specs.declared.parser.matches.ArgMatches.TheViews.{out-ArgMatches, out-SubCommand}
use Rattle.hp_words.specs.Asked.{AsksForScript, AsksToServe, IsLocal, IsRight, Sets, SetsServing, has_option_first, has_options, hugetlbd, is_serve, machine_options, options_given, with_version}
use Rattle.hp_words.specs.Config.{MachineChoice}
use Rattle.hp_words.specs.declared.settings.Serving.{Serving}

-- an argument was added
pub adds_rule : (a b : Command) (x : Arg) (app : App) (rule : Rule) → AddsArg a x b → x.global ≡ false → app_of a ≡ app → rule_of x ≡ rule
    → app_of b ≡ with_rule app rule
adds_rule a b x app rule h local before same = h.shape local ∙ ap₂ with_rule before same

-- a command that was given its own line of usage, which no parse reads
pub keeps_app : (a b : Command) (text : Option (Bor Text)) (app : App) → out-Command b ≡ record (out-Command a) { usage_str = text } → app_of a ≡ app → app_of b ≡ app
keeps_app a b text app h before = ap app_of_fields h ∙ before

pub keeps_globals : (a b : Command) (text : Option (Bor Text)) (has : Bool) → out-Command b ≡ record (out-Command a) { usage_str = text }
    → (out-Command a).has_globals ≡ has → (out-Command b).has_globals ≡ has
keeps_globals a b text has h before = ap (λ fields. fields.has_globals) h ∙ before

pub keeps_local : (a b : Command) (x : Arg) → AddsArg a x b → x.global ≡ false → IsLocal a → IsLocal b
keeps_local a b x h local before = h.globals ∙ ap₂ (◌||◌) before local

-- a command that was given a version
pub adds_version : (a b : Command) (text : Option (Bor Text)) (app : App) → out-Command b ≡ record (out-Command a) { version = text } → is_some text ≡ true → app_of a ≡ app
    → app_of b ≡ with_version app
adds_version a b text app h some before =
    ap app_of_fields h ∙ ap (λ (yes : Bool). record (app_of a) { top = record (app_of a).top { has_version = yes } }) some ∙ ap with_version before

-- what a parse found, where it took the words: the options at the top, and the subcommand with its options
pub record Found (words : List Text) (top : List Row) (sub : Option (Text × List Row)) : Type 0 where
  pub faultless : fault_of hugetlbd words ≡ []
  pub top_is : matches_of hugetlbd words ≡ top
  pub sub_is : subcommand_of hugetlbd words ≡ sub

pub found : (app : App) (words : List Text) (m : ArgMatches) (sub : Option (Text × List Row)) → app ≡ hugetlbd
    → (is_simple_and_free app ≡ true → fault_of app words ≡ [])
    → HasMatchesOf app words m
    → subcommand_rows_of m ≡ sub
    → Found words (rows_of (found_of m)) sub
found app words m sub same faults matches met =
    let fault = subst (λ (a : App). is_simple_and_free a ≡ true → fault_of a words ≡ []) same faults in
    let found = subst (λ (a : App). HasMatchesOf a words m) same matches refl in
    record { faultless = fault refl; top_is = sym found.0; sub_is = sym found.1 ∙ met }

no_pair : (met : Option (Text × List Row)) → None ≡ option_map (λ (p : Text × List Row). p.1) met → met ≡ None
no_pair None h = refl
no_pair (Some p) h = absurd (none-some p.1 h)

pub none_met : (m : ArgMatches) → None ≡ option_map (λ (p : Text × List Row). p.1) (subcommand_rows_of m) → subcommand_rows_of m ≡ None
none_met m given = no_pair (subcommand_rows_of m) given

pair_met : {X : Type 0} (name_of : X → Text) (rows : X → List Row) (met : Option X) (name : Text) (options : List Row) → Some name ≡ option_map name_of met
    → Some options ≡ option_map (λ (p : Text × List Row). p.1) (option_map {U = Text × List Row} (λ (x : X). (name_of x, rows x)) met)
    → option_map {U = Text × List Row} (λ (x : X). (name_of x, rows x)) met ≡ Some (name, options)
pair_met name_of rows None name options named given = absurd (none-some name (sym named))
pair_met name_of rows (Some x) name options named given =
    let first : name ≡ name_of x = (let e : Some name ≡ Some (name_of x) = named in cc) in
    let second : options ≡ rows x = (let e : Some options ≡ Some (rows x) = given in cc) in
    ap₂ (λ (n : Text) (o : List Row). Some (n, o)) (sym first) (sym second)

-- the subcommand that a parse met, told by its name and its options
pub sub_met : (m : ArgMatches) (name : Text) (options : List Row) → Some name ≡ subcommand_name_of m
    → Some options ≡ option_map (λ (p : Text × List Row). p.1) (subcommand_rows_of m)
    → subcommand_rows_of m ≡ Some (name, options)
sub_met m name options named given =
    pair_met (λ b. (out-SubCommand (box_value b)).name.now) (λ b. rows_of (found_of (out-SubCommand (box_value b)).matches)) (out-ArgMatches m).subcommand name options named given

-- an option stands before the subcommand, or none does
pub option_first : (words : List Text) (top : List Row) (sub : Option (Text × List Row)) → Found words top sub
    → has_option_first words ≡ (is_some sub && has_options machine_options top)
option_first words top sub f = ap₂ (◌&&◌) (ap is_some f.sub_is) (ap (has_options machine_options) f.top_is)

-- and then what the words ask for
pub is_right : (words : List Text) (top : List Row) (sub : Option (Text × List Row)) → Found words top sub → (is_some sub && has_options machine_options top) ≡ false → IsRight words
is_right words top sub f behind = record { faultless = f.faultless; behind = option_first words top sub f ∙ behind }

pub options_are : (words : List Text) (top : List Row) (sub : Option (Text × List Row)) → Found words top sub → options_given words ≡ option_map_or (λ p. p.1) sub top
options_are words top sub f = ap₂ (option_map_or (λ p. p.1)) f.sub_is f.top_is

pub asks : (words : List Text) (top : List Row) (sub : Option (Text × List Row)) (c : MachineChoice) → Found words top sub → (is_some sub && has_options machine_options top) ≡ false
    → is_serve sub ≡ false → Sets (option_map_or (λ p. p.1) sub top) c → AsksForScript words c
asks words top sub c f behind script sets = record {
  right = is_right words top sub f behind;
  script = ap is_serve f.sub_is ∙ script;
  sets = subst (λ (rows : List Row). Sets rows c) (sym (options_are words top sub f)) sets;
}

pub asks_to : (words : List Text) (top : List Row) (sub : Option (Text × List Row)) (c : MachineChoice) (s : Serving) → Found words top sub
    → (is_some sub && has_options machine_options top) ≡ false → is_serve sub ≡ true → Sets (option_map_or (λ p. p.1) sub top) c
    → SetsServing (option_map_or (λ p. p.1) sub top) s → AsksToServe words c s
asks_to words top sub c s f behind serve sets serving = record {
  right = is_right words top sub f behind;
  serve = ap is_serve f.sub_is ∙ serve;
  sets = subst (λ (rows : List Row). Sets rows c) (sym (options_are words top sub f)) sets;
  serving = subst (λ (rows : List Row). SetsServing rows s) (sym (options_are words top sub f)) serving;
}
