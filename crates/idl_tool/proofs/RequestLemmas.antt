-- What the program's words are to clap.
use Rattle.std.proofs.Common.{◌≡◌, ◌∙◌, ◌||◌, [], Bool, true, false, List, Option, ap, inl, refl, subst, sym}
use Rattle.clap.specs.Words.{App, Row, Text, fault_of, is_simple_and_free, subcommand_of, subcommand_rows_of}
use Rattle.clap.specs.Simple.{Shape}
use Rattle.clap.specs.declared.builder.arg.Arg.{Arg}
use Rattle.clap.specs.declared.builder.command.Command.{Command}
use Rattle.clap.specs.declared.builder.command.Command.TheOpen.{Command-F}
use Rattle.clap.specs.declared.error.kind.ErrorKind.{ErrorKind}
use Rattle.clap.specs.declared.parser.matches.ArgMatches.{ArgMatches}
use Rattle.idl_driver.specs.Parsed.{IsParsedBy, IsRefusal, SaysWrong, Tells}
use Rattle.idl_driver.specs.declared.words.ParsedWords.{ParsedWords}
use Rattle.idl_driver.specs.declared.words.ParsedWords.TheVariants as parsed
use Rattle.idl_driver.specs.declared.words.WordsFault.{WordsFault}
use Rattle.idl_driver.specs.declared.words.WordsFault.TheVariants.{Wrong, NoMemory}
use Rattle.idl_tool.specs.Words.{AreWrong, entered_in, faults_in, idltool}

abbrev pub is_global : Arg → Bool
is_global a = a.global

abbrev pub top_of : App → Shape
top_of a = a.top

abbrev pub has_globals_of : Command-F Command → Bool
has_globals_of c = c.has_globals

-- an argument that isn't global leaves a command without one
pub local-more : (has is : Bool) → has ≡ false → is ≡ false → (has || is) ≡ false
local-more has is h e = ap (λ b. b || is) h ∙ e

pub idltool_is_free : is_simple_and_free idltool ≡ true
unfolding idltool
idltool_is_free = refl

-- what the program's command enters among words that it takes
pub entered : (app : App) (words : List Text) (rows : Option (Text × List Row)) → app ≡ idltool → rows ≡ subcommand_of app words → rows ≡ entered_in words
unfolding entered_in
entered app words rows is found = found ∙ ap (λ (a : App). subcommand_of a words) is

pub none_wrong : (app : App) (words : List Text) → app ≡ idltool → fault_of app words ≡ [] → faults_in words ≡ []
unfolding faults_in
none_wrong app words is none = sym (ap (λ (a : App). fault_of a words) is) ∙ none

-- what is told of words
pub told : (app : App) (words : List Text) (sort : ErrorKind → Type 0) → app ≡ idltool → Tells sort (fault_of app words) → Tells sort (faults_in words)
unfolding faults_in
told app words sort is tells = subst (λ (a : App). Tells sort (fault_of a words)) is tells

pub refused : (app : App) (words : List Text) (fault : WordsFault) → app ≡ idltool → SaysWrong (Tells IsRefusal (fault_of app words)) fault → SaysWrong (AreWrong words) fault
refused app words (Wrong text) is tells = inl (told app words IsRefusal is tells)
refused app words NoMemory is tells = tt

-- what a parse by the program's command gives
pub taken : (app : App) (words : List Text) (p : ParsedWords) (m : ArgMatches) → app ≡ idltool → p ≡ parsed.Taken m → IsParsedBy app words p → (faults_in words ≡ []) × (subcommand_rows_of m ≡ entered_in words)
taken app words p m is same held =
    let has : IsParsedBy app words (parsed.Taken m) = subst (λ (q : ParsedWords). IsParsedBy app words q) same held in
    (none_wrong app words is has.0, entered app words (subcommand_rows_of m) is has.2)
