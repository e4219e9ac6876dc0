-- What the words behind the program's name ask for: the options that there are, and what each word
-- is to them by clap's `matches_of`, or what is wrong with the words by its `fault_of`.
use Rattle.std.specs.Prelude.{◌≡◌, ◌≢◌, ◌⊎◌, ◌<◌, ◌≤◌, ℕ, List, [], ◌∷◌, ◌++◌, Some, Bool, true, false, codes, length, nat_eq}
use Rattle.std.specs.List.{slice_split}
use Rattle.clap.specs.Words.{App, Kinds, Row, Rule, Text, fault_of, matches_of, new_app, new_rule}
use Rattle.clap.specs.Simple.{on_top}
use Rattle.clap.specs.declared.builder.action.ArgAction.{ArgAction}
use Rattle.clap.specs.declared.builder.action.ArgAction.TheVariants.{Help, Version}
use Rattle.idl_driver.specs.Parsed.{IsDisplay, IsRefusal, Tells}
use Rattle.idl_driver.specs.Words.{AreOptionsOf, file_rule, flag_rule, option_rules, stands, values_of, with_rules}
use Rattle.idl_program.specs.declared.request.CompilerRequest.{CompilerRequest}
use Rattle.idl_program.specs.declared.request.CompilerRequest.TheVariants.{Show, Serve, Compile}

-- an option `--ID` that is answered with a text
abbrev pub text_rule : Text → ArgAction → Rule
text_rule id text = record (new_rule id) { long = Some id; action = Some text }

-- `-d`, `--listing`, `--session`, `--help`, `--version`
abbrev pub flag_rules : List Rule
flag_rules = record (flag_rule (codes "dump")) { short = Some 100 }
    ∷ record (flag_rule (codes "listing")) { long = Some (codes "listing") }
    ∷ record (flag_rule (codes "session")) { long = Some (codes "session") }
    ∷ text_rule (codes "help") Help
    ∷ text_rule (codes "version") Version
    ∷ []

-- a program whose words are all its own, and which has a version
abbrev pub bare : App
bare = on_top (λ top. record top {
  no_binary_name = true;
  has_version = true;
  disable_help_flag = true;
  disable_version_flag = true;
}) (new_app (codes "idlc"))

-- the program
unfoldable pub idlc : App
idlc = with_rules bare (option_rules ++ flag_rules ++ file_rule ∷ [])

-- what clap finds for each option among words that it takes, and what it tells of others
unfoldable pub found_in : List Text → List Row
found_in words = matches_of idlc words

unfoldable pub faults_in : List Text → Kinds
faults_in words = fault_of idlc words

-- words that stand in a text, parted by blanks
abbrev pub words_in : List ℕ → List Text
words_in text = slice_split (λ b. nat_eq b 32) text

-- clap takes the words, and whether they ask to serve commands
abbrev pub AreTaken : List Text → Bool → Type 0
AreTaken words serves = (faults_in words ≡ [])
    × (stands (codes "session") (found_in words) ≡ serves)

abbrev pub files_in : List Text → List Text
files_in words = values_of (codes "file") (found_in words)

-- what words ask for: to show a text; to serve commands, and nothing else; or to compile files, of
-- which there is one at least
abbrev pub IsRequestOf : List Text → CompilerRequest → Type 0
IsRequestOf words (Show text) = Tells IsDisplay (faults_in words)
IsRequestOf words Serve = AreTaken words true × (length words ≤ 1)
IsRequestOf words (Compile options) =
    AreTaken words false × (files_in words ≢ []) × AreOptionsOf (found_in words) options

-- words that ask for nothing
abbrev pub AreWrong : List Text → Type 0
AreWrong words = Tells IsRefusal (faults_in words)
    ⊎ ((AreTaken words true × (1 < length words)) ⊎ (AreTaken words false × (files_in words ≡ [])))
