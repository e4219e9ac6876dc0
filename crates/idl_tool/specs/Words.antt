-- What the words behind the program's name ask for: the options that there are, and what each word
-- is to them by clap's `subcommand_of`, or what is wrong with the words by its `fault_of`.
use Rattle.std.specs.Prelude.{◌≡◌, ◌≢◌, ◌⊎◌, ◌||◌, Bool, List, [], ◌∷◌, ◌++◌, Option, None, Some, codes, drop, false, fold, if◌then◌else◌, is_some, length, map, nat_eq, take, true}
use Rattle.std.specs.Option.{option_map}
use Rattle.std.specs.Str.{bytes_eq}
use Rattle.clap.specs.Words.{App, Kinds, Row, Rule, Shape, Text, fault_of, first_of, new_app, new_rule, shape_of, subcommand_of, with_subcommand}
use Rattle.clap.specs.Simple.{new_shape, on_top}
use Rattle.clap.specs.declared.builder.action.ArgAction.TheVariants.{Append, Set}
use Rattle.clap.specs.declared.builder.command.Command.{Command}
use Rattle.clap.specs.declared.builder.command.Command.TheViews.{out-Command as fields_of}
use Rattle.idl_source.specs.names.Path.{is_rooted}
use Rattle.idl_driver.specs.Parsed.{IsDisplay, IsRefusal, Tells}
use Rattle.idl_driver.specs.Words.{AreOptionsOf, file_rule, flag_rule, option_rules, stands, values_of}
use Rattle.idl_driver.specs.declared.options.Options.{Options}
use Rattle.idl_changes.specs.Chosen.{weights_named}
use Rattle.idl_changes.specs.Rows.{callers}
use Rattle.idl_changes.specs.declared.rows.Weights.{Weights}
use Rattle.idl_tool.specs.declared.request.Deps.{Deps}
use Rattle.idl_tool.specs.declared.request.Diff.{Diff}
use Rattle.idl_tool.specs.declared.request.Check.{Check}
use Rattle.idl_tool.specs.declared.request.ToolRequest.{ToolRequest}
use Rattle.idl_tool.specs.declared.request.ToolRequest.TheVariants as request

-- words of `explain`
abbrev pub word_rule : Rule
word_rule = record (new_rule (codes "word")) { action = Some Append; value_names = 1 }

abbrev pub explain_shape : Shape
explain_shape = record (new_shape (codes "explain")) { rules = word_rule ∷ [] }

-- `-t TARGET`, once at most
abbrev pub target_rule : Rule
target_rule =
    record (new_rule (codes "target")) { short = Some 116; action = Some Set; value_names = 1 }

abbrev pub generated_rule : Rule
generated_rule = record (flag_rule (codes "generated")) { long = Some (codes "generated") }

abbrev pub present_rule : Rule
present_rule = record (flag_rule (codes "present")) { long = Some (codes "present") }

-- `-D`, `-U`, `-I`, these three, and FILEs, of which there is one at least
abbrev pub deps_shape : Shape
deps_shape = record (new_shape (codes "deps")) {
  rules = option_rules
      ++ target_rule ∷ generated_rule ∷ present_rule ∷ record file_rule { required = true } ∷ [];
}

abbrev pub werror_rule : Rule
werror_rule = record (flag_rule (codes "werror")) { long = Some (codes "werror") }

-- `-D`, `-U`, `-I`, this one, and FILEs, of which there is one at least
abbrev pub check_shape : Shape
check_shape = record (new_shape (codes "check")) {
  rules = option_rules ++ werror_rule ∷ record file_rule { required = true } ∷ [];
}

-- `-D`, `-U`, `-I`, and FILEs, of which there is one at least
abbrev pub json_shape : Shape
json_shape = record (new_shape (codes "json")) {
  rules = option_rules ++ record file_rule { required = true } ∷ [];
}

-- `--old-I DIR` or `--new-I DIR`, which may stand again
abbrev pub side_rule : Text → Text → Rule
side_rule id long =
    record (new_rule id) { long = Some long; action = Some Append; value_names = 1 }

-- `--old DIR`, once at most
abbrev pub below_rule : Rule
below_rule = record (new_rule (codes "below")) {
  long = Some (codes "old");
  action = Some Set;
  value_names = 1;
}

-- `--fail-on WEIGHT[,WEIGHT..]`, or `--fail-on never`, once at most
abbrev pub fails_rule : Rule
fails_rule = record (new_rule (codes "fail-on")) {
  long = Some (codes "fail-on");
  action = Some Set;
  value_names = 1;
}

-- `--format text`, as without it, or `--format json`, once at most
abbrev pub format_rule : Rule
format_rule = record (new_rule (codes "format")) {
  long = Some (codes "format");
  action = Some Set;
  value_names = 1;
}

-- `-D`, `-U`, `-I`, these five, and FILEs, of which there is one at least
abbrev pub diff_shape : Shape
diff_shape = record (new_shape (codes "diff")) {
  rules = option_rules
      ++ side_rule (codes "old-directory") (codes "old-I")
      ∷ side_rule (codes "new-directory") (codes "new-I")
      ∷ below_rule ∷ fails_rule ∷ format_rule ∷ record file_rule { required = true } ∷ [];
}

-- `--stdio`, which changes nothing
abbrev pub stdio_rule : Rule
stdio_rule = record (flag_rule (codes "stdio")) { long = Some (codes "stdio") }

abbrev pub lsp_shape : Shape
lsp_shape = record (new_shape (codes "lsp")) { rules = stdio_rule ∷ [] }

-- a program whose words are all its own, which has a version, and of which a subcommand is wanted;
-- `help` is one by itself
abbrev pub bare : App
bare = on_top (λ top. record top {
  no_binary_name = true;
  has_version = true;
  subcommand_required = true;
  arg_required_else_help = true;
}) (new_app (codes "idltool"))

abbrev pub subcommand_shapes : List Shape
subcommand_shapes =
    explain_shape ∷ deps_shape ∷ check_shape ∷ json_shape ∷ diff_shape ∷ lsp_shape ∷ []

-- the program
unfoldable pub idltool : App
idltool = fold with_subcommand bare subcommand_shapes

-- a command has this shape, and its arguments are its own
abbrev pub IsSubcommand : Command → Shape → Type 0
IsSubcommand command shape =
    (shape_of command ≡ shape) × ((fields_of command).has_globals ≡ false)

-- the subcommand that words name and what clap finds for its options, and what it tells of words
-- that it doesn't take
unfoldable pub entered_in : List Text → Option (Text × List Row)
entered_in words = subcommand_of idltool words

unfoldable pub faults_in : List Text → Kinds
faults_in words = fault_of idltool words

-- clap takes the words, and they name this subcommand
abbrev pub Enters : Text → List Text → List Row → Type 0
Enters name words rows = (faults_in words ≡ []) × (entered_in words ≡ Some (name, rows))

-- what is asked for of files
pub record AreDepsOf (rows : List Row) (deps : Deps) : Type 0 where
  pub options : AreOptionsOf rows deps.options
  pub target : option_map (λ w. w.now) deps.target ≡ first_of (codes "target") rows
  pub generated : deps.has_generated ≡ stands (codes "generated") rows
  pub present : deps.leaves_absent ≡ stands (codes "present") rows

pub record AreCheckOf (rows : List Row) (check : Check) : Type 0 where
  pub options : AreOptionsOf rows check.options
  pub warnings : check.counts_warnings ≡ stands (codes "werror") rows

-- a path below a directory. With a leading `/` it stands for itself
abbrev pub below : Text → Text → Text
below directory path = if is_rooted path then path else directory ++ 47 ∷ path

abbrev pub all_below : Option Text → List Text → List Text
all_below None paths = paths
all_below (Some directory) paths = map (below directory) paths

-- the FILEs of OLD, and those of NEW: of two FILEs the first and the second. With `--old DIR` each
-- is NEW's, and below DIR OLD's
abbrev pub old_files : Option Text → List Text → List Text
old_files None files = take 1 files
old_files (Some directory) files = all_below (Some directory) files

abbrev pub new_files : Option Text → List Text → List Text
new_files None files = drop 1 files
new_files (Some directory) files = files

abbrev pub below_in : List Row → Option Text
below_in rows = first_of (codes "below") rows

abbrev pub files_in : List Row → List Text
files_in rows = values_of (codes "file") rows

-- what is asked for of one of two versions, which has these files and directories
pub record AreSideOf (files directories : List Text) (rows : List Row) (options : Options)
    : Type 0 where
  pub defines : map (λ w. w.now) options.defines.items ≡ values_of (codes "define") rows
  pub undefines : map (λ w. w.now) options.undefines.items ≡ values_of (codes "undefine") rows
  pub directories_are : map (λ w. w.now) options.directories.items ≡ directories
  pub files_are : map (λ w. w.now) options.files.items ≡ files

-- the directories of one version: those of its own option before those of `-I`
abbrev pub old_directories : List Row → List Text
old_directories rows =
    values_of (codes "old-directory") rows
    ++ all_below (below_in rows) (values_of (codes "directory") rows)

abbrev pub new_directories : List Row → List Text
new_directories rows =
    values_of (codes "new-directory") rows ++ values_of (codes "directory") rows

-- the weights with which a change is an error: on the wire and for clients, where none are named
abbrev pub fails_of : Option Text → Option Weights
fails_of None = Some callers
fails_of (Some text) = weights_named text

abbrev pub fails_in : List Row → Option Weights
fails_in rows = fails_of (first_of (codes "fail-on") rows)

-- whether each change is to be an object of JSON, and not a row
abbrev pub json_of : Option Text → Option Bool
json_of None = Some false
json_of (Some text) =
    if bytes_eq text (codes "json") then Some true
    else if bytes_eq text (codes "text") then Some false
    else None

abbrev pub json_in : List Row → Option Bool
json_in rows = json_of (first_of (codes "format") rows)

pub record AreDiffOf (rows : List Row) (diff : Diff) : Type 0 where
  pub old : AreSideOf (old_files (below_in rows) (files_in rows)) (old_directories rows) rows
      diff.old
  pub new : AreSideOf (new_files (below_in rows) (files_in rows)) (new_directories rows) rows
      diff.new
  pub fails : fails_in rows ≡ Some diff.fails
  pub form : json_in rows ≡ Some diff.is_json
  pub pairs : diff.are_pairs ≡ is_some (below_in rows)

-- what words ask for: to show a text, to explain words or all, to write rules, to check files, to
-- write JSON, to tell what changes, or to serve an editor
abbrev pub IsRequestOf : List Text → ToolRequest → Type 0
IsRequestOf words (request.Show text) = Tells IsDisplay (faults_in words)
IsRequestOf words (request.Explain topics) =
    (rows : List Row) × Enters (codes "explain") words rows
    × (map (λ w. w.now) topics.items ≡ values_of (codes "word") rows)
IsRequestOf words (request.Deps deps) =
    (rows : List Row) × Enters (codes "deps") words rows × AreDepsOf rows deps
IsRequestOf words (request.Check check) =
    (rows : List Row) × Enters (codes "check") words rows × AreCheckOf rows check
IsRequestOf words (request.Json options) =
    (rows : List Row) × Enters (codes "json") words rows × AreOptionsOf rows options
IsRequestOf words (request.Diff diff) =
    (rows : List Row) × Enters (codes "diff") words rows × AreDiffOf rows diff
IsRequestOf words request.Serve = (rows : List Row) × Enters (codes "lsp") words rows

-- clap takes the words, and they name no subcommand
abbrev pub NamesNone : List Text → Type 0
NamesNone words = (faults_in words ≡ [])
    × ((rows : List Row) → entered_in words ≢ Some (codes "explain", rows))
    × ((rows : List Row) → entered_in words ≢ Some (codes "deps", rows))
    × ((rows : List Row) → entered_in words ≢ Some (codes "check", rows))
    × ((rows : List Row) → entered_in words ≢ Some (codes "json", rows))
    × ((rows : List Row) → entered_in words ≢ Some (codes "diff", rows))
    × ((rows : List Row) → entered_in words ≢ Some (codes "lsp", rows))

-- there are OLD and NEW, or `--old`
abbrev pub has_versions : List Row → Bool
has_versions rows = is_some (below_in rows) || nat_eq (length (files_in rows)) 2

-- `--fail-on` has a word that is no weight, or `--format` one that is no format, or there aren't
-- two versions
abbrev pub AreNoDiff : List Row → Type 0
AreNoDiff rows =
    (fails_in rows ≡ None) ⊎ ((json_in rows ≡ None) ⊎ (has_versions rows ≡ false))

-- clap takes the words, and so it is
abbrev pub NamesNoDiff : List Text → Type 0
NamesNoDiff words = (rows : List Row) × Enters (codes "diff") words rows × AreNoDiff rows

-- words that ask for nothing
abbrev pub AreWrong : List Text → Type 0
AreWrong words =
    Tells IsRefusal (faults_in words) ⊎ (NamesNone words ⊎ NamesNoDiff words)
