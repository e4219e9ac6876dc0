-- What `diff` tells of two versions of a file.
use Rattle.std.specs.Prelude.{◌≡◌, ℕ, Bool, ◌||◌, List, [], ◌∷◌, ◌++◌, codes, flat_map, fold, map, Option, None, Some, slice_get, if◌then◌else◌}
use Rattle.std.specs.List.{list_any}
use Rattle.std.specs.Option.{option_and_then, option_map_or}
use Rattle.std.specs.Str.{bytes_eq}
use Rattle.idl_changes.specs.Changes.{changes, entry_in, row_text}
use Rattle.idl_changes.specs.Chosen.{meets}
use Rattle.idl_changes.specs.Speaks.{IsDeclared, Speaks}
use Rattle.idl_changes.specs.declared.change.Change.{Change}
use Rattle.idl_changes.specs.declared.rows.Weights.{Weights}
use Rattle.idl_repo.specs.declared.details.row_tree.RowTree.{RowTree}
use Rattle.idl_json.specs.Change as json
use Rattle.idl_json.specs.Listed.{LocatedRow, NamePlace}
use Rattle.idl_loader.specs.Lines.{whole_line}
use Rattle.idl_source.specs.devices.Device.{append}
use Rattle.idl_inputs.specs.Made.{rootless}
use Rattle.idl_inputs.specs.Project.{Inputs}
use Rattle.idl_inputs.specs.WellFormed.{IsWellFormed}
use Rattle.idl_driver.specs.Written.{Written}
use Rattle.idl_driver.specs.Compiled.{is_faulty}
use Rattle.idl_loader.specs.Holding.{Holding}
use Rattle.idl_driver.specs.Loading.{AreLoaded, AreComplete}
use Rattle.idl_driver.specs.Options.{IsOver, named_by}
use Rattle.idl_driver.specs.declared.compilation.Compilation.{Compilation}
use Rattle.idl_loader.specs.declared.status.Status.{Status}
use Rattle.idl_loader.specs.declared.status.Status.TheVariants.{Failed, Faulty, Sound}
use Rattle.idl_driver.specs.declared.options.Options.{Options}
use Rattle.idl_tool.specs.Checked.{IsReportText}
use Rattle.idl_tool.specs.Json.{rows_of}
use Rattle.idl_tool.specs.Report.{place_text}
use Rattle.idl_tool.specs.There.{AreThere, files_of}
use Rattle.idl_tool.specs.declared.request.Diff.{Diff}

-- where a row is declared, if that is known, and its path
abbrev pub place_before : Option NamePlace → List ℕ
place_before place = option_map_or (λ p. place_text p.place p.column ++ codes ": ") place []

abbrev pub declared_text : LocatedRow → List ℕ
declared_text row = place_before row.declared ++ row.tree.path

-- rows, and one more, unless one of its path is declared where it is
abbrev pub with_row : List LocatedRow → LocatedRow → List LocatedRow
with_row rows row =
    if list_any (λ other. bytes_eq (declared_text row) (declared_text other)) rows
    then rows
    else rows ++ row ∷ []

-- of rows of one path that are declared at one place the first
abbrev pub each_once : List LocatedRow → List LocatedRow
each_once rows = fold with_row [] rows

-- what the listings of roots tell, one after the other, but what an earlier one tells of the same
-- place; and the trees of that
abbrev pub all_rows : Inputs → List (List ℕ) → List LocatedRow
all_rows inputs roots = each_once (flat_map (rows_of inputs) roots)

abbrev pub trees_of : List LocatedRow → List RowTree
trees_of rows = map (λ row. row.tree) rows

-- the changes from one listing to another
abbrev pub changes_of : (old new : List LocatedRow) → List Change
changes_of old new = changes (trees_of old) (trees_of new)

-- where the entry of a change is declared: that of the new listing, or of the old one where it is
-- gone
abbrev pub place_at : List LocatedRow → ℕ → Option NamePlace
place_at rows k = option_and_then (λ row. row.declared) (slice_get rows k)

abbrev pub shown_place : (old new : List LocatedRow) → Change → Option NamePlace
shown_place old new change =
    elim change.after
    [ None ↦ option_and_then (place_at old) change.before | Some k ↦ place_at new k ]

-- FILE:LINE:COLUMN: error: ROW, or note: a change is an error that has one of these weights
abbrev pub grade : (fails weights : Weights) → List ℕ
grade fails weights = if meets weights fails then codes "error: " else codes "note: "

abbrev pub change_line : Weights → (old new : List LocatedRow) → Change → List ℕ
change_line fails old new change =
    place_before (shown_place old new change)
    ++ (grade fails change.difference.weights ++ row_text (trees_of old) (trees_of new) change)

-- the same as an object of JSON, of the entry that changes, or that is new
abbrev pub object_line : Option RowTree → Option NamePlace → Change → List ℕ
object_line entry declared change =
    option_map_or (λ tree. json.change_line (record {
      tree = tree;
      difference = change.difference;
      declared = declared;
    })) entry []

abbrev pub change_object : (old new : List LocatedRow) → Change → List ℕ
change_object old new change =
    object_line (entry_in (trees_of old) (trees_of new) change) (shown_place old new change) change

-- changes, each on a line of its own
abbrev pub told_line : Bool → Weights → (old new : List LocatedRow) → Change → List ℕ
told_line is_json fails old new change =
    if is_json then change_object old new change else whole_line (change_line fails old new change)

abbrev pub change_lines : Bool → Weights → (old new : List LocatedRow) → List Change → List ℕ
change_lines is_json fails old new told = flat_map (told_line is_json fails old new) told

-- one of these changes is an error
abbrev pub are_failing : Weights → List Change → Bool
are_failing fails told = list_any (λ change. meets change.difference.weights fails) told

-- a version of a file, and what it is compiled over
pub record Version : Type 0 where
  pub inputs : Inputs
  pub roots : List (List ℕ)

-- a compiled one, as a version
abbrev pub seen : Compilation → Version
seen version = record { inputs = version.sources; roots = version.roots.keys }

-- it is the one that the options ask for, of these FILEs, over the files that the loader tells of
pub record IsVersion (told : List ℕ → Holding) (options : Options) (files : List (List ℕ))
    (version : Version) : Type 0 where
  pub over : IsOver options version.inputs
  pub named : named_by [] files ≡ Some version.roots
  pub formed : IsWellFormed (rootless version.inputs)
  pub loaded : AreLoaded told version.inputs.files
  pub complete : AreComplete told version.inputs version.roots

abbrev pub has_error : Version → Version → Bool
has_error old new = is_faulty old.inputs old.roots || is_faulty new.inputs new.roots

-- what it lists
abbrev pub listed_in : Version → List LocatedRow
listed_in version = all_rows version.inputs version.roots

-- two versions, where a change is an error that has one of these weights
module _ (fails : Weights) (old new : Version) where
  -- the lines of the changes from one to the other
  abbrev pub lines_between : Bool → List ℕ
  lines_between is_json =
      change_lines is_json fails (listed_in old) (listed_in new)
      (changes_of (listed_in old) (listed_in new))

  -- what goes out: nothing where one of them has an error
  abbrev pub shown_between : Bool → List ℕ
  shown_between is_json = if has_error old new then [] else lines_between is_json

  abbrev pub ending_by : Status
  ending_by =
      if are_failing fails (changes_of (listed_in old) (listed_in new)) then Faulty else Sound

  abbrev pub ending_of : Status
  ending_of = if has_error old new then Failed else ending_by

-- what went out of two versions, in JSON or in rows, and how the program ends
pub record AreCompared (is_json : Bool) (fails : Weights) (old new : Version)
    (before after : Written) (status : Status) : Type 0 where
  pub reports_old : List ℕ
  pub reported_old : IsReportText old.inputs old.roots reports_old
  pub reports_new : List ℕ
  pub reported_new : IsReportText new.inputs new.roots reports_new
  pub errors : after.errors ≡ append (append before.errors reports_old) reports_new
  pub output : after.output ≡ append before.output (shown_between fails old new is_json)
  pub ending : status ≡ ending_of fails old new

-- programs that are built from two versions speak with each other, if these are declared as IDL
-- asks for
abbrev pub DoSpeak : Version → Version → Type 0
DoSpeak old new =
    IsDeclared (trees_of (listed_in old)) → IsDeclared (trees_of (listed_in new))
    → Speaks (trees_of (listed_in old)) (trees_of (listed_in new))

-- two versions are compared as is asked for, over the files that the loader tells of
pub record IsCompared (told : List ℕ → Holding) (diff : Diff) (before after : Written)
    (status : Status) : Type 0 where
  pub old : Version
  pub new : Version
  pub old_files : List (List ℕ)
  pub new_files : List (List ℕ)
  pub there : AreThere diff.are_pairs told (files_of diff.old) (files_of diff.new) old_files
      new_files
  pub old_is : IsVersion told diff.old old_files old
  pub new_is : IsVersion told diff.new new_files new
  pub compared : AreCompared diff.is_json diff.fails old new before after status
