-- What `check` tells of files.
use Rattle.std.specs.Prelude.{◌≡◌, ◌&&◌, ◌||◌, ◌++◌, ◌∷◌, ℕ, zero, suc, Bool, List, [], All, Contains, Option, None, false, flat_map, fold, length, map, nat_eq, not, option_and_then, slice_get, true, if◌then◌else◌}
use Rattle.std.specs.FinMap as finite
use Rattle.std.specs.List.{AllZip, filter, list_any, zip}
use Rattle.std.specs.Map.{keys_of}
use Rattle.std.specs.Str.{bytes_eq}
use Rattle.idl_explain.specs.Explained.{topic_of}
use Rattle.idl_explain.specs.declared.explanation.Explanation.{Explanation}
use Rattle.idl_explain.specs.declared.explanation.Topic.TheVariants as topic
use Rattle.idl_fault.specs.declared.place.Place.{Place}
use Rattle.idl_related.specs.Follows.{follows}
use Rattle.idl_driver.specs.idl_sources.Related.{AreRelatedOver}
use Rattle.idl_related.specs.declared.second.Related.{Related}
use Rattle.idl_finding.specs.declared.finding.Finding.{Finding}
use Rattle.idl_source.specs.devices.Device.{append}
use Rattle.idl_source.specs.texts.Texts.{Texts}
use Rattle.idl_inputs.specs.Bank.{bank_of}
use Rattle.idl_inputs.specs.Columns.{column_at}
use Rattle.idl_driver.specs.idl_sources.Compile.{compiled_root}
use Rattle.idl_driver.specs.idl_sources.declared.compile.CompiledRoot.{CompiledRoot}
use Rattle.idl_inputs.specs.Project.{Inputs}
use Rattle.idl_driver.specs.Written.{Written}
use Rattle.idl_loader.specs.Holding.{Holding}
use Rattle.idl_driver.specs.Compilations.{AreSoundFiles}
use Rattle.idl_driver.specs.declared.compilation.SoundFiles.{SoundFiles}
use Rattle.idl_loader.specs.declared.status.Status.{Status}
use Rattle.idl_loader.specs.declared.status.Status.TheVariants.{Sound, Faulty}
use Rattle.idl_tool.specs.Messages.{AreTroubleMessages, ended_by}
use Rattle.idl_tool.specs.Report.{report, second_line}
use Rattle.idl_tool.specs.declared.request.Check.{Check}

-- the line with this number, from 1 on
abbrev pub numbered_line : List (List ℕ) → ℕ → Option (List ℕ)
numbered_line lines zero = None
numbered_line lines (suc n) = slice_get lines n

-- the line of a place
abbrev pub line_at : Texts → Place → Option (List ℕ)
line_at files place =
    option_and_then (λ lines. numbered_line lines place.line) (finite.get files place.file)

-- how many bytes of it are before the token that is found there, if there is one
abbrev pub column_of : Texts → Finding → Option ℕ
column_of files finding =
    option_and_then (λ text. column_at files finding.place finding.number text) finding.text

-- a finding with its second places
abbrev pub Told : Type 0
Told = Finding × List Related

-- what is told, with what explains the finding's code
abbrev pub Explained : Type 0
Explained = Told × Explanation

abbrev pub Explains : Explained → Type 0
Explains (told, explanation) = topic_of explanation.told ≡ topic.Code told.0.code

-- the report of a finding over these files
abbrev pub report_in : Texts → Explained → List ℕ
report_in files (told, explanation) =
    report (line_at files told.0.place) (column_of files told.0) told.0 explanation.words

-- the lines of its second places, which stand behind the report
abbrev pub second_in : Texts → Related → List ℕ
second_in files second =
    second_line second (column_at files second.place second.number second.text)

abbrev pub seconds_in : Texts → List Related → List ℕ
seconds_in files related = flat_map (second_in files) related

-- a report, and the lines behind it
abbrev pub Entry : Type 0
Entry = List ℕ × List ℕ

abbrev pub entry_in : Texts → Explained → Entry
entry_in files explained = (report_in files explained, seconds_in files explained.0.1)

-- reports, and then one more, unless one is there that tells the same of its finding
abbrev pub with_entry : List Entry → Entry → List Entry
with_entry entries entry =
    if list_any (bytes_eq entry.0) (keys_of entries) then entries else entries ++ entry ∷ []

-- reports, and then those of these findings that aren't there: findings of several roots that tell
-- the same are told once, where the first is
abbrev pub AreReported : Texts → List Told → List Entry → List Entry → Type 0
AreReported files told before after =
    (explained : List Explained) × All Explains explained
    × (map (λ e. e.0) explained ≡ told)
    × (after ≡ fold with_entry before (map (entry_in files) explained))

-- one of these reports tells of a finding
abbrev pub IsTold : Texts → List Entry → Told → Type 0
IsTold files entries told =
    (explanation : Explanation) × Explains (told, explanation)
    × Contains (keys_of entries) (report_in files (told, explanation))

-- it follows from an error elsewhere, or it doesn't
abbrev pub is_of : Bool → Told → Bool
is_of are_following told = if are_following then follows told.1 else not (follows told.1)

-- findings with their second places, those last that follow from an error elsewhere
abbrev pub in_order : List Told → List Told
in_order told = filter (is_of false) told ++ filter (is_of true) told

-- what is told of a root: all that is found in it, with second places
abbrev pub IsToldOf : Inputs → List ℕ → List Told → Type 0
IsToldOf inputs root told =
    let findings = (compiled_root inputs root).rows.findings in
    (related : List (List Related))
    × AreRelatedOver (bank_of inputs) root findings related
    × (told ≡ in_order (zip findings related))

-- what is told of roots, each in turn
abbrev pub AreToldOf : Inputs → List (List ℕ) → List (List Told) → Type 0
AreToldOf inputs roots told = AllZip (IsToldOf inputs) roots told

abbrev pub all_of : List (List Told) → List Told
all_of told = flat_map (λ one. one) told

-- reports that go out, each with the lines behind it
abbrev pub entry_text : Entry → List ℕ
entry_text entry = entry.0 ++ entry.1

-- a text is the reports of what is told of roots
abbrev pub IsReportText : Inputs → List (List ℕ) → List ℕ → Type 0
IsReportText inputs roots text =
    (told : List (List Told)) × AreToldOf inputs roots told
    × (reports : List Entry) × AreReported inputs.files (all_of told) [] reports
    × (text ≡ flat_map entry_text reports)

-- what is found in a root is a fault: an error, or where warnings count, too, anything
abbrev pub is_fault : Bool → CompiledRoot → Bool
is_fault counts_warnings root =
    root.rows.is_faulty || (counts_warnings && not (nat_eq (length root.rows.findings) 0))

abbrev pub are_faults : Bool → List CompiledRoot → Bool
are_faults counts_warnings roots = list_any (is_fault counts_warnings) roots

-- what went out of files, and how the program ends
pub record AreReportsWritten (counts_warnings : Bool) (files : SoundFiles) (before after : Written)
    (status : Status) : Type 0 where
  pub told : List (List Told)
  pub each : AreToldOf files.sound.sources files.sound.roots.items told
  pub reports : List Entry
  pub reported : AreReported files.sound.sources.files (all_of told) [] reports
  pub output : after.output ≡ append before.output (flat_map entry_text reports)
  pub trouble : List ℕ
  pub troubles : AreTroubleMessages files trouble
  pub errors : after.errors ≡ append before.errors trouble
  pub ending : status ≡ ended_by files
      (if are_faults counts_warnings
      (map (compiled_root files.sound.sources) files.sound.roots.items)
      then Faulty else Sound)

-- what is asked for is told of the files that come without trouble, and the trouble of the others
pub record IsChecked (told : List ℕ → Holding) (check : Check) (before after : Written)
    (status : Status) : Type 0 where
  pub all : SoundFiles
  pub files : AreSoundFiles told check.options all
  pub reports : AreReportsWritten check.counts_warnings all before after status
