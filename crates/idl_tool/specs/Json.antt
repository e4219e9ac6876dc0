-- What `json` writes of files.
use Rattle.std.specs.Prelude.{◌≡◌, ℕ, Bool, List, [], map, slice_get, if◌then◌else◌}
use Rattle.std.specs.List.{AllZip, concat, zip}
use Rattle.std.specs.Option.{option_map}
use Rattle.std.specs.Str.{bytes_eq}
use Rattle.idl_json.specs.Diagnostic.{Located, Second}
use Rattle.idl_json.specs.Listed.{LocatedRow, NamePlace}
use Rattle.idl_json.specs.Root.{IsRootLine, Root}
use Rattle.idl_related.specs.Reasons.{reason_words}
use Rattle.idl_driver.specs.idl_sources.Related.{AreRelatedOver}
use Rattle.idl_related.specs.declared.second.Related.{Related}
use Rattle.idl_driver.specs.idl_sources.idl_root.declared.compiling.detailing.DetailedEntry.{DetailedEntry}
use Rattle.idl_driver.specs.idl_sources.idl_root.declared.compiling.places.DeclaredPlace.{DeclaredPlace}
use Rattle.idl_source.specs.devices.Device.{append}
use Rattle.idl_source.specs.texts.Texts.{Texts}
use Rattle.idl_inputs.specs.Asked.{asked_over}
use Rattle.idl_inputs.specs.Bank.{bank_of}
use Rattle.idl_inputs.specs.Columns.{column_at}
use Rattle.idl_driver.specs.idl_sources.Compile.{compiled_root}
use Rattle.idl_driver.specs.idl_sources.Details.{details_over}
use Rattle.idl_inputs.specs.Project.{Inputs}
use Rattle.idl_driver.specs.idl_sources.declared.compile.CompiledRoot.{CompiledRoot}
use Rattle.idl_driver.specs.Written.{Written}
use Rattle.idl_driver.specs.Compiled.{is_faulty}
use Rattle.idl_loader.specs.Holding.{Holding}
use Rattle.idl_driver.specs.Compilations.{AreSoundFiles}
use Rattle.idl_driver.specs.declared.compilation.SoundFiles.{SoundFiles}
use Rattle.idl_loader.specs.declared.status.Status.{Status}
use Rattle.idl_loader.specs.declared.status.Status.TheVariants.{Sound, Faulty}
use Rattle.idl_driver.specs.declared.options.Options.{Options}
use Rattle.idl_tool.specs.Checked.{Told, column_of}
use Rattle.idl_tool.specs.Messages.{AreTroubleMessages, ended_by}

-- a second place, with the column of its token
abbrev pub second_at : Texts → Related → Second
second_at files second = record {
  reason = reason_words second.reason;
  place = second.place;
  token = second.text;
  column = column_at files second.place second.number second.text;
  more = second.more;
}

-- what is found, with the column of its token, and with second places
abbrev pub located_in : Texts → Told → Located
located_in files (finding, related) = record {
  place = finding.place;
  code = finding.code;
  token = finding.text;
  column = column_of files finding;
  related = map (second_at files) related;
}

-- where a name of a root is declared, over these files
abbrev pub declared_in : Texts → List ℕ → DeclaredPlace → NamePlace
declared_in files root declared = record {
  place = declared.name.place;
  column = column_at files declared.name.place declared.name.number declared.name.text;
  is_main = bytes_eq declared.name.place.file root;
}

-- a row, with where its name is declared first
abbrev pub row_in : Texts → List ℕ → DetailedEntry → LocatedRow
row_in files root entry = record {
  tree = entry.tree;
  declared = option_map (declared_in files root) (slice_get entry.places 0);
}

-- the rows of a root's listing, which has none where the root has an error
abbrev pub rows_of : Inputs → List ℕ → List LocatedRow
rows_of inputs root = map (row_in inputs.files root) (details_over (bank_of inputs) root).entries

abbrev pub listing_of : Inputs → List ℕ → Bool → List LocatedRow
listing_of inputs root has_error = if has_error then [] else rows_of inputs root

-- what is told of a root that compiles to this, with these second places
abbrev pub told_of : Inputs → List ℕ → CompiledRoot → List (List Related) → Root
told_of inputs root compiled related = record {
  name = root;
  is_faulty = compiled.rows.is_faulty;
  found = map (located_in inputs.files) (zip compiled.rows.findings related);
  listing = listing_of inputs root compiled.rows.is_faulty;
  asked = asked_over (bank_of inputs) root;
  absent = compiled.absent;
}

-- a line tells it, with second places of what is found
abbrev pub IsLineWith : Inputs → List ℕ → CompiledRoot → List ℕ → Type 0
IsLineWith inputs root compiled line =
    (related : List (List Related))
    × AreRelatedOver (bank_of inputs) root compiled.rows.findings related
    × IsRootLine (told_of inputs root compiled related) line

-- of a root
abbrev pub IsLineOf : Inputs → List ℕ → List ℕ → Type 0
IsLineOf inputs root line = IsLineWith inputs root (compiled_root inputs root) line

-- what went out of files, and how the program ends
pub record AreWritten (files : SoundFiles) (before after : Written) (status : Status)
    : Type 0 where
  pub lines : List (List ℕ)
  pub each : AllZip (IsLineOf files.sound.sources) files.sound.roots.items lines
  pub output : after.output ≡ append before.output (concat lines)
  pub trouble : List ℕ
  pub troubles : AreTroubleMessages files trouble
  pub errors : after.errors ≡ append before.errors trouble
  pub ending : status ≡ ended_by files
      (if is_faulty files.sound.sources files.sound.roots.items then Faulty else Sound)

-- lines are written of the files that come without trouble, and the trouble of the others is told
pub record IsWritten (told : List ℕ → Holding) (options : Options) (before after : Written)
    (status : Status) : Type 0 where
  pub all : SoundFiles
  pub files : AreSoundFiles told options all
  pub written : AreWritten all before after status
