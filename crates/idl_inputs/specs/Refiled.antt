-- Files that are edited before they are put in place, and what roots are answered meanwhile.
use Rattle.std.specs.Prelude.{◌≡◌, ◌≢◌, ◌⊎◌, ℕ, false, List, [], ◌∷◌, ◌++◌, All, Option, Result, Ok}
use Rattle.std.specs.FinMap as map
use Rattle.std.specs.List.{list_any}
use Rattle.std.specs.Map.{lookup}
use Rattle.std.specs.Option.{option_map, unwrap_or}
use Rattle.std.specs.Str.{bytes_eq}
use Rattle.idl_event.specs.Key.{key_eq}
use Rattle.idl_event.specs.declared.asked.key.RootAnswer.{RootAnswer}
use Rattle.idl_event.specs.declared.asked.key.RootAnswer.TheVariants as answer
use Rattle.idl_event.specs.declared.asked.key.RootKey.{RootKey}
use Rattle.idl_event.specs.declared.asked.key.RootKey.TheVariants as key
use Rattle.idl_source.specs.declared.refusal.Refusal.{Refusal}
use Rattle.idl_source.specs.texts.Texts.{Texts, after_put, after_remove, after_splice}
use Rattle.idl_inputs.specs.Bank.{bank_of}
use Rattle.idl_inputs.specs.Batch.{after_all}
use Rattle.idl_inputs.specs.Edits.{Edit}
use Rattle.idl_inputs.specs.Project.{Inputs, Project, with_files}
use Rattle.idl_inputs.specs.declared.edited_files.EditedFiles.{EditedFiles}
use Rattle.idl_inputs.specs.declared.file_edit.FileEdit.{FileEdit}
use Rattle.idl_inputs.specs.declared.file_edit.FileEdit.TheVariants as file

-- files after an edit of one, or the least refusal
abbrev pub files_by : Texts → FileEdit → Result Texts Refusal
files_by files (file.Put name lines) = after_put files name.now lines.items
files_by files (file.Splice name span lines) =
    after_splice files name.now span.from span.del lines.items
files_by files (file.Remove name) = after_remove files name.now

-- the name of an edit's file
abbrev pub name_of : FileEdit → List ℕ
name_of (file.Put name lines) = name.now
name_of (file.Splice name span lines) = name.now
name_of (file.Remove name) = name.now

-- these are the files of a project after such edits
abbrev pub AreDone : Project → List Edit → Texts → Type 0
AreDone project edits files = after_all project edits ≡ Ok (with_files project files)

-- all files, where those of before were edited so
abbrev pub files_after : Texts → EditedFiles → Texts
files_after before edited = unwrap_or edited.files before

-- the answers of a bank, but that these files have these ones
unfoldable pub refiled : (RootKey → Option RootAnswer) → List (List ℕ × Option RootAnswer) → RootKey
    → Option RootAnswer
refiled bank answers (key.File name) =
    unwrap_or (lookup (bytes_eq name) answers) (bank (key.File name))
refiled bank answers (key.Macro word) = bank (key.Macro word)
refiled bank answers key.Search = bank key.Search

-- with the answers of the edited files each file has the answer of the files after the edits
abbrev pub AreRefiled : Inputs → EditedFiles → Type 0
AreRefiled inputs edited =
    (name : List ℕ) → refiled (bank_of inputs) edited.answers.entries (key.File name)
    ≡ option_map answer.File (map.get (files_after inputs.files edited) name)

-- two banks have other answers at each of these keys, and the same one at all others
pub record AreCauses (old new : RootKey → Option RootAnswer) (keys : List RootKey) : Type 0 where
  pub other : All (λ k. new k ≢ old k) keys
  pub same : (k : RootKey) → list_any (λ cause. key_eq cause k) keys ≡ false → new k ≡ old k

-- a key is put in where these banks have two answers, and nothing where they have one
abbrev pub IsPushedIf : (RootKey → Option RootAnswer) → (RootKey → Option RootAnswer) → RootKey
    → List RootKey → List RootKey → Type 0
IsPushedIf old new key before after =
    ((new key ≡ old key) × (after ≡ before)) ⊎ ((new key ≢ old key) × (after ≡ before ++ key ∷ []))
