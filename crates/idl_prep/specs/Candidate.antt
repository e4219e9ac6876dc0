-- The first candidate of an include, where answers come from files and a search list.
use Rattle.std.specs.Prelude.{◌≡◌, ℕ, List, [], ◌∷◌, Option, Some, is_some, if◌then◌else◌}
use Rattle.std.specs.FinMap as map
use Rattle.std.specs.Option.{option_map}
use Rattle.idl_event.specs.declared.asked.key.RootAnswer.{RootAnswer}
use Rattle.idl_event.specs.declared.asked.key.RootAnswer.TheVariants as answer
use Rattle.idl_event.specs.declared.asked.key.RootKey.{RootKey}
use Rattle.idl_event.specs.declared.asked.key.RootKey.TheVariants as key
use Rattle.idl_prep.specs.Include.{Found}
use Rattle.idl_source.specs.names.Candidates.{found}
use Rattle.idl_source.specs.texts.Texts.{Texts}

-- the bank answers with these files and this search list
pub record AnswersFrom (files : Texts) (directories : List (List ℕ)) (bank : RootKey → Option RootAnswer)
    : Type 0 where
  pub by_name : (name : List ℕ) → bank (key.File name) ≡ option_map answer.File (map.get files name)
  pub listed : bank key.Search ≡ Some (answer.Search directories)

-- the first of these names that is present, with its lines
pub record IsFirstPresent (files : Texts) (names : List (List ℕ)) (file : Option Found)
    : Type 0 where
  pub name : option_map (λ (f : Found). f.name) file ≡ found files names
  pub lines : (f : Found) → file ≡ Some f → map.get files f.name ≡ Some f.lines

-- the names of the files among the keys that are asked
abbrev pub files_asked : List RootKey → List (List ℕ)
files_asked [] = []
files_asked (key.Macro word ∷ keys) = files_asked keys
files_asked (key.File name ∷ keys) = name ∷ files_asked keys
files_asked (key.Search ∷ keys) = files_asked keys

-- these names up to the first that is present, with it; all of them where none is
abbrev pub up_to_present : Texts → List (List ℕ) → List (List ℕ)
up_to_present files [] = []
up_to_present files (name ∷ names) =
    if is_some (map.get files name) then name ∷ [] else name ∷ up_to_present files names
