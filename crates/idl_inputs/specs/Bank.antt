-- What a root is answered.
use Rattle.std.specs.Prelude.{◌≡◌, ℕ, false, List, [], ◌∷◌, Option, Some}
use Rattle.std.specs.FinMap as map
use Rattle.std.specs.Map.{lookup}
use Rattle.std.specs.Option.{option_map}
use Rattle.std.specs.Str.{bytes_eq}
use Rattle.idl_event.specs.Key.{key_eq}
use Rattle.idl_event.specs.declared.asked.key.RootAnswer.{RootAnswer}
use Rattle.idl_event.specs.declared.asked.key.RootAnswer.TheVariants as answer
use Rattle.idl_event.specs.declared.asked.key.RootKey.{RootKey}
use Rattle.idl_event.specs.declared.asked.key.RootKey.TheVariants as key
use Rattle.idl_memo.specs.Cause.{changed}
use Rattle.idl_source.specs.texts.Texts.{Texts}
use Rattle.idl_inputs.specs.Project.{Inputs}

-- the answers of these inputs: a macro's body as a file of one line, a file's lines, and the search
-- list; what isn't there has no answer
unfoldable pub bank_of : Inputs → RootKey → Option RootAnswer
bank_of inputs (key.Macro word) =
    option_map (λ body. answer.Macro (body ∷ [])) (lookup (bytes_eq word) inputs.macros)
bank_of inputs (key.File name) = option_map answer.File (map.get inputs.files name)
bank_of inputs key.Search = Some (answer.Search inputs.search)

-- the same, but that this key has this one
abbrev pub bank_with : Inputs → RootKey → Option RootAnswer → RootKey → Option RootAnswer
bank_with inputs key answer = changed key_eq (bank_of inputs) key answer

-- no file but the one of this name is another
abbrev pub IsSameBeside : List ℕ → Texts → Texts → Type 0
IsSameBeside name old new =
    (other : List ℕ) → bytes_eq name other ≡ false → map.get new other ≡ map.get old other
