-- What is found in a root, in JSON.
use Rattle.std.specs.Prelude.{◌≡◌, ◌+◌, ◌^◌, ℕ, List, [], ◌∷◌, codes, length, map, nat_eq, nat_lt, Option, None, Some, if◌then◌else◌}
use Rattle.std.specs.Option.{unwrap_or}
use Rattle.serde_json.specs.Data.{Data, no_members, object}
use Rattle.idl_fault.specs.Code.{code_text, is_error}
use Rattle.idl_fault.specs.declared.code.Code.{Code}
use Rattle.idl_explain.specs.Explained.{said, topic_of}
use Rattle.idl_explain.specs.declared.explanation.Explanation.{Explanation}
use Rattle.idl_explain.specs.declared.explanation.Topic.TheVariants as topic
use Rattle.idl_explain.specs.declared.explanation.Words.{Words}
use Rattle.idl_fault.specs.declared.place.Place.{Place}
use Rattle.idl_json.specs.Objects.{Field, list_json, number_json, object_of, with_fields}
use Rattle.idl_json.specs.Text.{text_json}
use Rattle.idl_json.specs.declared.diagnostic.Diagnostic.{Diagnostic}
use Rattle.idl_json.specs.declared.diagnostic.SecondPlace.{SecondPlace}

-- a second place of what is found, why it is told, in words, how many bytes of its line are before
-- its token, if that is known, and how many more were found than are told
pub record Second : Type 0 where
  pub reason : List ℕ
  pub place : Place
  pub token : List ℕ
  pub column : Option ℕ
  pub more : ℕ

abbrev pub second_of : SecondPlace → Second
second_of told = record {
  reason = told.reason.now;
  place = told.place.now;
  token = told.token.now;
  column = told.column;
  more = told.more;
}

-- what is found, and how many bytes of its line are before its token, if that is known
pub record Located : Type 0 where
  pub place : Place
  pub code : Code
  pub token : Option (List ℕ)
  pub column : Option ℕ
  pub related : List Second

abbrev pub located : Diagnostic → Located
located told = record {
  place = told.place.now;
  code = told.code;
  token = told.token.now;
  column = told.column;
  related = map second_of told.related;
}

abbrev pub severity : Code → List ℕ
severity code = if is_error code then codes "error" else codes "warning"

-- where a token stands in its line, in bytes from 1 on: its first byte, and behind its last one.
-- From 2^53 on, where no line goes, nothing is told: many readers keep no such number
abbrev pub placed_fields : ℕ → List ℕ → List Field
placed_fields before token =
    if nat_lt (before + length token) (2 ^ 53)
    then (codes "column", number_json (before + 1))
    ∷ (codes "end", number_json (before + length token + 1)) ∷ []
    else []

-- nothing where that isn't known
abbrev pub column_fields : Option ℕ → List ℕ → List Field
column_fields None token = []
column_fields (Some before) token = placed_fields before token

-- the token that a row shows, if it shows one
abbrev pub token_fields : Option ℕ → Option (List ℕ) → List Field
token_fields column None = []
token_fields column (Some token) = (codes "token", text_json token) ∷ column_fields column token

-- how many more were found than are told, if any were
abbrev pub more_fields : ℕ → List Field
more_fields more = if nat_eq more 0 then [] else (codes "more", number_json more) ∷ []

-- why it is told, and where it is
abbrev pub second_fields : Second → List Field
second_fields second =
    (codes "reason", text_json second.reason)
    ∷ (codes "file", text_json second.place.file)
    ∷ (codes "line", number_json second.place.line)
    ∷ (codes "token", text_json second.token)
    ∷ column_fields second.column second.token

abbrev pub second_json : Second → Data
second_json second =
    object (with_fields (with_fields no_members (second_fields second)) (more_fields second.more))

-- what is found, in these words
abbrev pub diagnostic_json : Located → Words → Data
diagnostic_json told words = object_of (
    (codes "file", text_json told.place.file)
    ∷ (codes "line", number_json told.place.line)
    ∷ (codes "code", text_json (code_text told.code))
    ∷ (codes "severity", text_json (severity told.code))
    ∷ (codes "text", text_json (said words (unwrap_or told.token [])))
    ∷ (codes "related", list_json second_json told.related)
    ∷ token_fields told.column told.token)

-- the words are those of its code
abbrev pub IsDiagnosticJson : Located → Data → Type 0
IsDiagnosticJson told json =
    (explanation : Explanation) × (topic_of explanation.told ≡ topic.Code told.code)
    × (json ≡ diagnostic_json told explanation.words)
