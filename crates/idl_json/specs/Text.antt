-- Bytes in JSON. Each is the character of that number (ISO 8859-1), so that nothing is lost, and
-- all is UTF-8.
use Rattle.std.specs.Prelude.{ℕ, List}
use Rattle.std.specs.Str.{encode_utf8_all}
use Rattle.serde_json.specs.Data.{Data, string}
use Rattle.idl_json.specs.Objects.{list_json}

abbrev pub text_json : List ℕ → Data
text_json bytes = string (encode_utf8_all bytes)

abbrev pub texts_json : List (List ℕ) → Data
texts_json = list_json text_json
