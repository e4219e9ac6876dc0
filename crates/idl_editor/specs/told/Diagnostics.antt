-- What is found, as an editor is told. The keys stand in their order.
use Rattle.std.specs.Prelude.{◌≡◌, ◌++◌, ◌∷◌, ℕ, List, [], codes, decimal, if◌then◌else◌, unwrap_or}
use Rattle.serde_json.specs.Data.{Data, member, no_members, number, object, string, unsigned}
use Rattle.idl_explain.specs.Explained.{said, topic_of}
use Rattle.idl_explain.specs.declared.explanation.Explanation.{Explanation}
use Rattle.idl_explain.specs.declared.explanation.Topic.TheVariants as topic
use Rattle.idl_fault.specs.Code.{code_text, is_error}
use Rattle.idl_fault.specs.declared.code.Code.{Code}
use Rattle.idl_finding.specs.declared.finding.Finding.{Finding}
use Rattle.idl_editor.specs.declared.change.Range.{Range}
use Rattle.idl_editor.specs.told.Json.{range_json, shown_json}

-- an error, or a warning
abbrev pub severity : Code → ℕ
severity code = if is_error code then 1 else 2

-- what is said of a token, and on a line behind it what helps
abbrev pub said_with_hint : Explanation → List ℕ → List ℕ
said_with_hint explanation token = said explanation.words token ++ 10 ∷ explanation.hint.now

-- what a finding says is that of what explains its code, with its token
abbrev pub IsSaid : Finding → List ℕ → Type 0
IsSaid finding message =
    (explanation : Explanation) × (topic_of explanation.told ≡ topic.Code finding.code)
    × (message ≡ said_with_hint explanation (unwrap_or finding.text []))

-- what is told of a finding that says this, with what is told of its second places
abbrev pub diagnostic_json : Finding → Range → List ℕ → Data → Data
diagnostic_json finding range message related = object
    (member (codes "code") (shown_json (code_text finding.code))
    (member (codes "message") (shown_json message)
    (member (codes "range") (range_json range)
    (member (codes "relatedInformation") related
    (member (codes "severity") (number (unsigned (severity finding.code)))
    (member (codes "source") (string (codes "idltool")) no_members))))))

-- what is told of so many findings that aren't told one by one
abbrev pub more_text : ℕ → List ℕ
more_text count = codes ".. and " ++ decimal count ++ codes " more in this file"

-- and that at this range, as information: it is no finding, and has no code
abbrev pub more_json : Range → ℕ → Data
more_json range count = object
    (member (codes "message") (shown_json (more_text count))
    (member (codes "range") (range_json range)
    (member (codes "severity") (number (unsigned 3))
    (member (codes "source") (string (codes "idltool")) no_members))))
