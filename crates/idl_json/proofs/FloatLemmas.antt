-- What is told has no float in it, so that its text is known.
use Rattle.std.proofs.Common.{◌≡◌, ◌∙◌, ◌+◌, ◌^◌, ◌∷◌, [], ◌||◌, ℕ, zero, suc, Bool, true, false, List, None, Option, Ordering, Less, Equal, Greater, Some, ap, codes, if◌then◌else◌, length, map, nat_cmp, nat_eq, nat_lt, refl, true≢false}
use Rattle.std.specs.Cmp.Lexicographic.{slice_cmp}
use Rattle.std.specs.Option.{unwrap_or}
use Rattle.std.specs.Ordering.{match_ordering}
use Rattle.serde_json.specs.Data.{Data, Members, member, no_members, put}
use Rattle.serde_json.specs.View.{items_of}
use Rattle.serde_json.specs.Written.{has_float, items_have_float, members_have_float}
use Rattle.idl_explain.specs.Explained.{said}
use Rattle.idl_fault.specs.Code.{code_text}
use Rattle.idl_entity.specs.declared.data_type.Layer.{Layer}
use Rattle.idl_entity.specs.declared.data_type.Layer.TheVariants.{Sequence, Array}
use Rattle.idl_entity.specs.declared.unvalued.Unvalued.TheVariants as unvalued
use Rattle.idl_value.specs.declared.constant_type.ConstantType.TheVariants as target
use Rattle.idl_repo.specs.declared.details.reference.Reference.{Reference}
use Rattle.idl_repo.specs.declared.details.row_tree.ParameterTree.{ParameterTree}
use Rattle.idl_repo.specs.declared.details.row_tree.RowDetails.{RowDetails}
use Rattle.idl_repo.specs.declared.details.row_tree.RowDetails.TheVariants as row
use Rattle.idl_repo.specs.declared.details.row_tree.RowTree.{RowTree}
use Rattle.idl_repo.specs.declared.details.type_code_tree.CaseTree.{CaseTree}
use Rattle.idl_repo.specs.declared.details.type_code_tree.MemberTree.{MemberTree}
use Rattle.idl_repo.specs.declared.details.type_code_tree.TypeCodeParts.{TypeCodeParts}
use Rattle.idl_repo.specs.declared.details.type_code_tree.TypeCodeParts.TheVariants as parts
use Rattle.idl_repo.specs.declared.details.type_code_tree.TypeCodeTree.{TypeCodeTree}
use Rattle.idl_repo.specs.declared.details.type_tree.ElementTree.{ElementTree}
use Rattle.idl_repo.specs.declared.details.type_tree.ElementTree.TheVariants as tree
use Rattle.idl_repo.specs.declared.details.type_tree.LayeredType.{LayeredType}
use Rattle.idl_json.specs.Diagnostic.{IsDiagnosticJson, Located, Second, column_fields, more_fields, second_fields, second_json, severity, token_fields}
use Rattle.idl_json.specs.Objects.{list_json, number_json, object_of, with_fields}
use Rattle.idl_json.specs.Rows.{json_of, parameter_json, value_json}
use Rattle.idl_json.specs.Text.{text_json}
use Rattle.idl_json.specs.TypeCodes.{case_json, member_json, type_code_json}
use Rattle.idl_json.specs.Types.{arrays_json, bound_json, element_json, layered, reference_json, sequence_json, type_json}

neither : (x y : Bool) → (x || y) ≡ false → (x ≡ false) × (y ≡ false)
neither false y is = (refl, is)
neither true y is = absurd (true≢false is)

put-at : (o : Ordering) (k l : List ℕ) (d e : Data) (ms : Members) → has_float d ≡ false → has_float e ≡ false → members_have_float ms ≡ false → members_have_float (put k d ms) ≡ false
    → members_have_float (match_ordering o (member k d (member l e ms)) (member l d ms) (member l e (put k d ms))) ≡ false
put-at Less k l d e ms p q r s = rw (p, q, r) refl
put-at Equal k l d e ms p q r s = rw (p, r) refl
put-at Greater k l d e ms p q r s = rw (q, s) refl

-- a member more
pub put-plain : (k : List ℕ) (d : Data) (ms : Members) → has_float d ≡ false → members_have_float ms ≡ false → members_have_float (put k d ms) ≡ false
put-plain k d no_members p q = rw p refl
put-plain k d (member l e ms) p q =
    let both = neither (has_float e) (members_have_float ms) q in
    put-at (slice_cmp nat_cmp k l) k l d e ms p both.0 both.1 (put-plain k d ms p both.1)

list-plain : {X : Type 0} (json : X → Data) → ((x : X) → has_float (json x) ≡ false) → (xs : List X) → items_have_float (items_of (map json xs)) ≡ false
list-plain json plain [] = refl
list-plain json plain (x ∷ xs) = rw (plain x, list-plain json plain xs) refl

pub texts-plain : (texts : List (List ℕ)) → items_have_float (items_of (map text_json texts)) ≡ false
texts-plain texts = list-plain text_json (λ text. refl) texts

-- ---- types

references-plain : (rs : List Reference) → items_have_float (items_of (map reference_json rs)) ≡ false
references-plain rs = list-plain reference_json (λ r. refl) rs

bound-plain : (bound : Option ℕ) → has_float (bound_json bound) ≡ false
bound-plain None = refl
bound-plain (Some zero) = refl
bound-plain (Some (suc n)) = refl

element-plain : (element : ElementTree) → has_float (element_json element) ≡ false
element-plain tree.Void = refl
element-plain (tree.Constants (target.Integer k)) = refl
element-plain (tree.Constants target.Boolean) = refl
element-plain (tree.Constants target.Character) = refl
element-plain (tree.Constants target.WideCharacter) = refl
element-plain (tree.Constants (target.Text bound)) = rw (bound-plain bound) refl
element-plain (tree.Constants (target.WideText bound)) = rw (bound-plain bound) refl
element-plain (tree.Constants (target.Enumeration path)) = rw (texts-plain path) refl
element-plain (tree.Unvalued unvalued.Float) = refl
element-plain (tree.Unvalued unvalued.Double) = refl
element-plain (tree.Unvalued unvalued.LongDouble) = refl
element-plain (tree.Unvalued unvalued.Any) = refl
element-plain (tree.Unvalued unvalued.Object) = refl
element-plain (tree.Named r) = refl

arrays-plain : (lengths : List ℕ) (json : Data) → has_float json ≡ false → has_float (arrays_json lengths json) ≡ false
arrays-plain [] json plain = plain
arrays-plain (n ∷ ns) json plain = rw (plain, list-plain number_json (λ m. refl) ns) refl

sequence-plain : (bound : ℕ) (json : Data) → has_float json ≡ false → has_float (sequence_json bound json) ≡ false
sequence-plain bound json plain = rw plain refl

layered-plain : (json : Data) (lengths : List ℕ) (layers : List Layer) → has_float json ≡ false → has_float (layered json lengths layers) ≡ false
layered-plain json lengths [] plain = arrays-plain lengths json plain
layered-plain json lengths (Array n ∷ layers) plain = layered-plain json (n ∷ lengths) layers plain
layered-plain json lengths (Sequence bound ∷ layers) plain =
    layered-plain (sequence_json bound (arrays_json lengths json)) [] layers (sequence-plain bound (arrays_json lengths json) (arrays-plain lengths json plain))

type-plain : (t : LayeredType) → has_float (type_json t) ≡ false
type-plain t = layered-plain (element_json t.element) [] t.layers (element-plain t.element)

-- ---- TypeCodes

member-plain : (m : MemberTree) → has_float (member_json m) ≡ false
member-plain m = rw (type-plain m.data_type) refl

case-by : (label : Option (List ℕ)) (m : MemberTree) → let c : CaseTree = record { label = label; member = m } in has_float (case_json c) ≡ false
case-by None m = rw (type-plain m.data_type) refl
case-by (Some label) m = rw (type-plain m.data_type) refl

members-plain : (ms : List MemberTree) → items_have_float (items_of (map member_json ms)) ≡ false
members-plain ms = list-plain member_json member-plain ms

cases-plain : (cs : List CaseTree) → items_have_float (items_of (map case_json cs)) ≡ false
cases-plain cs = list-plain case_json (λ c. case-by c.label c.member) cs

code-by : (id name : List ℕ) (ps : TypeCodeParts) → let c : TypeCodeTree = record { id = id; name = name; parts = ps } in has_float (type_code_json c) ≡ false
code-by id name parts.ObjectReference = refl
code-by id name parts.LocalInterface = refl
code-by id name parts.Native = refl
code-by id name (parts.Structure members) = rw (members-plain members) refl
code-by id name (parts.Exception members) = rw (members-plain members) refl
code-by id name (parts.Union u) = by u.discriminator u.default u.cases
  where
    by : (t : LayeredType) (n : Option ℕ) (cases : List CaseTree) → let c : TypeCodeTree = record { id = id; name = name; parts = parts.Union (record { discriminator = t; default = n; cases = cases }) } in has_float (type_code_json c) ≡ false
    by t None cases = rw (type-plain t, cases-plain cases) refl
    by t (Some n) cases = rw (type-plain t, cases-plain cases) refl
code-by id name (parts.Enumeration names) = rw (texts-plain names) refl
code-by id name (parts.Alias t) = rw (type-plain t) refl

-- ---- rows

value-plain : (value : Option (List ℕ)) → has_float (value_json value) ≡ false
value-plain None = refl
value-plain (Some value) = refl

parameter-plain : (p : ParameterTree) → has_float (parameter_json p) ≡ false
parameter-plain p = rw (type-plain p.member.data_type) refl

parameters-plain : (ps : List ParameterTree) → items_have_float (items_of (map parameter_json ps)) ≡ false
parameters-plain ps = list-plain parameter_json parameter-plain ps

row-by : (t : RowTree) (details : RowDetails) → has_float (json_of (record t { details = details })) ≡ false
row-by t row.Nothing = refl
row-by t (row.Type declared) = by declared.code declared.bases
  where
    by : (c : TypeCodeTree) (bases : List Reference) → has_float (json_of (record t { details = row.Type (record { code = c; bases = bases }) })) ≡ false
    by c [] = rw (code-by c.id c.name c.parts) refl
    by c (base ∷ bases) = rw (code-by c.id c.name c.parts, references-plain bases) refl
row-by t (row.Constant c) = rw (type-plain c.data_type, value-plain c.value) refl
row-by t (row.Attribute a) = rw (type-plain a.data_type, references-plain a.raised, references-plain a.raised_by_set) refl
row-by t (row.Operation o) =
    rw (type-plain o.data_type, parameters-plain o.parameters, references-plain o.raised, texts-plain o.contexts) refl

pub row-plain : (t : RowTree) → has_float (json_of t) ≡ false
row-plain t = row-by t t.details

-- ---- roots

-- a second place
second-by : (reason file token : List ℕ) (line : ℕ) (column : Option ℕ) → members_have_float (with_fields no_members (
    (codes "reason", text_json reason) ∷ (codes "file", text_json file) ∷ (codes "line", number_json line) ∷ (codes "token", text_json token) ∷ column_fields column token)) ≡ false
second-by reason file token line None = refl
second-by reason file token line (Some before) = by (nat_lt (before + length token) (2 ^ 53))
  where
    by : (fits : Bool) → members_have_float (with_fields no_members (
        (codes "reason", text_json reason) ∷ (codes "file", text_json file) ∷ (codes "line", number_json line) ∷ (codes "token", text_json token)
        ∷ (if fits then (codes "column", number_json (before + 1)) ∷ (codes "end", number_json (before + length token + 1)) ∷ [] else []))) ≡ false
    by true = refl
    by false = refl

-- and how many more there are
more-plain : (ms : Members) (more : ℕ) → members_have_float ms ≡ false → members_have_float (with_fields ms (more_fields more)) ≡ false
more-plain ms more plain = by (nat_eq more 0)
  where
    by : (none : Bool) → members_have_float (with_fields ms (if none then [] else (codes "more", number_json more) ∷ [])) ≡ false
    by true = plain
    by false = put-plain (codes "more") (number_json more) ms refl plain

second-plain : (s : Second) → has_float (second_json s) ≡ false
second-plain s =
    more-plain (with_fields no_members (second_fields s)) s.more (second-by s.reason s.place.file s.token s.place.line s.column)

seconds-plain : (seconds : List Second) → items_have_float (items_of (map second_json seconds)) ≡ false
seconds-plain seconds = list-plain second_json second-plain seconds

-- the object of what is found, by its parts
found-by : (file text code kind : List ℕ) (line : ℕ) (seconds : List Second) (column : Option ℕ) (token : Option (List ℕ)) →
    has_float (object_of (
    (codes "file", text_json file) ∷ (codes "line", number_json line) ∷ (codes "code", text_json code)
    ∷ (codes "severity", text_json kind) ∷ (codes "text", text_json text) ∷ (codes "related", list_json second_json seconds) ∷ token_fields column token)) ≡ false
found-by file text code kind line seconds column None = rw (seconds-plain seconds) refl
found-by file text code kind line seconds None (Some token) = rw (seconds-plain seconds) refl
found-by file text code kind line seconds (Some before) (Some token) = by (nat_lt (before + length token) (2 ^ 53))
  where
    by : (fits : Bool) → has_float (object_of (
        (codes "file", text_json file) ∷ (codes "line", number_json line) ∷ (codes "code", text_json code)
        ∷ (codes "severity", text_json kind) ∷ (codes "text", text_json text) ∷ (codes "related", list_json second_json seconds) ∷ (codes "token", text_json token)
        ∷ (if fits then (codes "column", number_json (before + 1)) ∷ (codes "end", number_json (before + length token + 1)) ∷ [] else []))) ≡ false
    by true = rw (seconds-plain seconds) refl
    by false = rw (seconds-plain seconds) refl

pub one-plain : (found : Located) (json : Data) → IsDiagnosticJson found json → has_float json ≡ false
one-plain found json is =
    ap has_float is.2
    ∙ found-by found.place.file (said is.0.words (unwrap_or found.token [])) (code_text found.code) (severity found.code) found.place.line found.related found.column found.token
