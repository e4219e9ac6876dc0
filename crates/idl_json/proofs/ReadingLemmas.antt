-- What is read of the JSON of a tree is the tree.
use Rattle.std.proofs.Common.{◌≡◌, ◌∙◌, ◌++◌, ◌∷◌, [], ℕ, zero, suc, Bool, true, false, List, None, Option, Some, ap, append_assoc, codes, map, option_map, refl, reverse, sym}
use Rattle.std.proofs.lemmas.Grind.{reverse_onto}
use Rattle.std.proofs.lemmas.List.{append-nil, map-append}
use Rattle.serde_json.specs.Data.{Data}
use Rattle.idl_entity.specs.declared.data_type.Layer.{Layer}
use Rattle.idl_entity.specs.declared.data_type.Layer.TheVariants.{Sequence, Array}
use Rattle.idl_entity.specs.declared.kind.Kind.{Kind}
use Rattle.idl_entity.specs.declared.kind.Kind.TheVariants as kind
use Rattle.idl_entity.specs.declared.unvalued.Unvalued.{Unvalued}
use Rattle.idl_entity.specs.declared.unvalued.Unvalued.TheVariants as unvalued
use Rattle.idl_value.specs.declared.integer.IntegerKind.{IntegerKind}
use Rattle.idl_value.specs.declared.integer.IntegerKind.TheVariants as integer
use Rattle.idl_value.specs.declared.constant_type.ConstantType.{ConstantType}
use Rattle.idl_value.specs.declared.constant_type.ConstantType.TheVariants as target
use Rattle.idl_repo.specs.declared.details.reference.Reference.{Reference}
use Rattle.idl_repo.specs.declared.details.row_tree.ParameterTree.{ParameterTree}
use Rattle.idl_repo.specs.declared.details.row_tree.RowDetails.{RowDetails}
use Rattle.idl_repo.specs.declared.details.row_tree.RowDetails.TheVariants as row
use Rattle.idl_repo.specs.declared.details.row_tree.RowTree.{RowTree}
use Rattle.idl_repo.specs.declared.details.type_code_tree.CaseTree.{CaseTree}
use Rattle.idl_repo.specs.declared.details.type_code_tree.MemberTree.{MemberTree}
use Rattle.idl_repo.specs.declared.details.type_code_tree.TypeCodeParts.{TypeCodeParts}
use Rattle.idl_repo.specs.declared.details.type_code_tree.TypeCodeParts.TheVariants as parts
use Rattle.idl_repo.specs.declared.details.type_code_tree.TypeCodeTree.{TypeCodeTree}
use Rattle.idl_repo.specs.declared.details.type_code_tree.UnionTree.{UnionTree}
use Rattle.idl_repo.specs.declared.details.type_tree.ElementTree.{ElementTree}
use Rattle.idl_repo.specs.declared.details.type_tree.ElementTree.TheVariants as tree
use Rattle.idl_repo.specs.declared.details.type_tree.LayeredType.{LayeredType}
use Rattle.idl_repo.specs.TypeCode.{integer_word}
use Rattle.idl_json.specs.Objects.{list_json, number_json}
use Rattle.idl_json.specs.Reading.{around, bound_of, case_of, element_of, element_of_word, found_in, kind_words, list_of, member_of, number_of, parameter_of, plain, reference_of, references_of, text_of, texts_of, tree_of, type_code_of, type_of, value_of}
use Rattle.idl_json.specs.Rows.{json_of, kind_name, parameter_json, value_json}
use Rattle.idl_json.specs.Text.{text_json, texts_json}
use Rattle.idl_json.specs.TypeCodes.{case_json, member_json, type_code_json}
use Rattle.idl_json.specs.Types.{arrays_json, bound_json, constants_json, element_json, layered, reference_json, references_json, sequence_json, type_json, unvalued_json, word_json}
use Rattle.idl_json.proofs.TextLemmas.{read-characters}

pub read-text : (text : List ℕ) → text_of (text_json text) ≡ Some text
read-text text = ap Some (read-characters text)

pub read-list : {X : Type 0} (json : X → Data) (read : Data → Option X) → ((x : X) → read (json x) ≡ Some x) → (xs : List X) → list_of read (list_json json xs) ≡ Some xs
read-list json read law [] = refl
read-list json read law (x ∷ xs) = rw (law x) (rw (read-list json read law xs) refl)

pub read-texts : (texts : List (List ℕ)) → texts_of (texts_json texts) ≡ Some texts
read-texts texts = read-list text_json text_of read-text texts

pub read-numbers : (numbers : List ℕ) → list_of number_of (list_json number_json numbers) ≡ Some numbers
read-numbers numbers = read-list number_json number_of (λ n. refl) numbers

-- ---- types

read-reference : (r : Reference) → reference_of (reference_json r) ≡ Some r
read-reference r = rw (read-characters r.id) (rw (read-characters r.path) refl)

read-references : (rs : List Reference) → references_of (references_json rs) ≡ Some rs
read-references rs = read-list reference_json reference_of read-reference rs

read-word : (word : List ℕ) (element : ElementTree) → element_of_word (word_json word) word ≡ Some element → element_of (word_json word) ≡ Some element
read-word word element is = rw (read-characters word) is

read-bound : (bound : Option ℕ) → bound_of (bound_json bound) ≡ Some bound
read-bound None = refl
read-bound (Some zero) = refl
read-bound (Some (suc n)) = refl

read-integer : (k : IntegerKind) → element_of (word_json (integer_word k)) ≡ Some (tree.Constants (target.Integer k))
read-integer integer.Octet = read-word (codes "tk_octet") _ refl
read-integer integer.Int8 = read-word (codes "tk_int8") _ refl
read-integer integer.Uint8 = read-word (codes "tk_uint8") _ refl
read-integer integer.Short = read-word (codes "tk_short") _ refl
read-integer integer.UnsignedShort = read-word (codes "tk_ushort") _ refl
read-integer integer.Long = read-word (codes "tk_long") _ refl
read-integer integer.UnsignedLong = read-word (codes "tk_ulong") _ refl
read-integer integer.LongLong = read-word (codes "tk_longlong") _ refl
read-integer integer.UnsignedLongLong = read-word (codes "tk_ulonglong") _ refl

read-constants : (t : ConstantType) → element_of (constants_json t) ≡ Some (tree.Constants t)
read-constants (target.Integer k) = read-integer k
read-constants target.Boolean = read-word (codes "tk_boolean") _ refl
read-constants target.Character = read-word (codes "tk_char") _ refl
read-constants target.WideCharacter = read-word (codes "tk_wchar") _ refl
read-constants (target.Text bound) = rw (read-characters (codes "tk_string")) (rw (read-bound bound) refl)
read-constants (target.WideText bound) = rw (read-characters (codes "tk_wstring")) (rw (read-bound bound) refl)
read-constants (target.Enumeration path) = rw (read-characters (codes "tk_enum")) (rw (read-texts path) refl)

read-unvalued : (u : Unvalued) → element_of (unvalued_json u) ≡ Some (tree.Unvalued u)
read-unvalued unvalued.Float = read-word (codes "tk_float") _ refl
read-unvalued unvalued.Double = read-word (codes "tk_double") _ refl
read-unvalued unvalued.LongDouble = read-word (codes "tk_longdouble") _ refl
read-unvalued unvalued.Any = read-word (codes "tk_any") _ refl
read-unvalued unvalued.Object = rw (read-characters (codes "tk_objref")) refl

read-element : (element : ElementTree) → element_of (element_json element) ≡ Some element
read-element tree.Void = read-word (codes "tk_void") _ refl
read-element (tree.Constants t) = read-constants t
read-element (tree.Unvalued u) = read-unvalued u
read-element (tree.Named r) = ap (option_map (λ (s : Reference). tree.Named s)) (read-reference r)

-- an element alone has no element in it
plain-type : (element : ElementTree) → type_of (element_json element) ≡ option_map plain (element_of (element_json element))
plain-type tree.Void = refl
plain-type (tree.Constants (target.Integer k)) = refl
plain-type (tree.Constants target.Boolean) = refl
plain-type (tree.Constants target.Character) = refl
plain-type (tree.Constants target.WideCharacter) = refl
plain-type (tree.Constants (target.Text bound)) = refl
plain-type (tree.Constants (target.WideText bound)) = refl
plain-type (tree.Constants (target.Enumeration path)) = refl
plain-type (tree.Unvalued unvalued.Float) = refl
plain-type (tree.Unvalued unvalued.Double) = refl
plain-type (tree.Unvalued unvalued.LongDouble) = refl
plain-type (tree.Unvalued unvalued.Any) = refl
plain-type (tree.Unvalued unvalued.Object) = refl
plain-type (tree.Named r) = refl

around-more : (t : LayeredType) (xs ys : List Layer) → around (around t xs) ys ≡ around t (xs ++ ys)
around-more t xs ys = ap (λ ls. record { element = t.element; layers = ls }) (append_assoc t.layers xs ys)

-- the array layers of these lengths, the innermost first
abbrev arrays_of : List ℕ → List Layer
arrays_of lengths = map (λ n. Array n) (reverse lengths)

read-arrays : (json : Data) (t : LayeredType) (lengths : List ℕ) → type_of json ≡ Some t → type_of (arrays_json lengths json) ≡ Some (around t (arrays_of lengths))
read-arrays json t [] is = is ∙ ap (λ ls. Some (record { element = t.element; layers = ls })) (sym (append-nil t.layers))
read-arrays json t (n ∷ ns) is = rw is (rw (read-numbers (n ∷ ns)) refl)

read-sequence : (bound : ℕ) (json : Data) (t : LayeredType) → type_of json ≡ Some t → type_of (sequence_json bound json) ≡ Some (around t (Sequence bound ∷ []))
read-sequence bound json t is = rw is refl

one-array-more : (n : ℕ) (lengths : List ℕ) (layers : List Layer) → arrays_of (n ∷ lengths) ++ layers ≡ arrays_of lengths ++ Array n ∷ layers
one-array-more n lengths layers =
    ap (λ ls. map (λ m. Array m) ls ++ layers) (reverse_onto lengths n [])
    ∙ ap (λ (ls : List Layer). ls ++ layers) (map-append (λ m. Array m) (reverse lengths) (n ∷ []))
    ∙ append_assoc (arrays_of lengths) (Array n ∷ []) layers

read-layers : (json : Data) (t : LayeredType) (lengths : List ℕ) (layers : List Layer) → type_of json ≡ Some t
    → type_of (layered json lengths layers) ≡ Some (around t (arrays_of lengths ++ layers))
read-layers json t lengths [] is =
    read-arrays json t lengths is ∙ ap (λ ls. Some (around t ls)) (sym (append-nil (arrays_of lengths)))
read-layers json t lengths (Array n ∷ layers) is =
    read-layers json t (n ∷ lengths) layers is ∙ ap (λ ls. Some (around t ls)) (one-array-more n lengths layers)
read-layers json t lengths (Sequence bound ∷ layers) is =
    let inner = around t (arrays_of lengths) in
    let held = read-sequence bound (arrays_json lengths json) inner (read-arrays json t lengths is) in
    read-layers (sequence_json bound (arrays_json lengths json)) (around inner (Sequence bound ∷ [])) [] layers held
    ∙ ap Some (around-more inner (Sequence bound ∷ []) layers ∙ around-more t (arrays_of lengths) (Sequence bound ∷ layers))

pub read-type : (t : LayeredType) → type_of (type_json t) ≡ Some t
read-type t = read-layers (element_json t.element) (plain t.element) [] t.layers (plain-type t.element ∙ ap (option_map plain) (read-element t.element))

-- ---- TypeCodes

pub read-member : (m : MemberTree) → member_of (member_json m) ≡ Some m
read-member m = rw (read-characters m.name) (rw (read-type m.data_type) refl)

read-members : (ms : List MemberTree) → list_of member_of (list_json member_json ms) ≡ Some ms
read-members ms = read-list member_json member_of read-member ms

case-by : (label : Option (List ℕ)) (m : MemberTree) → case_of (case_json (record { label = label; member = m })) ≡ Some (record { label = label; member = m })
case-by None m = rw (read-characters m.name) (rw (read-type m.data_type) refl)
case-by (Some label) m = rw (read-characters label) (rw (read-characters m.name) (rw (read-type m.data_type) refl))

read-case : (c : CaseTree) → case_of (case_json c) ≡ Some c
read-case c = case-by c.label c.member

read-cases : (cs : List CaseTree) → list_of case_of (list_json case_json cs) ≡ Some cs
read-cases cs = read-list case_json case_of read-case cs

code-by : (id name : List ℕ) (ps : TypeCodeParts) → type_code_of (type_code_json (record { id = id; name = name; parts = ps })) ≡ Some (record { id = id; name = name; parts = ps })
code-by id name parts.ObjectReference = rw (read-characters id) (rw (read-characters name) (rw (read-characters (codes "tk_objref")) refl))
code-by id name parts.LocalInterface = rw (read-characters id) (rw (read-characters name) (rw (read-characters (codes "tk_local_interface")) refl))
code-by id name parts.Native = rw (read-characters id) (rw (read-characters name) (rw (read-characters (codes "tk_native")) refl))
code-by id name (parts.Structure members) =
    rw (read-characters id) (rw (read-characters name) (rw (read-characters (codes "tk_struct")) (rw (read-members members) refl)))
code-by id name (parts.Exception members) =
    rw (read-characters id) (rw (read-characters name) (rw (read-characters (codes "tk_except")) (rw (read-members members) refl)))
code-by id name (parts.Union u) = by u.discriminator u.default u.cases
  where
    by : (t : LayeredType) (n : Option ℕ) (cases : List CaseTree) → let union : UnionTree = record { discriminator = t; default = n; cases = cases } in
        type_code_of (type_code_json (record { id = id; name = name; parts = parts.Union union })) ≡ Some (record { id = id; name = name; parts = parts.Union union })
    by t None cases =
        rw (read-characters id) (rw (read-characters name) (rw (read-characters (codes "tk_union")) (rw (read-type t) (rw (read-cases cases) refl))))
    by t (Some n) cases =
        rw (read-characters id) (rw (read-characters name) (rw (read-characters (codes "tk_union")) (rw (read-type t) (rw (read-cases cases) refl))))
code-by id name (parts.Enumeration names) =
    rw (read-characters id) (rw (read-characters name) (rw (read-characters (codes "tk_enum")) (rw (read-texts names) refl)))
code-by id name (parts.Alias t) =
    rw (read-characters id) (rw (read-characters name) (rw (read-characters (codes "tk_alias")) (rw (read-type t) refl)))

read-type-code : (c : TypeCodeTree) → type_code_of (type_code_json c) ≡ Some c
read-type-code c = code-by c.id c.name c.parts

-- ---- rows

read-value : (value : Option (List ℕ)) → value_of (value_json value) ≡ Some value
read-value None = refl
read-value (Some value) = rw (read-characters value) refl

parameter-by : (goes_in comes_out : Bool) (m : MemberTree) → let p : ParameterTree = record { goes_in = goes_in; comes_out = comes_out; member = m } in parameter_of (parameter_json p) ≡ Some p
parameter-by false false m = rw (read-characters (codes "none")) (rw (read-characters m.name) (rw (read-type m.data_type) refl))
parameter-by true false m = rw (read-characters (codes "in")) (rw (read-characters m.name) (rw (read-type m.data_type) refl))
parameter-by false true m = rw (read-characters (codes "out")) (rw (read-characters m.name) (rw (read-type m.data_type) refl))
parameter-by true true m = rw (read-characters (codes "inout")) (rw (read-characters m.name) (rw (read-type m.data_type) refl))

read-parameters : (ps : List ParameterTree) → list_of parameter_of (list_json parameter_json ps) ≡ Some ps
read-parameters ps = read-list parameter_json parameter_of (λ p. parameter-by p.goes_in p.comes_out p.member) ps

found-kind : (k : Kind) → found_in kind_words (kind_name k) ≡ Some k
found-kind kind.Module = refl
found-kind kind.Interface = refl
found-kind kind.Structure = refl
found-kind kind.Union = refl
found-kind kind.Exception = refl
found-kind kind.Enumeration = refl
found-kind kind.Enumerator = refl
found-kind kind.Alias = refl
found-kind kind.Native = refl
found-kind kind.Constant = refl
found-kind kind.Attribute = refl
found-kind kind.Operation = refl
found-kind kind.Parameter = refl
found-kind kind.Member = refl

tree-by : (k : Kind) (path id : List ℕ) (details : RowDetails) → let t : RowTree = record { kind = k; path = path; id = id; details = details } in tree_of (json_of t) ≡ Some t
tree-by k path id row.Nothing =
    rw (read-characters (kind_name k)) (rw (found-kind k) (rw (read-characters path) (rw (read-characters id) refl)))
tree-by k path id (row.Type t) = by t.code t.bases
  where
    by : (c : TypeCodeTree) (bases : List Reference) → let t : RowTree = record { kind = k; path = path; id = id; details = row.Type (record { code = c; bases = bases }) } in tree_of (json_of t) ≡ Some t
    by c [] =
        rw (read-characters (kind_name k)) (rw (found-kind k) (rw (read-characters path) (rw (read-characters id) (rw (read-type-code c) refl))))
    by c (base ∷ bases) =
        rw (read-characters (kind_name k)) (rw (found-kind k) (rw (read-characters path) (rw (read-characters id) (rw (read-type-code c) (rw (read-references (base ∷ bases)) refl)))))
tree-by k path id (row.Constant c) =
    rw (read-characters (kind_name k)) (rw (found-kind k) (rw (read-characters path) (rw (read-characters id) (rw (read-type c.data_type) (rw (read-value c.value) refl)))))
tree-by k path id (row.Attribute a) =
    rw (read-characters (kind_name k)) (rw (found-kind k) (rw (read-characters path) (rw (read-characters id) (rw (read-type a.data_type) (rw (read-references a.raised) (rw (read-references a.raised_by_set) refl))))))
tree-by k path id (row.Operation o) =
    rw (read-characters (kind_name k)) (rw (found-kind k) (rw (read-characters path) (rw (read-characters id)
    (rw (read-type o.data_type) (rw (read-parameters o.parameters) (rw (read-references o.raised) (rw (read-texts o.contexts) refl)))))))

pub read-tree : (t : RowTree) → tree_of (json_of t) ≡ Some t
read-tree t = tree-by t.kind t.path t.id t.details
