-- The rows of a listing: one equation for each line of the format.
use Rattle.std.specs.Prelude.{ℕ, Bool, true, false, List, [], ◌∷◌, ◌++◌, codes, flat_map, None, Some}
use Rattle.idl_repo.specs.Pieces.{Pieces, IdOf, Says, commas, says, with_commas}
use Rattle.idl_repo.specs.TypeCode.{code_pieces, entries_of, enumerator_word, interface_head, listed_value, member_pieces, reference, shown, type_behind, type_pieces, typed_pieces}
use Rattle.idl_entity.specs.declared.entity.Entity.{Entity}
use Rattle.idl_entity.specs.declared.kind.Kind.{Kind}
use Rattle.idl_entity.specs.declared.kind.Kind.TheVariants as kind
use Rattle.idl_entity.specs.declared.signature.Member.{Member}
use Rattle.idl_value.specs.Spelled.{value_word}
use Rattle.idl_value.specs.declared.value.Value.TheVariants.{Text}

-- the word of a row
abbrev pub kind_word : Kind → List ℕ
kind_word kind.Module = codes "module"
kind_word kind.Interface = codes "interface"
kind_word kind.Structure = codes "struct"
kind_word kind.Union = codes "union"
kind_word kind.Exception = codes "exception"
kind_word kind.Enumeration = codes "enum"
kind_word kind.Alias = codes "alias"
kind_word kind.Native = codes "native"
kind_word kind.Constant = codes "const"
kind_word kind.Attribute = codes "attribute"
kind_word kind.Operation = codes "operation"
kind_word other = []

-- the names of a path, the outermost first, with `::` between them
abbrev pub path_text : List (List ℕ) → List ℕ
path_text [] = []
path_text (name ∷ []) = name
path_text (name ∷ scope ∷ outer) = path_text (scope ∷ outer) ++ (codes "::" ++ name)

abbrev pub references : List (List (List ℕ)) → Pieces
references paths = commas reference paths

-- the bases of an interface, and the base of a struct, if it has one
abbrev pub bases_pieces : List (List (List ℕ)) → Pieces
bases_pieces paths = Says (codes " bases(") ∷ (references paths ++ says (codes ")"))

abbrev pub base_pieces : List (List (List ℕ)) → Pieces
base_pieces [] = []
base_pieces (path ∷ paths) =
    Says (codes " base(") ∷ (references (path ∷ paths) ++ says (codes ")"))

-- ID TYPE VALUE
abbrev pub value_pieces : Entity → Pieces
value_pieces e = elim e.value [ None ↦ [] | Some v ↦ says (listed_value v) ]

abbrev pub constant_pieces : Entity → Pieces
constant_pieces e =
    Says (codes " ") ∷ (type_pieces e.data_type ++ Says (codes " ") ∷ value_pieces e)

-- a word between blanks where it is to stand, and else one blank
abbrev pub flag : Bool → List ℕ → List ℕ
flag true word = word
flag false word = codes " "

-- ID [readonly ]TYPE get(REF,..) set(REF,..)
abbrev pub attribute_pieces : Entity → Pieces
attribute_pieces e =
    Says (flag e.is_readonly (codes " readonly "))
    ∷ (type_pieces e.data_type
    ++ Says (codes " get(")
    ∷ (references (shown e).raised
    ++ Says (codes ") set(")
    ∷ (references (shown e).raised_by_set ++ says (codes ")"))))

abbrev pub direction_word : Bool → Bool → List ℕ
direction_word true true = codes "inout"
direction_word false true = codes "out"
direction_word goes_in false = codes "in"

-- DIR NAME:TYPE
abbrev pub parameter_pieces : Member → Pieces
parameter_pieces m =
    Says (direction_word m.goes_in m.comes_out) ∷ Says (codes " ") ∷ typed_pieces m

abbrev pub context_word : List ℕ → List ℕ
context_word text = value_word (Text text)

-- ID [oneway ]TYPE (DIR NAME:TYPE,..) raises(REF,..) context(TEXT,..)
abbrev pub operation_pieces : Entity → Pieces
operation_pieces e =
    Says (flag e.is_oneway (codes " oneway "))
    ∷ (type_pieces e.data_type
    ++ Says (codes " (")
    ∷ (commas parameter_pieces (shown e).members
    ++ Says (codes ") raises(")
    ∷ (references (shown e).raised
    ++ Says (codes ") context(")
    ∷ Says (with_commas context_word (shown e).contexts) ∷ says (codes ")"))))

-- what stands behind the id: TC, of an interface TC bases(REF,..), of a struct with a base TC base(REF)
abbrev pub behind_id : Kind → Entity → Pieces
behind_id kind.Interface e =
    code_pieces (interface_head e.is_local) e [] ++ bases_pieces e.bases
behind_id kind.Structure e =
    code_pieces (codes " tk_struct(") e (flat_map member_pieces (shown e).members)
    ++ base_pieces e.bases
behind_id kind.Union e =
    code_pieces (codes " tk_union(") e (type_behind e.data_type ++ entries_of (shown e).members)
behind_id kind.Exception e =
    code_pieces (codes " tk_except(") e (flat_map member_pieces (shown e).members)
behind_id kind.Enumeration e =
    code_pieces (codes " tk_enum(") e (says (flat_map enumerator_word e.enumerators))
behind_id kind.Alias e = code_pieces (codes " tk_alias(") e (type_behind e.data_type)
behind_id kind.Native e = code_pieces (codes " tk_native(") e []
behind_id kind.Constant e = constant_pieces e
behind_id kind.Attribute e = attribute_pieces e
behind_id kind.Operation e = operation_pieces e
behind_id other e = []

-- a row: its word, the path, the id, and what stands behind that
abbrev pub row_pieces : Entity → Pieces
row_pieces e =
    Says (kind_word e.kind) ∷ Says (codes " ") ∷ Says (path_text e.path) ∷ Says (codes " ")
    ∷ IdOf e.path ∷ behind_id e.kind e
