-- What is told inside a unit of what it declares: members with their labels, parameters, exceptions
-- that are raised, and contexts.
use Rattle.std.specs.Prelude.{ℕ, Bool, true, false, ◌&&◌, ◌||◌, List, [], ◌∷◌, ◌++◌, not, Option, None, Some, if◌then◌else◌}
use Rattle.idl_entity.specs.DataType.{with_arrays}
use Rattle.idl_entity.specs.Kind.{kind_eq}
use Rattle.idl_entity.specs.Path.{name_of}
use Rattle.idl_entity.specs.declared.data_type.DataType.{DataType}
use Rattle.idl_entity.specs.declared.entity.Entity.{Entity}
use Rattle.idl_entity.specs.declared.kind.Kind.{Kind}
use Rattle.idl_entity.specs.declared.kind.Kind.TheVariants.{Attribute, Member as MemberKind, Parameter, Union}
use Rattle.idl_entity.specs.declared.kind.Stage.TheVariants.{Complete}
use Rattle.idl_entity.specs.declared.signature.Member.{Member}
use Rattle.idl_entity.specs.declared.signature.Signature.{Signature}
use Rattle.idl_parts.specs.declared.part.Declaration.{Declaration}
use Rattle.idl_parts.specs.declared.part.Declaration.TheVariants as declaration
use Rattle.idl_parts.specs.declared.part.TextPurpose.{TextPurpose}
use Rattle.idl_parts.specs.declared.part.TextPurpose.TheVariants.{Context}
use Rattle.idl_parts.specs.declared.part.Use.{Use}
use Rattle.idl_parts.specs.declared.part.Use.TheVariants.{Raised, RaisedBySet}
use Rattle.idl_tree.specs.declared.declarations.operation.Direction.TheVariants.{In, Out}
use Rattle.idl_tree.specs.declared.several.Several.{Several}
use Rattle.idl_value.specs.Evaluation.{joined}
use Rattle.idl_value.specs.declared.value.Value.{Value}

-- what the clauses behind an operation or an attribute say: the paths of the exceptions that it
-- raises, those that writing it raises, and the texts of its context
pub record Clauses : Type 0 where
  pub raised : List (List (List ℕ))
  pub raised_by_set : List (List (List ℕ))
  pub contexts : List (List ℕ)

abbrev pub no_clauses : Clauses
no_clauses = record { raised = []; raised_by_set = []; contexts = [] }

-- with the path of what a name denotes that is used so
abbrev pub with_raised : Use → List (List ℕ) → Clauses → Clauses
with_raised Raised path clauses = record clauses { raised = clauses.raised ++ path ∷ [] }
with_raised RaisedBySet path clauses =
    record clauses { raised_by_set = clauses.raised_by_set ++ path ∷ [] }
with_raised other path clauses = clauses

-- with string literals, which are joined, if they are of a context
abbrev pub with_text : TextPurpose → Several (List ℕ) → Clauses → Clauses
with_text Context text clauses =
    record clauses { contexts = clauses.contexts ++ joined text ∷ [] }
with_text other text clauses = clauses

abbrev pub is_nothing : List (List (List ℕ)) → Bool
is_nothing [] = true
is_nothing (path ∷ paths) = false

-- whether reading or writing raises something
abbrev pub raises : Clauses → Bool
raises clauses = not (is_nothing clauses.raised && is_nothing clauses.raised_by_set)

-- an attribute that was declared last and raises something
abbrev pub raising : Option Entity → Clauses → List Entity
raising None clauses = []
raising (Some e) clauses = if kind_eq e.kind Attribute && raises clauses then e ∷ [] else []

-- what a name shows that has these members and clauses
abbrev pub signature_of : List Member → Clauses → Signature
signature_of members clauses = record {
  members = members;
  raised = clauses.raised;
  raised_by_set = clauses.raised_by_set;
  contexts = clauses.contexts;
}

-- a scope that begins and ends in a unit
pub record Body : Type 0 where
  -- what it is of, and the type that was written last before it begins
  pub entity : Option Entity
  pub data_type : Option DataType
  -- its members so far, and the labels since the last: their values, and nothing for `default`
  pub members : List Member
  pub labels : List (Option Value)

-- before its first member
abbrev pub begun_body : Option Entity → Option DataType → Body
begun_body entity data_type =
    record { entity = entity; data_type = data_type; members = []; labels = [] }

-- the innermost body, if there is one, with those around it
abbrev pub nested : Option Body → List Body → List Body
nested None around = []
nested (Some b) around = b ∷ around

-- a parameter goes in, and comes out
abbrev pub goes_in : Declaration → Bool
goes_in (declaration.Parameter Out) = false
goes_in (declaration.Parameter direction) = true
goes_in other = false

abbrev pub comes_out : Declaration → Bool
comes_out (declaration.Parameter In) = false
comes_out (declaration.Parameter direction) = true
comes_out other = false

-- a declared member or parameter, with the labels before it
abbrev pub member_of : Declaration → Entity → List (Option Value) → Member
member_of way e labels = record {
  name = name_of e.path;
  data_type = e.data_type;
  labels = labels;
  goes_in = goes_in way;
  comes_out = comes_out way;
}

abbrev pub is_member : Kind → Bool
is_member kind = kind_eq kind MemberKind || kind_eq kind Parameter

-- the innermost body becomes this
abbrev pub with_innermost : (Body → Body) → List Body → List Body
with_innermost next [] = []
with_innermost next (b ∷ bodies) = next b ∷ bodies

-- a body with a declared name, if it is a member
abbrev pub with_name : Declaration → Entity → Body → Body
with_name way e b =
    if is_member e.kind
    then record b { members = b.members ++ member_of way e b.labels ∷ []; labels = [] } else b

abbrev pub with_member : Declaration → Entity → List Body → List Body
with_member way e = with_innermost (with_name way e)

-- with a label
abbrev pub with_next_label : Option Value → Body → Body
with_next_label label b = record b { labels = b.labels ++ label ∷ [] }

abbrev pub with_body_label : Option Value → List Body → List Body
with_body_label label = with_innermost (with_next_label label)

-- an entity as an array of these lengths, if it has a type
abbrev pub array_type : List ℕ → Option DataType → Option DataType
array_type lengths None = None
array_type lengths (Some t) = Some (with_arrays lengths t)

abbrev pub array_of : List ℕ → Entity → Entity
array_of lengths e = record e { data_type = array_type lengths e.data_type }

-- the last member with the type of an entity, if that is a member
abbrev pub with_last_type : Option DataType → List Member → List Member
with_last_type t [] = []
with_last_type t (m ∷ []) = record m { data_type = t } ∷ []
with_last_type t (m ∷ n ∷ members) = m ∷ with_last_type t (n ∷ members)

abbrev pub with_array_type : Entity → Body → Body
with_array_type e b =
    if kind_eq e.kind MemberKind
    then record b { members = with_last_type e.data_type b.members } else b

abbrev pub with_array_body : Entity → List Body → List Body
with_array_body e = with_innermost (with_array_type e)

-- the innermost body, where what was declared last is an array of these lengths
abbrev pub with_array_member : List ℕ → Option Entity → List Body → List Body
with_array_member lengths None bodies = bodies
with_array_member lengths (Some e) bodies = with_array_body (array_of lengths e) bodies

-- what a body is of, once it ends: it is complete, and of a union the type of its labels is that
-- before it; it stands among the facts from the end of the unit on
abbrev pub told_body : Clauses → Body → List Entity
told_body clauses b =
    elim b.entity [
      | None ↦ []
      | Some e ↦ record e {
        stage = Complete;
        data_type = if kind_eq e.kind Union then b.data_type else e.data_type;
        signature = Some (signature_of b.members clauses);
      } ∷ []
    ]

-- what the innermost of these is of
abbrev pub told_innermost : Clauses → List Body → List Entity
told_innermost clauses [] = []
told_innermost clauses (b ∷ bodies) = told_body clauses b
