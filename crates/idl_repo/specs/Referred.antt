-- The paths that a row refers to, in its order: those of named types, of bases, and of exceptions.
-- What is declared at such a path is not looked at.
use Rattle.std.specs.Prelude.{ℕ, List, [], ◌∷◌, ◌++◌, flat_map, Option, None, Some}
use Rattle.idl_repo.specs.TypeCode.{shown}
use Rattle.idl_entity.specs.declared.data_type.DataType.{DataType}
use Rattle.idl_entity.specs.declared.data_type.Element.{Element}
use Rattle.idl_entity.specs.declared.data_type.Element.TheVariants as element
use Rattle.idl_entity.specs.declared.entity.Entity.{Entity}
use Rattle.idl_entity.specs.declared.kind.Kind.{Kind}
use Rattle.idl_entity.specs.declared.kind.Kind.TheVariants as kind
use Rattle.idl_entity.specs.declared.signature.Member.{Member}

abbrev pub Paths : Type 0
Paths = List (List (List ℕ))

-- what a type names, also within sequences and arrays
abbrev pub named_in : Element → Paths
named_in (element.Named path) = path ∷ []
named_in other = []

abbrev pub named_by : Option DataType → Paths
named_by None = []
named_by (Some t) = named_in t.element

abbrev pub named_by_member : Member → Paths
named_by_member m = named_by m.data_type

-- a union's member once for each of its labels
abbrev pub named_by_labels : Member → Paths
named_by_labels m = flat_map (λ label. named_by_member m) m.labels

-- those of a row, behind its own id: a TypeCode tells that again
abbrev pub referred : Kind → Entity → Paths
referred kind.Interface e = e.path ∷ e.bases
referred kind.Structure e = e.path ∷ (flat_map named_by_member (shown e).members ++ e.bases)
referred kind.Union e =
    e.path ∷ (named_by e.data_type ++ flat_map named_by_labels (shown e).members)
referred kind.Exception e = e.path ∷ flat_map named_by_member (shown e).members
referred kind.Enumeration e = e.path ∷ []
referred kind.Alias e = e.path ∷ named_by e.data_type
referred kind.Native e = e.path ∷ []
referred kind.Constant e = named_by e.data_type
referred kind.Attribute e = named_by e.data_type ++ ((shown e).raised ++ (shown e).raised_by_set)
referred kind.Operation e =
    named_by e.data_type ++ (flat_map named_by_member (shown e).members ++ (shown e).raised)
referred other e = []
