-- Types: what constants may be of, what may discriminate a union, and what is not yet complete.
use Rattle.std.specs.Prelude.{ℕ, zero, suc, Bool, true, false, List, Option, None, Some, if◌then◌else◌}
use Rattle.idl_memo.specs.Query.{Done, Ask}
use Rattle.idl_entity.specs.DataType.{constants_in, named_in, plain_type, with_layer}
use Rattle.idl_env.specs.Facts.{entity_in, entity_key}
use Rattle.idl_entity.specs.Kind.{kind_eq}
use Rattle.idl_scope.specs.Lookup.{Lookup}
use Rattle.idl_entity.specs.declared.data_type.DataType.{DataType}
use Rattle.idl_entity.specs.declared.data_type.Element.{Element}
use Rattle.idl_entity.specs.declared.data_type.Element.TheVariants.{Constants, Named, Unvalued}
use Rattle.idl_entity.specs.declared.data_type.Layer.TheVariants.{Sequence}
use Rattle.idl_entity.specs.declared.unvalued.Unvalued.TheVariants.{Float, Double, LongDouble, Any, Object}
use Rattle.idl_entity.specs.declared.entity.Entity.{Entity}
use Rattle.idl_entity.specs.declared.kind.Kind.TheVariants.{Enumeration, Alias}
use Rattle.idl_parts.specs.declared.part.Shape.{Shape}
use Rattle.idl_parts.specs.declared.part.Shape.TheVariants as shape
use Rattle.idl_parts.specs.declared.part.Use.{Use}
use Rattle.idl_parts.specs.declared.part.Use.TheVariants.{AsConstantType, AsDiscriminator}
use Rattle.idl_tree.specs.declared.declarations.data_type.BasicType.{BasicType}
use Rattle.idl_tree.specs.declared.declarations.data_type.BasicType.TheVariants as basic
use Rattle.idl_value.specs.ConstantType.{discriminates, target_of}
use Rattle.idl_value.specs.declared.constant_type.ConstantType.{ConstantType}
use Rattle.idl_value.specs.declared.constant_type.ConstantType.TheVariants as target

-- the type that was written last: what is declared at a path, where that is kept, and else the type
-- that is told
abbrev pub named_or_told : Option (List (List ℕ)) → Option DataType → Option DataType
named_or_told None told = told
named_or_told (Some path) told = Some (plain_type (Named path))

-- the type that the name of a typedef stands for
abbrev pub aliased : Entity → Option DataType
aliased e = if kind_eq e.kind Alias then e.data_type else None

-- the path that it stands for, if it stands for one
abbrev pub path_in : Option DataType → Option (List (List ℕ))
path_in None = None
path_in (Some t) = named_in t

-- What stands behind a name through typedefs, each of which is asked in turn, so many at most. Where
-- they come to no end, it is the name itself.
abbrev pub behind_typedefs : ℕ → Entity → Entity → Lookup Entity
behind_typedefs zero name e = Done name
behind_typedefs (suc turns) name e =
    elim (path_in (aliased e)) [
      | None ↦ Done e
      | Some path ↦ Ask (entity_key path)
          (λ there. elim (entity_in there)
          [ None ↦ Done e | Some f ↦ behind_typedefs turns name f ])
    ]

-- a name is looked through where it is the type of a constant or of a discriminator
abbrev pub is_looked_through : Use → Bool
is_looked_through AsConstantType = true
is_looked_through AsDiscriminator = true
is_looked_through other = false

unfoldable pub looked_through : ℕ → Use → Entity → Lookup Entity
looked_through turns way e =
    if is_looked_through way then behind_typedefs (suc turns) e e else Done e

-- the type that constants of it have
abbrev pub target_in : Option DataType → Option ConstantType
target_in None = None
target_in (Some t) = constants_in t

abbrev pub constants_of : Entity → Option ConstantType
constants_of e =
    if kind_eq e.kind Enumeration then Some (target.Enumeration e.path)
    else target_in (aliased e)

-- whether a union may have a discriminator of this type
abbrev pub may_switch : Option ConstantType → Bool
may_switch (Some t) = discriminates t
may_switch None = false

-- a string type with this bound
abbrev pub string_of : Bool → Option ℕ → ConstantType
string_of true bound = target.WideText bound
string_of false bound = target.Text bound

-- a type of keywords
abbrev pub element_of : BasicType → Element
element_of (basic.Discrete d) = Constants (target_of d)
element_of basic.Float = Unvalued Float
element_of basic.Double = Unvalued Double
element_of basic.LongDouble = Unvalued LongDouble
element_of basic.Any = Unvalued Any
element_of basic.Object = Unvalued Object

-- the bound of a sequence, or 0 if it has none
abbrev pub bound_or_none : Bool → Option ℕ → ℕ
bound_or_none false bound = 0
bound_or_none true None = 0
bound_or_none true (Some n) = n

-- what a type is that is no name, where the last bound in it is this; a sequence is one of the type
-- that was written last
abbrev pub written_as : Shape → Option ℕ → Option DataType → Option DataType
written_as (shape.Basic b) bound before = Some (plain_type (element_of b))
written_as (shape.Text is_wide is_bounded) bound before =
    Some (plain_type (Constants (string_of is_wide (if is_bounded then bound else None))))
written_as (shape.Sequence is_bounded) bound None = None
written_as (shape.Sequence is_bounded) bound (Some t) =
    Some (with_layer (Sequence (bound_or_none is_bounded bound)) t)
