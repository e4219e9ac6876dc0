-- A unit's sites as expressions and other sites, in order: the beginning of each expression has its
-- end, and between them stand the names of the expression and the tokens around them.
use Rattle.std.specs.Prelude.{◌≡◌, Bool, true, false, List, [], ◌∷◌, All, flat_map}
use Rattle.idl_parts.specs.ExpressionParts.{value_parts}
use Rattle.idl_parts.specs.Item.{Item, items}
use Rattle.idl_parts.specs.Part.{Part as item}
use Rattle.idl_parts.specs.declared.part.Purpose.{Purpose}
use Rattle.idl_tree.specs.declared.expression.Expression.{Expression}

pub data Section : Type 0 where
  Single : Item → Section
  -- an expression, and what it is for
  Whole : Purpose → Expression → Section

abbrev pub section_sites : Section → List Item
section_sites (Single site) = site ∷ []
section_sites (Whole way e) = items (value_parts way e)

-- a site that is none of the marks of an expression
abbrev pub is_single : Item → Bool
is_single item.ValueBegins = false
is_single (item.ValueEnds way e) = false
is_single other = true

abbrev pub IsFormed : Section → Type 0
IsFormed (Single site) = is_single site ≡ true
IsFormed (Whole way e) = Unit {0}

-- sites that are sections one after another
pub record AreBracketed (sites : List Item) : Type 0 where
  pub sections : List Section
  pub formed : All IsFormed sections
  pub are : sites ≡ flat_map section_sites sections
