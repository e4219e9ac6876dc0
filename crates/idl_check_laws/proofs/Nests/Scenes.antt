-- What is declared last and which scopes have begun, site after site: where names are declared, and scopes begin.
use Rattle.std.proofs.Common.{◌≡◌, ℕ, suc, ◌-◌, ◌≤◌, Bool, true, false, cond, List, [], ◌∷◌, ◌++◌, Option, Some, None, refl}
use Rattle.idl_check.specs.tables.Declaring.{kind_of}
use Rattle.idl_entity.specs.Kind.{kind_eq}
use Rattle.idl_entity.specs.declared.kind.Kind.TheVariants as kind
use Rattle.idl_parts.specs.Item.{Item}
use Rattle.idl_parts.specs.Part.{Part as item}
use Rattle.idl_parts.specs.declared.part.Declaration.{Declaration}
use Rattle.idl_parts.specs.declared.part.Declaration.TheVariants as declaration

-- how many scopes have begun, and the name that was declared last in the innermost
pub record Scene : Type 0 where
  pub level : ℕ
  pub last : Option (List ℕ)

-- no scope begins behind the name of an interface
abbrev pub last_named : Declaration → List ℕ → Option (List ℕ)
last_named way name = cond (kind_eq (kind_of way) kind.Interface) None (Some name)

abbrev pub scene_after : Item → Scene → Scene
scene_after (item.Declares way name) s = record s { last = last_named way name }
scene_after (item.ScopeBegins way name) s = record { level = suc s.level; last = None }
scene_after item.ScopeEnds s = record { level = s.level - 1; last = None }
scene_after other s = s

-- what is no module, and isn't declared ahead
abbrev pub is_other : Declaration → Bool
is_other declaration.Module = false
is_other (declaration.InterfaceAhead is_local) = false
is_other declaration.StructureAhead = false
is_other declaration.UnionAhead = false
is_other way = true

abbrev pub is_operation_way : Declaration → Bool
is_operation_way (declaration.Attribute is_readonly) = true
is_operation_way (declaration.Operation is_oneway) = true
is_operation_way way = false

-- ---- where names are declared, and scopes begin

-- no name of a module or ahead, none of an operation within a scope; a scope begins behind its own name
abbrev pub IsPlaced : Item → Scene → Type 0
IsPlaced (item.Declares way name) s = (is_other way ≡ true) × (is_operation_way way ≡ true → s.level ≡ 0)
IsPlaced (item.ScopeBegins way name) s = s.last ≡ Some name
IsPlaced item.ScopeEnds s = 1 ≤ s.level
IsPlaced other s = Unit {0}

abbrev pub ArePlaced : List Item → Scene → Type 0
ArePlaced [] s = Unit {0}
ArePlaced (site ∷ sites) s = IsPlaced site s × ArePlaced sites (scene_after site s)

abbrev pub scenes : List Item → Scene → Scene
scenes [] s = s
scenes (site ∷ sites) s = scenes sites (scene_after site s)

pub placed-append : (xs ys : List Item) (s : Scene) → ArePlaced xs s → ArePlaced ys (scenes xs s) → ArePlaced (xs ++ ys) s
placed-append [] ys s h k = k
placed-append (x ∷ xs) ys s h k = (h.0, placed-append xs ys (scene_after x s) h.1 k)

pub scenes-append : (xs ys : List Item) (s : Scene) → scenes (xs ++ ys) s ≡ scenes ys (scenes xs s)
scenes-append [] ys s = refl
scenes-append (x ∷ xs) ys s = scenes-append xs ys (scene_after x s)

-- what declares operations stands in no scope
abbrev pub AtTop : Bool → Scene → Type 0
AtTop top s = top ≡ true → s.level ≡ 0

abbrev pub IsFrom : Option (List ℕ) → Scene → Type 0
IsFrom None s = Unit {0}
IsFrom (Some name) s = s.last ≡ Some name
