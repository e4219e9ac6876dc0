-- What stands around a site of a unit: unions, scopes, and the type of constants; and sites that leave it as it is.
use Rattle.std.proofs.Common.{◌≡◌, ℕ, ◌+◌, ◌-◌, ◌≤◌, Bool, true, false, ◌&&◌, ◌||◌, List, [], ◌∷◌, ◌++◌, refl}
use Rattle.std.specs.Prelude.{not}
use Rattle.idl_check.specs.walk.Sections.{is_single}
use Rattle.idl_check_laws.proofs.Nests.Scenes.{AtTop, IsPlaced, Scene, is_operation_way, is_other, scene_after}
use Rattle.idl_parts.specs.Item.{Item}
use Rattle.idl_parts.specs.Part.{Part as item}
use Rattle.idl_parts.specs.declared.part.Declaration.{Declaration}
use Rattle.idl_parts.specs.declared.part.Declaration.TheVariants as declaration
use Rattle.idl_parts.specs.declared.part.Shape.{Shape}
use Rattle.idl_parts.specs.declared.part.Shape.TheVariants.{Basic, Text, Sequence as Elements}
use Rattle.idl_parts.specs.declared.part.Purpose.{Purpose}
use Rattle.idl_parts.specs.declared.part.Purpose.TheVariants as purpose
use Rattle.idl_parts.specs.declared.part.Use.{Use}
use Rattle.idl_parts.specs.declared.part.Use.TheVariants.{AsBase, AsStructBase, AsType, AsElement, AsConstantType, AsDiscriminator, AsOperand, Raised, RaisedBySet, AsIdentified, AsPrefixed}
use Rattle.idl_tree.specs.declared.declarations.data_type.BasicType.{BasicType}
use Rattle.idl_tree.specs.declared.declarations.data_type.BasicType.TheVariants.{Discrete}

-- ---- what stands around a site

-- how many unions are open whose labels may come, which of the scopes that have begun are those of unions, the innermost first, and
-- whether the type of the next constant is written
pub record Around : Type 0 where
  pub unions : ℕ
  pub scopes : List Bool
  pub is_typed : Bool

abbrev pub opens_union : Declaration → Bool
opens_union declaration.Union = true
opens_union declaration.UnionAhead = true
opens_union other = false

abbrev pub is_inside : List Bool → Bool
is_inside [] = false
is_inside (s ∷ scopes) = true

-- behind the end of the innermost of these scopes
abbrev pub popped : List Bool → Around → Around
popped [] a = a
popped (true ∷ scopes) a = record a { unions = a.unions - 1; scopes = scopes }
popped (false ∷ scopes) a = record a { scopes = scopes }

abbrev pub is_discrete : BasicType → Bool
is_discrete (Discrete d) = true
is_discrete other = false

-- whether constants are of a type
abbrev pub has_constants : Shape → Bool
has_constants (Basic b) = is_discrete b
has_constants (Text is_wide is_bounded) = true
has_constants (Elements is_bounded) = false

abbrev pub used_around : Use → Around → Around
used_around AsDiscriminator a = record a { unions = a.unions + 1 }
used_around AsConstantType a = record a { is_typed = true }
used_around other a = a

abbrev pub around_after : Item → Around → Around
around_after (item.Uses way name) a = used_around way a
around_after (item.ScopeBegins way name) a = record a { scopes = opens_union way ∷ a.scopes }
around_after item.ScopeEnds a = popped a.scopes a
around_after (item.TypeEnds shape) a = record a { is_typed = has_constants shape }
around_after (item.Switches discrete) a = record a { unions = a.unions + 1 }
around_after other a = a

-- the type is known of an expression that is for this
abbrev pub IsKnown : Purpose → Around → Type 0
IsKnown purpose.Constant a = a.is_typed ≡ true
IsKnown purpose.Label a = 1 ≤ a.unions
IsKnown other a = Unit {0}

-- it is so at the end of each expression, and the scope that ends has begun
abbrev pub IsFit : Item → Around → Type 0
IsFit (item.ValueEnds way e) a = IsKnown way a
IsFit item.ScopeEnds a = is_inside a.scopes ≡ true
IsFit other a = Unit {0}

abbrev pub AreFit : List Item → Around → Type 0
AreFit [] a = Unit {0}
AreFit (site ∷ sites) a = IsFit site a × AreFit sites (around_after site a)

abbrev pub arounds : List Item → Around → Around
arounds [] a = a
arounds (site ∷ sites) a = arounds sites (around_after site a)

pub fit-append : (xs ys : List Item) (a : Around) → AreFit xs a → AreFit ys (arounds xs a) → AreFit (xs ++ ys) a
fit-append [] ys a h k = k
fit-append (x ∷ xs) ys a h k = (h.0, fit-append xs ys (around_after x a) h.1 k)

pub arounds-append : (xs ys : List Item) (a : Around) → arounds (xs ++ ys) a ≡ arounds ys (arounds xs a)
arounds-append [] ys a = refl
arounds-append (x ∷ xs) ys a = arounds-append xs ys (around_after x a)

-- ---- sites at which nothing begins or ends

abbrev pub is_level_use : Use → Bool
is_level_use AsDiscriminator = false
is_level_use other = true

abbrev pub is_level_value : Purpose → Bool
is_level_value purpose.Constant = false
is_level_value purpose.Label = false
is_level_value other = true

-- no module and nothing ahead; an operation or attribute only where no scope has begun
abbrev pub is_declared_at : Bool → Declaration → Bool
is_declared_at top way = is_other way && (top || not (is_operation_way way))

abbrev pub is_level_at : Bool → Item → Bool
is_level_at top (item.Declares way name) = is_declared_at top way
is_level_at top (item.Uses way name) = is_level_use way
is_level_at top item.ValueBegins = false
is_level_at top (item.ValueEnds way e) = false
is_level_at top (item.ScopeBegins way name) = false
is_level_at top item.ScopeEnds = false
is_level_at top (item.Switches discrete) = false
is_level_at top other = true

-- the same unions and scopes
pub record AreSame (a b : Around) : Type 0 where
  pub unions : b.unions ≡ a.unions
  pub scopes : b.scopes ≡ a.scopes

pub same-here : (a : Around) → AreSame a a
same-here a = record { unions = refl; scopes = refl }

same-used : (way : Use) (a : Around) → is_level_use way ≡ true → AreSame a (used_around way a)
same-used (AsBase is_local) a h = same-here a
same-used AsType a h = same-here a
same-used AsElement a h = same-here a
same-used AsConstantType a h = record { unions = refl; scopes = refl }
same-used AsDiscriminator a h = cc
same-used AsOperand a h = same-here a
same-used Raised a h = same-here a
same-used RaisedBySet a h = same-here a
same-used AsStructBase a h = same-here a
same-used AsIdentified a h = same-here a
same-used AsPrefixed a h = same-here a

pub known-level : (way : Purpose) (a : Around) → is_level_value way ≡ true → IsKnown way a
known-level purpose.Bound a h = tt
known-level purpose.Constant a h = cc
known-level purpose.Length a h = tt
known-level purpose.Label a h = cc

at-declared : (top other operation : Bool) → other && (top || not operation) ≡ true → (other ≡ true) × (operation ≡ true → top ≡ true)
at-declared top false operation h = cc
at-declared true true operation h = (refl, λ o. refl)
at-declared false true true h = cc
at-declared false true false h = (refl, λ o. cc)

-- it is no mark of an expression, fits anywhere, and leaves unions and scopes as they are
pub record IsLevel (top : Bool) (x : Item) : Type 0 where
  pub single : is_single x ≡ true
  pub fit : (a : Around) → IsFit x a
  pub same : (a : Around) → AreSame a (around_after x a)
  pub placed : (s : Scene) → AtTop top s → IsPlaced x s
  pub level : (s : Scene) → (scene_after x s).level ≡ s.level

pub level-site : (top : Bool) (x : Item) → is_level_at top x ≡ true → IsLevel top x
level-site top (item.Plain n) h = record { single = refl; fit = λ a. tt; same = same-here; placed = λ s at. tt; level = λ s. refl }
level-site top (item.Declares way name) h =
    let parts = at-declared top (is_other way) (is_operation_way way) h in
    record { single = refl; fit = λ a. tt; same = same-here; placed = λ s at. (parts.0, λ o. at (parts.1 o)); level = λ s. refl }
level-site top (item.Uses way name) h = record { single = refl; fit = λ a. tt; same = λ a. same-used way a h; placed = λ s at. tt; level = λ s. refl }
level-site top (item.Says purpose text) h = record { single = refl; fit = λ a. tt; same = same-here; placed = λ s at. tt; level = λ s. refl }
level-site top item.ValueBegins h = cc
level-site top (item.ValueEnds way e) h = cc
level-site top (item.ScopeBegins way name) h = cc
level-site top item.ScopeEnds h = cc
level-site top (item.TypeEnds shape) h = record { single = refl; fit = λ a. tt; same = λ a. record { unions = refl; scopes = refl }; placed = λ s at. tt; level = λ s. refl }
level-site top item.ArrayEnds h = record { single = refl; fit = λ a. tt; same = same-here; placed = λ s at. tt; level = λ s. refl }
level-site top (item.Enumerates names) h = record { single = refl; fit = λ a. tt; same = same-here; placed = λ s at. tt; level = λ s. refl }
level-site top (item.Identifies text) h = record { single = refl; fit = λ a. tt; same = same-here; placed = λ s at. tt; level = λ s. refl }
level-site top (item.Switches discrete) h = cc
level-site top item.Default h = record { single = refl; fit = λ a. tt; same = same-here; placed = λ s at. tt; level = λ s. refl }
level-site top item.GivesBack h = record { single = refl; fit = λ a. tt; same = same-here; placed = λ s at. tt; level = λ s. refl }
