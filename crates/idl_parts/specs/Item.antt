-- Sites, as contracts see them: the parts of a unit, with a count in place of the tokens that
-- declare and use nothing.
use Rattle.std.specs.Prelude.{◌≡◌, ◌++◌, ℕ, ◌+◌, List, [], ◌∷◌, length, map}
use Rattle.idl_parts.specs.Part.{Part, Parts, Plain, Declares, Uses, Says, ValueBegins, ValueEnds, ScopeBegins, ScopeEnds, TypeEnds, ArrayEnds, Enumerates, Identifies, Switches, Default, GivesBack}
use Rattle.idl_parts.specs.declared.part.UnitPart.{UnitPart}
use Rattle.idl_parts.specs.declared.part.UnitPart.TheVariants as site
use Rattle.idl_tree.specs.Interface.{spell_text}
use Rattle.idl_tree.specs.Lexeme.{Lexemes}
use Rattle.idl_tree.specs.Name.{spell_name}

abbrev pub Item : Type 0
Item = Part ℕ

abbrev pub item_of : Part Lexemes → Item
item_of (Plain lexemes) = Plain (length lexemes)
item_of (Declares declaration name) = Declares declaration name
item_of (Uses way name) = Uses way name
item_of (Says purpose text) = Says purpose text
item_of ValueBegins = ValueBegins
item_of (ValueEnds target expression) = ValueEnds target expression
item_of (ScopeBegins declaration name) = ScopeBegins declaration name
item_of ScopeEnds = ScopeEnds
item_of (TypeEnds shape) = TypeEnds shape
item_of ArrayEnds = ArrayEnds
item_of (Enumerates names) = Enumerates names
item_of (Identifies text) = Identifies text
item_of (Switches discrete) = Switches discrete
item_of Default = Default
item_of GivesBack = GivesBack

abbrev pub items : Parts → List Item
items parts = map item_of parts

-- how many tokens an item is
abbrev pub item_length : Item → ℕ
item_length (Plain n) = n
item_length (Declares declaration name) = 1
item_length (Uses way name) = length (spell_name name)
item_length (Says purpose text) = length (spell_text text)
item_length other = 0

-- how many tokens items are together
abbrev pub items_length : List Item → ℕ
items_length [] = 0
items_length (item ∷ rest) = item_length item + items_length rest

abbrev pub item_at : UnitPart → Item
item_at (site.Tokens n) = Plain n
item_at (site.Declared declaration name) = Declares declaration name.now
item_at (site.Used way name) = Uses way name.now
item_at (site.Joined purpose text) = Says purpose text.now
item_at site.ValueBegins = ValueBegins
item_at (site.ValueEnds target expression) = ValueEnds target expression.now
item_at (site.ScopeBegins declaration name) = ScopeBegins declaration name.now
item_at site.ScopeEnds = ScopeEnds
item_at (site.TypeEnds shape) = TypeEnds shape
item_at site.ArrayEnds = ArrayEnds
item_at (site.Enumerates names) = Enumerates names.now
item_at (site.Identifies text) = Identifies text.now
item_at (site.Switches discrete) = Switches discrete
item_at site.Default = Default
item_at site.GivesBack = GivesBack

-- sites behind others
abbrev pub Pushes : List UnitPart → List UnitPart → Parts → Type 0
Pushes before after parts = map item_at after ≡ map item_at before ++ items parts
