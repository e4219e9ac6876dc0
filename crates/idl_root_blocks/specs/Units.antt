-- The text of units.
use Rattle.std.specs.Prelude.{List, [], ◌∷◌, flat_map}
use Rattle.idl_root_blocks.specs.declared.text.BlockPart.{BlockPart}
use Rattle.idl_root_blocks.specs.declared.text.BlockPart.TheVariants.{Text, Enters, Leaves}
use Rattle.idl_unit.specs.declared.unit.Unit.{Unit}
use Rattle.idl_unit.specs.declared.unit.Unit.TheVariants.{Spelled, Entered, Left, End}

-- what a unit is in a text, wherever it stands: the end of a root is in none
abbrev pub parts_of_unit : Unit → List BlockPart
parts_of_unit (Spelled text sites) = Text text ∷ []
parts_of_unit (Entered file inside) = Enters inside ∷ []
parts_of_unit (Left file inside) = Leaves inside ∷ []
parts_of_unit End = []

-- the text of units
abbrev pub text_of : List Unit → List BlockPart
text_of units = flat_map parts_of_unit units
