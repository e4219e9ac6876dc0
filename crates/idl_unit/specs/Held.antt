-- What the units of a root hold.
use Rattle.std.specs.Prelude.{false, List, [], ◌∷◌}
use Rattle.idl_event.specs.declared.told.site.Site.{Site}
use Rattle.idl_lex.specs.tokens.Tokens.{Token}
use Rattle.idl_unit.specs.declared.unit.Unit.{Unit as RootUnit}
use Rattle.idl_unit.specs.declared.unit.Unit.TheVariants.{Spelled, Entered, Left, End}
use Rattle.idl_unit.specs.declared.unit.UnitText.TheVariants.{Tokens, Pragma}

-- the unit of tokens that a unit is: one, or none
abbrev pub text_in : RootUnit → List (List Token)
text_in (Spelled (Tokens unit) sites) = unit ∷ []
text_in other = []

-- where the tokens of a unit of tokens stand
abbrev pub text_sites : RootUnit → List Site
text_sites (Spelled (Tokens unit) sites) = sites
text_sites other = []

-- what a unit is that is none of tokens: a pragma or a file boundary is the same inside a unit of
-- tokens and outside
abbrev pub other_in : RootUnit → List RootUnit
other_in (Spelled (Tokens unit) sites) = []
other_in (Spelled (Pragma tokens inside) sites) = Spelled (Pragma tokens false) sites ∷ []
other_in (Entered file inside) = Entered file false ∷ []
other_in (Left file inside) = Left file false ∷ []
other_in End = End ∷ []
