-- Where the tokens go that come of a replacement.
use Rattle.std.specs.Prelude.{List, ◌++◌, Option, None, Some}
use Rattle.std.specs.Option.{option_map}
use Rattle.idl_lex.specs.tokens.Tokens.{Token}
use Rattle.idl_event.specs.declared.told.event.Item.{Item}
use Rattle.idl_event.specs.declared.told.event.Event.TheVariants.{Emitted}
use Rattle.idl_event.specs.declared.told.event.Item.TheVariants.{Kept, Counted}
use Rattle.idl_fault.specs.declared.place.Place.{Place}
use Rattle.idl_macro.specs.declared.replacement.Output.{Output}
use Rattle.idl_macro.specs.declared.replacement.Output.TheVariants.{Text, Operand}

-- what is told of a token
abbrev pub item_of : Output → Place → Token → Item
item_of Text place = λ t. Kept (Emitted place t)
item_of (Operand tokens) place = λ t. Counted place

-- the tokens that are given, if they are
abbrev pub given : Output → Option (List Token)
given Text = None
given (Operand tokens) = Some tokens.items

-- some more tokens are given, if they are
abbrev pub given_more : Option (List Token) → List Token → Option (List Token)
given_more tokens more = option_map (λ ts. ts ++ more) tokens
