-- What was read with the one token behind it.
use Rattle.std.specs.Prelude.{Option}
use Rattle.std.specs.Borrow.{Bor}
use Rattle.std.specs.Option.{option_map}
use Rattle.idl_lex.specs.tokens.Tokens.{Token}

abbrev pub behind_view : {A : Type 0} → Option (A × Bor Token) → Option (A × Token)
behind_view read = option_map (λ x. (x.0, x.1.now)) read
