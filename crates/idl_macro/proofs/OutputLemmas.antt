-- Tokens that are given, one part after another.
use Rattle.std.proofs.Common.{◌≡◌, List, ◌++◌, Option, None, Some, refl, sym, ap, append_assoc}
use Rattle.idl_lex.specs.tokens.Tokens.{Token}
use Rattle.idl_macro.specs.Output.{given_more}

pub given_more-append : (tokens : Option (List Token)) (first rest : List Token) → given_more tokens (first ++ rest) ≡ given_more (given_more tokens first) rest
given_more-append None first rest = refl
given_more-append (Some tokens) first rest = ap Some (sym (append_assoc tokens first rest))
