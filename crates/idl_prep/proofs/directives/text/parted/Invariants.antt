use Rattle.std.proofs.Common.{◌≡◌, ◌∷◌, flat_map, take}
use Rattle.idl_lex.specs.tokens.Tokens.{Token}
use Rattle.idl_prep.proofs.directives.text.parted.Given as goal

abbrev pub invariant-tokens : goal.invariant-tokens
invariant-tokens l = l.text.items ≡ flat_map (λ (t : Token). 32 ∷ t) (take l.token-index l.tokens)
