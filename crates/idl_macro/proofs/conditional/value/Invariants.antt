use Rattle.std.proofs.Common.{◌≡◌, map, take}
use Rattle.idl_macro.specs.conditions.Symbol.{symbol_of}
use Rattle.idl_macro.proofs.conditional.value.Given as goal

abbrev pub invariant-tokens : goal.invariant-tokens
invariant-tokens l = l.symbols.items ≡ map symbol_of (take l.token-index l.tokens)
