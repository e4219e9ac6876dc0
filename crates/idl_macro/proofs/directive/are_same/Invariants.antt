use Rattle.std.proofs.Common.{◌≡◌, drop}
use Rattle.idl_macro.specs.Directives.{same_tokens}
use Rattle.idl_macro.proofs.directive.are_same.Given as goal

abbrev pub invariant-tokens : goal.invariant-tokens
invariant-tokens l =
    same_tokens l.body l.other ≡ same_tokens (drop l.i l.body) (drop l.i l.other)
