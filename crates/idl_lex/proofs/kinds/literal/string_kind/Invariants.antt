use Rattle.std.proofs.Common.{◌≡◌, length}
use Rattle.idl_lex.specs.kinds.Literal.{characters, string_kind}
use Rattle.idl_lex.proofs.kinds.literal.string_kind.Given as goal

abbrev pub invariant-characters : goal.invariant-characters
invariant-characters l = string_kind l.is_wide (characters l.is_wide l.left) ≡ string_kind l.is_wide (characters l.is_wide l.fn.body)

abbrev pub decreases-characters : goal.decreases-characters
decreases-characters l = length l.left
