use Rattle.std.proofs.Common.{◌≡◌, length}
use Rattle.idl_lex.specs.kinds.Literal.{all_good, characters}
use Rattle.idl_lex.proofs.KindLaws.LiteralLemmas.{values_then}
use Rattle.idl_lex.proofs.kinds.literal.body_value.Given as goal

abbrev pub invariant-characters : goal.invariant-characters
invariant-characters l = values_then l.value.items (characters l.is_wide l.left) ≡ all_good (characters l.is_wide l.fn.body)

abbrev pub decreases-characters : goal.decreases-characters
decreases-characters l = length l.left
