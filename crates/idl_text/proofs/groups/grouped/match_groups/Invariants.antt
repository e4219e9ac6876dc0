use Rattle.std.proofs.Common.{◌≡◌, ◌≤◌, drop, length}
use Rattle.idl_lex.specs.tokens.Tokens.{tokens_of}
use Rattle.idl_text.specs.Matching.{IsMatchedBy, lines_at}
use Rattle.idl_text.proofs.groups.grouped.match_groups.Given as goal

abbrev pub invariant-lines : goal.invariant-lines
invariant-lines l = record { within : l.at ≤ length (tokens_of l.lexed); left : l.left ≡ drop l.at (tokens_of l.lexed); matched : IsMatchedBy (lines_at (tokens_of l.lexed)) l.at l.matching }

abbrev pub decreases-lines : goal.decreases-lines
decreases-lines l = length l.left
