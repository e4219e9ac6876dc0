use Rattle.std.proofs.Common.{◌≡◌, ◌≤◌, drop, length}
use Rattle.std.specs.List.{All}
use Rattle.idl_lex.specs.tokens.Tokens.{tokens_of}
use Rattle.idl_text.specs.Texts.{IsTextOf}
use Rattle.idl_text.proofs.texts.gathering.find_texts.Given as goal

abbrev pub invariant-lines : goal.invariant-lines
invariant-lines l = record {
  within : l.at ≤ length (tokens_of l.lexed);
  left : l.left ≡ drop l.at (tokens_of l.lexed);
  texts : All (IsTextOf (tokens_of l.lexed)) l.texts.items;
}

abbrev pub decreases-lines : goal.decreases-lines
decreases-lines l = length l.left
