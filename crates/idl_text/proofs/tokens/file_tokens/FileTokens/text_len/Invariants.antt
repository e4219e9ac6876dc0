use Rattle.std.proofs.Common.{◌≡◌, ◌⊎◌, ◌≤◌, ◌-◌, drop, length, take, true}
use Rattle.std.specs.List.{All}
use Rattle.idl_lex.specs.tokens.Tokens.{BeginsLine, is_text, lines_of}
use Rattle.idl_text.proofs.tokens.file_tokens.FileTokens.text_len.Given as goal

abbrev pub invariant-lines : goal.invariant-lines
invariant-lines l = record {
  within : l.count ≤ length l.self;
  begins : (l.count ≡ 0) ⊎ BeginsLine (drop l.count l.self);
  text : All (λ line. is_text line ≡ true) (lines_of (take l.count l.self));
}

abbrev pub decreases-lines : goal.decreases-lines
decreases-lines l = length l.self - l.count
