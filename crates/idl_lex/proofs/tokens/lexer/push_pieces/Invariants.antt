use Rattle.std.proofs.Common.{◌≡◌, ◌++◌, ◌-◌, ◌≤◌, ℕ, List, length, drop, IfSome}
use Rattle.idl_lex.specs.tokens.Lexer.{ended}
use Rattle.idl_lex.specs.bytes.Scan.{closing_end}
use Rattle.idl_lex.specs.bytes.Text.{Placed}
use Rattle.idl_lex.specs.tokens.Tokens.{tokens_after}
use Rattle.idl_lex.proofs.tokens.lexer.push_pieces.Given as goal

abbrev pub invariant-pieces : goal.invariant-pieces
invariant-pieces l = record {
  within : l.i ≤ length l.line;
  closing : IfSome l.closing (λ end. end ≡ closing_end l.bytes);
  tokens : (newline : ℕ) → (rest : List Placed) →
      l.tokens ++ tokens_after l.now 0 (drop l.i l.line ++ ended newline rest)
      ≡ l.initial.tokens ++ tokens_after l.fn.context 0 (drop l.fn.from l.line ++ ended newline rest);
}

abbrev pub decreases-pieces : goal.decreases-pieces
decreases-pieces l = length l.line - l.i
