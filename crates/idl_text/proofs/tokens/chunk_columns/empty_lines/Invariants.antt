use Rattle.std.proofs.Common.{◌≡◌, [], ℕ, get_or, length, map}
use Rattle.idl_text.proofs.tokens.chunk_columns.empty_lines.Given as goal

-- those before have no tokens
abbrev pub invariant-lines : goal.invariant-lines
invariant-lines l = record {
  count : length l.lines.items ≡ l._line;
  empty : (index : ℕ) → get_or (map (λ starts. starts.items) l.lines.items) index [] ≡ [];
}
