use Rattle.std.proofs.Common.{◌≡◌, ◌<◌, ◌+◌, ◌++◌, [], ℕ, get_or, length, map}
use Rattle.idl_text.specs.Starts.{on_line, starts_left}
use Rattle.idl_text.proofs.tokens.chunk_columns.lines_of.Given as goal

-- those that are put on a line, and those that are left for it, are all
abbrev pub invariant-starts : goal.invariant-starts
invariant-starts l = record {
  count : length l.lines.items ≡ l.chunk.count;
  each :
      (index : ℕ) → index < l.chunk.count
      → get_or (map (λ starts. starts.items) l.lines.items) index [] ++ on_line (l.chunk.before + index + 1) (starts_left l.left)
      ≡ on_line (l.chunk.before + index + 1) (starts_left l.chunk.starts);
}

abbrev pub decreases-starts : goal.decreases-starts
decreases-starts l = length (starts_left l.left)
