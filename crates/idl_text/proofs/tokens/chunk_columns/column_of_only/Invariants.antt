use Rattle.std.proofs.Common.{◌≡◌, None, drop, filter}
use Rattle.std.specs.Str.{bytes_eq}
use Rattle.idl_text.proofs.StartLemmas.{only_beside}
use Rattle.idl_text.proofs.tokens.chunk_columns.column_of_only.Given as goal

-- the one so far, beside those that are left
abbrev pub invariant-starts : goal.invariant-starts
invariant-starts l =
    only_beside l.only (filter (λ s. bytes_eq s.0.token l.text) (drop l.token-index l.starts))
    ≡ only_beside None (filter (λ s. bytes_eq s.0.token l.text) l.starts)
