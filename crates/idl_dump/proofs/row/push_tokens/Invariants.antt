use Rattle.std.proofs.Common.{◌≡◌, ◌++◌, drop, flat_map}
use Rattle.idl_dump.specs.Row.{token_text}
use Rattle.idl_dump.proofs.row.push_tokens.Given as goal

-- those so far and those of the rest are all
abbrev pub invariant-loop-token : goal.invariant-loop-token
invariant-loop-token l =
    l.text.items ++ flat_map token_text (drop l.token-index l.tokens)
    ≡ l.fn.text.items ++ flat_map token_text l.tokens
