use Rattle.std.proofs.Common.{◌≡◌, ◌+◌, ◌-◌, ◌≤◌, ◌++◌, length, take, vec_len, vec_capacity}
use Rattle.idl_event.proofs.told.runs.push_clones.Given as goal

abbrev pub invariant-tokens : goal.invariant-tokens
invariant-tokens l =
    record {
      items : l.text.items ≡ l.fn.text.items ++ take l.token-index l.tokens;
      room : vec_len l.text + (length l.tokens - l.token-index) ≤ vec_capacity l.text;
    }
