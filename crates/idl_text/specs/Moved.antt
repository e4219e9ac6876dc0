-- Texts and tokens that stand elsewhere: so many lines further down.
use Rattle.std.specs.Prelude.{ℕ, ◌+◌, List, map}
use Rattle.idl_lex.specs.bytes.Text.{Placed}
use Rattle.idl_lex.specs.declared.tokens.token.PlacedToken.{PlacedToken}

-- a byte so many lines further down
abbrev pub moved_byte : ℕ → Placed → Placed
moved_byte down p = record { byte = p.byte; line = p.line + down }

-- a text so many lines further down
abbrev pub moved_text : ℕ → List Placed → List Placed
moved_text down text = map (moved_byte down) text

-- a token so many lines further down
abbrev pub moved_token : ℕ → PlacedToken → PlacedToken
moved_token down token = record token { line = token.line + down }

-- tokens so many lines further down
abbrev pub moved_tokens : ℕ → List PlacedToken → List PlacedToken
moved_tokens down tokens = map (moved_token down) tokens
