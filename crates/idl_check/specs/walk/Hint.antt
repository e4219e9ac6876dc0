-- By what verdicts of one text are told apart before their answers are compared: the innermost open
-- scope and its body, as the first answer tells them.
use Rattle.std.specs.Prelude.{ℕ, List, [], ◌∷◌, Option, None, Some}
use Rattle.std.specs.Int.Bits.{bit_xor}
use Rattle.idl_entity.specs.Digest.{path_digest}
use Rattle.idl_env.specs.Facts.{scopes_in}
use Rattle.idl_env.specs.declared.answering.answer.Answer.{Answer}
use Rattle.idl_env.specs.declared.answering.answer.Scope.{Scope}
use Rattle.idl_env.specs.declared.keys.key.Key.{Key}

-- a number for the innermost of scopes and its body
abbrev pub innermost_hint : List Scope → ℕ
innermost_hint [] = 0
innermost_hint (scope ∷ outer) = bit_xor (path_digest scope.path) scope.body

-- that of the scopes which the first answer tells
abbrev pub verdict_hint : Option (Key × Option Answer) → ℕ
verdict_hint None = 0
verdict_hint (Some first) = innermost_hint (scopes_in first.1)
