-- Digests of values. No promise rests on how they are spread.
use Rattle.std.specs.Prelude.{ℕ, ℤ}
use Rattle.std.specs.Int.{cast_unsigned, to_le_bytes, w128}
use Rattle.idl_base.specs.Digest.{mixed, with_bytes}
use Rattle.idl_value.specs.declared.value.Value.{Value}
use Rattle.idl_value.specs.declared.value.Value.TheVariants.{Integer, Boolean, Character, WideCharacter, Text, WideText, Enumerator}

-- an integer's
abbrev pub integer_digest : ℤ → ℕ
integer_digest z = with_bytes 0 (to_le_bytes w128 (cast_unsigned w128 z))

-- what may be a label differs in it by its kind, and mostly by its value
unfoldable pub value_digest : Value → ℕ
value_digest (Integer z) = integer_digest z
value_digest (Boolean b) = 1
value_digest (Character c) = mixed 2 c
value_digest (WideCharacter c) = mixed 3 c
value_digest (Text characters) = 4
value_digest (WideText characters) = 5
value_digest (Enumerator enumeration name) = with_bytes 6 name
