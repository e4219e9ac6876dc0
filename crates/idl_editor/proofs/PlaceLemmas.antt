-- The bytes behind the last carriage return.
use Rattle.std.proofs.Common.{◌≡◌, ℕ, ◌+◌, List, Option, None, Some, ap, drop}
use Rattle.memchr.specs.Find.{IsLastByte, is_byte}
use Rattle.memchr.proofs.lemmas.ValueLemmas.{IsLastByte-value}
use Rattle.idl_editor.specs.Places.{behind_return}

pub behind-last : (bytes : List ℕ) (place : Option ℕ) → IsLastByte (is_byte 13) bytes place
    → elim place [ None ↦ bytes | Some place ↦ drop (place + 1) bytes ] ≡ behind_return bytes
behind-last bytes place is = ap (λ place. elim place [ None ↦ bytes | Some place ↦ drop (place + 1) bytes ]) (IsLastByte-value (is_byte 13) bytes place is)
