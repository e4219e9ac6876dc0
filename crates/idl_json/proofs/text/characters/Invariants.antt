use Rattle.std.proofs.Common.{◌≡◌, string_bytes, take}
use Rattle.std.specs.Str.{encode_utf8_all}
use Rattle.idl_json.proofs.text.characters.Given as goal

-- those of the bytes before
abbrev pub invariant-bytes : goal.invariant-bytes
invariant-bytes l = string_bytes l.text ≡ encode_utf8_all (take l.byte-index l.bytes)
