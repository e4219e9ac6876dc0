-- When two texts with numbers are one.
use Rattle.std.specs.Prelude.{◌≡◌, Bool, true, ◌&&◌, nat_eq}
use Rattle.std.specs.Cmp.Lexicographic.{bytes_decides}
use Rattle.std.specs.Str.{bytes_eq}
use Rattle.idl_base.specs.Exact.{both, same_number}
use Rattle.idl_changes.specs.declared.keys.NumberedText.{NumberedText}

-- whether two are one
abbrev pub numbered_eq : NumberedText → NumberedText → Bool
numbered_eq key other = bytes_eq key.text other.text && nat_eq key.number other.number

pub same_numbered : (key other : NumberedText) → numbered_eq key other ≡ true → key ≡ other
same_numbered key other h =
    let a = both _ _ h in
    let text = (bytes_decides key.text other.text).0 a.0 in
    let number = same_number key.number other.number a.1 in
    λ i. record { text = text i; number = number i }

pub copied_numbered : (key copy : NumberedText)
    → (copy.text ≡ key.text) × (copy.number ≡ key.number) → copy ≡ key
copied_numbered key copy h = λ i. record { text = h.0 i; number = h.1 i }
