-- A number is at least what its first digits spell.
use Rattle.std.proofs.Common.{◌≤◌, ◌<◌, ◌+◌, ◌*◌, ℕ, List, [], ◌∷◌, arith}
use Rattle.std.proofs.Math.Nat.{le-mul_of_pos_right}
use Rattle.std.specs.List.{fold}
use Rattle.idl_lex.specs.bytes.Byte.{digit_value}

-- the number that a value and further digits spell
abbrev pub continued : ℕ → ℕ → List ℕ → ℕ
continued base value digits = fold (λ v b. v * base + digit_value b) value digits

pub le-continued : (base value : ℕ) (digits : List ℕ) → 0 < base → value ≤ continued base value digits
le-continued base value [] some = omega arith
le-continued base value (b ∷ digits) some =
    let more : value ≤ value * base = le-mul_of_pos_right value some in
    let rest = le-continued base (value * base + digit_value b) digits some in
    omega (arith, more, rest)
