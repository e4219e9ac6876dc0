-- The numbers of versions, digit by digit.
use Rattle.std.proofs.Common.{◌≡◌, ◌∙◌, ℕ, ◌+◌, ◌-◌, ◌*◌, ◌<◌, ◌≤◌, Bool, true, false, cond, ◌&&◌, List, [], ◌∷◌, length, Option, None, Some, if◌then◌else◌, refl, ap, arith}
use Rattle.std.specs.Prelude.{fold, nat_le}
use Rattle.std.specs.List.{list_all}
use Rattle.std.proofs.lemmas.Bool.{lt-leb}
use Rattle.idl_lex.specs.bytes.Byte.{digit_value, is_digit}
use Rattle.idl_tree.specs.Pragma.{version_number}

abbrev spelled : ℕ → List ℕ → ℕ
spelled value digits = fold (λ value b. value * 10 + digit_value b) value digits

-- this number, if these are digits and it isn't too large
abbrev checked_number : Bool → ℕ → Option ℕ
checked_number digits value = if digits && nat_le value 65535 then Some value else None

-- the number of digits before which this value stands
abbrev pub number_from : ℕ → List ℕ → Option ℕ
number_from value rest = checked_number (list_all is_digit rest) (spelled value rest)

pub number-from : (bytes : List ℕ) → 0 < length bytes → version_number bytes ≡ number_from 0 bytes
number-from [] lt = absurd (omega arith)
number-from (b ∷ bytes) lt = refl

digit : (b : ℕ) → is_digit b ≡ true → digit_value b ≡ b - 48
digit b is = ap (λ t. cond t (b - 48) (cond (nat_le 97 b && nat_le b 122) (b - 87) (cond (nat_le 65 b && nat_le b 90) (b - 55) 36))) is

pub from-digit : (value b : ℕ) (rest : List ℕ) → is_digit b ≡ true → number_from value (b ∷ rest) ≡ number_from (value * 10 + (b - 48)) rest
from-digit value b rest is =
    ap (λ t. checked_number (t && list_all is_digit rest) (spelled (value * 10 + digit_value b) rest)) is
    ∙ ap (λ n. checked_number (list_all is_digit rest) (spelled (value * 10 + n) rest)) (digit b is)

grows : (value : ℕ) (rest : List ℕ) → value ≤ spelled value rest
grows value [] = omega arith
grows value (b ∷ rest) = omega (arith, grows (value * 10 + digit_value b) rest)

and-false : (b : Bool) → (b && false) ≡ false
and-false true = refl
and-false false = refl

pub from-large : (value : ℕ) (rest : List ℕ) → 65535 < value → number_from value rest ≡ None
from-large value rest large =
    ap (λ t. cond (list_all is_digit rest && t) (Some (spelled value rest)) None) (lt-leb (spelled value rest) 65535 (omega (arith, grows value rest)))
    ∙ ap (λ t. cond t (Some (spelled value rest)) None) (and-false (list_all is_digit rest))
