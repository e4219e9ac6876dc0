-- Numbers, digit by digit.
use Rattle.std.proofs.Common.{◌≡◌, ◌∙◌, ◌+◌, ◌-◌, ◌*◌, ◌^◌, ◌<◌, ◌≤◌, ◌&&◌, leb, ℕ, suc, Bool, true, false, List, length, take, get_or, refl, sym, ap, arith, lit<}
use Rattle.std.specs.Char.{digit_value, is_ascii_digit}
use Rattle.std.specs.Int.{IsInRange}
use Rattle.std.specs.List.{list_all}
use Rattle.std.specs.Str.Parse.{digits_value}
use Rattle.std.proofs.lemmas.Bool.{leb-true}
use Rattle.std.proofs.lemmas.Bool.Decides.{nat_tests}
use Rattle.std.proofs.lemmas.Int.Digits.{digits_value_more}
use Rattle.std.proofs.lemmas.List.Sums.{AllPass-from_list_all}
use Rattle.std.proofs.lemmas.Str.{digit_value_digit}
use Rattle.std.proofs.Math.Nat.{pow-le-pow_right, pow-suc}
use Rattle.idl_editor.specs.frames.Message.{is_number}

both_so : (a b : Bool) → (a && b) ≡ true → (a ≡ true) × (b ≡ true)
both_so true b e = (refl, e)
both_so false b e = absurd (cc)

-- a number has few digits, and each is one
number-few : (digits : List ℕ) → is_number digits ≡ true → length digits ≤ 15
unfolding is_number
number-few digits is =
    let rest = both_so (leb 1 (length digits)) (leb (length digits) 15 && list_all is_ascii_digit digits) is in
    leb-true (length digits) 15 (both_so (leb (length digits) 15) (list_all is_ascii_digit digits) rest.1).0

number-digits : (digits : List ℕ) → is_number digits ≡ true → list_all is_ascii_digit digits ≡ true
unfolding is_number
number-digits digits is =
    let rest = both_so (leb 1 (length digits)) (leb (length digits) 15 && list_all is_ascii_digit digits) is in
    (both_so (leb (length digits) 15) (list_all is_ascii_digit digits) rest.1).1

digit-range : (b : ℕ) → is_ascii_digit b ≡ true → IsInRange 48 57 b
digit-range b digit = grind (arith, nat_tests)

-- a digit more
pub number-step : (digits : List ℕ) (i n : ℕ) → is_number digits ≡ true → i < length digits → n ≡ digits_value 10 (take i digits) → n + 1 ≤ 10 ^ i
    → (n * 10 + (get_or digits i 0 - 48) ≡ digits_value 10 (take (i + 1) digits)) × (n * 10 + (get_or digits i 0 - 48) + 1 ≤ 10 ^ (i + 1)) × (n * 10 + (get_or digits i 0 - 48) < 2 ^ 64)
number-step digits i n is within value bound =
    let b = get_or digits i 0 in
    let range = digit-range b (AllPass-from_list_all is_ascii_digit digits (number-digits digits is) i 0 within) in
    let one : digit_value b + 48 ≡ b = digit_value_digit b range in
    let same : b - 48 ≡ digit_value b = omega (arith, one) in
    let nine : b - 48 ≤ 9 = omega (arith, range.0, range.1) in
    let next : i + 1 ≡ suc i = omega arith in
    let power : 10 ^ (i + 1) ≡ 10 ^ i * 10 = ap (λ k. 10 ^ k) next ∙ pow-suc 10 i in
    let ten : 0 < 10 = omega arith in
    let few : i + 1 ≤ 15 = omega (arith, number-few digits is) in
    let most : 10 ^ (i + 1) ≤ 10 ^ 15 = pow-le-pow_right ten few in
    let small : 10 ^ 15 < 2 ^ 64 = lit< tt in (
      (λ j. value j * 10 + same j) ∙ sym (digits_value_more 10 digits i within),
      omega (arith, power, bound, nine),
      omega (arith, power, bound, nine, most, small),
    )
