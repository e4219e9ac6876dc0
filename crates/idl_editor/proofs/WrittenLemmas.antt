-- What is written for a body reads back.
use Rattle.std.proofs.Common.{◌≡◌, ◌∙◌, ◌+◌, ◌%◌, ◌^◌, ◌<◌, ◌≤◌, ◌&&◌, leb, ℕ, true, false, List, [], ◌∷◌, ◌++◌, length, get_or, map, reverse, Some, refl, ap, arith, append_assoc, length-append, lit<}
use Rattle.std.specs.Prelude.{codes}
use Rattle.std.specs.Char.{is_ascii_digit}
use Rattle.std.specs.Fmt.{decimal}
use Rattle.std.specs.List.{list_all, AllPass}
use Rattle.std.proofs.lemmas.Bool.{cond-true, cond-false, le-leb}
use Rattle.std.proofs.lemmas.Bool.Decides.{nat_tests}
use Rattle.std.proofs.lemmas.Fmt.{decimal_by_steps, decimal_is_IsNumeral, decimal_nonempty, length-decimal-le}
use Rattle.std.proofs.lemmas.List.Elements.{All-cons, All-head, All-nil, All-push}
use Rattle.std.proofs.lemmas.List.Sums.{AllPass-from_list_all, list_all-from_AllPass}
use Rattle.httparse.specs.Grammar.{Field, IsField, crlf, field_value, is_ows, is_token_byte, is_value_byte, print_section, skip_ows}
use Rattle.httparse.specs.Spans.{name_and_value}
use Rattle.httparse.proofs.OnLiterals.{httparse_on_literals}
use Rattle.httparse.proofs.TrimLemmas.{AllPass-reverse, trim_ows_space}
use Rattle.idl_editor.specs.frames.Message.{IsHead, IsMessage, announced, is_length, is_number, longest_body, number_of}
use Rattle.idl_editor.specs.frames.Written.{head_for, message_of}

-- ---- the digits of a number

digit-one : (n : ℕ) → n < 10 → AllPass is_ascii_digit ((48 + n) ∷ [])
digit-one n small = All-cons (λ b. is_ascii_digit b ≡ true) (48 + n) [] (grind (arith, nat_tests)) (All-nil (λ b. is_ascii_digit b ≡ true))

digit-more : (n : ℕ) (ds : List ℕ) → 10 ≤ n → AllPass is_ascii_digit ds → AllPass is_ascii_digit (ds ++ ((48 + n % 10) ∷ []))
digit-more n ds large all =
    let small : n % 10 < 10 = omega arith in
    All-push (λ b. is_ascii_digit b ≡ true) ds (48 + n % 10) all (grind (arith, nat_tests))

are-digits : (n : ℕ) → n < 2 ^ 64 → AllPass is_ascii_digit (decimal n)
are-digits n small = decimal_by_steps (λ n ds. AllPass is_ascii_digit ds) digit-one digit-more n small

-- a digit is no white space, and may stand in a value
digit-solid : (b : ℕ) → is_ascii_digit b ≡ true → is_ows b ≡ false
digit-solid b digit = grind (arith, nat_tests)

digit-value : (b : ℕ) → is_ascii_digit b ≡ true → is_value_byte b ≡ true
digit-value b digit = grind (arith, nat_tests)

solid : (v : List ℕ) → AllPass is_ascii_digit v → skip_ows v ≡ v
solid [] all = refl
solid (b ∷ v) all = cond-false _ _ _ (digit-solid b (All-head (λ x. is_ascii_digit x ≡ true) b v all))

-- ---- the head of a body

below-power : (n : ℕ) → n ≤ longest_body → n < 10 ^ 15
below-power n small = let big : 67108864 < 10 ^ 15 = lit< tt in omega (arith, big)

below-word : (n : ℕ) → n ≤ longest_body → n < 2 ^ 64
below-word n small = let big : 67108864 < 2 ^ 64 = lit< tt in omega (arith, big)

abbrev field_for : ℕ → Field
field_for n = record { name = codes "Content-Length"; raw = 32 ∷ decimal n; end = crlf }

name-token : list_all is_token_byte (codes "Content-Length") ≡ true
unfolding httparse_on_literals
name-token = refl

name-length : is_length (codes "Content-Length") ≡ true
unfolding is_length
name-length = refl

field-is : (n : ℕ) → n < 2 ^ 64 → IsField (field_for n)
field-is n small = record {
  name = (omega arith, AllPass-from_list_all is_token_byte (codes "Content-Length") name-token);
  raw = All-cons (λ b. is_value_byte b ≡ true) 32 (decimal n) refl (λ k d within. digit-value (get_or (decimal n) k d) (are-digits n small k d within));
}

value-is : (n : ℕ) → n < 2 ^ 64 → field_value (field_for n) ≡ decimal n
value-is n small = trim_ows_space (decimal n) (solid (decimal n) (are-digits n small)) (solid (reverse (decimal n)) (AllPass-reverse is_ascii_digit (decimal n) (are-digits n small)))

number-is : (n : ℕ) → n ≤ longest_body → number_of (decimal n) ≡ Some n
unfolding is_number
number-is n small =
    let fits = below-word n small in
    let some : leb 1 (length (decimal n)) ≡ true = le-leb 1 _ (omega (arith, decimal_nonempty n fits)) in
    let few : leb (length (decimal n)) 15 ≡ true = le-leb _ 15 (length-decimal-le 15 n (omega arith) (below-power n small) fits) in
    let all : list_all is_ascii_digit (decimal n) ≡ true = list_all-from_AllPass is_ascii_digit (decimal n) (are-digits n fits) in
    let number : is_number (decimal n) ≡ true = (λ i. some i && (few i && all i)) in
    cond-true _ _ _ number ∙ ap Some (decimal_is_IsNumeral n fits).1

announced-is : (n : ℕ) → n ≤ longest_body → announced (map name_and_value (field_for n ∷ [])) ≡ Some n
announced-is n small =
    cond-true _ _ _ name-length ∙ ap number_of (value-is n (below-word n small)) ∙ number-is n small

text-is : (n : ℕ) → head_for n ≡ print_section (field_for n ∷ []) crlf
text-is n = simp append_assoc

short-is : (n : ℕ) → n ≤ longest_body → length (head_for n) ≤ 4096
short-is n small =
    let few = length-decimal-le 15 n (omega arith) (below-power n small) (below-word n small) in
    omega (arith, few, length-append (codes "Content-Length: " ++ decimal n) (codes "\r\n\r\n"), length-append (codes "Content-Length: ") (decimal n))

pub head-reads : (n : ℕ) → n ≤ longest_body → IsHead (head_for n) n
head-reads n small = (
  field_for n ∷ [],
  crlf,
  record {
    are_fields = All-cons IsField (field_for n) [] (field-is n (below-word n small)) (All-nil IsField);
    few = omega arith;
    text = text-is n;
    short = short-is n small;
    announces = announced-is n small;
  },
)

-- a body that may be is read back
pub message-reads : (body : List ℕ) → length body ≤ longest_body → IsMessage (message_of body) body
message-reads body small = record {
  head = head_for (length body);
  is_head = head-reads (length body) small;
  within = small;
  text = refl;
}
