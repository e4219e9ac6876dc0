-- Messages: a head of fields, an empty line, and a body of as many bytes as the head announces.
use Rattle.std.specs.Prelude.{◌≡◌, ℕ, ◌≤◌, Bool, ◌&&◌, nat_le, List, [], ◌∷◌, ◌++◌, All, codes, length, map, Option, None, Some, if◌then◌else◌}
use Rattle.std.specs.List.{list_all}
use Rattle.std.specs.Char.{is_ascii_digit}
use Rattle.std.specs.Str.{str_eq_ignore_ascii_case}
use Rattle.std.specs.Str.Parse.{digits_value}
use Rattle.httparse.specs.Grammar.{Field, LineEnd, IsField, print_section}
use Rattle.httparse.specs.Spans.{name_and_value}

-- bytes of a head, its fields, and bytes of a body at most: 64 MB
abbrev pub longest_head : ℕ
longest_head = 4096

abbrev pub most_fields : ℕ
most_fields = 16

abbrev pub longest_body : ℕ
longest_body = 67108864

-- `Content-Length`, in any case
unfoldable pub is_length : List ℕ → Bool
is_length name = str_eq_ignore_ascii_case name (codes "Content-Length")

-- 1 to 15 decimal digits
unfoldable pub is_number : List ℕ → Bool
is_number digits =
    nat_le 1 (length digits) && (nat_le (length digits) 15 && list_all is_ascii_digit digits)

-- the number that such digits write
abbrev pub number_of : List ℕ → Option ℕ
number_of digits = if is_number digits then Some (digits_value 10 digits) else None

-- how many bytes of a body fields announce, each a name and a value: the first `Content-Length`
-- does
abbrev pub announced : List (List ℕ × List ℕ) → Option ℕ
announced [] = None
announced (field ∷ fields) = if is_length field.0 then number_of field.1 else announced fields

-- the head has these fields and this end, and announces a body of n bytes
pub record IsHeadWith (head : List ℕ) (n : ℕ) (fields : List Field) (last : LineEnd)
    : Type 0 where
  pub are_fields : All IsField fields
  pub few : length fields ≤ most_fields
  pub text : head ≡ print_section fields last
  pub short : length head ≤ longest_head
  pub announces : announced (map name_and_value fields) ≡ Some n

-- the head of a body of n bytes
abbrev pub IsHead : List ℕ → ℕ → Type 0
IsHead head n = (fields : List Field) × (last : LineEnd) × IsHeadWith head n fields last

-- the message of this body
pub record IsMessage (message body : List ℕ) : Type 0 where
  pub head : List ℕ
  pub is_head : IsHead head (length body)
  pub within : length body ≤ longest_body
  pub text : message ≡ head ++ body

-- no message stands at the front of these bytes
abbrev pub HasNoMessage : List ℕ → Type 0
HasNoMessage bytes =
    (message body rest : List ℕ) → bytes ≡ message ++ rest → ¬ IsMessage message body

-- none does, whatever follows
abbrev pub NeverHasMessage : List ℕ → Type 0
NeverHasMessage bytes = (more : List ℕ) → HasNoMessage (bytes ++ more)

-- these are the bodies of the messages at the front of an input, one after another, and what
-- comes behind them
abbrev pub AreBodies : List (List ℕ) → List ℕ → List ℕ → Type 0
AreBodies [] input rest = input ≡ rest
AreBodies (body ∷ bodies) input rest =
    (message : List ℕ) × (left : List ℕ) × IsMessage message body × (input ≡ message ++ left)
    × AreBodies bodies left rest
