-- Rules of make: how they are written, and how make reads them.
use Rattle.std.specs.Prelude.{ℕ, ◌-◌, Bool, true, false, ◌&&◌, ◌||◌, not, List, [], ◌∷◌, ◌++◌, All, IsTrue, codes, length, nat_eq, take, if◌then◌else◌}
use Rattle.std.specs.Char.{is_ascii_alphanumeric, is_ascii_uppercase}
use Rattle.std.specs.List.{flat_map, list_all, list_any, slice_split}
use Rattle.std.specs.Str.{bytes_eq}
use Rattle.idl_source.specs.texts.Cut.{cut_lines}

-- a file that a target stands on: it has to be there, or it counts if it is there
pub data Need : Type 0 where
  There : (name : List ℕ) → Need
  IfThere : (name : List ℕ) → Need

pub record Rule : Type 0 where
  pub target : List ℕ
  pub needs : List Need

-- ---- names that make can read

-- letters, digits and `_./+-,@!~$#%`
abbrev pub is_make_byte : ℕ → Bool
is_make_byte b = is_ascii_alphanumeric b || list_any (λ mark. nat_eq mark b) (codes "_./+-,@!~$#%")

abbrev pub is_capital : ℕ → Bool
is_capital b = is_ascii_uppercase b || nat_eq b 95

-- a dot and capitals: make has targets as `.PHONY`
abbrev pub is_special : List ℕ → Bool
is_special [] = false
is_special (b ∷ word) = nat_eq b 46 && list_all is_capital word

-- a `~` that comes first is a home to make
abbrev pub is_home : List ℕ → Bool
is_home [] = true
is_home (b ∷ name) = nat_eq b 126

abbrev pub is_make_name : List ℕ → Bool
is_make_name name = not (is_home name) && (list_all is_make_byte name && not (is_special name))

abbrev pub name_in : Need → List ℕ
name_in (There name) = name
name_in (IfThere name) = name

-- make can read each name in it
pub record IsMakeRule (rule : Rule) : Type 0 where
  pub target : IsTrue (is_make_name rule.target)
  pub needs : All (λ need. IsTrue (is_make_name (name_in need))) rule.needs

-- ---- how a rule is written

-- `$` is doubled, and `#` has a backslash before it
abbrev pub escaped_byte : ℕ → List ℕ
escaped_byte b = if nat_eq b 36 then codes "$$" else (if nat_eq b 35 then codes "\\#" else b ∷ [])

abbrev pub escaped : List ℕ → List ℕ
escaped name = flat_map escaped_byte name

-- in a target `%` has one, too
abbrev pub target_byte : ℕ → List ℕ
target_byte b = if nat_eq b 37 then 92 ∷ escaped_byte b else escaped_byte b

abbrev pub target_text : List ℕ → List ℕ
target_text name = flat_map target_byte name ++ codes ":"

abbrev pub need_text : Need → List ℕ
need_text (There name) = codes " " ++ escaped name
need_text (IfThere name) = codes " $(wildcard " ++ escaped name ++ codes ")"

-- a rule without its line's end
abbrev pub rule_text : Rule → List ℕ
rule_text rule = target_text rule.target ++ flat_map need_text rule.needs

-- rules, each on a line
abbrev pub rules_text : List Rule → List ℕ
rules_text rules = flat_map (λ rule. rule_text rule ++ 10 ∷ []) rules

-- ---- how make reads it

-- the name that is written so; behind a `$` or a backslash a byte is itself
abbrev pub name_read : Bool → List ℕ → List ℕ
name_read is_behind [] = []
name_read true (b ∷ text) = b ∷ name_read false text
name_read false (b ∷ text) =
    if nat_eq b 36 || nat_eq b 92 then name_read true text else b ∷ name_read false text

-- all but the last byte
abbrev pub without_last : List ℕ → List ℕ
without_last text = take (length text - 1) text

-- what stands behind a target: a name, or `$(wildcard NAME)`, which is two words
abbrev pub needs_read : Bool → List (List ℕ) → List Need
needs_read is_wildcard [] = []
needs_read true (word ∷ words) =
    IfThere (name_read false (without_last word)) ∷ needs_read false words
needs_read false (word ∷ words) =
    if bytes_eq word (codes "$(wildcard") then needs_read true words
    else There (name_read false word) ∷ needs_read false words

-- a line is words, parted by blanks: a target with its colon, and what it stands on
abbrev pub rule_of : List (List ℕ) → List Rule
rule_of [] = []
rule_of (word ∷ words) =
    record { target = name_read false (without_last word); needs = needs_read false words } ∷ []

abbrev pub rule_read : List ℕ → List Rule
rule_read line = rule_of (slice_split (λ b. nat_eq b 32) line)

-- all rules but what stands behind the last line's end
abbrev pub rules_read : List ℕ → List Rule
rules_read text = flat_map rule_read (cut_lines text)
