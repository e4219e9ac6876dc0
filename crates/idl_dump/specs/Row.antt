-- The row of a unit in the dump.
use Rattle.std.specs.Prelude.{ℕ, Bool, true, false, ◌||◌, List, [], ◌∷◌, ◌++◌, codes, drop, flat_map, take, if◌then◌else◌}
use Rattle.std.specs.List.{repeat}
use Rattle.std.specs.Str.{bytes_eq}
use Rattle.idl_lex.specs.tokens.Tokens.{Token}
use Rattle.idl_parts.specs.Item.{Item, item_length}
use Rattle.idl_parts.specs.Part.{Part as item}
use Rattle.idl_tree.specs.declared.several.Several.{Several}
use Rattle.idl_value.specs.Evaluation.{joined}
use Rattle.idl_value.specs.Spelled.{escaped, path_word, value_word}
use Rattle.idl_value.specs.declared.value.Value.{Value}
use Rattle.idl_value.specs.declared.value.Value.TheVariants.{Text}

-- string literals as one
abbrev pub text_word : Several (List ℕ) → List ℕ
text_word text = value_word (Text (joined text))

-- a word, with a blank before it
abbrev pub spaced : List ℕ → List ℕ
spaced word = codes " " ++ word

-- a token as it is spelled; no blank stands before `;` and `,`
abbrev pub token_text : Token → List ℕ
token_text token =
    if bytes_eq token (codes ";") || bytes_eq token (codes ",") then token else spaced token

-- what a row is still to be made of: tokens, the paths of what the names among them denote, and the
-- values of the expressions among them; and whether the first of them stands in an expression
pub record Rest : Type 0 where
  pub tokens : List Token
  pub found : List (List (List ℕ))
  pub values : List Value
  pub in_value : Bool

abbrev pub next_path : List (List (List ℕ)) → List ℕ
next_path [] = []
next_path (path ∷ found) = spaced (path_word path)

abbrev pub next_value : List Value → List ℕ
next_value [] = []
next_value (v ∷ values) = spaced (value_word v)

-- The words of a site: a used name is its path, joined literals are one, and an expression is its
-- value, which stands where it ends.
abbrev pub site_text : Rest → Item → List ℕ
site_text rest (item.Plain n) =
    if rest.in_value then [] else flat_map token_text (take n rest.tokens)
site_text rest (item.Declares way name) = spaced (escaped name)
site_text rest (item.Uses way name) = if rest.in_value then [] else next_path rest.found
site_text rest (item.Says purpose text) = spaced (text_word text)
site_text rest (item.ValueEnds way expression) = next_value rest.values
site_text rest other = []

-- what is left behind it
abbrev pub behind_tokens : Rest → Item → Rest
behind_tokens rest site = record rest { tokens = drop (item_length site) rest.tokens }

abbrev pub behind_site : Rest → Item → Rest
behind_site rest (item.Uses way name) =
    record (behind_tokens rest (item.Uses way name)) { found = drop 1 rest.found }
behind_site rest item.ValueBegins = record rest { in_value = true }
behind_site rest (item.ValueEnds way expression) =
    record rest { values = drop 1 rest.values; in_value = false }
behind_site rest other = behind_tokens rest other

-- the words of these sites
abbrev pub unit_text : Rest → List Item → List ℕ
unit_text rest [] = []
unit_text rest (site ∷ sites) = site_text rest site ++ unit_text (behind_site rest site) sites

-- the row of a unit around which so many scopes are open: two blanks for each, and then its words
unfoldable pub row_of : ℕ → List Item → Rest → List ℕ
row_of depth sites rest = repeat depth (codes "  ") ++ drop 1 (unit_text rest sites)
