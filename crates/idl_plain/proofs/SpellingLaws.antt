-- Tokens are told by how they are spelled.
use Rattle.std.proofs.Common.{◌≡◌, ◌∙◌, ◌&&◌, ◌∷◌, ◌||◌, [], Bool, List, None, Option, Some, ap, cond, drop, false, is_some, map, nat_eq, not, refl, suc, take, true, ℕ}
use Rattle.std.specs.List.{list_all, list_any}
use Rattle.std.specs.Option.{option_map, option_map_or, unwrap_or}
use Rattle.std.specs.Prelude.{if◌then◌else◌}
use Rattle.std.specs.Str.{bytes_eq}
use Rattle.idl_lex.specs.bytes.Byte.{is_d, is_e, is_x}
use Rattle.idl_lex.specs.bytes.Piece.{is_empty, literal_rest, number_rest, zero_rest}
use Rattle.idl_lex.specs.kinds.Keywords.{like_keyword}
use Rattle.idl_lex.specs.kinds.Kind.{is_fraction, kind_beside, kind_of_mark, other_kind, unmarked_kind, word_kind}
use Rattle.idl_lex.specs.kinds.Literal.{all_good, body_of, character_kind, characters, closed_kind, closing, is_text_character, literal_kind}
use Rattle.idl_lex.specs.kinds.Marks.{mark_kind}
use Rattle.idl_lex.specs.kinds.Number.{is_floating, is_hexadecimal, number_kind}
use Rattle.idl_lex.specs.declared.kinds.kind.Defect.TheVariants.{BadEscape, UnclosedLiteral}
use Rattle.idl_lex.specs.declared.kinds.kind.TokenKind.{TokenKind}
use Rattle.idl_lex.specs.declared.kinds.kind.TokenKind.TheVariants.{Bad, Identifier, Miscased, String, WideString}
use Rattle.idl_plain.proofs.RuleLaws.{none}
use Rattle.idl_plain.specs.Spelling.{lone, quoted_kind}
use Rattle.idl_source.specs.texts.Line.{newline}
use Rattle.idl_tree.specs.Lexeme.{one_character}

beside-told : (word : List ℕ) (o : Option (List ℕ × TokenKind)) → kind_beside word o
    ≡ elim o as (λ _. TokenKind) [ None ↦ Identifier | Some k ↦ if bytes_eq k.0 word then k.1 else Miscased ]
beside-told word None = refl
beside-told word (Some k) = refl

pub words-told : (word : List ℕ) → word_kind word ≡ elim (like_keyword word)
    [ None ↦ Identifier | Some k ↦ if bytes_eq k.0 word then k.1 else Miscased ]
words-told word = beside-told word (like_keyword word)

mark-told : (o : Option TokenKind) (b : ℕ) (rest : List ℕ) → kind_of_mark o b rest ≡ unwrap_or o (unmarked_kind b rest)
mark-told None b rest = refl
mark-told (Some kind) b rest = refl

pub others-told : (b : ℕ) (rest : List ℕ) → other_kind b rest
    ≡ (if is_fraction b rest then number_kind (b ∷ rest) else unwrap_or (mark_kind (b ∷ rest)) (unmarked_kind b rest))
others-told b rest = λ i. if is_fraction b rest then number_kind (b ∷ rest) else mark-told (mark_kind (b ∷ rest)) b rest i

one-told : (wide : Bool) (cs : List (Option ℕ)) → character_kind wide cs ≡ quoted_kind true wide cs
one-told wide [] = refl
one-told wide (None ∷ []) = refl
one-told wide (Some c ∷ []) = refl
one-told wide (None ∷ d ∷ cs) = refl
one-told wide (Some c ∷ d ∷ cs) = refl

text-told : (c : Option ℕ) → is_text_character c ≡ not (nat_eq (unwrap_or c 0) 0)
text-told None = refl
text-told (Some c) = refl

body-told : (single wide : Bool) (cs : List (Option ℕ))
    → cond single (character_kind wide cs) (if list_all is_text_character cs then (if wide then WideString else String) else Bad BadEscape)
    ≡ quoted_kind single wide cs
body-told true wide cs = one-told wide cs
body-told false wide cs = λ i. if list_all (λ c. text-told c i) cs then (if wide then WideString else String) else Bad BadEscape

closed-told : (wide : Bool) (quote : ℕ) (o : Option (List ℕ)) → closed_kind wide quote o ≡ elim o as (λ _. TokenKind) [
  | None ↦ Bad UnclosedLiteral
  | Some body ↦ quoted_kind (nat_eq quote 39) wide (characters wide body)
]
closed-told wide quote None = refl
closed-told wide quote (Some body) = body-told (nat_eq quote 39) wide (characters wide body)

pub literals-told : (wide : Bool) (quote : ℕ) (rest : List ℕ) → literal_kind wide quote rest ≡ elim (body_of quote rest) [
  | None ↦ Bad UnclosedLiteral
  | Some body ↦ quoted_kind (nat_eq quote 39) wide (characters wide body)
]
literals-told wide quote rest = closed-told wide quote (body_of quote rest)

good-by : (b : Bool) (c : ℕ) (values : List ℕ) → option_map (λ vs. c ∷ vs) (if b then Some values else None) ≡ (if b then Some (c ∷ values) else None)
good-by true c values = refl
good-by false c values = refl

pub good-told : (cs : List (Option ℕ)) → all_good cs ≡ (if list_all is_some cs then Some (map (λ c. unwrap_or c 0) cs) else None)
good-told [] = refl
good-told (None ∷ cs) = refl
good-told (Some c ∷ cs) =
    ap (option_map (λ vs. c ∷ vs)) (good-told cs)
    ∙ good-by (list_all is_some cs) c (map (λ c. unwrap_or c 0) cs)

pub lone-told : (text : Option (List ℕ)) → one_character text ≡ lone text
lone-told None = refl
lone-told (Some []) = refl
lone-told (Some (c ∷ [])) = refl
lone-told (Some (c ∷ d ∷ cs)) = refl

-- ---- pieces

module _ (quote : ℕ) where
  abbrev ends : List ℕ → Option ℕ → Bool
  ends rest o = option_map_or (λ n. is_empty (drop (suc n) rest)) o true

  ends-further : (b : ℕ) (rest : List ℕ) (o : Option ℕ) → ends rest o ≡ ends (b ∷ rest) (option_map (λ n. suc n) o)
  ends-further b rest None = refl
  ends-further b rest (Some n) = refl

  abbrev on_line : List ℕ → Bool
  on_line rest = not (list_any (λ b. nat_eq b newline) rest)

  at-quote : (rest : List ℕ) → is_empty rest ≡ on_line rest && is_empty rest
  at-quote [] = refl
  at-quote (c ∷ rest) = none (on_line (c ∷ rest))

  further : (b : ℕ) (rest : List ℕ) (escaped : Bool) → literal_rest quote escaped rest ≡ on_line rest && ends rest (closing quote escaped rest)
      → literal_rest quote escaped rest ≡ on_line rest && ends (b ∷ rest) (option_map (λ n. suc n) (closing quote escaped rest))
  further b rest escaped told = told ∙ ap (λ (e : Bool). on_line rest && e) (ends-further b rest (closing quote escaped rest))

  body-by : (b : ℕ) (rest : List ℕ) (newline_here escaped quote_here : Bool)
      → ((e : Bool) → literal_rest quote e rest ≡ on_line rest && ends rest (closing quote e rest))
      → (if newline_here then false else (if escaped then literal_rest quote false rest
      else (if quote_here then is_empty rest else literal_rest quote (nat_eq b 92) rest)))
      ≡ not (newline_here || list_any (λ b. nat_eq b newline) rest)
      && ends (b ∷ rest) (if escaped then option_map (λ n. suc n) (closing quote false rest)
      else (if quote_here then Some 0 else option_map (λ n. suc n) (closing quote (nat_eq b 92) rest)))
  body-by b rest true escaped quote_here told = refl
  body-by b rest false true quote_here told = further b rest false (told false)
  body-by b rest false false true told = at-quote rest
  body-by b rest false false false told = further b rest (nat_eq b 92) (told (nat_eq b 92))

  rest-told : (escaped : Bool) (rest : List ℕ) → literal_rest quote escaped rest ≡ on_line rest && ends rest (closing quote escaped rest)
  unfolding closing
  rest-told escaped [] = refl
  rest-told escaped (b ∷ rest) = body-by b rest (nat_eq b newline) escaped (nat_eq b quote) (λ e. rest-told e rest)

pub bodies-told : (quote : ℕ) (escaped : Bool) (rest : List ℕ) → literal_rest quote escaped rest
    ≡ not (list_any (λ b. nat_eq b newline) rest) && option_map_or (λ n. is_empty (drop (suc n) rest)) (closing quote escaped rest) true
bodies-told quote escaped rest = rest-told quote escaped rest

zero-by : (b : ℕ) (rest : List ℕ) (x : Bool) → (if x then number_rest true false rest else number_rest false false (b ∷ rest))
    ≡ (if x || false then number_rest true false rest else number_rest false false (b ∷ rest))
zero-by b rest true = refl
zero-by b rest false = refl

pub zeros-told : (rest : List ℕ) → zero_rest rest ≡ (if list_any is_x (take 1 rest) then number_rest true false (drop 1 rest) else number_rest false false rest)
zeros-told [] = refl
zeros-told (b ∷ rest) = zero-by b rest (is_x b)

float-by : (point hexadecimal letter : Bool) → (if point then true else (if hexadecimal then false else letter)) ≡ point || (not hexadecimal && letter)
float-by true hexadecimal letter = refl
float-by false true letter = refl
float-by false false letter = refl

pub floats-told : (spelling : List ℕ) → is_floating spelling
    ≡ list_any (λ b. nat_eq b 46) spelling || (not (is_hexadecimal spelling) && list_any (λ b. is_e b || is_d b) spelling)
floats-told spelling = float-by (list_any (λ b. nat_eq b 46) spelling) (is_hexadecimal spelling) (list_any (λ b. is_e b || is_d b) spelling)
