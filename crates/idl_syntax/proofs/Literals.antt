-- Literals, by the kinds of their tokens.
use Rattle.std.proofs.Common.{◌≡◌, ℕ, true, false, List, [], ◌∷◌, Option, Some, None, is_some, Result, Ok, Err, refl, ap}
use Rattle.idl_lex.specs.kinds.Kind.{kind_of, name_of}
use Rattle.idl_lex.specs.kinds.Number.{integer_value}
use Rattle.idl_lex.specs.kinds.Literal.{literal_value}
use Rattle.idl_lex.specs.declared.kinds.kind.TokenKind.{TokenKind}
use Rattle.idl_lex.specs.declared.kinds.kind.TokenKind.TheVariants as kind
use Rattle.idl_syntax.specs.declared.fault.ReadingFault.{ReadingFault}
use Rattle.idl_syntax.specs.declared.fault.ReadingFault.TheVariants as fault
use Rattle.idl_syntax.specs.Gives.{Fails}
use Rattle.idl_syntax.specs.Literal.{is_at_text, is_at_wide_text, is_text_kind, is_wide_text_kind, single_at, wide_text_at}
use Rattle.idl_tree.specs.Lexeme.{Lexeme, Identifier, Integer, Character, WideCharacter, Text, WideText, one_character, lexeme_by, lexeme_of, lexemes, valued}
use Rattle.idl_tree.specs.reading.ReadConstruction.{several, all_with}
use Rattle.idl_tree.specs.reading.ReadExpression.{literal_at, pieces_at, text_literal, text_of, wide_text_literal, wide_text_of}
use Rattle.idl_tree.specs.reading.ReadInterface.{text_at}
use Rattle.idl_tree.specs.reading.Reading.{◌>>=◌, many_of}
use Rattle.idl_tree.specs.reading.Tests.{pick}
use Rattle.idl_tree.specs.declared.literal.Literal.{Literal}
use Rattle.idl_tree.specs.declared.literal.Literal.TheVariants as literal
use Rattle.idl_tree.specs.declared.several.Several.{Several}

abbrev Pieces : Type 0
Pieces = Result (List (List ℕ) × List Lexeme) ℕ

abbrev pub as_text : Result (Several (List ℕ) × List Lexeme) ℕ → Result (Literal × List Lexeme) ℕ
as_text read = read >>= λ p. Ok (literal.Text p.0, p.1)

abbrev pub as_wide_text : Result (Several (List ℕ) × List Lexeme) ℕ → Result (Literal × List Lexeme) ℕ
as_wide_text read = read >>= λ p. Ok (literal.WideText p.0, p.1)

abbrev first_piece : List ℕ → List (List ℕ) × List Lexeme → Result ((List ℕ × List (List ℕ)) × List Lexeme) ℕ
first_piece piece xs = Ok ((piece, xs.0), xs.1)

text_pieces : (piece : List ℕ) (more : Pieces) → ((more >>= first_piece piece) >>= λ p. Ok (text_literal p.0, p.1)) ≡ as_text (more >>= λ xs. Ok (several piece xs.0, xs.1))
text_pieces piece (Ok xs) = refl
text_pieces piece (Err e) = refl

wide_text_pieces : (piece : List ℕ) (more : Pieces) → ((more >>= first_piece piece) >>= λ p. Ok (wide_text_literal p.0, p.1)) ≡ as_wide_text (more >>= λ xs. Ok (several piece xs.0, xs.1))
wide_text_pieces piece (Ok xs) = refl
wide_text_pieces piece (Err e) = refl

text_value : (value : Option (List ℕ)) (ts : List Lexeme) → literal_at (valued Text value ∷ ts) ≡ as_text (text_at (valued Text value ∷ ts))
unfolding literal_at pieces_at text_at all_with
text_value None ts = refl
text_value (Some piece) ts = text_pieces piece (many_of (λ t. is_some (text_of t)) (pick text_of) ts)

wide_text_value : (value : Option (List ℕ)) (ts : List Lexeme) → literal_at (valued WideText value ∷ ts) ≡ as_wide_text (wide_text_at (valued WideText value ∷ ts))
unfolding literal_at pieces_at all_with
wide_text_value None ts = refl
wide_text_value (Some piece) ts = wide_text_pieces piece (many_of (λ t. is_some (wide_text_of t)) (pick wide_text_of) ts)

is_text : (k : TokenKind) → is_text_kind k ≡ true → k ≡ kind.String
is_text kind.String h = refl
is_text others h = absurd cc

is_wide_text : (k : TokenKind) → is_wide_text_kind k ≡ true → k ≡ kind.WideString
is_wide_text kind.WideString h = refl
is_wide_text others h = absurd cc

pub literal_text : (tokens : List (List ℕ)) → is_at_text tokens ≡ true → literal_at (lexemes tokens) ≡ as_text (text_at (lexemes tokens))
unfolding lexeme_of
literal_text [] h = absurd cc
literal_text (t ∷ rest) h = rw (is_text (kind_of t) h) (text_value (literal_value t) (lexemes rest))

pub literal_wide_text : (tokens : List (List ℕ)) → is_at_wide_text tokens ≡ true → literal_at (lexemes tokens) ≡ as_wide_text (wide_text_at (lexemes tokens))
unfolding lexeme_of
literal_wide_text [] h = absurd cc
literal_wide_text (t ∷ rest) h = rw (is_wide_text (kind_of t) h) (wide_text_value (literal_value t) (lexemes rest))

-- a reading that fails gives no literal
pub text_fails : (why : ReadingFault) (read : Result (Several (List ℕ) × List Lexeme) ℕ) → Fails why read → Fails why (as_text read)
text_fails fault.Memory read h = tt
text_fails (fault.NoTree left) read h = ap as_text h

pub wide_text_fails : (why : ReadingFault) (read : Result (Several (List ℕ) × List Lexeme) ℕ) → Fails why read → Fails why (as_wide_text read)
wide_text_fails fault.Memory read h = tt
wide_text_fails (fault.NoTree left) read h = ap as_wide_text h

valued_alone : {A : Type 0} (ts : List Lexeme) (make : A → Lexeme) (value : Option A) → ((a : A) → literal_at (make a ∷ ts) ≡ single_at (make a ∷ ts)) → literal_at (valued make value ∷ ts) ≡ single_at (valued make value ∷ ts)
unfolding literal_at
valued_alone ts make None each = refl
valued_alone ts make (Some a) each = each a

kind_alone : (k : TokenKind) (t : List ℕ) (ts : List Lexeme) → is_text_kind k ≡ false → is_wide_text_kind k ≡ false → literal_at (lexeme_by k t ∷ ts) ≡ single_at (lexeme_by k t ∷ ts)
unfolding literal_at
kind_alone kind.String t ts h g = absurd cc
kind_alone kind.WideString t ts h g = absurd cc
kind_alone kind.Identifier t ts h g = valued_alone ts Identifier (name_of t) (λ a. refl)
kind_alone kind.Escaped t ts h g = valued_alone ts Identifier (name_of t) (λ a. refl)
kind_alone kind.Integer t ts h g = valued_alone ts Integer (integer_value t) (λ a. refl)
kind_alone kind.Character t ts h g = valued_alone ts Character (one_character (literal_value t)) (λ a. refl)
kind_alone kind.WideCharacter t ts h g = valued_alone ts WideCharacter (one_character (literal_value t)) (λ a. refl)
kind_alone others t ts h g = refl

pub literal_alone : (tokens : List (List ℕ)) → is_at_text tokens ≡ false → is_at_wide_text tokens ≡ false → literal_at (lexemes tokens) ≡ single_at (lexemes tokens)
unfolding lexeme_of literal_at
literal_alone [] h g = refl
literal_alone (t ∷ rest) h g = kind_alone (kind_of t) t (lexemes rest) h g
