-- No name that a token is, is that of a nameless scope.
use Rattle.std.proofs.Common.{◌≡◌, ◌∙◌, ℕ, Bool, true, false, ◌&&◌, cond, if◌then◌else◌, List, [], ◌∷◌, find, Option, None, Some, refl, sym, ap}
use Rattle.std.proofs.lemmas.Bool.{false≢true, not-true}
use Rattle.idl_base.specs.Exact.{same_number, both}
use Rattle.idl_check_laws.proofs.Fits.SettledLaws.{is_nameless}
use Rattle.idl_lex.specs.bytes.Byte.{is_digit, is_letter, is_quote}
use Rattle.idl_lex.specs.kinds.Keywords.{folded, keywords}
use Rattle.idl_lex.specs.kinds.Kind.{begins_block, ends_greater, escaped_kind, is_fraction, kind_beside, kind_of, kind_of_mark, letter_kind, name_by, name_of, other_kind, unescaped, unmarked_kind, word_kind}
use Rattle.idl_lex.specs.kinds.Literal.{body_of, character_kind, characters, closed_kind, is_text_character, literal_kind, literal_value, one_kind, string_kind}
use Rattle.idl_lex.specs.kinds.Marks.{mark_kind, marks}
use Rattle.idl_lex.specs.kinds.Number.{are_digits, based, integer_value, is_floating, kind_of_value, limited, no_integer, number, number_kind}
use Rattle.idl_lex.specs.declared.kinds.kind.Defect.TheVariants.{BadEscape, FloatingLiteral, MalformedInteger, UnclosedComment, UnknownByte}
use Rattle.idl_lex.specs.declared.kinds.kind.TokenKind.{TokenKind}
use Rattle.idl_lex.specs.declared.kinds.kind.TokenKind.TheVariants as token
use Rattle.idl_scope.proofs.Constructors.{some_same}
use Rattle.idl_tree.specs.Lexeme.{Lexeme, Character, Identifier, Integer, Text, WideCharacter, WideText, lexeme_by, lexeme_of, one_character, valued}
use Rattle.std.specs.List.{list_all}
use Rattle.std.specs.Option.{option_map}
use Rattle.std.specs.Prelude.{nat_eq, not}
use Rattle.std.specs.Str.{bytes_eq}

-- what begins with a question mark is no identifier
question-kind : (rest : List ℕ) → kind_of (63 ∷ rest) ≡ token.Identifier → ⊥
unfolding kind_of marks
question-kind [] h = cc
question-kind (c ∷ rest) h = cc

identifier-named : (t : List ℕ) → kind_of t ≡ token.Identifier → is_nameless t ≡ false
identifier-named [] h = refl
identifier-named (b ∷ rest) h = by_mark (nat_eq b 63) refl
  where
    by_mark : (m : Bool) → nat_eq b 63 ≡ m → m ≡ false
    by_mark true is = absurd (question-kind rest (sym (ap (λ c. kind_of (c ∷ rest)) (same_number b 63 is)) ∙ h))
    by_mark false is = refl

-- ---- an escaped identifier is of `_` and a letter alone

abbrev is_escaped : TokenKind → Bool
is_escaped token.Escaped = true
is_escaped other = false

either : (b : Bool) (x y : TokenKind) → is_escaped x ≡ false → is_escaped y ≡ false → is_escaped (if b then x else y) ≡ false
either true x y h g = h
either false x y h g = g

-- none of these is
abbrev are_others : List (List ℕ × TokenKind) → Bool
are_others ks = list_all (λ k. not (is_escaped k.1)) ks

keywords-others : are_others keywords ≡ true
unfolding keywords
keywords-others = refl

marks-others : are_others marks ≡ true
unfolding marks
marks-others = refl

-- the one that is found
found : (kind : Option (List ℕ × TokenKind) → TokenKind) → is_escaped (kind None) ≡ false → ((k : List ℕ × TokenKind) → is_escaped k.1 ≡ false → is_escaped (kind (Some k)) ≡ false)
    → (test : List ℕ × TokenKind → Bool) (ks : List (List ℕ × TokenKind)) → are_others ks ≡ true → is_escaped (kind (find test ks)) ≡ false
found kind none some test [] all = none
found kind none some test (k ∷ ks) all =
    let parts = both (not (is_escaped k.1)) (are_others ks) all in
    chosen (test k) (some k (not-true (is_escaped k.1) parts.0)) (found kind none some test ks parts.1)
  where
    chosen : (b : Bool) → is_escaped (kind (Some k)) ≡ false → is_escaped (kind (find test ks)) ≡ false → is_escaped (kind (cond b (Some k) (find test ks))) ≡ false
    chosen true h g = h
    chosen false h g = g

word-other : (word : List ℕ) → is_escaped (word_kind word) ≡ false
word-other word =
    found (kind_beside word) refl (λ k h. either (bytes_eq k.0 word) k.1 token.Miscased h refl) (λ k. bytes_eq (folded k.0) (folded word)) keywords keywords-others

one-other : (wide : Bool) (o : Option ℕ) → is_escaped (one_kind wide o) ≡ false
one-other wide None = refl
one-other wide (Some c) = either wide token.WideCharacter token.Character refl refl

character-other : (wide : Bool) (cs : List (Option ℕ)) → is_escaped (character_kind wide cs) ≡ false
character-other wide [] = refl
character-other wide (c ∷ []) = one-other wide c
character-other wide (c ∷ d ∷ cs) = refl

string-other : (wide : Bool) (cs : List (Option ℕ)) → is_escaped (string_kind wide cs) ≡ false
string-other wide cs =
    either (list_all is_text_character cs) (if wide then token.WideString else token.String) (token.Bad BadEscape) (either wide token.WideString token.String refl refl) refl

closed-other : (wide : Bool) (quote : ℕ) (o : Option (List ℕ)) → is_escaped (closed_kind wide quote o) ≡ false
closed-other wide quote None = refl
closed-other wide quote (Some body) =
    either (nat_eq quote 39) (character_kind wide (characters wide body)) (string_kind wide (characters wide body))
    (character-other wide (characters wide body)) (string-other wide (characters wide body))

value-other : (o : Option ℕ) → is_escaped (kind_of_value o) ≡ false
value-other None = refl
value-other (Some value) = refl

number-other : (spelling : List ℕ) → is_escaped (number_kind spelling) ≡ false
number-other spelling =
    let digits = (based spelling).1 in
    let value = limited (number (based spelling).0 digits) in
    either (are_digits (based spelling).0 digits) (kind_of_value value) (no_integer spelling) (value-other value)
    (either (is_floating spelling) (token.Bad FloatingLiteral) (token.Bad MalformedInteger) refl refl)

letter-other : (b : ℕ) (rest : List ℕ) → is_escaped (letter_kind b rest) ≡ false
letter-other b [] = word-other (b ∷ [])
letter-other b (c ∷ rest) =
    either (nat_eq b 76 && is_quote c) (literal_kind true c rest) (word_kind (b ∷ c ∷ rest)) (closed-other true c (body_of c rest)) (word-other (b ∷ c ∷ rest))

unmarked-other : (b : ℕ) (rest : List ℕ) → is_escaped (unmarked_kind b rest) ≡ false
unmarked-other b rest =
    either (nat_eq b 60 && ends_greater rest) token.HeaderName (if begins_block (b ∷ rest) then token.Bad UnclosedComment else token.Bad UnknownByte) refl
    (either (begins_block (b ∷ rest)) (token.Bad UnclosedComment) (token.Bad UnknownByte) refl refl)

other-other : (b : ℕ) (rest : List ℕ) → is_escaped (other_kind b rest) ≡ false
other-other b rest =
    either (is_fraction b rest) (number_kind (b ∷ rest)) (kind_of_mark (mark_kind (b ∷ rest)) b rest) (number-other (b ∷ rest))
    (found (λ o. kind_of_mark (option_map (λ e. e.1) o) b rest) (unmarked-other b rest) (λ k h. h) (λ e. bytes_eq e.0 (b ∷ rest)) marks marks-others)

question-escaped : (b : ℕ) (rest : List ℕ) → is_escaped (kind_of (b ∷ 63 ∷ rest)) ≡ false
unfolding kind_of
question-escaped b rest =
    let behind = 63 ∷ rest in
    let last = if is_quote b then literal_kind false b behind else other_kind b behind in
    let third = if is_digit b then number_kind (b ∷ behind) else last in
    let second = if nat_eq b 95 then escaped_kind behind else third in
    either (is_letter b) (letter_kind b behind) second (letter-other b behind)
    (either (nat_eq b 95) (escaped_kind behind) third refl
    (either (is_digit b) (number_kind (b ∷ behind)) last (number-other (b ∷ behind))
    (either (is_quote b) (literal_kind false b behind) (other_kind b behind) (closed-other false b (body_of b behind)) (other-other b behind))))

-- behind the `_` of an escaped identifier stands a letter
escaped-named : (t name : List ℕ) → kind_of t ≡ token.Escaped → unescaped t ≡ Some name → is_nameless name ≡ false
escaped-named [] name h is = cc
escaped-named (b ∷ []) name h is = ap is_nameless (sym (some_same is))
escaped-named (b ∷ c ∷ rest) name h is = ap is_nameless (sym (some_same is)) ∙ by_mark (nat_eq c 63) refl
  where
    by_mark : (m : Bool) → nat_eq c 63 ≡ m → m ≡ false
    by_mark true same = absurd (false≢true (sym (ap (λ c. is_escaped (kind_of (b ∷ c ∷ rest))) (same_number c 63 same) ∙ question-escaped b rest) ∙ ap is_escaped h))
    by_mark false same = refl

some-name : (o : Option (List ℕ)) (name : List ℕ) → valued Identifier o ≡ Identifier name → o ≡ Some name
some-name None name h = cc
some-name (Some x) name h = cc

no-name : {A : Type 0} (make : A → Lexeme) (name : List ℕ) → ((a : A) → make a ≡ Identifier name → ⊥) → (o : Option A) → valued make o ≡ Identifier name → ⊥
no-name make name never None h = cc
no-name make name never (Some a) h = never a h

by-kind : (k : TokenKind) (t name : List ℕ) → kind_of t ≡ k → lexeme_by k t ≡ Identifier name → is_nameless name ≡ false
by-kind (token.Accepted keyword) t name is h = cc
by-kind token.Refused t name is h = cc
by-kind token.Miscased t name is h = cc
by-kind token.Identifier t name is h =
    let same : t ≡ name = some_same (sym (ap (λ k. name_by k t) is) ∙ some-name (name_of t) name h) in
    ap is_nameless (sym same) ∙ identifier-named t is
by-kind token.Escaped t name is h = escaped-named t name is (sym (ap (λ k. name_by k t) is) ∙ some-name (name_of t) name h)
by-kind token.Integer t name is h = absurd (no-name Integer name (λ a g. cc) (integer_value t) h)
by-kind token.Character t name is h = absurd (no-name Character name (λ a g. cc) (one_character (literal_value t)) h)
by-kind token.WideCharacter t name is h = absurd (no-name WideCharacter name (λ a g. cc) (one_character (literal_value t)) h)
by-kind token.String t name is h = absurd (no-name Text name (λ a g. cc) (literal_value t) h)
by-kind token.WideString t name is h = absurd (no-name WideText name (λ a g. cc) (literal_value t) h)
by-kind other t name is h = cc

pub token-named : (t name : List ℕ) → lexeme_of t ≡ Identifier name → is_nameless name ≡ false
unfolding lexeme_of
token-named t name h = by-kind (kind_of t) t name refl h
