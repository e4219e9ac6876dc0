-- Attributes and operations that are spelled are read again.
-- ---- lists of names
use Rattle.std.proofs.Common.{Bool, Err, List, None, Ok, Option, Result, Some, [], ap, append_assoc, arith, cond, false, flat_map, is_some, length, refl, suc, true, ℕ, ◌++◌, ◌<◌, ◌∙◌, ◌∷◌, ◌≡◌, ◌≤◌}
use Rattle.std.proofs.lemmas.List.{length-append}
use Rattle.idl_lex.specs.declared.kinds.keyword.Keyword.{Keyword}
use Rattle.idl_lex.specs.declared.kinds.keyword.Keyword.TheVariants as word
use Rattle.idl_lex.specs.declared.kinds.mark.Mark.TheVariants as mark
use Rattle.idl_tree.specs.DataType.{spell_type}
use Rattle.idl_tree.specs.Interface.{spell_attribute, spell_attribute_names, spell_context, spell_direction, spell_exceptions, spell_list, spell_operation, spell_parameter, spell_raises, spell_readonly_attribute, spell_readonly_names, spell_result, spell_text}
use Rattle.idl_tree.specs.Lexeme.{Identifier, Lexeme, Lexemes, Punctuation, Text, Word}
use Rattle.idl_tree.specs.Name.{spell_name}
use Rattle.idl_tree.specs.reading.ReadConstruction.{listed_with}
use Rattle.idl_tree.specs.reading.ReadExpression.{behind_with, text_of}
use Rattle.idl_tree.specs.reading.ReadInterface.{attribute_by, attribute_names_at, attribute_with, context_at, context_if, getraises_at, list_at, made_attribute, made_operation, made_readonly_attribute, more_names_at, operation_rest_with, operation_with, parameter_with, parameters_with, passed, plain_attribute_names, plain_names, raises_at, raises_if, readonly_attribute_with, readonly_names_at, readonly_rest, result_with, text_at}
use Rattle.idl_tree.specs.reading.ReadName.{name_at}
use Rattle.idl_tree.specs.reading.ReadType.{type_at}
use Rattle.idl_tree.specs.reading.Reading.{Reader, expect, first, ◌>>=◌}
use Rattle.idl_tree.specs.Several.{spell_if, spell_listed}
use Rattle.idl_tree.specs.reading.Tests.{identifier_at, is_mark, is_word, keyword_of, pick}
use Rattle.idl_tree.specs.declared.declarations.attribute.Attribute.{Attribute}
use Rattle.idl_tree.specs.declared.declarations.attribute.AttributeNames.{AttributeNames}
use Rattle.idl_tree.specs.declared.declarations.attribute.AttributeNames.TheVariants as names
use Rattle.idl_tree.specs.declared.declarations.attribute.AttributeRaises.{AttributeRaises}
use Rattle.idl_tree.specs.declared.declarations.attribute.AttributeRaises.TheVariants.{Get, Set}
use Rattle.idl_tree.specs.declared.declarations.attribute.ReadonlyAttribute.{ReadonlyAttribute}
use Rattle.idl_tree.specs.declared.declarations.attribute.ReadonlyNames.{ReadonlyNames}
use Rattle.idl_tree.specs.declared.declarations.attribute.ReadonlyNames.TheVariants as readonly
use Rattle.idl_tree.specs.declared.declarations.data_type.TypeTree.{TypeTree}
use Rattle.idl_tree.specs.declared.name.ScopedName.{ScopedName}
use Rattle.idl_tree.specs.declared.declarations.operation.Direction.{Direction}
use Rattle.idl_tree.specs.declared.declarations.operation.Direction.TheVariants.{In, InOut, Out}
use Rattle.idl_tree.specs.declared.declarations.operation.Operation.{Operation}
use Rattle.idl_tree.specs.declared.declarations.operation.Parameter.{Parameter}
use Rattle.idl_tree.specs.declared.several.Several.{Several}
use Rattle.idl_tree.proofs.ReadAgain.Again.{Later, goes_or, neither}
use Rattle.idl_tree.proofs.ReadAgain.AgainParts.{Deep, Reads, all_read, listed_reads, mapped_reads, nothing, several_read, spelled_reads, then_reads}
use Rattle.idl_tree.proofs.ReadAgain.ExpressionAgain.{name_again}
use Rattle.idl_tree.proofs.Readers.InterfaceLaws.{spell_raised}
use Rattle.idl_tree.proofs.Laws.{ok}
use Rattle.idl_tree.proofs.Many.{many_spell}
use Rattle.idl_tree.proofs.Readers.NameLaws.{flat_map-many}
use Rattle.idl_tree.proofs.Readers.NestedConstructionLaws.{raised}
use Rattle.idl_tree.proofs.Readers.TokenLaws.{one_token, only_word}
use Rattle.idl_tree.proofs.ReadAgain.TypeAgain.{goes_type, is_type_start, type_is_again, type_reads}

abbrev goes_name : Option Lexeme → Bool
goes_name = is_mark mark.ColonColon

abbrev goes_names : Option Lexeme → Bool
goes_names = goes_or (is_mark mark.Comma) goes_name

pub names_read : (ns : Several ScopedName) → Reads goes_names (spell_listed spell_name ns) (listed_with name_at) ns
names_read ns = listed_reads goes_name spell_name (λ n. name_at) refl (λ x n le. name_again x) ns (length (spell_listed spell_name ns)) (omega arith)

list_reads : (ns : Several ScopedName) → Reads nothing (spell_list ns) list_at ns
unfolding list_at
list_reads ns rest h =
    then_reads goes_names nothing (spell_listed spell_name ns) (Punctuation mark.CloseParenthesis ∷ []) (listed_with name_at) (λ ns ts. expect (is_mark mark.CloseParenthesis) ts >>= λ r. Ok (ns, r)) ns ns
    (names_read ns) (λ rest h. refl) (λ rest h. refl) rest refl

raises_reads : (k : Keyword) (ns : Several ScopedName) → Reads nothing (spell_raised k ns) (raises_at k) ns
unfolding raises_at
raises_reads k ns rest h = ap (λ (b : Bool). cond b (ok (spell_list ns ++ rest)) (Err (suc (length (spell_list ns ++ rest)))) >>= λ r. list_at r) (only_word k).passes ∙ list_reads ns rest h

raises_if_reads : (k : Keyword) (o : Option (Several ScopedName)) → Reads (is_word k) (spell_if (spell_raised k) o) (raises_if k) o
unfolding raises_if
raises_if_reads k None rest h = rw h refl
raises_if_reads k (Some ns) rest h = rw (only_word k).passes (ap (λ (o : Result (Several ScopedName × Lexemes) ℕ). o >>= λ x. Ok (Some x.0, x.1)) (raises_reads k ns rest refl))

-- ---- names of attributes

abbrev spell_identifier : List ℕ → Lexemes
spell_identifier = one_token Identifier

abbrev spell_more : List (List ℕ) → Lexemes
spell_more more = flat_map (λ name. Punctuation mark.Comma ∷ spell_identifier name) more

more_item : (name : List ℕ) → Deep nothing (is_mark mark.Comma) (λ name. Punctuation mark.Comma ∷ spell_identifier name) (λ n. behind_with mark.Comma identifier_at) name
unfolding behind_with
more_item name = (record { passes = λ rest. refl; stops = λ rest. refl; some = omega arith }, λ n le rest h. refl)

abbrev goes_more : Option Lexeme → Bool
goes_more = goes_or (is_mark mark.Comma) nothing

more_names_read : (more : List (List ℕ)) → Reads goes_more (spell_more more) more_names_at more
more_names_read more =
    let spell_one : List ℕ → Lexemes = λ name. Punctuation mark.Comma ∷ spell_identifier name in
    spelled_reads goes_more (spell_more more) (many_spell spell_one more) more_names_at more (flat_map-many spell_one more)
    (all_read nothing (is_mark mark.Comma) spell_one (λ n. behind_with mark.Comma identifier_at) more_item more (length (many_spell spell_one more)) (omega arith))

-- what would go on with the names of a readonly attribute
abbrev pub goes_readonly : Option Lexeme → Bool
goes_readonly = goes_or (is_word word.Raises) goes_more

-- a comma or what doesn't go on is no keyword of this kind
more_first : (k : Keyword) (more : List (List ℕ)) (rest : Lexemes) → is_word k (first rest) ≡ false → is_word k (first (spell_more more ++ rest)) ≡ false
more_first k [] rest h = h
more_first k (name ∷ more) rest h = refl

pub readonly_names_read : (x : ReadonlyNames) → Reads goes_readonly (spell_readonly_names x) readonly_names_at x
unfolding readonly_names_at readonly_rest
readonly_names_read (readonly.Raising name ns) rest h = ap (λ (o : Result (Several ScopedName × Lexemes) ℕ). o >>= λ ns. Ok (readonly.Raising name ns.0, ns.1)) (raises_reads word.Raises ns rest refl)
readonly_names_read (readonly.Plain ids) rest h =
    let both = neither (is_word word.Raises (first rest)) (goes_more (first rest)) h in
    rw (more_first word.Raises ids.rest rest both.0) (ap (λ (o : Result (List (List ℕ) × Lexemes) ℕ). o >>= λ more. Ok (plain_names ids.first more.0, more.1)) (more_names_read ids.rest rest both.1))

-- what would go on with the names of an attribute
abbrev pub goes_attribute : Option Lexeme → Bool
goes_attribute = goes_or (is_word word.Getraises) (goes_or (is_word word.Setraises) goes_more)

getraises_read : (x : Several ScopedName) (set : Option (Several ScopedName)) → Reads (is_word word.Setraises) (spell_exceptions (Get x set)) getraises_at (Get x set)
unfolding getraises_at
getraises_read x set =
    let setting : Lexemes = spell_if (spell_raised word.Setraises) set in
    then_reads nothing (is_word word.Setraises) (spell_raised word.Getraises x) setting (raises_at word.Getraises) (λ got ts. raises_if word.Setraises ts >>= λ set. Ok (Get got set.0, set.1)) x (Get x set)
    (raises_reads word.Getraises x) (mapped_reads (is_word word.Setraises) setting (raises_if word.Setraises) (Get x) set (raises_if_reads word.Setraises set)) (λ rest h. refl)

plain_attribute_read : (name : List ℕ) (more : List (List ℕ)) (t : Option Lexeme) → is_word word.Getraises t ≡ false → is_word word.Setraises t ≡ false → (ts : Lexemes)
    → attribute_by name (keyword_of t) ts ≡ (more_names_at ts >>= λ more. Ok (plain_attribute_names name more.0, more.1))
plain_attribute_read name more (Some (Word word.Getraises)) g s ts = absurd cc
plain_attribute_read name more (Some (Word word.Setraises)) g s ts = absurd cc
plain_attribute_read name more None g s ts = refl
plain_attribute_read name more _ g s ts = refl

pub attribute_names_read : (x : AttributeNames) → Reads goes_attribute (spell_attribute_names x) attribute_names_at x
unfolding attribute_names_at
attribute_names_read (names.Raising name (Get got set)) rest h =
    let stops = neither (is_word word.Getraises (first rest)) (goes_or (is_word word.Setraises) goes_more (first rest)) h in
    ap (λ (o : Result (AttributeRaises × Lexemes) ℕ). o >>= λ got. Ok (names.Raising name got.0, got.1)) (getraises_read got set rest (neither (is_word word.Setraises (first rest)) (goes_more (first rest)) stops.1).0)
attribute_names_read (names.Raising name (Set set)) rest h = ap (λ (o : Result (Several ScopedName × Lexemes) ℕ). o >>= λ set. Ok (names.Raising name (Set set.0), set.1)) (raises_reads word.Setraises set rest refl)
attribute_names_read (names.Plain ids) rest h =
    let stops = neither (is_word word.Getraises (first rest)) (goes_or (is_word word.Setraises) goes_more (first rest)) h in
    let stops2 = neither (is_word word.Setraises (first rest)) (goes_more (first rest)) stops.1 in
    let more : Lexemes = spell_more ids.rest ++ rest in
    plain_attribute_read ids.first ids.rest (first more) (more_first word.Getraises ids.rest rest stops.0) (more_first word.Setraises ids.rest rest stops2.0) more
    ∙ ap (λ (o : Result (List (List ℕ) × Lexemes) ℕ). o >>= λ more. Ok (plain_attribute_names ids.first more.0, more.1)) (more_names_read ids.rest rest stops2.1)

-- ---- attributes

readonly_parted : (x : ReadonlyNames) (rest : Lexemes) → goes_type (first (spell_readonly_names x ++ rest)) ≡ false
readonly_parted (readonly.Raising name ns) rest = refl
readonly_parted (readonly.Plain ids) rest = refl

pub readonly_attribute_reads : (a : ReadonlyAttribute) (n : ℕ) → length (spell_readonly_attribute a) ≤ n → Reads goes_readonly (spell_readonly_attribute a) (readonly_attribute_with (type_at n)) a
unfolding readonly_attribute_with
readonly_attribute_reads a n le rest h =
    then_reads goes_type goes_readonly (spell_type a.kind) (spell_readonly_names a.names) (type_at n) (λ t ts. readonly_names_at ts >>= λ names. Ok (made_readonly_attribute t names.0, names.1)) a.kind a
    (type_reads a.kind n (omega (arith, le, length-append (spell_type a.kind) (spell_readonly_names a.names))))
    (mapped_reads goes_readonly (spell_readonly_names a.names) readonly_names_at (made_readonly_attribute a.kind) a.names (readonly_names_read a.names))
    (λ rest h. readonly_parted a.names rest) rest h

attribute_parted : (x : AttributeNames) (rest : Lexemes) → goes_type (first (spell_attribute_names x ++ rest)) ≡ false
attribute_parted (names.Raising name raised) rest = refl
attribute_parted (names.Plain ids) rest = refl

pub attribute_reads : (a : Attribute) (n : ℕ) → length (spell_attribute a) ≤ n → Reads goes_attribute (spell_attribute a) (attribute_with (type_at n)) a
unfolding attribute_with
attribute_reads a n le rest h =
    then_reads goes_type goes_attribute (spell_type a.kind) (spell_attribute_names a.names) (type_at n) (λ t ts. attribute_names_at ts >>= λ names. Ok (made_attribute t names.0, names.1)) a.kind a
    (type_reads a.kind n (omega (arith, le, length-append (spell_type a.kind) (spell_attribute_names a.names))))
    (mapped_reads goes_attribute (spell_attribute_names a.names) attribute_names_at (made_attribute a.kind) a.names (attribute_names_read a.names))
    (λ rest h. attribute_parted a.names rest) rest h

-- ---- operations

-- what follows the direction
abbrev behind_direction : ℕ → Direction → Reader Parameter
behind_direction n x ts = type_at n ts >>= λ t. identifier_at t.1 >>= λ name. Ok (passed x t.0 name.0, name.1)

parameter_later : (p : Parameter) → Later nothing spell_parameter (λ n. parameter_with (type_at n)) p
unfolding parameter_with
parameter_later p n le = directed p.direction p.kind p.name le
  where
    tail : (x : Direction) (t : TypeTree) (name : List ℕ) → length (spell_type t) < n → (rest : Lexemes) → behind_direction n x ((spell_type t ++ one_token Identifier name) ++ rest) ≡ Ok (passed x t name, rest)
    tail x t name lt rest =
        then_reads goes_type nothing (spell_type t) (one_token Identifier name) (type_at n) (λ t ts. identifier_at ts >>= λ name. Ok (passed x t name.0, name.1)) t (passed x t name)
        (type_reads t n lt) (λ rest h. refl) (λ rest h. refl) rest refl

    directed : (x : Direction) (t : TypeTree) (name : List ℕ) → length (spell_parameter (passed x t name)) ≤ n → Reads nothing (spell_parameter (passed x t name)) (parameter_with (type_at n)) (passed x t name)
    directed In t name le rest h = tail In t name (omega (arith, le, length-append (spell_type t) (one_token Identifier name))) rest
    directed Out t name le rest h = tail Out t name (omega (arith, le, length-append (spell_type t) (one_token Identifier name))) rest
    directed InOut t name le rest h = tail InOut t name (omega (arith, le, length-append (spell_type t) (one_token Identifier name))) rest

abbrev pub spell_parameters : Option (Several Parameter) → Lexemes
spell_parameters = spell_if (spell_listed spell_parameter)

parameter_first : (x : Direction) (s ts : Lexemes) → is_mark mark.CloseParenthesis (first ((spell_direction x ++ s) ++ ts)) ≡ false
parameter_first In s ts = refl
parameter_first Out s ts = refl
parameter_first InOut s ts = refl

-- before what closes them
parameters_read : (o : Option (Several Parameter)) (n : ℕ) → length (spell_parameters o) ≤ n → (rest : Lexemes)
    → parameters_with (type_at n) (spell_parameters o ++ (Punctuation mark.CloseParenthesis ∷ rest)) ≡ Ok (o, Punctuation mark.CloseParenthesis ∷ rest)
unfolding parameters_with
parameters_read None n le rest = refl
parameters_read (Some ps) n le rest =
    let closed : Lexemes = Punctuation mark.CloseParenthesis ∷ rest in
    let one : Parameter = ps.first in
    let more : Lexemes = flat_map (λ x. Punctuation mark.Comma ∷ spell_parameter x) ps.rest in
    let opens = ap (λ (w : Lexemes). is_mark mark.CloseParenthesis (first w)) (append_assoc (spell_parameter one) more closed) ∙ parameter_first one.direction (spell_type one.kind ++ one_token Identifier one.name) (more ++ closed) in
    rw opens (ap (λ (o : Result (Several Parameter × Lexemes) ℕ). o >>= λ ps. Ok (Some ps.0, ps.1)) (listed_reads nothing spell_parameter (λ n. parameter_with (type_at n)) refl parameter_later ps n le closed refl))

result_reads : (o : Option TypeTree) (n : ℕ) → length (spell_result o) < n → Reads goes_type (spell_result o) (result_with (type_at n)) o
unfolding result_with
result_reads None n lt rest h = refl
result_reads (Some t) n lt rest h =
    rw (type_is_not_void (first (spell_type t ++ rest)) ((type_is_again t).starts rest))
    (ap (λ (o : Result (TypeTree × Lexemes) ℕ). o >>= λ t. Ok (Some t.0, t.1)) (type_reads t n lt rest h))
  where
    type_is_not_void : (t : Option Lexeme) → is_type_start t ≡ true → is_word word.Void t ≡ false
    type_is_not_void (Some (Word word.Void)) h = absurd cc
    type_is_not_void _ h = refl

abbrev pub goes_text : Option Lexeme → Bool
goes_text = goes_or (λ t. is_some (text_of t)) nothing

text_item : (piece : List ℕ) → Deep nothing (λ t. is_some (text_of t)) (one_token Text) (λ n. pick text_of) piece
text_item piece = (record { passes = λ rest. refl; stops = λ rest. refl; some = omega arith }, λ n le rest h. refl)

text_later : (x : Several (List ℕ)) → Later goes_text spell_text (λ n. text_at) x
unfolding text_at
text_later = several_read nothing (λ t. is_some (text_of t)) (one_token Text) (λ n. pick text_of) text_item

pub text_reads : (x : Several (List ℕ)) → Reads goes_text (spell_text x) text_at x
text_reads x = text_later x (length (spell_text x)) (omega arith)

abbrev texts : Type 0
texts = Several (Several (List ℕ))

context_reads : (x : texts) → Reads nothing (spell_context x) context_at x
unfolding context_at
context_reads x rest h =
    let spelled : Lexemes = spell_listed spell_text x in
    then_reads (goes_or (is_mark mark.Comma) goes_text) nothing spelled (Punctuation mark.CloseParenthesis ∷ []) (listed_with text_at) (λ x ts. expect (is_mark mark.CloseParenthesis) ts >>= λ r. Ok (x, r)) x x
    (listed_reads goes_text spell_text (λ n. text_at) refl text_later x (length spelled) (omega arith)) (λ rest h. refl) (λ rest h. refl) rest refl

context_if_reads : (o : Option texts) → Reads (is_word word.Context) (spell_if spell_context o) context_if o
unfolding context_if
context_if_reads None rest h = rw h refl
context_if_reads (Some x) rest h = ap (λ (o : Result (texts × Lexemes) ℕ). o >>= λ x. Ok (Some x.0, x.1)) (context_reads x rest refl)

-- what would go on with an operation
abbrev pub goes_operation : Option Lexeme → Bool
goes_operation = goes_or (is_word word.Raises) (is_word word.Context)

context_first : (o : Option texts) (rest : Lexemes) → is_word word.Raises (first rest) ≡ false → is_word word.Raises (first (spell_if spell_context o ++ rest)) ≡ false
context_first None rest h = h
context_first (Some x) rest h = refl

ends_read : (make : Option (Several ScopedName) → Option texts → Operation) (rs : Option (Several ScopedName)) (xs : Option texts)
    → Reads goes_operation (spell_if spell_raises rs ++ spell_if spell_context xs) (λ ts. raises_if word.Raises ts >>= λ rs. context_if rs.1 >>= λ xs. Ok (make rs.0 xs.0, xs.1)) (make rs xs)
ends_read make rs xs rest h =
    let both = neither (is_word word.Raises (first rest)) (is_word word.Context (first rest)) h in
    let contexts : Lexemes = spell_if spell_context xs in
    ap (λ (w : Lexemes). raises_if word.Raises w >>= λ rs. context_if rs.1 >>= λ xs. Ok (make rs.0 xs.0, xs.1)) (append_assoc (spell_if spell_raises rs) contexts rest)
    ∙ ap (λ (o : Result (Option (Several ScopedName) × Lexemes) ℕ). o >>= λ rs. context_if rs.1 >>= λ xs. Ok (make rs.0 xs.0, xs.1)) (raises_if_reads word.Raises rs (contexts ++ rest) (context_first xs rest both.0))
    ∙ ap (λ (o : Result (Option texts × Lexemes) ℕ). o >>= λ xs. Ok (make rs xs.0, xs.1)) (context_if_reads xs rest both.1)

abbrev pub spell_ends : Operation → Lexemes
spell_ends o = spell_if spell_raises o.raises ++ spell_if spell_context o.context

abbrev pub spell_operation_rest : Operation → Lexemes
spell_operation_rest o = Punctuation mark.OpenParenthesis ∷ (spell_parameters o.parameters ++ (Punctuation mark.CloseParenthesis ∷ spell_ends o))

operation_rest_reads : (o : Operation) (n : ℕ) → length (spell_operation_rest o) ≤ n → Reads goes_operation (spell_operation_rest o) (operation_rest_with (type_at n) o.is_oneway o.result o.name) o
unfolding operation_rest_with
operation_rest_reads o n le rest h =
    let made : Option (Several Parameter) → Option (Several ScopedName) → Option texts → Operation = made_operation o.is_oneway o.result o.name in
    let ended : Option (Several Parameter) → Lexemes → Result (Operation × Lexemes) ℕ = λ ps ts. raises_if word.Raises ts >>= λ rs. context_if rs.1 >>= λ xs. Ok (made ps rs.0 xs.0, xs.1) in
    let behind : Option (Several Parameter) × Lexemes → Result (Operation × Lexemes) ℕ = λ ps. expect (is_mark mark.CloseParenthesis) ps.1 >>= λ r. ended ps.0 r in
    let closed : Lexemes = Punctuation mark.CloseParenthesis ∷ spell_ends o in
    ap (λ (w : Lexemes). parameters_with (type_at n) w >>= behind) (append_assoc (spell_parameters o.parameters) closed rest)
    ∙ ap (λ (x : Result (Option (Several Parameter) × Lexemes) ℕ). x >>= behind) (parameters_read o.parameters n (omega (arith, le, length-append (spell_parameters o.parameters) closed)) (spell_ends o ++ rest))
    ∙ ends_read (made o.parameters) o.raises o.context rest h

-- what follows `oneway`
abbrev spell_tail : Operation → Lexemes
spell_tail o = spell_result o.result ++ (Identifier o.name ∷ spell_operation_rest o)

abbrev tail_reader : ℕ → Bool → Reader Operation
tail_reader n is_oneway ts = result_with (type_at n) ts >>= λ result. identifier_at result.1 >>= λ name. operation_rest_with (type_at n) is_oneway result.0 name.0 name.1

tail_reads : (o : Operation) (n : ℕ) → length (spell_tail o) ≤ n → Reads goes_operation (spell_tail o) (tail_reader n o.is_oneway) o
tail_reads o n le =
    let sum = length-append (spell_result o.result) (Identifier o.name ∷ spell_operation_rest o) in
    then_reads goes_type goes_operation (spell_result o.result) (Identifier o.name ∷ spell_operation_rest o) (result_with (type_at n)) (λ result ts. identifier_at ts >>= λ name. operation_rest_with (type_at n) o.is_oneway result name.0 name.1) o.result o
    (result_reads o.result n (omega (arith, le, sum))) (operation_rest_reads o n (omega (arith, le, sum))) (λ rest h. refl)

type_is_not_oneway : (t : Option Lexeme) → is_type_start t ≡ true → is_word word.Oneway t ≡ false
type_is_not_oneway (Some (Word word.Oneway)) h = absurd cc
type_is_not_oneway _ h = refl

result_first : (o : Option TypeTree) (rest : Lexemes) → is_word word.Oneway (first (spell_result o ++ rest)) ≡ false
result_first None rest = refl
result_first (Some t) rest = type_is_not_oneway (first (spell_type t ++ rest)) ((type_is_again t).starts rest)

pub operation_reads : (o : Operation) (n : ℕ) → length (spell_operation o) ≤ n → Reads goes_operation (spell_operation o) (operation_with (type_at n)) o
unfolding operation_with
operation_reads o n le = by_oneway o.is_oneway o.result o.name o.parameters o.raises o.context le
  where
    by_oneway : (b : Bool) (result : Option TypeTree) (name : List ℕ) (ps : Option (Several Parameter)) (rs : Option (Several ScopedName)) (xs : Option texts)
        → length (spell_operation (made_operation b result name ps rs xs)) ≤ n → Reads goes_operation (spell_operation (made_operation b result name ps rs xs)) (operation_with (type_at n)) (made_operation b result name ps rs xs)
    by_oneway true result name ps rs xs le rest h = tail_reads (made_operation true result name ps rs xs) n (omega (arith, le)) rest h
    by_oneway false result name ps rs xs le rest h =
        let o : Operation = made_operation false result name ps rs xs in
        let opens = ap (λ (w : Lexemes). is_word word.Oneway (first w)) (append_assoc (spell_result result) (Identifier name ∷ spell_operation_rest o) rest) ∙ result_first result ((Identifier name ∷ spell_operation_rest o) ++ rest) in
        rw opens (tail_reads o n (omega (arith, le)) rest h)
