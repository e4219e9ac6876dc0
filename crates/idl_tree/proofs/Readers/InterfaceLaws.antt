-- What holds of the readers of attributes and operations.
use Rattle.std.proofs.Common.{◌≡◌, ℕ, suc, cond, is_some, List, [], ◌∷◌, ◌++◌, Option, Some, None, refl, ap, arith, ◌⊎◌, inl, inr}
use Rattle.idl_lex.specs.declared.kinds.keyword.Keyword.{Keyword}
use Rattle.idl_lex.specs.declared.kinds.keyword.Keyword.TheVariants as word
use Rattle.idl_lex.specs.declared.kinds.mark.Mark.TheVariants as mark
use Rattle.idl_tree.specs.DataType.{spell_type}
use Rattle.idl_tree.specs.Interface.{spell_list, spell_parameter, spell_text, spell_readonly_names, spell_attribute_names, spell_attribute, spell_exceptions, spell_readonly_attribute}
use Rattle.idl_tree.specs.Lexeme.{Lexeme, Lexemes, Word, Punctuation, Identifier, Text}
use Rattle.idl_tree.specs.Name.{spell_name}
use Rattle.idl_tree.specs.reading.ReadConstruction.{listed_with}
use Rattle.idl_tree.specs.reading.ReadExpression.{text_of, behind_with}
use Rattle.idl_tree.specs.reading.ReadInterface.{list_at, raises_at, raises_if, direction_of, passed, parameter_with, text_at, plain_names, readonly_names_at, plain_attribute_names, attribute_names_at, attribute_by, attribute_with, getraises_at, made_attribute, made_readonly_attribute, more_names_at, readonly_attribute_with, readonly_rest}
use Rattle.idl_tree.specs.reading.ReadName.{name_at}
use Rattle.idl_tree.specs.reading.Reading.{Reader, first}
use Rattle.idl_tree.specs.Several.{spell_listed, spell_if}
use Rattle.idl_tree.specs.reading.Tests.{is_mark, is_word, pick, identifier_at, keyword_of}
use Rattle.idl_tree.specs.declared.declarations.attribute.Attribute.{Attribute}
use Rattle.idl_tree.specs.declared.declarations.attribute.AttributeNames.{AttributeNames}
use Rattle.idl_tree.specs.declared.declarations.attribute.AttributeNames.TheVariants as names
use Rattle.idl_tree.specs.declared.declarations.attribute.AttributeRaises.{AttributeRaises}
use Rattle.idl_tree.specs.declared.declarations.attribute.AttributeRaises.TheVariants.{Get, Set}
use Rattle.idl_tree.specs.declared.declarations.attribute.ReadonlyAttribute.{ReadonlyAttribute}
use Rattle.idl_tree.specs.declared.declarations.attribute.ReadonlyNames.{ReadonlyNames}
use Rattle.idl_tree.specs.declared.declarations.attribute.ReadonlyNames.TheVariants as readonly
use Rattle.idl_tree.specs.declared.declarations.data_type.TypeTree.{TypeTree}
use Rattle.idl_tree.specs.declared.name.ScopedName.{ScopedName}
use Rattle.idl_tree.specs.declared.declarations.operation.Direction.{Direction}
use Rattle.idl_tree.specs.declared.declarations.operation.Direction.TheVariants.{In, Out, InOut}
use Rattle.idl_tree.specs.declared.several.Several.{Several}
use Rattle.idl_tree.proofs.Readers.ConstructionLaws.{listed_laws, all_laws}
use Rattle.idl_tree.proofs.Readers.ExpressionLaws.{texts_picked, spell_behind, behind_laws}
use Rattle.idl_tree.proofs.Laws.{Laws, same, either, next_at, mapped_at, behind_at, ends_at, then_laws, last_laws, done_laws, skip_laws, choice_laws, shape}
use Rattle.idl_tree.proofs.Many.{many_spell, many_laws}
use Rattle.idl_tree.proofs.Readers.NameLaws.{flat_map-many, name_laws}
use Rattle.idl_tree.proofs.Readers.NestedConstructionLaws.{raised}
use Rattle.idl_tree.proofs.Readers.Switch.{switch_laws}
use Rattle.idl_tree.proofs.Readers.TokenLaws.{Picks, only_mark, only_word, one_token, pick_laws, close_at, close_laws, some_is, identifier_laws}

abbrev name_list : Type 0
name_list = Several ScopedName

pub list_laws : (d N : ℕ) → Laws d N same spell_list (λ n. list_at)
unfolding list_at
list_laws d N = shape d N (λ (p : name_list × Unit {0}). p.0) (λ p. Punctuation mark.OpenParenthesis ∷ (spell_listed spell_name p.0 ++ Punctuation mark.CloseParenthesis ∷ [])) spell_list (behind_at (is_mark mark.OpenParenthesis) (next_at (λ n. listed_with name_at) (λ ns. close_at mark.CloseParenthesis ns))) (λ n. list_at) (λ p. refl) (λ n ts. refl)
    (skip_laws d N (is_mark mark.OpenParenthesis) (Punctuation mark.OpenParenthesis) (λ (p : name_list × Unit {0}). p.0) (λ p. spell_listed spell_name p.0 ++ Punctuation mark.CloseParenthesis ∷ []) (next_at (λ n. listed_with name_at) (λ ns. close_at mark.CloseParenthesis ns)) (only_mark mark.OpenParenthesis)
    (then_laws (suc d) N (spell_listed spell_name) (λ n. listed_with name_at) (λ (ns : name_list) (u : Unit {0}). ns) (λ u. Punctuation mark.CloseParenthesis ∷ []) (λ ns. close_at mark.CloseParenthesis ns)
    (listed_laws (suc d) N spell_name (λ n. name_at) (name_laws (suc d) N)) (λ ns. close_laws (suc d) N mark.CloseParenthesis ns)))

abbrev pub spell_raised : Keyword → name_list → Lexemes
spell_raised k ns = Word k ∷ spell_list ns

pub raises_laws : (d N : ℕ) (k : Keyword) → Laws d N same (spell_raised k) (λ n. raises_at k)
unfolding raises_at
raises_laws d N k = skip_laws d N (is_word k) (Word k) same spell_list (λ n. list_at) (only_word k) (list_laws (suc d) N)

pub raises_if_laws : (d N : ℕ) (k : Keyword) → Laws d N same (spell_if (spell_raised k)) (λ n. raises_if k)
unfolding raises_if
raises_if_laws d N k = shape d N (either (λ (ns : name_list). Some ns) (λ (u : Unit {0}). None)) (either (spell_raised k) (λ u. [])) (spell_if (spell_raised k)) (λ n ts. cond (is_word k (first ts)) (mapped_at (λ (ns : name_list). Some ns) (λ n. raises_at k) n ts) (ends_at None n ts)) (λ n. raises_if k) either_raised (λ n ts. refl)
    (choice_laws d N (is_word k) (λ (ns : name_list). Some ns) (spell_raised k) (mapped_at (λ (ns : name_list). Some ns) (λ n. raises_at k)) (λ (u : Unit {0}). None) (λ u. []) (ends_at None)
    (last_laws d N (λ (ns : name_list). Some ns) (spell_raised k) (λ n. raises_at k) (raises_laws d N k)) (done_laws d N None))
  where
    either_raised : (x : name_list ⊎ Unit {0}) → spell_if (spell_raised k) (either (λ (ns : name_list). Some ns) (λ (u : Unit {0}). None) x) ≡ either (spell_raised k) (λ u. []) x
    either_raised (inl ns) = refl
    either_raised (inr u) = refl

abbrev direction_token : Direction → Lexeme
direction_token In = Word word.In
direction_token Out = Word word.Out
direction_token InOut = Word word.Inout

directions_picked : Picks direction_of direction_token
directions_picked = record { example = In; wanted = refl; only = only; again = again }
  where
    only : (t : Lexeme) (a : Direction) → direction_of (Some t) ≡ Some a → t ≡ direction_token a
    only (Word word.In) a h = ap direction_token (some_is In a h)
    only (Word word.Out) a h = ap direction_token (some_is Out a h)
    only (Word word.Inout) a h = ap direction_token (some_is InOut a h)
    only _ a h = absurd cc

    again : (a : Direction) → direction_of (Some (direction_token a)) ≡ Some a
    again In = refl
    again Out = refl
    again InOut = refl

pub parameter_laws : (d N : ℕ) (rt : ℕ → Reader TypeTree) → Laws d N same spell_type rt → Laws d N same spell_parameter (λ n. parameter_with (rt n))
unfolding parameter_with
parameter_laws d N rt types = shape d N (λ (p : Direction × (TypeTree × List ℕ)). passed p.0 p.1.0 p.1.1) (λ p. one_token direction_token p.0 ++ (spell_type p.1.0 ++ one_token Identifier p.1.1)) spell_parameter (next_at (λ n. pick direction_of) (λ x. next_at rt (λ t. mapped_at (passed x t) (λ n. identifier_at)))) (λ n. parameter_with (rt n)) spells (λ n ts. refl)
    (then_laws d N (one_token direction_token) (λ n. pick direction_of) (λ (x : Direction) (q : TypeTree × List ℕ). passed x q.0 q.1) (λ q. spell_type q.0 ++ one_token Identifier q.1) (λ x. next_at rt (λ t. mapped_at (passed x t) (λ n. identifier_at))) (pick_laws d N direction_of direction_token directions_picked)
    (λ x. then_laws d N spell_type rt (λ (t : TypeTree) (name : List ℕ). passed x t name) (one_token Identifier) (λ t. mapped_at (passed x t) (λ n. identifier_at)) types
    (λ t. last_laws d N (passed x t) (one_token Identifier) (λ n. identifier_at) (identifier_laws d N))))
  where
    spells : (p : Direction × (TypeTree × List ℕ)) → spell_parameter (passed p.0 p.1.0 p.1.1) ≡ one_token direction_token p.0 ++ (spell_type p.1.0 ++ one_token Identifier p.1.1)
    spells (In, q) = refl
    spells (Out, q) = refl
    spells (InOut, q) = refl

pub text_laws : (d N : ℕ) → Laws d N same spell_text (λ n. text_at)
unfolding text_at
text_laws d N = all_laws d N (λ t. is_some (text_of t)) (one_token Text) (λ n. pick text_of) (λ x. omega arith) (pick_laws d N text_of Text texts_picked)

-- ---- names of attributes

abbrev spell_more : List (List ℕ) → Lexemes
spell_more = many_spell (spell_behind mark.Comma (one_token Identifier))

more_names_laws : (d N : ℕ) → Laws d N same spell_more (λ n. more_names_at)
more_names_laws d N = many_laws d N (is_mark mark.Comma) (spell_behind mark.Comma (one_token Identifier)) (λ n. behind_with mark.Comma identifier_at) (λ x. omega arith)
    (behind_laws d N mark.Comma (one_token Identifier) (λ n. identifier_at) (identifier_laws (suc d) N))

abbrev readonly_value : List ℕ → Several ScopedName ⊎ List (List ℕ) → ReadonlyNames
readonly_value name = either (readonly.Raising name) (plain_names name)

abbrev spell_readonly_rest : Several ScopedName ⊎ List (List ℕ) → Lexemes
spell_readonly_rest = either (spell_raised word.Raises) spell_more

readonly_rest_laws : (d N : ℕ) (name : List ℕ) → Laws d N (readonly_value name) spell_readonly_rest (λ n. readonly_rest name)
unfolding readonly_rest
readonly_rest_laws d N name =
    choice_laws d N (is_word word.Raises) (readonly.Raising name) (spell_raised word.Raises) (mapped_at (readonly.Raising name) (λ n. raises_at word.Raises)) (plain_names name) spell_more (mapped_at (plain_names name) (λ n. more_names_at))
    (last_laws d N (readonly.Raising name) (spell_raised word.Raises) (λ n. raises_at word.Raises) (raises_laws d N word.Raises)) (last_laws d N (plain_names name) spell_more (λ n. more_names_at) (more_names_laws d N))

pub readonly_names_laws : (d N : ℕ) → Laws d N same spell_readonly_names (λ n. readonly_names_at)
unfolding readonly_names_at
readonly_names_laws d N = shape d N (λ (p : List ℕ × (Several ScopedName ⊎ List (List ℕ))). readonly_value p.0 p.1) (λ p. one_token Identifier p.0 ++ spell_readonly_rest p.1) spell_readonly_names
    (next_at (λ n. identifier_at) (λ name n. readonly_rest name)) (λ n. readonly_names_at) spells (λ n ts. refl)
    (then_laws d N (one_token Identifier) (λ n. identifier_at) readonly_value spell_readonly_rest (λ name n. readonly_rest name) (identifier_laws d N) (readonly_rest_laws d N))
  where
    spells : (p : List ℕ × (Several ScopedName ⊎ List (List ℕ))) → spell_readonly_names (readonly_value p.0 p.1) ≡ one_token Identifier p.0 ++ spell_readonly_rest p.1
    spells (name, inl ns) = refl
    spells (name, inr more) = ap (λ (w : Lexemes). Identifier name ∷ w) (flat_map-many (spell_behind mark.Comma (one_token Identifier)) more)

spells_got : (p : Several ScopedName × Option (Several ScopedName)) → spell_exceptions (Get p.0 p.1) ≡ spell_raised word.Getraises p.0 ++ spell_if (spell_raised word.Setraises) p.1
spells_got (ns, Some set) = refl
spells_got (ns, None) = refl

getraises_laws : (d N : ℕ) → Laws d N same spell_exceptions (λ n. getraises_at)
unfolding getraises_at
getraises_laws d N = shape d N (λ (p : Several ScopedName × Option (Several ScopedName)). Get p.0 p.1) (λ p. spell_raised word.Getraises p.0 ++ spell_if (spell_raised word.Setraises) p.1) spell_exceptions
    (next_at (λ n. raises_at word.Getraises) (λ got. mapped_at (Get got) (λ n. raises_if word.Setraises))) (λ n. getraises_at) spells_got (λ n ts. refl)
    (then_laws d N (spell_raised word.Getraises) (λ n. raises_at word.Getraises) Get (spell_if (spell_raised word.Setraises)) (λ got. mapped_at (Get got) (λ n. raises_if word.Setraises)) (raises_laws d N word.Getraises)
    (λ got. last_laws d N (Get got) (spell_if (spell_raised word.Setraises)) (λ n. raises_if word.Setraises) (raises_if_laws d N word.Setraises)))

-- what follows the first name, by its first keyword
abbrev attribute_parts : Option Keyword → Type 0
attribute_parts (Some word.Getraises) = AttributeRaises
attribute_parts (Some word.Setraises) = Several ScopedName
attribute_parts _ = List (List ℕ)

abbrev attribute_value : List ℕ → (k : Option Keyword) → attribute_parts k → AttributeNames
attribute_value name (Some word.Getraises) raised = names.Raising name raised
attribute_value name (Some word.Setraises) set = names.Raising name (Set set)
attribute_value name _ more = plain_attribute_names name more

abbrev spell_attribute_rest : (k : Option Keyword) → attribute_parts k → Lexemes
spell_attribute_rest (Some word.Getraises) raised = spell_exceptions raised
spell_attribute_rest (Some word.Setraises) set = spell_raised word.Setraises set
spell_attribute_rest _ more = spell_more more

attribute_each : (d N : ℕ) (name : List ℕ) (k : Option Keyword) → Laws d N (attribute_value name k) (spell_attribute_rest k) (λ n. attribute_by name k)
attribute_each d N name (Some word.Getraises) = last_laws d N (names.Raising name) spell_exceptions (λ n. getraises_at) (getraises_laws d N)
attribute_each d N name (Some word.Setraises) = last_laws d N (λ set. names.Raising name (Set set)) (spell_raised word.Setraises) (λ n. raises_at word.Setraises) (raises_laws d N word.Setraises)
attribute_each d N name _ = last_laws d N (plain_attribute_names name) spell_more (λ n. more_names_at) (more_names_laws d N)

abbrev attribute_names_parts : Type 0
attribute_names_parts = List ℕ × ((k : Option Keyword) × attribute_parts k)

spells_named : (name : List ℕ) (k : Option Keyword) (x : attribute_parts k) → spell_attribute_names (attribute_value name k x) ≡ Identifier name ∷ spell_attribute_rest k x
spells_named name (Some word.Getraises) raised = refl
spells_named name (Some word.Setraises) set = refl
spells_named name _ more = ap (λ (w : Lexemes). Identifier name ∷ w) (flat_map-many (spell_behind mark.Comma (one_token Identifier)) more)

pub attribute_names_laws : (d N : ℕ) → Laws d N same spell_attribute_names (λ n. attribute_names_at)
unfolding attribute_names_at
attribute_names_laws d N =
    let rest_at : List ℕ → ℕ → Reader AttributeNames = λ name n ts. attribute_by name (keyword_of (first ts)) ts in
    shape d N (λ (p : attribute_names_parts). attribute_value p.0 p.1.0 p.1.1) (λ p. one_token Identifier p.0 ++ spell_attribute_rest p.1.0 p.1.1) spell_attribute_names
    (next_at (λ n. identifier_at) rest_at) (λ n. attribute_names_at) (λ p. spells_named p.0 p.1.0 p.1.1) (λ n ts. refl)
    (then_laws d N (one_token Identifier) (λ n. identifier_at) (λ (name : List ℕ) (q : (k : Option Keyword) × attribute_parts k). attribute_value name q.0 q.1) (λ q. spell_attribute_rest q.0 q.1) rest_at (identifier_laws d N)
    (λ name. switch_laws d N keyword_of (attribute_value name) spell_attribute_rest (λ k n. attribute_by name k) None (attribute_each d N name)))

-- ---- attributes

pub readonly_attribute_laws : (d N : ℕ) (rt : ℕ → Reader TypeTree) → Laws (suc (suc d)) N same spell_type rt → Laws d N same spell_readonly_attribute (λ n. readonly_attribute_with (rt n))
unfolding readonly_attribute_with
readonly_attribute_laws d N rt types =
    let rest_at : ℕ → Reader ReadonlyAttribute = next_at rt (λ t. mapped_at (made_readonly_attribute t) (λ n. readonly_names_at)) in
    let value : TypeTree × ReadonlyNames → ReadonlyAttribute = λ p. made_readonly_attribute p.0 p.1 in
    shape d N value (λ p. Word word.Readonly ∷ Word word.Attribute ∷ (spell_type p.0 ++ spell_readonly_names p.1)) spell_readonly_attribute
    (behind_at (is_word word.Readonly) (behind_at (is_word word.Attribute) rest_at)) (λ n. readonly_attribute_with (rt n)) (λ p. refl) (λ n ts. refl)
    (skip_laws d N (is_word word.Readonly) (Word word.Readonly) value (λ p. Word word.Attribute ∷ (spell_type p.0 ++ spell_readonly_names p.1)) (behind_at (is_word word.Attribute) rest_at) (only_word word.Readonly)
    (skip_laws (suc d) N (is_word word.Attribute) (Word word.Attribute) value (λ p. spell_type p.0 ++ spell_readonly_names p.1) rest_at (only_word word.Attribute)
    (then_laws (suc (suc d)) N spell_type rt made_readonly_attribute spell_readonly_names (λ t. mapped_at (made_readonly_attribute t) (λ n. readonly_names_at)) types
    (λ t. last_laws (suc (suc d)) N (made_readonly_attribute t) spell_readonly_names (λ n. readonly_names_at) (readonly_names_laws (suc (suc d)) N)))))

pub attribute_laws : (d N : ℕ) (rt : ℕ → Reader TypeTree) → Laws (suc d) N same spell_type rt → Laws d N same spell_attribute (λ n. attribute_with (rt n))
unfolding attribute_with
attribute_laws d N rt types =
    let rest_at : ℕ → Reader Attribute = next_at rt (λ t. mapped_at (made_attribute t) (λ n. attribute_names_at)) in
    let value : TypeTree × AttributeNames → Attribute = λ p. made_attribute p.0 p.1 in
    shape d N value (λ p. Word word.Attribute ∷ (spell_type p.0 ++ spell_attribute_names p.1)) spell_attribute
    (behind_at (is_word word.Attribute) rest_at) (λ n. attribute_with (rt n)) (λ p. refl) (λ n ts. refl)
    (skip_laws d N (is_word word.Attribute) (Word word.Attribute) value (λ p. spell_type p.0 ++ spell_attribute_names p.1) rest_at (only_word word.Attribute)
    (then_laws (suc d) N spell_type rt made_attribute spell_attribute_names (λ t. mapped_at (made_attribute t) (λ n. attribute_names_at)) types
    (λ t. last_laws (suc d) N (made_attribute t) spell_attribute_names (λ n. attribute_names_at) (attribute_names_laws (suc d) N))))
