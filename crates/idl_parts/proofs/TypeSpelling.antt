-- The parts of a type are spelled as it is, and those of a declared name.
use Rattle.std.proofs.Common.{◌≡◌, ◌∙◌, List, [], ◌∷◌, ◌++◌, Option, None, Some, flat_map, is_some, refl, sym, ap, subst}
use Rattle.std.proofs.lemmas.List.{append-nil}
use Rattle.idl_lex.specs.declared.kinds.keyword.Keyword.TheVariants as word
use Rattle.idl_lex.specs.declared.kinds.mark.Mark.TheVariants as mark
use Rattle.idl_parts.specs.Part.{Parts, Plain, TypeEnds, punctuation, spell_parts}
use Rattle.idl_parts.specs.ExpressionParts.{value_parts}
use Rattle.idl_parts.specs.TypeParts.{array_end, bound_parts, constant_type_parts, data_type_step, declarator_parts, length_parts, limit_parts, plain_parts, sequence_step, string_parts, type_parts_as}
use Rattle.idl_parts.specs.declared.part.Declaration.{Declaration}
use Rattle.idl_parts.specs.declared.part.Shape.TheVariants.{Text, Sequence as Elements}
use Rattle.idl_parts.specs.declared.part.Purpose.TheVariants.{Bound, Length}
use Rattle.idl_parts.specs.declared.part.Use.{Use}
use Rattle.idl_parts.specs.declared.part.Use.TheVariants.{AsElement}
use Rattle.idl_tree.proofs.Readers.NestedTypeLaws.{spell_type-plain, spell_type-sequence}
use Rattle.idl_tree.specs.DataType.{spell_basic, spell_bound, spell_declarator, spell_discrete, spell_length, spell_limit, spell_plain, spell_string, spell_string_word, spell_type}
use Rattle.idl_tree.specs.Expression.{spell_expression}
use Rattle.idl_tree.specs.Lexeme.{Lexemes, Identifier, Punctuation, Word}
use Rattle.idl_tree.specs.Name.{spell_name}
use Rattle.idl_tree.specs.reading.ReadType.{made_sequence}
use Rattle.idl_tree.specs.Unit.{spell_constant_type}
use Rattle.idl_tree.specs.declared.declarations.data_type.TypeTree.{TypeTree, fold-TypeTree, ind-TypeTree, map-TypeTree, roll-TypeTree}
use Rattle.idl_tree.specs.declared.declarations.data_type.TypeTree.TheFolds.{fold-roll-TypeTree, fold-roll-Sequence}
use Rattle.idl_tree.specs.declared.declarations.data_type.TypeTree.TheOpen.{TypeTree-F}
use Rattle.idl_tree.specs.declared.declarations.data_type.TypeTree.TheVariants.{rolls-Plain, rolls-Sequence}
use Rattle.idl_tree.specs.declared.declarations.data_type.TypeTree.TheVariants as data_type
use Rattle.idl_tree.specs.declared.declarations.data_type.PlainType.{PlainType}
use Rattle.idl_tree.specs.declared.declarations.data_type.PlainType.TheVariants as plain
use Rattle.idl_tree.specs.declared.declarations.data_type.Sequence.{Sequence, roll-Sequence}
use Rattle.idl_tree.specs.declared.declarations.data_type.StringType.{StringType}
use Rattle.idl_tree.specs.declared.declarations.declarator.Declarator.{Declarator}
use Rattle.idl_tree.specs.declared.expression.Expression.{Expression}
use Rattle.idl_tree.specs.declared.unit.ConstantTypeTree.{ConstantTypeTree}
use Rattle.idl_tree.specs.declared.unit.ConstantTypeTree.TheVariants as constant
use Rattle.idl_parts.proofs.ExpressionSpelling.{value_spells}
use Rattle.idl_parts.proofs.PartSpelling.{spells-each, spells-then}
use Rattle.idl_parts.proofs.Such.{Such}

bound_spells : (e : Option Expression) → spell_parts (bound_parts e) ≡ spell_bound e
bound_spells None = refl
bound_spells (Some e) =
    ap (λ (w : Lexemes). Punctuation mark.Less ∷ w)
    (spells-then (value_parts Bound e) (punctuation mark.Greater ∷ []) (spell_expression e) (Punctuation mark.Greater ∷ []) (value_spells Bound e) refl)

limit_spells : (e : Option Expression) → spell_parts (limit_parts e) ≡ spell_limit e
limit_spells None = refl
limit_spells (Some e) = ap (λ (w : Lexemes). Punctuation mark.Comma ∷ w) (value_spells Bound e)

string_spells : (s : StringType) → spell_parts (string_parts s) ≡ spell_string s
string_spells s =
    ap (λ (w : Lexemes). spell_string_word s.is_wide ++ w)
    (spells-then (bound_parts s.bound) (TypeEnds (Text s.is_wide (is_some s.bound)) ∷ []) (spell_bound s.bound) [] (bound_spells s.bound) refl ∙ append-nil (spell_bound s.bound))

plain_spells : (p : PlainType) (way : Use) → spell_parts (plain_parts p way) ≡ spell_plain p
plain_spells (plain.Basic b) way = append-nil (spell_basic b)
plain_spells (plain.String s) way = string_spells s
plain_spells (plain.Name n) way = append-nil (spell_name n)

type_parts-plain : (p : PlainType) (way : Use) → type_parts_as (data_type.Plain p) way ≡ plain_parts p way
unfolding type_parts_as
type_parts-plain p way = ap (λ (f : Use → Parts). f way)
    (ap (fold-TypeTree (Use → Parts) (Use → Parts) data_type_step sequence_step) (sym (rolls-Plain p))
    ∙ fold-roll-TypeTree (Use → Parts) (Use → Parts) data_type_step sequence_step (TypeTree-F.Plain p))

type_parts-sequence : (t : TypeTree) (b : Option Expression) (way : Use)
    → type_parts_as (made_sequence t b) way ≡ Plain (Word word.Sequence ∷ Punctuation mark.Less ∷ []) ∷ (type_parts_as t AsElement ++ (limit_parts b ++ punctuation mark.Greater ∷ TypeEnds (Elements (is_some b)) ∷ []))
unfolding type_parts_as
type_parts-sequence t b way =
    let s = roll-Sequence (record { element = t; bound = b }) in
    ap (λ (f : Use → Parts). f way)
    (ap (fold-TypeTree (Use → Parts) (Use → Parts) data_type_step sequence_step) (sym (rolls-Sequence s))
    ∙ fold-roll-TypeTree (Use → Parts) (Use → Parts) data_type_step sequence_step (TypeTree-F.Sequence s)
    ∙ fold-roll-Sequence (Use → Parts) (Use → Parts) data_type_step sequence_step (record { element = t; bound = b }))

-- the claims by which the induction goes
abbrev Types : TypeTree → Type 0
Types t = (way : Use) → spell_parts (type_parts_as t way) ≡ spell_type t

abbrev Sequences : Sequence → Type 0
Sequences s = Types (data_type.Sequence s)

sequence_spells : (t : TypeTree) (b : Option Expression) → Types t → Types (made_sequence t b)
sequence_spells t b h way =
    ap spell_parts (type_parts-sequence t b way)
    ∙ ap (λ (w : Lexemes). Word word.Sequence ∷ Punctuation mark.Less ∷ w)
    (spells-then (type_parts_as t AsElement) (limit_parts b ++ punctuation mark.Greater ∷ TypeEnds (Elements (is_some b)) ∷ []) (spell_type t) (spell_limit b ++ Punctuation mark.Greater ∷ []) (h AsElement)
    (spells-then (limit_parts b) (punctuation mark.Greater ∷ TypeEnds (Elements (is_some b)) ∷ []) (spell_limit b) (Punctuation mark.Greater ∷ []) (limit_spells b) refl))
    ∙ sym (spell_type-sequence t b)

by_type : (y : TypeTree-F (Such Types) (Such Sequences)) → Types (roll-TypeTree (map-TypeTree (Such Types) (Such Sequences) TypeTree Sequence (λ e. e.0) (λ e. e.0) y))
by_type (TypeTree-F.Plain p) = subst Types (sym (rolls-Plain p)) (λ way. ap spell_parts (type_parts-plain p way) ∙ plain_spells p way ∙ sym (spell_type-plain p))
by_type (TypeTree-F.Sequence s) = subst Types (sym (rolls-Sequence s.0)) s.1

pub type_spells : (t : TypeTree) (way : Use) → spell_parts (type_parts_as t way) ≡ spell_type t
type_spells = ind-TypeTree Types Sequences
    (λ x y is. subst (λ z. Types (roll-TypeTree z)) is (by_type y))
    (λ x y is. subst (λ z. Sequences (roll-Sequence z)) is (sequence_spells y.element.0 y.bound y.element.1))

pub constant_type_spells : (t : ConstantTypeTree) → spell_parts (constant_type_parts t) ≡ spell_constant_type t
constant_type_spells (constant.Discrete d) = append-nil (spell_discrete d)
constant_type_spells (constant.String s) = string_spells s
constant_type_spells (constant.Name n) = append-nil (spell_name n)

length_spells : (e : Expression) → spell_parts (length_parts e) ≡ spell_length e
length_spells e =
    ap (λ (w : Lexemes). Punctuation mark.OpenBracket ∷ w)
    (spells-then (value_parts Length e) (punctuation mark.CloseBracket ∷ []) (spell_expression e) (Punctuation mark.CloseBracket ∷ []) (value_spells Length e) refl)

-- the mark behind the lengths has no tokens
array_end_spells : (lengths : List Expression) → spell_parts (array_end lengths) ≡ []
array_end_spells [] = refl
array_end_spells (e ∷ lengths) = refl

pub declarator_spells : (declaration : Declaration) (d : Declarator) → spell_parts (declarator_parts declaration d) ≡ spell_declarator d
declarator_spells declaration d = ap (λ (w : Lexemes). Identifier d.name ∷ w)
    (spells-then (flat_map length_parts d.lengths) (array_end d.lengths) (flat_map spell_length d.lengths) [] (spells-each length_parts spell_length length_spells d.lengths) (array_end_spells d.lengths)
    ∙ append-nil (flat_map spell_length d.lengths))
