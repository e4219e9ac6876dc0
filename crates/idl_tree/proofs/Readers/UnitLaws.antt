-- What holds of the reader of units.
-- ---- declarations
use Rattle.std.proofs.Common.{Bool, Err, List, None, Option, Some, [], ap, cond, drop, false, inl, inr, length, refl, suc, true, ℕ, ◌++◌, ◌∙◌, ◌∷◌, ◌≡◌, ◌⊎◌}
use Rattle.idl_lex.specs.declared.kinds.keyword.Keyword.{Keyword}
use Rattle.idl_lex.specs.declared.kinds.keyword.Keyword.TheVariants as word
use Rattle.idl_lex.specs.declared.kinds.mark.Mark.TheVariants as mark
use Rattle.idl_tree.specs.Construction.{spell_construction, spell_enumeration, spell_member, spell_member_type}
use Rattle.idl_tree.specs.DataType.{spell_discrete, spell_string, spell_type}
use Rattle.idl_tree.specs.Expression.{spell_expression}
use Rattle.idl_tree.specs.Interface.{spell_attribute, spell_bases, spell_operation, spell_readonly_attribute, spell_text}
use Rattle.idl_tree.specs.Lexeme.{Identifier, Lexemes, Punctuation, Word}
use Rattle.idl_tree.specs.Name.{spell_name}
use Rattle.idl_tree.specs.reading.ReadConstruction.{construction_at, enumeration_at, listed_with, member_type_with, members_with, structure_rest_with, union_rest_with}
use Rattle.idl_tree.specs.reading.ReadExpression.{expression_at}
use Rattle.idl_tree.specs.reading.ReadInterface.{attribute_with, operation_with, readonly_attribute_with, text_at}
use Rattle.idl_tree.specs.reading.ReadName.{name_at}
use Rattle.idl_tree.specs.reading.ReadType.{discrete_at, string_with, type_at}
use Rattle.idl_tree.specs.reading.ReadUnit.{ahead, bases_at, closing_at, constant_type_by, constant_type_with, constant_with, declaration_by, declaration_with, ended_with, equals_at, exception_with, interface_at, interface_rest, made_constant, made_exception, made_typedef, made_typeid, made_typeprefix, module_at, native_at, opened, structure_declaration_with, typedef_with, typeid_at, typeprefix_at, union_declaration_with, unit_at, unit_by, unit_with}
use Rattle.idl_tree.specs.reading.Reading.{Reader, expect, first, ◌>>=◌}
use Rattle.idl_tree.specs.Several.{spell_listed}
use Rattle.idl_tree.specs.reading.Tests.{identifier_at, is_mark, is_word, keyword_of}
use Rattle.idl_tree.specs.Unit.{spell, spell_constant, spell_constant_type, spell_equals, spell_exception, spell_typedef, spell_typeid, spell_typeprefix}
use Rattle.idl_tree.specs.declared.declarations.construction.Construction.{Construction}
use Rattle.idl_tree.specs.declared.declarations.construction.Construction.TheVariants as construction
use Rattle.idl_tree.specs.declared.declarations.construction.Enumeration.{Enumeration}
use Rattle.idl_tree.specs.declared.declarations.construction.Member.{Member}
use Rattle.idl_tree.specs.declared.declarations.construction.MemberType.{MemberType}
use Rattle.idl_tree.specs.declared.declarations.construction.Structure.{Structure}
use Rattle.idl_tree.specs.declared.declarations.construction.Union.{Union}
use Rattle.idl_tree.specs.declared.declarations.data_type.TypeTree.{TypeTree}
use Rattle.idl_tree.specs.declared.declarations.declarator.Declarator.{Declarator}
use Rattle.idl_tree.specs.declared.expression.Expression.{Expression}
use Rattle.idl_tree.specs.declared.declarations.interface.Forward.TheVariants as forward
use Rattle.idl_tree.specs.declared.name.ScopedName.{ScopedName}
use Rattle.idl_tree.specs.declared.several.Several.{Several}
use Rattle.idl_tree.specs.declared.unit.Constant.{Constant}
use Rattle.idl_tree.specs.declared.unit.ConstantTypeTree.{ConstantTypeTree}
use Rattle.idl_tree.specs.declared.unit.ConstantTypeTree.TheVariants as constant_type
use Rattle.idl_tree.specs.declared.unit.Exception.{Exception}
use Rattle.idl_tree.specs.declared.unit.Tree.{Tree}
use Rattle.idl_tree.specs.declared.unit.Tree.TheVariants as tree
use Rattle.idl_tree.specs.declared.unit.Typedef.{Typedef}
use Rattle.idl_tree.specs.declared.unit.Typeid.{Typeid}
use Rattle.idl_tree.specs.declared.unit.Typeprefix.{Typeprefix}
use Rattle.idl_tree.proofs.Readers.ConstructionLaws.{declarators_at, declarators_laws, listed_laws, member_type_laws, spell_declarators}
use Rattle.idl_tree.proofs.ConstructionSpelling.{spell_construction-enumeration, spell_construction-structure, spell_construction-union, spell_members, spell_structure-made, spell_union-made}
use Rattle.idl_tree.proofs.Readers.ExpressionLaws.{expression_laws}
use Rattle.idl_tree.proofs.Readers.InterfaceLaws.{attribute_laws, readonly_attribute_laws, text_laws}
use Rattle.idl_tree.proofs.Laws.{Laws, behind_at, choice_laws, deeper, done_laws, either, either_spells, ends_at, follow_laws, last_laws, mapped_at, next_at, ok, same, shape, skip_laws, then_laws, valued_laws}
use Rattle.idl_tree.proofs.Readers.NameLaws.{flat_map-many, name_laws}
use Rattle.idl_tree.proofs.Readers.NestedConstructionLaws.{cases_behind, construction_laws, enumeration_laws, members_behind, members_laws, more_room, spell_structure_rest, spell_switched, structure_of, structure_parts, structure_rest_laws, switch_parts, union_of, union_rest_laws}
use Rattle.idl_tree.proofs.Readers.NestedTypeLaws.{type_laws}
use Rattle.idl_tree.proofs.Readers.OperationLaws.{operation_laws}
use Rattle.idl_tree.proofs.Readers.Switch.{by_laws, mapped_laws}
use Rattle.idl_tree.proofs.Readers.TokenLaws.{close_at, close_laws, identifier_laws, one_token, only_mark, only_word}
use Rattle.idl_tree.proofs.Readers.TypeLaws.{discrete_laws, string_laws}

pub typedef_laws : (d N : ℕ) (re : ℕ → Reader Expression) (rt : ℕ → Reader TypeTree) (rc : ℕ → Reader Construction) → Laws d N same spell_expression re → Laws d N same spell_type rt → Laws d N same spell_construction rc
    → Laws d N same spell_typedef (λ n. typedef_with (re n) (rt n) (rc n))
unfolding typedef_with
typedef_laws d N re rt rc expressions types constructions =
    let kind_at : ℕ → Reader MemberType = λ n. member_type_with (rt n) (rc n) in
    let rest_at : MemberType → ℕ → Reader Typedef = λ t. mapped_at (made_typedef t) (declarators_at re) in
    let value : MemberType × Several Declarator → Typedef = λ p. made_typedef p.0 p.1 in
    shape d N value (λ p. Word word.Typedef ∷ (spell_member_type p.0 ++ spell_declarators p.1)) spell_typedef (behind_at (is_word word.Typedef) (next_at kind_at rest_at)) (λ n. typedef_with (re n) (rt n) (rc n)) (λ p. refl) (λ n ts. refl)
    (skip_laws d N (is_word word.Typedef) (Word word.Typedef) value (λ p. spell_member_type p.0 ++ spell_declarators p.1) (next_at kind_at rest_at) (only_word word.Typedef)
    (then_laws (suc d) N spell_member_type kind_at made_typedef spell_declarators rest_at (member_type_laws (suc d) N rt rc (deeper d N same spell_type rt types) (deeper d N same spell_construction rc constructions))
    (λ t. last_laws (suc d) N (made_typedef t) spell_declarators (declarators_at re) (declarators_laws (suc d) N re (more_room d N 2 spell_expression re expressions)))))

constant_type_each : (d N : ℕ) (re : ℕ → Reader Expression) → Laws (suc d) N same spell_expression re → (k : Option Keyword) → Laws d N same spell_constant_type (λ n. constant_type_by (re n) k)
constant_type_each d N re laws (Some word.String) = mapped_laws d N constant_type.String spell_string spell_constant_type (λ n. string_with (re n)) (λ s. refl) (string_laws d N re laws)
constant_type_each d N re laws (Some word.Wstring) = mapped_laws d N constant_type.String spell_string spell_constant_type (λ n. string_with (re n)) (λ s. refl) (string_laws d N re laws)
constant_type_each d N re laws None = mapped_laws d N constant_type.Name spell_name spell_constant_type (λ n. name_at) (λ n. refl) (name_laws d N)
constant_type_each d N re laws _ = mapped_laws d N constant_type.Discrete spell_discrete spell_constant_type (λ n. discrete_at) (λ x. refl) (discrete_laws d N)

constant_type_laws : (d N : ℕ) (re : ℕ → Reader Expression) → Laws (suc d) N same spell_expression re → Laws d N same spell_constant_type (λ n. constant_type_with (re n))
unfolding constant_type_with
constant_type_laws d N re laws = by_laws d N keyword_of spell_constant_type (λ k n. constant_type_by (re n) k) None (constant_type_each d N re laws)

pub constant_laws : (d N : ℕ) (re : ℕ → Reader Expression) → Laws d N same spell_expression re → Laws d N same spell_constant (λ n. constant_with (re n))
unfolding constant_with
constant_laws d N re expressions =
    let value_at : ConstantTypeTree → List ℕ → ℕ → Reader Constant = λ t name. behind_at (is_mark mark.Equals) (mapped_at (made_constant t name) re) in
    let named_at : ConstantTypeTree → ℕ → Reader Constant = λ t. next_at (λ n. identifier_at) (value_at t) in
    let rest_at : ℕ → Reader Constant = next_at (λ n. constant_type_with (re n)) named_at in
    let value : ConstantTypeTree × (List ℕ × Expression) → Constant = λ p. made_constant p.0 p.1.0 p.1.1 in
    let spell_rest : List ℕ × Expression → Lexemes = λ q. one_token Identifier q.0 ++ (Punctuation mark.Equals ∷ spell_expression q.1) in
    shape d N value (λ p. Word word.Const ∷ (spell_constant_type p.0 ++ spell_rest p.1)) spell_constant (behind_at (is_word word.Const) rest_at) (λ n. constant_with (re n)) (λ p. refl) (λ n ts. refl)
    (skip_laws d N (is_word word.Const) (Word word.Const) value (λ p. spell_constant_type p.0 ++ spell_rest p.1) rest_at (only_word word.Const)
    (then_laws (suc d) N spell_constant_type (λ n. constant_type_with (re n)) (λ (t : ConstantTypeTree) (q : List ℕ × Expression). made_constant t q.0 q.1) spell_rest named_at (constant_type_laws (suc d) N re (more_room d N 2 spell_expression re expressions))
    (λ t. then_laws (suc d) N (one_token Identifier) (λ n. identifier_at) (made_constant t) (λ e. Punctuation mark.Equals ∷ spell_expression e) (value_at t) (identifier_laws (suc d) N)
    (λ name. skip_laws (suc d) N (is_mark mark.Equals) (Punctuation mark.Equals) (made_constant t name) spell_expression (mapped_at (made_constant t name) re) (only_mark mark.Equals)
    (last_laws (suc (suc d)) N (made_constant t name) spell_expression re (more_room d N 2 spell_expression re expressions))))))

abbrev exception_parts : Type 0
exception_parts = List ℕ × List Member

exceptions : (p : exception_parts) → spell_exception (made_exception p.0 p.1) ≡ Word word.Exception ∷ (one_token Identifier p.0 ++ spell_members p.1)
exceptions p = ap (λ (w : Lexemes). Word word.Exception ∷ Identifier p.0 ∷ Punctuation mark.OpenBrace ∷ (w ++ Punctuation mark.CloseBrace ∷ [])) (flat_map-many spell_member p.1)

pub exception_laws : (d N : ℕ) (re : ℕ → Reader Expression) (rt : ℕ → Reader TypeTree) (rc : ℕ → Reader Construction) → Laws d N same spell_expression re → Laws d N same spell_type rt → Laws d N same spell_construction rc
    → Laws d N same spell_exception (λ n. exception_with (re n) (rt n) (rc n))
unfolding exception_with
exception_laws d N re rt rc expressions types constructions =
    let members_at : ℕ → Reader (List Member) = λ n. members_with (re n) (rt n) (rc n) in
    let inside : List ℕ → ℕ → Reader Exception = λ name. mapped_at (made_exception name) members_at in
    let value : exception_parts → Exception = λ p. made_exception p.0 p.1 in
    shape d N value (λ p. Word word.Exception ∷ (one_token Identifier p.0 ++ spell_members p.1)) spell_exception
    (behind_at (is_word word.Exception) (next_at (λ n. identifier_at) inside)) (λ n. exception_with (re n) (rt n) (rc n)) exceptions (λ n ts. refl)
    (skip_laws d N (is_word word.Exception) (Word word.Exception) value (λ p. one_token Identifier p.0 ++ spell_members p.1) (next_at (λ n. identifier_at) inside) (only_word word.Exception)
    (then_laws (suc d) N (one_token Identifier) (λ n. identifier_at) made_exception spell_members inside (identifier_laws (suc d) N)
    (λ name. last_laws (suc d) N (made_exception name) spell_members members_at (members_laws (suc d) N re rt rc (members_behind d N 2 re rt rc expressions types constructions)))))

native_laws : (d N : ℕ) → Laws d N same (λ name. Word word.Native ∷ Identifier name ∷ []) (λ n. native_at)
unfolding native_at
native_laws d N = skip_laws d N (is_word word.Native) (Word word.Native) same (one_token Identifier) (λ n. identifier_at) (only_word word.Native) (identifier_laws (suc d) N)

typeid_laws : (d N : ℕ) → Laws d N same spell_typeid (λ n. typeid_at)
unfolding typeid_at
typeid_laws d N =
    let texted : ScopedName → ℕ → Reader Typeid = λ name. mapped_at (made_typeid name) (λ n. text_at) in
    let value : ScopedName × Several (List ℕ) → Typeid = λ p. made_typeid p.0 p.1 in
    shape d N value (λ p. Word word.Typeid ∷ (spell_name p.0 ++ spell_text p.1)) spell_typeid (behind_at (is_word word.Typeid) (next_at (λ n. name_at) texted)) (λ n. typeid_at) (λ p. refl) (λ n ts. refl)
    (skip_laws d N (is_word word.Typeid) (Word word.Typeid) value (λ p. spell_name p.0 ++ spell_text p.1) (next_at (λ n. name_at) texted) (only_word word.Typeid)
    (then_laws (suc d) N spell_name (λ n. name_at) made_typeid spell_text texted (name_laws (suc d) N)
    (λ name. last_laws (suc d) N (made_typeid name) spell_text (λ n. text_at) (text_laws (suc d) N))))

equals_laws : (d N : ℕ) → Laws d N same spell_equals (λ n. equals_at)
unfolding equals_at
equals_laws d N =
    shape d N (either (λ (u : Unit {0}). true) (λ (u : Unit {0}). false)) (either (λ u. Punctuation mark.Equals ∷ []) (λ u. [])) spell_equals
    (λ n ts. cond (is_mark mark.Equals (first ts)) (close_at mark.Equals true n ts) (ends_at false n ts)) (λ n. equals_at) spells (λ n ts. refl)
    (choice_laws d N (is_mark mark.Equals) (λ (u : Unit {0}). true) (λ u. Punctuation mark.Equals ∷ []) (close_at mark.Equals true) (λ (u : Unit {0}). false) (λ u. []) (ends_at false) (close_laws d N mark.Equals true) (done_laws d N false))
  where
    spells : (x : Unit {0} ⊎ Unit {0}) → spell_equals (either (λ (u : Unit {0}). true) (λ (u : Unit {0}). false) x) ≡ either (λ u. Punctuation mark.Equals ∷ []) (λ u. []) x
    spells (inl u) = refl
    spells (inr u) = refl

typeprefix_laws : (d N : ℕ) → Laws d N same spell_typeprefix (λ n. typeprefix_at)
unfolding typeprefix_at
typeprefix_laws d N =
    let texted : ScopedName → Bool → ℕ → Reader Typeprefix = λ name b. mapped_at (made_typeprefix name b) (λ n. text_at) in
    let named : ScopedName → ℕ → Reader Typeprefix = λ name. next_at (λ n. equals_at) (texted name) in
    let value : ScopedName × (Bool × Several (List ℕ)) → Typeprefix = λ p. made_typeprefix p.0 p.1.0 p.1.1 in
    let spell_rest : Bool × Several (List ℕ) → Lexemes = λ q. spell_equals q.0 ++ spell_text q.1 in
    shape d N value (λ p. Word word.Typeprefix ∷ (spell_name p.0 ++ spell_rest p.1)) spell_typeprefix (behind_at (is_word word.Typeprefix) (next_at (λ n. name_at) named)) (λ n. typeprefix_at) (λ p. refl) (λ n ts. refl)
    (skip_laws d N (is_word word.Typeprefix) (Word word.Typeprefix) value (λ p. spell_name p.0 ++ spell_rest p.1) (next_at (λ n. name_at) named) (only_word word.Typeprefix)
    (then_laws (suc d) N spell_name (λ n. name_at) (λ (name : ScopedName) (q : Bool × Several (List ℕ)). made_typeprefix name q.0 q.1) spell_rest named (name_laws (suc d) N)
    (λ name. then_laws (suc d) N spell_equals (λ n. equals_at) (made_typeprefix name) spell_text (texted name) (equals_laws (suc d) N)
    (λ b. last_laws (suc d) N (made_typeprefix name b) spell_text (λ n. text_at) (text_laws (suc d) N)))))

-- ---- openings and closings

closing_laws : (d N : ℕ) → Laws d N same spell (λ n. closing_at)
unfolding closing_at spell
closing_laws d N = shape d N (λ (u : Unit {0}). tree.Closing) (λ u. Punctuation mark.CloseBrace ∷ Punctuation mark.Semicolon ∷ []) spell
    (behind_at (is_mark mark.CloseBrace) (close_at mark.Semicolon tree.Closing)) (λ n. closing_at) (λ u. refl) (λ n ts. refl)
    (skip_laws d N (is_mark mark.CloseBrace) (Punctuation mark.CloseBrace) (λ (u : Unit {0}). tree.Closing) (λ u. Punctuation mark.Semicolon ∷ []) (close_at mark.Semicolon tree.Closing) (only_mark mark.CloseBrace)
    (close_laws (suc d) N mark.Semicolon tree.Closing))

module_laws : (d N : ℕ) → Laws d N same spell (λ n. module_at)
unfolding module_at spell
module_laws d N =
    let rest_at : ℕ → Reader Tree = next_at (λ n. identifier_at) (λ name. close_at mark.OpenBrace (tree.Module name)) in
    let value : List ℕ × Unit {0} → Tree = λ p. tree.Module p.0 in
    shape d N value (λ p. Word word.Module ∷ (one_token Identifier p.0 ++ Punctuation mark.OpenBrace ∷ [])) spell (behind_at (is_word word.Module) rest_at) (λ n. module_at) (λ p. refl) (λ n ts. refl)
    (skip_laws d N (is_word word.Module) (Word word.Module) value (λ p. one_token Identifier p.0 ++ Punctuation mark.OpenBrace ∷ []) rest_at (only_word word.Module)
    (then_laws (suc d) N (one_token Identifier) (λ n. identifier_at) (λ (name : List ℕ) (u : Unit {0}). tree.Module name) (λ u. Punctuation mark.OpenBrace ∷ []) (λ name. close_at mark.OpenBrace (tree.Module name)) (identifier_laws (suc d) N)
    (λ name. close_laws (suc d) N mark.OpenBrace (tree.Module name))))

bases_laws : (d N : ℕ) → Laws d N same spell_bases (λ n. bases_at)
unfolding bases_at
bases_laws d N =
    let names_at : ℕ → Reader (Option (Several ScopedName)) = mapped_at (λ (ns : Several ScopedName). Some ns) (λ n. listed_with name_at) in
    shape d N (either (λ (ns : Several ScopedName). Some ns) (λ (u : Unit {0}). None)) (either (λ ns. Punctuation mark.Colon ∷ spell_listed spell_name ns) (λ u. [])) spell_bases
    (λ n ts. cond (is_mark mark.Colon (first ts)) (behind_at (is_mark mark.Colon) names_at n ts) (ends_at None n ts)) (λ n. bases_at) spells (λ n ts. refl)
    (choice_laws d N (is_mark mark.Colon) (λ (ns : Several ScopedName). Some ns) (λ ns. Punctuation mark.Colon ∷ spell_listed spell_name ns) (behind_at (is_mark mark.Colon) names_at) (λ (u : Unit {0}). None) (λ u. []) (ends_at None)
    (skip_laws d N (is_mark mark.Colon) (Punctuation mark.Colon) (λ (ns : Several ScopedName). Some ns) (spell_listed spell_name) names_at (only_mark mark.Colon)
    (last_laws (suc d) N (λ (ns : Several ScopedName). Some ns) (spell_listed spell_name) (λ n. listed_with name_at) (listed_laws (suc d) N spell_name (λ n. name_at) (name_laws (suc d) N))))
    (done_laws d N None))
  where
    spells : (x : Several ScopedName ⊎ Unit {0}) → spell_bases (either (λ (ns : Several ScopedName). Some ns) (λ (u : Unit {0}). None) x) ≡ either (λ ns. Punctuation mark.Colon ∷ spell_listed spell_name ns) (λ u. []) x
    spells (inl ns) = refl
    spells (inr u) = refl

abbrev based : Type 0
based = Option (Several ScopedName) × Unit {0}

abbrev interface_value : Bool → List ℕ → Unit {0} ⊎ based → Tree
interface_value is_local name = either (λ u. ahead is_local name) (λ p. opened is_local name p.0)

abbrev spell_interface_rest : Unit {0} ⊎ based → Lexemes
spell_interface_rest = either (λ u. Punctuation mark.Semicolon ∷ []) (λ p. spell_bases p.0 ++ Punctuation mark.OpenBrace ∷ [])

interface_rest_laws : (d N : ℕ) (is_local : Bool) (name : List ℕ) → Laws d N (interface_value is_local name) spell_interface_rest (λ n. interface_rest is_local name)
unfolding interface_rest
interface_rest_laws d N is_local name =
    let open_at : Option (Several ScopedName) → ℕ → Reader Tree = λ bases. close_at mark.OpenBrace (opened is_local name bases) in
    choice_laws d N (is_mark mark.Semicolon) (λ (u : Unit {0}). ahead is_local name) (λ u. Punctuation mark.Semicolon ∷ []) (close_at mark.Semicolon (ahead is_local name)) (λ (p : based). opened is_local name p.0) (λ p. spell_bases p.0 ++ Punctuation mark.OpenBrace ∷ []) (next_at (λ n. bases_at) open_at)
    (close_laws d N mark.Semicolon (ahead is_local name))
    (then_laws d N spell_bases (λ n. bases_at) (λ (bases : Option (Several ScopedName)) (u : Unit {0}). opened is_local name bases) (λ u. Punctuation mark.OpenBrace ∷ []) open_at (bases_laws d N) (λ bases. close_laws d N mark.OpenBrace (opened is_local name bases)))

abbrev interface_parts : Type 0
interface_parts = List ℕ × (Unit {0} ⊎ based)

abbrev interface_of : Bool → interface_parts → Tree
interface_of is_local p = interface_value is_local p.0 p.1

abbrev spell_interface_tail : interface_parts → Lexemes
spell_interface_tail p = Word word.Interface ∷ (one_token Identifier p.0 ++ spell_interface_rest p.1)

abbrev interface_tail_at : Bool → ℕ → Reader Tree
interface_tail_at is_local = behind_at (is_word word.Interface) (next_at (λ n. identifier_at) (λ name n. interface_rest is_local name))

interface_tail_laws : (d N : ℕ) (is_local : Bool) → Laws d N (interface_of is_local) spell_interface_tail (interface_tail_at is_local)
interface_tail_laws d N is_local =
    skip_laws d N (is_word word.Interface) (Word word.Interface) (interface_of is_local) (λ p. one_token Identifier p.0 ++ spell_interface_rest p.1) (next_at (λ n. identifier_at) (λ name n. interface_rest is_local name)) (only_word word.Interface)
    (then_laws (suc d) N (one_token Identifier) (λ n. identifier_at) (interface_value is_local) spell_interface_rest (λ name n. interface_rest is_local name) (identifier_laws (suc d) N) (interface_rest_laws (suc d) N is_local))

interface_laws : (d N : ℕ) → Laws d N same spell (λ n. interface_at)
unfolding interface_at spell
interface_laws d N = shape d N (either (interface_of true) (interface_of false)) (either (λ p. Word word.Local ∷ spell_interface_tail p) spell_interface_tail) spell
    (λ n ts. cond (is_word word.Local (first ts)) (behind_at (is_word word.Local) (interface_tail_at true) n ts) (interface_tail_at false n ts)) (λ n. interface_at)
    (either_spells spell (interface_of true) (λ p. Word word.Local ∷ spell_interface_tail p) (interface_of false) spell_interface_tail locals plains)
    (λ n ts. reads (is_word word.Local (first ts)) ts (length ts))
    (choice_laws d N (is_word word.Local) (interface_of true) (λ p. Word word.Local ∷ spell_interface_tail p) (behind_at (is_word word.Local) (interface_tail_at true)) (interface_of false) spell_interface_tail (interface_tail_at false)
    (skip_laws d N (is_word word.Local) (Word word.Local) (interface_of true) spell_interface_tail (interface_tail_at true) (only_word word.Local) (interface_tail_laws (suc d) N true))
    (interface_tail_laws d N false))
  where
    locals : (p : interface_parts) → spell (interface_of true p) ≡ Word word.Local ∷ spell_interface_tail p
    locals (name, inl u) = refl
    locals (name, inr b) = refl

    plains : (p : interface_parts) → spell (interface_of false p) ≡ spell_interface_tail p
    plains (name, inl u) = refl
    plains (name, inr b) = refl

    reads : (b : Bool) (ts : Lexemes) (l : ℕ) → (expect (is_word word.Interface) (cond b (drop 1 ts) ts) >>= λ rest. identifier_at rest >>= λ name. interface_rest b name.0 name.1)
        ≡ cond b (cond b (ok (drop 1 ts)) (Err l) >>= λ rest. interface_tail_at true 0 rest) (interface_tail_at false 0 ts)
    reads true ts l = refl
    reads false ts l = refl

-- ---- what ends in a semicolon

abbrev pub end : Lexemes
end = Punctuation mark.Semicolon ∷ []

-- a declaration, whose trees are value b for its parts b, and its semicolon
ended_parts : (d N : ℕ) {B : Type 0} (value : B → Tree) (spell1 : B → Lexemes) (r : ℕ → Reader Tree) → ((b : B) → spell (value b) ≡ spell1 b ++ end) → Laws d N value spell1 r → Laws d N same spell (λ n. ended_with (r n))
unfolding ended_with
ended_parts d N {B} value spell1 r spells laws =
    shape d N (λ (p : B × Unit {0}). value p.0) (λ p. spell1 p.0 ++ end) spell (next_at r (close_at mark.Semicolon)) (λ n. ended_with (r n)) (λ p. spells p.0) (λ n ts. refl)
    (follow_laws d N value spell1 r (λ (t : Tree) (u : Unit {0}). t) (λ u. end) (close_at mark.Semicolon) laws (close_laws d N mark.Semicolon))

ended_laws : (d N : ℕ) {A : Type 0} (make : A → Tree) (spell1 : A → Lexemes) (r : ℕ → Reader A) → ((a : A) → spell (make a) ≡ spell1 a ++ end) → Laws d N same spell1 r → Laws d N same spell (λ n. ended_with (mapped_at make r n))
ended_laws d N make spell1 r spells laws = ended_parts d N make spell1 (mapped_at make r) spells (last_laws d N make spell1 r laws)

-- ---- structs and unions

abbrev pub structure_unit : Structure → Tree
structure_unit s = tree.Construction (construction.Structure s)

abbrev structure_ahead : List ℕ → Tree
structure_ahead name = tree.Forward (forward.Structure name)

abbrev structure_tail : Type 0
structure_tail = Unit {0} ⊎ structure_parts

abbrev structure_tail_value : List ℕ → structure_tail → Tree
structure_tail_value name = either (λ u. structure_ahead name) (λ p. structure_unit (structure_of name p))

abbrev spell_structure_tail : structure_tail → Lexemes
spell_structure_tail = either (λ u. []) spell_structure_rest

abbrev structure_declared : List ℕ × structure_tail → Tree
structure_declared p = structure_tail_value p.0 p.1

abbrev spell_structure_declared : List ℕ × structure_tail → Lexemes
spell_structure_declared p = Word word.Struct ∷ (one_token Identifier p.0 ++ spell_structure_tail p.1)

structure_units : (p : List ℕ × structure_tail) → spell (structure_declared p) ≡ spell_structure_declared p ++ end
unfolding spell
structure_units (name, inl u) = refl
structure_units (name, inr p) = ap (λ (w : Lexemes). w ++ end) (spell_construction-structure (structure_of name p) ∙ spell_structure-made name p.0 p.1)

structure_declaration_laws : (d N : ℕ) (re : ℕ → Reader Expression) (rt : ℕ → Reader TypeTree) (rc : ℕ → Reader Construction) → Laws d N same spell_expression re → Laws d N same spell_type rt → Laws d N same spell_construction rc
    → Laws d N structure_declared spell_structure_declared (λ n. structure_declaration_with (re n) (rt n) (rc n))
unfolding structure_declaration_with
structure_declaration_laws d N re rt rc expressions types constructions =
    let inside : List ℕ → ℕ → Reader Structure = λ name n. structure_rest_with (re n) (rt n) (rc n) name in
    let tail_at : List ℕ → ℕ → Reader Tree = λ name n ts. cond (is_mark mark.Semicolon (first ts)) (ends_at (structure_ahead name) n ts) (mapped_at structure_unit (inside name) n ts) in
    skip_laws d N (is_word word.Struct) (Word word.Struct) structure_declared (λ p. one_token Identifier p.0 ++ spell_structure_tail p.1) (next_at (λ n. identifier_at) tail_at) (only_word word.Struct)
    (then_laws (suc d) N (one_token Identifier) (λ n. identifier_at) structure_tail_value spell_structure_tail tail_at (identifier_laws (suc d) N)
    (λ name. choice_laws (suc d) N (is_mark mark.Semicolon) (λ (u : Unit {0}). structure_ahead name) (λ u. []) (ends_at (structure_ahead name)) (λ (p : structure_parts). structure_unit (structure_of name p)) spell_structure_rest (mapped_at structure_unit (inside name))
    (done_laws (suc d) N (structure_ahead name))
    (valued_laws (suc d) N structure_unit (structure_of name) spell_structure_rest (inside name) (structure_rest_laws (suc d) N re rt rc (members_behind d N 2 re rt rc expressions types constructions) name))))

abbrev pub union_unit : Union → Tree
union_unit u = tree.Construction (construction.Union u)

abbrev union_ahead : List ℕ → Tree
union_ahead name = tree.Forward (forward.Union name)

abbrev union_tail : Type 0
union_tail = Unit {0} ⊎ switch_parts

abbrev union_tail_value : List ℕ → union_tail → Tree
union_tail_value name = either (λ u. union_ahead name) (λ p. union_unit (union_of name p))

abbrev spell_union_tail : union_tail → Lexemes
spell_union_tail = either (λ u. []) spell_switched

abbrev union_declared : List ℕ × union_tail → Tree
union_declared p = union_tail_value p.0 p.1

abbrev spell_union_declared : List ℕ × union_tail → Lexemes
spell_union_declared p = Word word.Union ∷ (one_token Identifier p.0 ++ spell_union_tail p.1)

union_units : (p : List ℕ × union_tail) → spell (union_declared p) ≡ spell_union_declared p ++ end
unfolding spell
union_units (name, inl u) = refl
union_units (name, inr p) = ap (λ (w : Lexemes). w ++ end) (spell_construction-union (union_of name p) ∙ spell_union-made name p.0 p.1.0 p.1.1.0)

union_declaration_laws : (d N : ℕ) (re : ℕ → Reader Expression) (rt : ℕ → Reader TypeTree) (rc : ℕ → Reader Construction) → Laws d N same spell_expression re → Laws d N same spell_type rt → Laws d N same spell_construction rc
    → Laws d N union_declared spell_union_declared (λ n. union_declaration_with (re n) (rt n) (rc n))
unfolding union_declaration_with
union_declaration_laws d N re rt rc expressions types constructions =
    let inside : List ℕ → ℕ → Reader Union = λ name n. union_rest_with (re n) (rt n) (rc n) name in
    let tail_at : List ℕ → ℕ → Reader Tree = λ name n ts. cond (is_mark mark.Semicolon (first ts)) (ends_at (union_ahead name) n ts) (mapped_at union_unit (inside name) n ts) in
    skip_laws d N (is_word word.Union) (Word word.Union) union_declared (λ p. one_token Identifier p.0 ++ spell_union_tail p.1) (next_at (λ n. identifier_at) tail_at) (only_word word.Union)
    (then_laws (suc d) N (one_token Identifier) (λ n. identifier_at) union_tail_value spell_union_tail tail_at (identifier_laws (suc d) N)
    (λ name. choice_laws (suc d) N (is_mark mark.Semicolon) (λ (u : Unit {0}). union_ahead name) (λ u. []) (ends_at (union_ahead name)) (λ (p : switch_parts). union_unit (union_of name p)) spell_switched (mapped_at union_unit (inside name))
    (done_laws (suc d) N (union_ahead name))
    (valued_laws (suc d) N union_unit (union_of name) spell_switched (inside name) (union_rest_laws (suc d) N re rt rc (cases_behind d N 5 re rt rc expressions types constructions) name))))

-- ---- units

enumeration_units : (e : Enumeration) → spell (tree.Construction (construction.Enumeration e)) ≡ spell_enumeration e ++ end
unfolding spell
enumeration_units e = ap (λ (w : Lexemes). w ++ end) (spell_construction-enumeration e)

declared_each : (d N : ℕ) (re : ℕ → Reader Expression) (rt : ℕ → Reader TypeTree) (rc : ℕ → Reader Construction) → Laws d N same spell_expression re → Laws d N same spell_type rt → Laws d N same spell_construction rc
    → (k : Option Keyword) → Laws d N same spell (λ n. ended_with (declaration_by (re n) (rt n) (rc n) k))
unfolding spell
declared_each d N re rt rc es tys cs (Some word.Struct) =
    ended_parts d N structure_declared spell_structure_declared (λ n. structure_declaration_with (re n) (rt n) (rc n)) structure_units (structure_declaration_laws d N re rt rc es tys cs)
declared_each d N re rt rc es tys cs (Some word.Union) =
    ended_parts d N union_declared spell_union_declared (λ n. union_declaration_with (re n) (rt n) (rc n)) union_units (union_declaration_laws d N re rt rc es tys cs)
declared_each d N re rt rc es tys cs (Some word.Enum) =
    ended_laws d N (λ e. tree.Construction (construction.Enumeration e)) spell_enumeration (λ n. enumeration_at) enumeration_units (enumeration_laws d N)
declared_each d N re rt rc es tys cs (Some word.Typedef) = ended_laws d N tree.Typedef spell_typedef (λ n. typedef_with (re n) (rt n) (rc n)) (λ x. refl) (typedef_laws d N re rt rc es tys cs)
declared_each d N re rt rc es tys cs (Some word.Native) = ended_laws d N tree.Native (λ name. Word word.Native ∷ Identifier name ∷ []) (λ n. native_at) (λ x. refl) (native_laws d N)
declared_each d N re rt rc es tys cs (Some word.Const) = ended_laws d N tree.Constant spell_constant (λ n. constant_with (re n)) (λ x. refl) (constant_laws d N re es)
declared_each d N re rt rc es tys cs (Some word.Exception) = ended_laws d N tree.Exception spell_exception (λ n. exception_with (re n) (rt n) (rc n)) (λ x. refl) (exception_laws d N re rt rc es tys cs)
declared_each d N re rt rc es tys cs (Some word.Readonly) =
    ended_laws d N tree.ReadonlyAttribute spell_readonly_attribute (λ n. readonly_attribute_with (rt n)) (λ x. refl) (readonly_attribute_laws d N rt (more_room d N 2 spell_type rt tys))
declared_each d N re rt rc es tys cs (Some word.Attribute) = ended_laws d N tree.Attribute spell_attribute (λ n. attribute_with (rt n)) (λ x. refl) (attribute_laws d N rt (more_room d N 1 spell_type rt tys))
declared_each d N re rt rc es tys cs (Some word.Typeid) = ended_laws d N tree.Typeid spell_typeid (λ n. typeid_at) (λ x. refl) (typeid_laws d N)
declared_each d N re rt rc es tys cs (Some word.Typeprefix) = ended_laws d N tree.Typeprefix spell_typeprefix (λ n. typeprefix_at) (λ x. refl) (typeprefix_laws d N)
declared_each d N re rt rc es tys cs _ = ended_laws d N tree.Operation spell_operation (λ n. operation_with (rt n)) (λ x. refl) (operation_laws d N rt tys)

declared_laws : (d N : ℕ) (re : ℕ → Reader Expression) (rt : ℕ → Reader TypeTree) (rc : ℕ → Reader Construction) → Laws d N same spell_expression re → Laws d N same spell_type rt → Laws d N same spell_construction rc
    → Laws d N same spell (λ n. ended_with (declaration_with (re n) (rt n) (rc n)))
unfolding declaration_with ended_with
declared_laws d N re rt rc es tys cs = by_laws d N keyword_of spell (λ k n. ended_with (declaration_by (re n) (rt n) (rc n) k)) None (declared_each d N re rt rc es tys cs)

unit_each : (d N : ℕ) (re : ℕ → Reader Expression) (rt : ℕ → Reader TypeTree) (rc : ℕ → Reader Construction) → Laws d N same spell_expression re → Laws d N same spell_type rt → Laws d N same spell_construction rc
    → (k : Option Keyword) → Laws d N same spell (λ n. unit_by (re n) (rt n) (rc n) k)
unit_each d N re rt rc es tys cs (Some word.Module) = module_laws d N
unit_each d N re rt rc es tys cs (Some word.Local) = interface_laws d N
unit_each d N re rt rc es tys cs (Some word.Interface) = interface_laws d N
unit_each d N re rt rc es tys cs _ = declared_laws d N re rt rc es tys cs

abbrev unit_key_at : (ℕ → Reader Expression) → (ℕ → Reader TypeTree) → (ℕ → Reader Construction) → Bool → ℕ → Reader Tree
unit_key_at re rt rc b n ts = cond b (closing_at ts) (unit_by (re n) (rt n) (rc n) (keyword_of (first ts)) ts)

unit_with_laws : (d N : ℕ) (re : ℕ → Reader Expression) (rt : ℕ → Reader TypeTree) (rc : ℕ → Reader Construction) → Laws d N same spell_expression re → Laws d N same spell_type rt → Laws d N same spell_construction rc
    → Laws d N same spell (λ n. unit_with (re n) (rt n) (rc n))
unfolding unit_with
unit_with_laws d N re rt rc es tys cs = by_laws d N (is_mark mark.CloseBrace) spell (unit_key_at re rt rc) true each
  where
    each : (b : Bool) → Laws d N same spell (unit_key_at re rt rc b)
    each true = closing_laws d N
    each false = by_laws d N keyword_of spell (λ k n. unit_by (re n) (rt n) (rc n) k) None (unit_each d N re rt rc es tys cs)

pub unit_laws : (N : ℕ) → Laws 0 N same spell unit_at
unfolding unit_at
unit_laws N = unit_with_laws 0 N expression_at type_at construction_at (expression_laws N) (type_laws N) (construction_laws N)
