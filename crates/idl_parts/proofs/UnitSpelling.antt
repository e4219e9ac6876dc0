-- The parts of a unit are spelled as it is, and their items count its tokens.
use Rattle.std.proofs.Common.{◌≡◌, ◌∙◌, ℕ, Bool, true, false, List, [], ◌∷◌, ◌++◌, drop, flat_map, length, refl, sym, ap, arith}
use Rattle.std.proofs.lemmas.List.{append-nil, length-append}
use Rattle.std.proofs.Math.Seq.{drop-append_seam}
use Rattle.idl_lex.specs.declared.kinds.keyword.Keyword.TheVariants as word
use Rattle.idl_lex.specs.declared.kinds.mark.Mark.TheVariants as mark
use Rattle.idl_parts.specs.ConstructionParts.{construction_parts, member_parts, member_type_parts}
use Rattle.idl_parts.specs.ExpressionParts.{value_parts}
use Rattle.idl_parts.specs.Item.{item_length, item_of, items, items_length}
use Rattle.idl_parts.specs.Part.{Part, Parts, Declares, Says, ScopeEnds, listed, punctuation, spell_part, spell_parts}
use Rattle.idl_parts.specs.TypeParts.{constant_type_parts, declarator_parts}
use Rattle.idl_parts.specs.UnitParts.{attribute_parts, constant_parts, equals_parts, exception_parts, forward_parts, operation_parts, readonly_attribute_parts, typedef_parts, typeid_parts, typeprefix_parts, unit_parts}
use Rattle.idl_parts.specs.declared.part.Declaration.TheVariants as declaration
use Rattle.idl_parts.specs.declared.part.Purpose.TheVariants as target
use Rattle.idl_parts.specs.declared.part.TextPurpose.TheVariants.{Prefix}
use Rattle.idl_tree.specs.Construction.{spell_construction, spell_member, spell_member_type}
use Rattle.idl_tree.specs.DataType.{spell_declarator}
use Rattle.idl_tree.specs.Expression.{spell_expression}
use Rattle.idl_tree.specs.Interface.{spell_attribute, spell_forward, spell_operation, spell_readonly_attribute, spell_text}
use Rattle.idl_tree.specs.Lexeme.{Lexemes, Identifier, Punctuation, Word}
use Rattle.idl_tree.specs.Name.{spell_name}
use Rattle.idl_tree.specs.Several.{spell_listed}
use Rattle.idl_tree.specs.Unit.{spell, spell_constant, spell_constant_type, spell_equals, spell_exception, spell_typedef, spell_typeid, spell_typeprefix}
use Rattle.idl_tree.specs.declared.several.Several.{Several}
use Rattle.idl_tree.specs.declared.unit.Constant.{Constant}
use Rattle.idl_tree.specs.declared.unit.Exception.{Exception}
use Rattle.idl_tree.specs.declared.unit.Tree.{Tree}
use Rattle.idl_tree.specs.declared.unit.Tree.TheVariants as tree
use Rattle.idl_tree.specs.declared.unit.Typedef.{Typedef}
use Rattle.idl_tree.specs.declared.unit.Typeid.{Typeid}
use Rattle.idl_tree.specs.declared.unit.Typeprefix.{Typeprefix}
use Rattle.idl_parts.proofs.ConstructionSpelling.{construction_spells, member_type_spells, members_spell}
use Rattle.idl_parts.proofs.ExpressionSpelling.{value_spells}
use Rattle.idl_parts.proofs.InterfaceSpelling.{attribute_spells, forward_spells, interface_spells, operation_spells, readonly_attribute_spells}
use Rattle.idl_parts.proofs.PartSpelling.{spells-each, spells-listed, spells-then}
use Rattle.idl_parts.proofs.TypeSpelling.{constant_type_spells, declarator_spells}

typedef_spells : (t : Typedef) → spell_parts (typedef_parts t) ≡ spell_typedef t
typedef_spells t =
    ap (λ (w : Lexemes). Word word.Typedef ∷ w)
    (spells-then (member_type_parts t.kind) (listed (declarator_parts declaration.Alias) t.declarators) (spell_member_type t.kind) (spell_listed spell_declarator t.declarators)
    (member_type_spells t.kind) (spells-listed (declarator_parts declaration.Alias) spell_declarator (declarator_spells declaration.Alias) t.declarators))

constant_spells : (c : Constant) → spell_parts (constant_parts c) ≡ spell_constant c
constant_spells c =
    ap (λ (w : Lexemes). Word word.Const ∷ w)
    (spells-then (constant_type_parts c.kind) (Declares declaration.Constant c.name ∷ punctuation mark.Equals ∷ value_parts target.Constant c.value)
    (spell_constant_type c.kind) (Identifier c.name ∷ Punctuation mark.Equals ∷ spell_expression c.value) (constant_type_spells c.kind)
    (ap (λ (w : Lexemes). Identifier c.name ∷ Punctuation mark.Equals ∷ w) (value_spells target.Constant c.value)))

exception_spells : (e : Exception) → spell_parts (exception_parts e) ≡ spell_exception e
exception_spells e =
    ap (λ (w : Lexemes). Word word.Exception ∷ Identifier e.name ∷ Punctuation mark.OpenBrace ∷ w)
    (spells-then (flat_map member_parts e.members) (ScopeEnds ∷ punctuation mark.CloseBrace ∷ []) (flat_map spell_member e.members) (Punctuation mark.CloseBrace ∷ [])
    (spells-each member_parts spell_member members_spell e.members) refl)

typeid_spells : (t : Typeid) → spell_parts (typeid_parts t) ≡ spell_typeid t
typeid_spells t = ap (λ (w : Lexemes). Word word.Typeid ∷ (spell_name t.name ++ w)) (append-nil (spell_text t.text))

prefix_spells : (has_equals : Bool) (text : Several (List ℕ)) → spell_parts (equals_parts has_equals ++ Says Prefix text ∷ []) ≡ spell_equals has_equals ++ spell_text text
prefix_spells true text = ap (λ (w : Lexemes). Punctuation mark.Equals ∷ w) (append-nil (spell_text text))
prefix_spells false text = append-nil (spell_text text)

typeprefix_spells : (t : Typeprefix) → spell_parts (typeprefix_parts t) ≡ spell_typeprefix t
typeprefix_spells t = ap (λ (w : Lexemes). Word word.Typeprefix ∷ (spell_name t.name ++ w)) (prefix_spells t.has_equals t.text)

ended_spells : (p : Parts) (a : Lexemes) → spell_parts p ≡ a → spell_parts (p ++ punctuation mark.Semicolon ∷ []) ≡ a ++ Punctuation mark.Semicolon ∷ []
ended_spells p a h = spells-then p (punctuation mark.Semicolon ∷ []) a (Punctuation mark.Semicolon ∷ []) h refl

pub unit_spells : (t : Tree) → spell_parts (unit_parts t) ≡ spell t
unfolding unit_parts spell
unit_spells (tree.Interface i) = interface_spells i
unit_spells (tree.Forward f) = ended_spells (forward_parts f) (spell_forward f) (forward_spells f)
unit_spells (tree.Typedef t) = ended_spells (typedef_parts t) (spell_typedef t) (typedef_spells t)
unit_spells (tree.Construction c) = ended_spells (construction_parts c) (spell_construction c) (construction_spells c)
unit_spells (tree.Constant c) = ended_spells (constant_parts c) (spell_constant c) (constant_spells c)
unit_spells (tree.Exception e) = ended_spells (exception_parts e) (spell_exception e) (exception_spells e)
unit_spells (tree.ReadonlyAttribute a) = ended_spells (readonly_attribute_parts a) (spell_readonly_attribute a) (readonly_attribute_spells a)
unit_spells (tree.Attribute a) = ended_spells (attribute_parts a) (spell_attribute a) (attribute_spells a)
unit_spells (tree.Operation o) = ended_spells (operation_parts o) (spell_operation o) (operation_spells o)
unit_spells (tree.Typeid t) = ended_spells (typeid_parts t) (spell_typeid t) (typeid_spells t)
unit_spells (tree.Typeprefix t) = ended_spells (typeprefix_parts t) (spell_typeprefix t) (typeprefix_spells t)
unit_spells other = refl

-- ---- counts

spell_part-length : (p : Part Lexemes) → length (spell_part p) ≡ item_length (item_of p)
spell_part-length (Part.Plain lexemes) = refl
spell_part-length mark = refl

pub counted : (ps : Parts) → items_length (items ps) ≡ length (spell_parts ps)
counted [] = refl
counted (p ∷ ps) = omega (arith, spell_part-length p, counted ps, length-append (spell_part p) (spell_parts ps))

pub numbered : (t : Tree) (front back : Parts) → unit_parts t ≡ front ++ back → drop (items_length (items front)) (spell t) ≡ spell_parts back
numbered t front back is =
    ap (λ n. drop n (spell t)) (counted front)
    ∙ ap (λ (w : Lexemes). drop (length (spell_parts front)) w)
    (sym (unit_spells t) ∙ ap spell_parts is ∙ spells-then front back (spell_parts front) (spell_parts back) refl refl)
    ∙ drop-append_seam (spell_parts front) (spell_parts back)
