-- Units: one equation for each line of the grammar.
-- `;` is read once, behind every declaration: readers of declarations leave it. A struct or union
-- ahead of its body is one that has `;` next. An interface ahead reads its own, since what opens a
-- scope has none.
use Rattle.std.specs.Prelude.{Bool, true, false, [], ◌∷◌, ◌++◌, flat_map}
use Rattle.idl_lex.specs.declared.kinds.keyword.Keyword.TheVariants as word
use Rattle.idl_lex.specs.declared.kinds.mark.Mark.TheVariants as mark
use Rattle.idl_tree.specs.Construction.{spell_construction, spell_member, spell_member_type}
use Rattle.idl_tree.specs.DataType.{spell_discrete, spell_string, spell_declarator}
use Rattle.idl_tree.specs.Expression.{spell_expression}
use Rattle.idl_tree.specs.Interface.{spell_interface, spell_forward, spell_readonly_attribute, spell_attribute, spell_operation, spell_text}
use Rattle.idl_tree.specs.Lexeme.{Lexemes, Word, Punctuation, Identifier}
use Rattle.idl_tree.specs.Name.{spell_name}
use Rattle.idl_tree.specs.Several.{spell_listed}
use Rattle.idl_tree.specs.declared.unit.Constant.{Constant}
use Rattle.idl_tree.specs.declared.unit.ConstantTypeTree.{ConstantTypeTree}
use Rattle.idl_tree.specs.declared.unit.ConstantTypeTree.TheVariants as kind
use Rattle.idl_tree.specs.declared.unit.Exception.{Exception}
use Rattle.idl_tree.specs.declared.unit.Tree.{Tree}
use Rattle.idl_tree.specs.declared.unit.Tree.TheVariants as tree
use Rattle.idl_tree.specs.declared.unit.Typedef.{Typedef}
use Rattle.idl_tree.specs.declared.unit.Typeid.{Typeid}
use Rattle.idl_tree.specs.declared.unit.Typeprefix.{Typeprefix}

-- typedef = "typedef" ( type | constr ) declr/","
abbrev pub spell_typedef : Typedef → Lexemes
spell_typedef t =
    Word word.Typedef ∷ (spell_member_type t.kind ++ spell_listed spell_declarator t.declarators)

-- ctype
abbrev pub spell_constant_type : ConstantTypeTree → Lexemes
spell_constant_type (kind.Discrete d) = spell_discrete d
spell_constant_type (kind.String s) = spell_string s
spell_constant_type (kind.Name n) = spell_name n

-- const = "const" ctype ID "=" expr
abbrev pub spell_constant : Constant → Lexemes
spell_constant c =
    Word word.Const
    ∷ (spell_constant_type c.kind
    ++ (Identifier c.name ∷ Punctuation mark.Equals ∷ spell_expression c.value))

-- except = "exception" ID "{" member* "}"
abbrev pub spell_exception : Exception → Lexemes
spell_exception e =
    Word word.Exception ∷ Identifier e.name ∷ Punctuation mark.OpenBrace
    ∷ (flat_map spell_member e.members ++ Punctuation mark.CloseBrace ∷ [])

-- "typeid" name text
abbrev pub spell_typeid : Typeid → Lexemes
spell_typeid t = Word word.Typeid ∷ (spell_name t.name ++ spell_text t.text)

abbrev pub spell_equals : Bool → Lexemes
spell_equals true = Punctuation mark.Equals ∷ []
spell_equals false = []

-- "typeprefix" name ["="] text
abbrev pub spell_typeprefix : Typeprefix → Lexemes
spell_typeprefix t =
    Word word.Typeprefix ∷ (spell_name t.name ++ (spell_equals t.has_equals ++ spell_text t.text))

-- an opening, a closing, or a declaration with its `;`
abbrev pub ended : Lexemes → Lexemes
ended lexemes = lexemes ++ Punctuation mark.Semicolon ∷ []

unfoldable pub spell : Tree → Lexemes
spell tree.Closing = Punctuation mark.CloseBrace ∷ Punctuation mark.Semicolon ∷ []
spell (tree.Module name) = Word word.Module ∷ Identifier name ∷ Punctuation mark.OpenBrace ∷ []
spell (tree.Interface i) = spell_interface i
spell (tree.Forward f) = ended (spell_forward f)
spell (tree.Typedef t) = ended (spell_typedef t)
spell (tree.Construction c) = ended (spell_construction c)
spell (tree.Native name) = ended (Word word.Native ∷ Identifier name ∷ [])
spell (tree.Constant c) = ended (spell_constant c)
spell (tree.Exception e) = ended (spell_exception e)
spell (tree.ReadonlyAttribute a) = ended (spell_readonly_attribute a)
spell (tree.Attribute a) = ended (spell_attribute a)
spell (tree.Operation o) = ended (spell_operation o)
spell (tree.Typeid t) = ended (spell_typeid t)
spell (tree.Typeprefix t) = ended (spell_typeprefix t)
