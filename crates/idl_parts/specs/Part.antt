-- A unit as a list of its parts: names that are declared and used, what stands between them, and
-- where expressions and scopes begin and end. What stands between is told by its tokens, or by their
-- number alone.
-- The text of a `typeid` or `typeprefix` is known before its name (`Identifies`): whether the name
-- may be given it depends on it, and a fault stands at its own part.
use Rattle.std.specs.Prelude.{ℕ, List, [], ◌∷◌, ◌++◌, flat_map, Option, None, Some}
use Rattle.idl_lex.specs.declared.kinds.keyword.Keyword.{Keyword}
use Rattle.idl_lex.specs.declared.kinds.mark.Mark.{Mark}
use Rattle.idl_lex.specs.declared.kinds.mark.Mark.TheVariants.{Comma, OpenParenthesis, CloseParenthesis}
use Rattle.idl_parts.specs.declared.part.Declaration.{Declaration}
use Rattle.idl_parts.specs.declared.part.Shape.{Shape}
use Rattle.idl_parts.specs.declared.part.Purpose.{Purpose}
use Rattle.idl_parts.specs.declared.part.TextPurpose.{TextPurpose}
use Rattle.idl_parts.specs.declared.part.Use.{Use}
use Rattle.idl_tree.specs.Interface.{spell_text}
use Rattle.idl_tree.specs.Lexeme.{Lexemes, Word, Punctuation, Identifier}
use Rattle.idl_tree.specs.Name.{spell_name}
use Rattle.idl_tree.specs.declared.declarations.data_type.DiscreteType.{DiscreteType}
use Rattle.idl_tree.specs.declared.expression.Expression.{Expression}
use Rattle.idl_tree.specs.declared.name.ScopedName.{ScopedName}
use Rattle.idl_tree.specs.declared.several.Several.{Several}

pub data Part (P : Type 0) : Type 0 where
  -- tokens that declare and use nothing
  Plain : P → Part P
  Declares : Declaration → List ℕ → Part P
  Uses : Use → ScopedName → Part P
  -- string literals that are joined, and what for
  Says : TextPurpose → Several (List ℕ) → Part P
  -- an expression begins, or ends
  ValueBegins : Part P
  ValueEnds : Purpose → Expression → Part P
  -- the scope of what is declared so begins, or ends
  ScopeBegins : Declaration → List ℕ → Part P
  ScopeEnds : Part P
  -- a type ends that is no name
  TypeEnds : Shape → Part P
  -- the lengths of the array that was declared last are told
  ArrayEnds : Part P
  -- the enum that is declared next has these enumerators
  Enumerates : Several (List ℕ) → Part P
  -- the name that follows is given this text, which stands behind it
  Identifies : Several (List ℕ) → Part P
  -- a discriminator of keywords follows
  Switches : DiscreteType → Part P
  -- the label `default` follows
  Default : Part P
  -- what a `oneway` operation gives back follows
  GivesBack : Part P

abbrev pub Parts : Type 0
Parts = List (Part Lexemes)

-- how a part is spelled
abbrev pub spell_part : Part Lexemes → Lexemes
spell_part (Plain lexemes) = lexemes
spell_part (Declares declaration name) = Identifier name ∷ []
spell_part (Uses way name) = spell_name name
spell_part (Says purpose text) = spell_text text
spell_part mark = []

abbrev pub spell_parts : Parts → Lexemes
spell_parts parts = flat_map spell_part parts

abbrev pub keyword_part : Keyword → Part Lexemes
keyword_part keyword = Plain (Word keyword ∷ [])

abbrev pub punctuation : Mark → Part Lexemes
punctuation mark = Plain (Punctuation mark ∷ [])

-- x/","
abbrev pub listed : {X : Type 0} → (X → Parts) → Several X → Parts
listed parts xs = parts xs.first ++ flat_map (λ x. punctuation Comma ∷ parts x) xs.rest

-- x+
abbrev pub all_parts : {X : Type 0} → (X → Parts) → Several X → Parts
all_parts parts xs = parts xs.first ++ flat_map parts xs.rest

-- [x]
abbrev pub if_some : {X : Type 0} → (X → Parts) → Option X → Parts
if_some parts None = []
if_some parts (Some x) = parts x

-- a name that is declared, alone
abbrev pub declared : Declaration → List ℕ → Parts
declared declaration name = Declares declaration name ∷ []

-- names that are used, with commas between
abbrev pub used : Use → Several ScopedName → Parts
used way names = listed (λ name. Uses way name ∷ []) names

-- a keyword, and exceptions in parentheses that are used so
abbrev pub raised : Use → Keyword → Several ScopedName → Parts
raised way keyword names =
    keyword_part keyword ∷ punctuation OpenParenthesis
    ∷ (used way names ++ punctuation CloseParenthesis ∷ [])
