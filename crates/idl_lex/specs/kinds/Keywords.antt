-- The keywords, in alphabetical order.
use Rattle.std.specs.Prelude.{ℕ, List, [], ◌∷◌, codes, find, Option}
use Rattle.std.specs.Str.{bytes_eq, str_to_ascii_lowercase}
use Rattle.idl_lex.specs.declared.kinds.keyword.Keyword.TheVariants.{Any, Attribute, Boolean, Case, Char, Const, Context, Default, Double, Enum, Exception, False, Float, Getraises, In, Inout, Int16, Int32, Int64, Int8, Interface, Local, Long, Module, Native, Object, Octet, Oneway, Out, Raises, Readonly, Sequence, Setraises, Short, String, Struct, Switch, True, Typedef, Typeid, Typeprefix, Uint16, Uint32, Uint64, Uint8, Union, Unsigned, Void, Wchar, Wstring}
use Rattle.idl_lex.specs.declared.kinds.kind.TokenKind.{TokenKind}
use Rattle.idl_lex.specs.declared.kinds.kind.TokenKind.TheVariants.{Accepted, Refused}

-- words that differ in the case of letters alone have one folded form
abbrev pub folded : List ℕ → List ℕ
folded word = str_to_ascii_lowercase word

-- each keyword and its kind: accepted ones are of the language, and refused ones are those that
-- this profile leaves out
unfoldable pub keywords : List (List ℕ × TokenKind)
keywords =
    (codes "abstract", Refused) ∷ (codes "any", Accepted Any)
    ∷ (codes "attribute", Accepted Attribute) ∷ (codes "boolean", Accepted Boolean)
    ∷ (codes "case", Accepted Case) ∷ (codes "char", Accepted Char) ∷ (codes "component", Refused)
    ∷ (codes "const", Accepted Const) ∷ (codes "consumes", Refused)
    ∷ (codes "context", Accepted Context) ∷ (codes "custom", Refused)
    ∷ (codes "default", Accepted Default) ∷ (codes "double", Accepted Double)
    ∷ (codes "emits", Refused) ∷ (codes "enum", Accepted Enum) ∷ (codes "eventtype", Refused)
    ∷ (codes "exception", Accepted Exception) ∷ (codes "factory", Refused)
    ∷ (codes "FALSE", Accepted False) ∷ (codes "finder", Refused) ∷ (codes "fixed", Refused)
    ∷ (codes "float", Accepted Float) ∷ (codes "getraises", Accepted Getraises)
    ∷ (codes "home", Refused) ∷ (codes "import", Refused) ∷ (codes "in", Accepted In)
    ∷ (codes "inout", Accepted Inout) ∷ (codes "int16", Accepted Int16)
    ∷ (codes "int32", Accepted Int32) ∷ (codes "int64", Accepted Int64)
    ∷ (codes "int8", Accepted Int8) ∷ (codes "interface", Accepted Interface)
    ∷ (codes "local", Accepted Local) ∷ (codes "long", Accepted Long)
    ∷ (codes "module", Accepted Module) ∷ (codes "multiple", Refused)
    ∷ (codes "native", Accepted Native) ∷ (codes "Object", Accepted Object)
    ∷ (codes "octet", Accepted Octet) ∷ (codes "oneway", Accepted Oneway)
    ∷ (codes "out", Accepted Out) ∷ (codes "primarykey", Refused) ∷ (codes "private", Refused)
    ∷ (codes "provides", Refused) ∷ (codes "public", Refused) ∷ (codes "publishes", Refused)
    ∷ (codes "raises", Accepted Raises) ∷ (codes "readonly", Accepted Readonly)
    ∷ (codes "sequence", Accepted Sequence) ∷ (codes "setraises", Accepted Setraises)
    ∷ (codes "short", Accepted Short) ∷ (codes "string", Accepted String)
    ∷ (codes "struct", Accepted Struct) ∷ (codes "supports", Refused)
    ∷ (codes "switch", Accepted Switch) ∷ (codes "TRUE", Accepted True)
    ∷ (codes "truncatable", Refused) ∷ (codes "typedef", Accepted Typedef)
    ∷ (codes "typeid", Accepted Typeid) ∷ (codes "typeprefix", Accepted Typeprefix) ∷ (codes "uint16", Accepted Uint16)
    ∷ (codes "uint32", Accepted Uint32) ∷ (codes "uint64", Accepted Uint64)
    ∷ (codes "uint8", Accepted Uint8) ∷ (codes "union", Accepted Union)
    ∷ (codes "unsigned", Accepted Unsigned) ∷ (codes "uses", Refused)
    ∷ (codes "ValueBase", Refused) ∷ (codes "valuetype", Refused) ∷ (codes "void", Accepted Void)
    ∷ (codes "wchar", Accepted Wchar) ∷ (codes "wstring", Accepted Wstring) ∷ []

-- the keyword that a word is, but for the case of letters
abbrev pub like_keyword : List ℕ → Option (List ℕ × TokenKind)
like_keyword word = find (λ k. bytes_eq (folded k.0) (folded word)) keywords
