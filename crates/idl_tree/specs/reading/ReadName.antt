-- Reading of scoped names.
use Rattle.std.specs.Prelude.{ℕ, List, drop, Option, Some, Ok, Bool, true, false, if◌then◌else◌}
use Rattle.idl_lex.specs.declared.kinds.mark.Mark.TheVariants.{ColonColon}
use Rattle.idl_tree.specs.Lexeme.{Lexeme, Punctuation, Identifier}
use Rattle.idl_tree.specs.reading.Reading.{Reader, ◌>>=◌, first, expect, many_of}
use Rattle.idl_tree.specs.reading.Tests.{is_mark, identifier_at}
use Rattle.idl_tree.specs.declared.name.ScopedName.{ScopedName}

unfoldable pub part_at : Reader (List ℕ)
part_at ts = do
  rest ← expect (is_mark ColonColon) ts
  identifier_at rest

unfoldable pub parts_at : Reader (List (List ℕ))
parts_at ts = many_of (is_mark ColonColon) part_at ts

unfoldable pub name_at : Reader ScopedName
name_at ts = do
  let is_global : Bool = is_mark ColonColon (first ts)
  name ← identifier_at (if is_global then drop 1 ts else ts)
  parts ← parts_at name.1
  Ok (record { is_global = is_global; first = name.0; rest = parts.0 }, parts.1)

abbrev pub begins_name : Option Lexeme → Bool
begins_name (Some (Identifier s)) = true
begins_name (Some (Punctuation ColonColon)) = true
begins_name _ = false
