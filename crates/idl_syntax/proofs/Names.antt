-- Where a name begins.
use Rattle.std.proofs.Common.{◌≡◌, ℕ, List, true, Option, Some, None, refl}
use Rattle.idl_lex.specs.declared.kinds.mark.Mark.TheVariants.{ColonColon}
use Rattle.idl_tree.specs.Lexeme.{Lexeme, Identifier, Punctuation}
use Rattle.idl_tree.specs.reading.ReadName.{begins_name}
use Rattle.idl_tree.specs.reading.Tests.{identifier_of, is_mark}

pub begins_with_name : (t : Option Lexeme) (name : List ℕ) → identifier_of t ≡ Some name → begins_name t ≡ true
begins_with_name (Some (Identifier found)) name h = refl
begins_with_name others name h = absurd cc

pub begins_without_name : (t : Option Lexeme) → identifier_of t ≡ None → begins_name t ≡ is_mark ColonColon t
begins_without_name (Some (Identifier found)) h = absurd cc
begins_without_name (Some (Punctuation ColonColon)) h = refl
begins_without_name others h = refl
