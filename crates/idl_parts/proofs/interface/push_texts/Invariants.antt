use Rattle.std.proofs.Common.{[], ◌∷◌, take}
use Rattle.std.specs.List.{flat_map}
use Rattle.idl_lex.specs.declared.kinds.keyword.Keyword.TheVariants as word
use Rattle.idl_lex.specs.declared.kinds.mark.Mark.TheVariants.{Comma, OpenParenthesis}
use Rattle.idl_parts.specs.Item.{Pushes}
use Rattle.idl_parts.specs.Part.{Plain, Says, punctuation}
use Rattle.idl_parts.specs.declared.part.TextPurpose.TheVariants.{Context}
use Rattle.idl_tree.specs.Lexeme.{Punctuation, Word}
use Rattle.idl_parts.proofs.interface.push_texts.Given as goal

abbrev pub invariant-loop-text : goal.invariant-loop-text
invariant-loop-text l =
    Pushes l.fn.sites.items l.sites.items
    (Plain (Word word.Context ∷ Punctuation OpenParenthesis ∷ []) ∷ Says Context l.texts.first
    ∷ flat_map (λ text. punctuation Comma ∷ Says Context text ∷ []) (take l.text-index l.texts.rest))
