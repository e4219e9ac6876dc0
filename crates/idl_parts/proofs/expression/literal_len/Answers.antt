use Rattle.std.proofs.Common.{inl, inr, sym, ◌∙◌}
use Rattle.idl_tree.specs.Lexeme.{Text, WideText}
use Rattle.idl_parts.proofs.LengthLemmas.{length-spell_all}
use Rattle.idl_parts.proofs.expression.literal_len.Goals as goal

pub returns-in-Text : goal.returns-in-Text
returns-in-Text c = elim c.in-Text.is [
  | inl e ↦ rw e (c.text_len.ensures ∙ sym (length-spell_all Text c.in-Text.pieces))
  | inr e ↦ rw e (c.text_len.ensures ∙ sym (length-spell_all WideText c.in-Text.pieces))
]
