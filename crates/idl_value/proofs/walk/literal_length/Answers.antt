use Rattle.std.proofs.Common.{inl, inr, sym, ap, ◌∙◌}
use Rattle.idl_tree.specs.Lexeme.{Text, WideText}
use Rattle.idl_value.specs.Evaluation.{ahead}
use Rattle.idl_value.proofs.SizeLemmas.{length-spell_all}
use Rattle.idl_value.proofs.walk.literal_length.Goals as goal

pub returns-in-Text : goal.returns-in-Text
returns-in-Text c = elim c.in-Text.is [
  | inl e ↦ rw e (c.text_length.ensures ∙ sym (ap (ahead 0) (length-spell_all Text c.in-Text.pieces)))
  | inr e ↦ rw e (c.text_length.ensures ∙ sym (ap (ahead 0) (length-spell_all WideText c.in-Text.pieces)))
]
