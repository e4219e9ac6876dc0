use Rattle.std.proofs.Common.{◌∙◌, Some, ap, sym}
use Rattle.idl_lex.proofs.KindLaws.LiteralLemmas.{values_then-end}
use Rattle.idl_lex.proofs.kinds.literal.body_value.Goals as goal

pub returns : goal.returns
returns c =
    ap Some c.from_vec.ensures
    ∙ sym (values_then-end c.args.is_wide c.characters.value.items c.characters.left.now c.in_default.ensures.none)
    ∙ c.characters.invariant
