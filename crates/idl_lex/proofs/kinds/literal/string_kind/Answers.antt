use Rattle.std.proofs.Common.{◌∙◌, if◌then◌else◌, ap, sym}
use Rattle.idl_lex.specs.declared.kinds.kind.TokenKind.TheVariants.{String, WideString}
use Rattle.idl_lex.proofs.KindLaws.LiteralLemmas.{string_kind-end}
use Rattle.idl_lex.proofs.kinds.literal.string_kind.Goals as goal

pub returns-then-is_wide : goal.returns-then-is_wide
returns-then-is_wide c =
    sym (ap (λ w. if w then WideString else String) c.if-is_wide.true)
    ∙ sym (string_kind-end c.args.is_wide c.characters.left.now c.in_default.ensures.none)
    ∙ c.characters.invariant

pub returns-else-is_wide : goal.returns-else-is_wide
returns-else-is_wide c =
    sym (ap (λ w. if w then WideString else String) c.if-is_wide.false)
    ∙ sym (string_kind-end c.args.is_wide c.characters.left.now c.in_default.ensures.none)
    ∙ c.characters.invariant
