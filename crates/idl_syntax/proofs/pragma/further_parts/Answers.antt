use Rattle.std.proofs.Common.{◌∙◌, ap, sym}
use Rattle.idl_lex.specs.kinds.Kind.{kind_of}
use Rattle.idl_tree.specs.Pragma.{is_separator, part_of}
use Rattle.idl_syntax.proofs.PragmaLemmas.{part_taken}
use Rattle.idl_syntax.proofs.pragma.further_parts.Goals as goal

pub loop-left-preserved : goal.loop-left-preserved
loop-left-preserved c =
    c.loop-left.invariant
    ∙ part_taken _ _ _ _ c.separator-item.result c.name-item.result c.in-len2-up.len_at_least
    (ap (λ t. is_separator (kind_of t)) (sym c.separator-item.is) ∙ sym c.is_separator.ensures ∙ c.if-not-is_separator.false)
    (ap (λ t. part_of t) (sym c.name-item.is) ∙ sym c.in_ok-part.ensures ∙ c.in-Some.is)
    c.in_ok-push.ensures.items
