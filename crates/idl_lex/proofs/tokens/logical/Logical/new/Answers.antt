use Rattle.std.proofs.Common.{◌∙◌, [], ap}
use Rattle.idl_lex.specs.tokens.Logical.{placed}
use Rattle.idl_lex.proofs.LogicalLemmas.{spliced-one}
use Rattle.idl_lex.proofs.tokens.logical.Logical.new.Goals as goal

pub returns-in_ok-shared-in-len1 : goal.returns-in_ok-shared-in-len1
returns-in_ok-shared-in-len1 c =
    ap (λ ns. placed ns c.args.number c.in_ok-shared-in-len1.field-0) c.new.ensures.items
    ∙ ap (λ bs. placed [] c.args.number bs) c.in_ok-shared-in-len1.ensures
    ∙ spliced-one c.args.number c.args.lines.now c.line-item.result c.in-len1.len_at_least c.in-len1.len_below c.line-item.is
