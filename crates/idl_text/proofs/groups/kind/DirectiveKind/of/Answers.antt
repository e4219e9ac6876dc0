use Rattle.std.proofs.Common.{ap, ◌∙◌, unwrap_or}
use Rattle.idl_lex.specs.kinds.WordTable.{value_of}
use Rattle.idl_text.specs.declared.groups.kind.DirectiveKind.TheVariants.{Alone}
use Rattle.idl_text.specs.declared.groups.kind.Plain.TheVariants.{Unknown}
use Rattle.idl_text.proofs.groups.kind.DirectiveKind.of.Goals as goal

pub returns : goal.returns
returns c =
    c.unwrap_or.ensures ∙ ap (λ k. unwrap_or k (Alone Unknown)) c.value_of.ensures
    ∙ ap (λ ws. unwrap_or (value_of ws c.args.word.now) (Alone Unknown)) c.table.ensures
