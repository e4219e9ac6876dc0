use Rattle.std.proofs.Common.{◌∙◌, ◌++◌, ap₂}
use Rattle.idl_editor.specs.told.Diagnostics.{said_with_hint}
use Rattle.idl_editor.proofs.told.diagnostics.message_of.Goals as goal

pub returns : goal.returns
returns c =
    let explanation = c.explanation_of-explanation.result.now in (
      explanation,
      c.explanation_of-explanation.ensures,
      c.in_ok-push_said.ensures ∙ ap₂ (λ before token. before ++ said_with_hint explanation token) c.new-message.ensures.items c.token_of-token.ensures,
    )
