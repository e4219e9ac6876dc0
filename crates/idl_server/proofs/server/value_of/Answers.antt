use Rattle.std.proofs.Common.{◌∙◌, ◌++◌, ◌∷◌, [], ap, refl, sym, true≢false}
use Rattle.serde_json.specs.Data.{Data}
use Rattle.serde_json.specs.View.{view}
use Rattle.idl_editor.specs.messages.Answers.{error_json}
use Rattle.idl_editor.specs.messages.Said.{said_by}
use Rattle.idl_editor.specs.declared.messages.answer.ErrorCode.TheVariants.{NoJson}
use Rattle.idl_server.proofs.NoticeLemmas.{json-none, json-some, view-Null}
use Rattle.idl_server.proofs.server.value_of.Goals as goal

pub returns-in-Ok : goal.returns-in-Ok
returns-in-Ok c = (json-some c.args.body.now (view c.in-Ok.value) c.in-Ok.ensures.ok.0 c.in-Ok.ensures.ok.1, refl)

pub returns-in_ok-refuse-in-Err : goal.returns-in_ok-refuse-in-Err
returns-in_ok-refuse-in-Err c = (
  json-none c.args.body.now (c.in-Err.ensures.err (λ memory. absurd (true≢false (sym (c.is_memory.ensures.1 memory) ∙ c.if-is_memory.false)))),
  c.in_ok-refuse-in-Err.ensures ∙ ap (λ (id : Data). said_by c.args.out.now ++ error_json id NoJson ∷ []) view-Null,
)
