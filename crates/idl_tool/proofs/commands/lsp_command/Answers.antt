use Rattle.std.proofs.Common.{◌≡◌, ◌∙◌, ap, ap₂, codes}
use Rattle.std.proofs.lemmas.Result.{IfOk-weaker}
use Rattle.clap.specs.Words.{app_of, new_app, with_rule}
use Rattle.clap.specs.Simple.{app_of_fields}
use Rattle.idl_tool.proofs.RequestLemmas.{has_globals_of, local-more, top_of}
use Rattle.idl_tool.proofs.commands.lsp_command.Goals as goal

pub returns-clause-shape : goal.returns-clause-shape
returns-clause-shape c =
    let named : app_of c.about.result ≡ new_app (codes "lsp") = ap app_of_fields c.about.ensures ∙ c.new.ensures.app in
    let used : app_of c.override_usage.result ≡ new_app (codes "lsp") = ap app_of_fields c.override_usage.ensures ∙ named in
    IfOk-weaker c.arg.result _ _ (λ r adds. ap top_of (adds.shape c.stdio.ensures.global ∙ ap₂ with_rule used c.stdio.ensures.rule)) c.arg.ensures

pub returns-clause-local : goal.returns-clause-local
returns-clause-local c =
    let local = ap has_globals_of c.override_usage.ensures ∙ (ap has_globals_of c.about.ensures ∙ c.new.ensures.local) in
    IfOk-weaker c.arg.result _ _ (λ r adds. adds.globals ∙ local-more _ _ local c.stdio.ensures.global) c.arg.ensures
