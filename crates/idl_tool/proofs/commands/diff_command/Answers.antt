use Rattle.std.proofs.Common.{◌≡◌, ◌∙◌, ap, ap₂, codes}
use Rattle.std.proofs.lemmas.Result.{IfOk-weaker}
use Rattle.clap.specs.Words.{App, app_of, new_app, with_rule}
use Rattle.clap.specs.Simple.{app_of_fields}
use Rattle.idl_driver.specs.Words.{option_rules, with_rules}
use Rattle.idl_tool.proofs.RequestLemmas.{has_globals_of, local-more, top_of}
use Rattle.idl_tool.proofs.commands.diff_command.Goals as goal

pub returns-clause-shape : goal.returns-clause-shape
returns-clause-shape c =
    let named : app_of c.about.result ≡ new_app (codes "diff") = ap app_of_fields c.about.ensures ∙ c.new.ensures.app in
    let used : app_of c.override_usage-command.result ≡ new_app (codes "diff") = ap app_of_fields c.override_usage-command.ensures ∙ named in
    let options = c.in_ok-with_options.ensures.rules ∙ ap (λ (a : App). with_rules a option_rules) used in
    let first = c.in_ok-arg.ensures.shape c.old_directory.ensures.global ∙ ap₂ with_rule options c.old_directory.ensures.rule in
    let second = c.in_ok-arg-2.ensures.shape c.new_directory.ensures.global ∙ ap₂ with_rule first c.new_directory.ensures.rule in
    let third = c.in_ok-arg-3.ensures.shape c.below.ensures.global ∙ ap₂ with_rule second c.below.ensures.rule in
    let fourth = c.in_ok-arg-4.ensures.shape c.fails.ensures.global ∙ ap₂ with_rule third c.fails.ensures.rule in
    let fifth = c.in_ok-arg-5.ensures.shape c.format.ensures.global ∙ ap₂ with_rule fourth c.format.ensures.rule in
    IfOk-weaker c.arg-6.result _ _ (λ r adds. ap top_of (adds.shape c.file.ensures.global ∙ ap₂ with_rule fifth c.file.ensures.rule)) c.arg-6.ensures

pub returns-clause-local : goal.returns-clause-local
returns-clause-local c =
    let local = ap has_globals_of c.override_usage-command.ensures ∙ (ap has_globals_of c.about.ensures ∙ c.new.ensures.local) in
    let options = c.in_ok-with_options.ensures.local ∙ local in
    let first = c.in_ok-arg.ensures.globals ∙ local-more _ _ options c.old_directory.ensures.global in
    let second = c.in_ok-arg-2.ensures.globals ∙ local-more _ _ first c.new_directory.ensures.global in
    let third = c.in_ok-arg-3.ensures.globals ∙ local-more _ _ second c.below.ensures.global in
    let fourth = c.in_ok-arg-4.ensures.globals ∙ local-more _ _ third c.fails.ensures.global in
    let fifth = c.in_ok-arg-5.ensures.globals ∙ local-more _ _ fourth c.format.ensures.global in
    IfOk-weaker c.arg-6.result _ _ (λ r adds. adds.globals ∙ local-more _ _ fifth c.file.ensures.global) c.arg-6.ensures
