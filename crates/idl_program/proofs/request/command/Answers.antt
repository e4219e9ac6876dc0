use Rattle.std.proofs.Common.{◌≡◌, ◌∙◌, Bool, Some, ap, ap₂, codes, false}
use Rattle.std.proofs.lemmas.Result.{IfOk-weaker}
use Rattle.clap.specs.Words.{App, Rule, app_of, new_rule, rule_of, with_rule}
use Rattle.clap.specs.declared.builder.action.ArgAction.TheVariants.{Append}
use Rattle.clap.specs.declared.builder.arg.Arg.{Arg}
use Rattle.idl_program.specs.Words.{bare, flag_rules, idlc}
use Rattle.idl_driver.specs.Words.{file_rule, option_rules, with_rules}
use Rattle.idl_program.proofs.request.command.Goals as goal

abbrev is_global : Arg → Bool
is_global a = a.global

pub returns : goal.returns
unfolding idlc
returns c =
    let options : app_of c.in_ok-command.command ≡ with_rules bare option_rules = c.in_ok-command.ensures.rules ∙ ap (λ (a : App). with_rules a option_rules) c.bare.ensures in
    let flags : app_of c.in_ok-with_flags.field-0 ≡ with_rules (with_rules bare option_rules) flag_rules = c.in_ok-with_flags.ensures ∙ ap (λ (a : App). with_rules a flag_rules) options in
    let value : rule_of c.value_name.result ≡ record (new_rule (codes "file")) { value_names = 1 } = ap rule_of c.value_name.ensures
    ∙ ap (λ (r : Rule). record r { value_names = 1 }) c.new.ensures.rule in
    let file : rule_of c.help.result ≡ file_rule = ap rule_of c.help.ensures
    ∙ (ap rule_of c.action.ensures ∙ ap (λ (r : Rule). record r { action = Some Append }) value) in
    let own : c.help.result.global ≡ false = ap is_global c.help.ensures ∙ (ap is_global c.action.ensures ∙ (ap is_global c.value_name.ensures ∙ c.new.ensures.optional.1)) in
    IfOk-weaker c.arg.result _ _ (λ r adds. adds.shape own ∙ ap₂ with_rule flags file) c.arg.ensures
