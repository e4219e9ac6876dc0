use Rattle.std.proofs.Common.{◌≡◌, ◌∙◌, Some, ap, codes, true}
use Rattle.clap.specs.Words.{Rule, new_rule, rule_of}
use Rattle.clap.specs.declared.builder.action.ArgAction.TheVariants.{Append}
use Rattle.idl_tool.proofs.RequestLemmas.{is_global}
use Rattle.idl_tool.proofs.commands.file.Goals as goal

pub returns-clause-rule : goal.returns-clause-rule
returns-clause-rule c =
    let value : rule_of c.value_name.result ≡ record (new_rule (codes "file")) { value_names = 1 } = ap rule_of c.value_name.ensures
    ∙ ap (λ (r : Rule). record r { value_names = 1 }) c.new.ensures.rule in
    let required : rule_of c.required.result ≡ record (new_rule (codes "file")) { value_names = 1; required = true } = ap rule_of c.required.ensures
    ∙ ap (λ (r : Rule). record r { required = true }) value in
    ap rule_of c.help.ensures ∙ (ap rule_of c.action.ensures ∙ ap (λ (r : Rule). record r { action = Some Append }) required)

pub returns-clause-global : goal.returns-clause-global
returns-clause-global c =
    ap is_global c.help.ensures ∙ (ap is_global c.action.ensures ∙ (ap is_global c.required.ensures ∙ (ap is_global c.value_name.ensures ∙ c.new.ensures.optional.1)))
