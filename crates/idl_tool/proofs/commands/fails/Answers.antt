use Rattle.std.proofs.Common.{◌≡◌, ◌∙◌, Some, ap, codes}
use Rattle.clap.specs.Words.{Rule, new_rule, rule_of}
use Rattle.clap.specs.declared.builder.action.ArgAction.TheVariants.{Set}
use Rattle.idl_tool.proofs.RequestLemmas.{is_global}
use Rattle.idl_tool.proofs.commands.fails.Goals as goal

pub returns-clause-rule : goal.returns-clause-rule
returns-clause-rule c =
    let long : rule_of c.long.result ≡ record (new_rule (codes "fail-on")) { long = Some (codes "fail-on") } = ap rule_of c.long.ensures
    ∙ ap (λ (r : Rule). record r { long = Some (codes "fail-on") }) c.new.ensures.rule in
    let value : rule_of c.value_name.result ≡ record (new_rule (codes "fail-on")) { long = Some (codes "fail-on"); value_names = 1 } = ap rule_of c.value_name.ensures
    ∙ ap (λ (r : Rule). record r { value_names = 1 }) long in
    ap rule_of c.help.ensures ∙ (ap rule_of c.action.ensures ∙ ap (λ (r : Rule). record r { action = Some Set }) value)

pub returns-clause-global : goal.returns-clause-global
returns-clause-global c =
    ap is_global c.help.ensures ∙ (ap is_global c.action.ensures ∙ (ap is_global c.value_name.ensures ∙ (ap is_global c.long.ensures ∙ c.new.ensures.optional.1)))
