use Rattle.std.proofs.Common.{◌≡◌, ◌∙◌, Bool, Some, ap, ap₂, codes, refl}
use Rattle.std.proofs.lemmas.Result.{IfOk-weaker}
use Rattle.clap.specs.Words.{Rule, rule_of, with_rule}
use Rattle.clap.specs.declared.builder.action.ArgAction.TheVariants.{Help, Version}
use Rattle.clap.specs.declared.builder.arg.Arg.{Arg}
use Rattle.idl_driver.specs.Words.{flag_rule}
use Rattle.idl_program.specs.Words.{text_rule}
use Rattle.idl_program.proofs.request.with_flags.Goals as goal

abbrev is_global : Arg → Bool
is_global a = a.global

pub returns : goal.returns
returns c =
    let dump : rule_of c.help.result ≡ record (flag_rule (codes "dump")) { short = Some 100 } = ap rule_of c.help.ensures
    ∙ (ap rule_of c.short.ensures ∙ ap (λ (r : Rule). record r { short = Some 100 }) c.flag.ensures.rule) in
    let listing : rule_of c.help-2.result ≡ record (flag_rule (codes "listing")) { long = Some (codes "listing") } = ap rule_of c.help-2.ensures
    ∙ (ap rule_of c.long.ensures ∙ ap (λ (r : Rule). record r { long = Some (codes "listing") }) c.flag-2.ensures.rule) in
    let session : rule_of c.help-3.result ≡ record (flag_rule (codes "session")) { long = Some (codes "session") } = ap rule_of c.help-3.ensures
    ∙ (ap rule_of c.long-2.ensures ∙ ap (λ (r : Rule). record r { long = Some (codes "session") }) c.flag-3.ensures.rule) in
    let help : rule_of c.help-4.result ≡ text_rule (codes "help") Help = ap rule_of c.help-4.ensures ∙ c.text.ensures.rule in
    let version : rule_of c.help-5.result ≡ text_rule (codes "version") Version = ap rule_of c.help-5.ensures ∙ c.text-2.ensures.rule in
    let one = c.in_ok-arg.ensures.shape (ap is_global c.help.ensures ∙ (ap is_global c.short.ensures ∙ c.flag.ensures.global)) ∙ ap₂ with_rule refl dump in
    let two = c.in_ok-arg-2.ensures.shape (ap is_global c.help-2.ensures ∙ (ap is_global c.long.ensures ∙ c.flag-2.ensures.global)) ∙ ap₂ with_rule one listing in
    let three = c.in_ok-arg-3.ensures.shape (ap is_global c.help-3.ensures ∙ (ap is_global c.long-2.ensures ∙ c.flag-3.ensures.global)) ∙ ap₂ with_rule two session in
    let four = c.in_ok-arg-4.ensures.shape (ap is_global c.help-4.ensures ∙ c.text.ensures.global) ∙ ap₂ with_rule three help in
    let own = ap is_global c.help-5.ensures ∙ c.text-2.ensures.global in
    IfOk-weaker c.arg-5.result _ _ (λ r adds. adds.shape own ∙ ap₂ with_rule four version) c.arg-5.ensures
