use Rattle.std.proofs.Common.{◌≡◌, ◌∙◌, ◌||◌, Bool, true, false, ap, ap₂, codes, refl}
use Rattle.std.proofs.lemmas.Result.{IfOk-weaker}
use Rattle.clap.specs.Words.{rule_of, with_rule}
use Rattle.clap.specs.declared.builder.arg.Arg.{Arg}
use Rattle.idl_driver.specs.Words.{option_rule}
use Rattle.idl_driver.proofs.options.with_options.Goals as goal

abbrev is_global : Arg → Bool
is_global a = a.global

-- an argument that isn't global leaves a command as it is
local-more : (has is : Bool) → is ≡ false → (has || is) ≡ has
local-more true is e = refl
local-more false is e = e

pub returns-clause-rules : goal.returns-clause-rules
returns-clause-rules c =
    let define : rule_of c.help.result ≡ option_rule (codes "define") 68 = ap rule_of c.help.ensures ∙ c.valued.ensures.rule in
    let undefine : rule_of c.help-2.result ≡ option_rule (codes "undefine") 85 = ap rule_of c.help-2.ensures ∙ c.valued-2.ensures.rule in
    let directory : rule_of c.help-3.result ≡ option_rule (codes "directory") 73 = ap rule_of c.help-3.ensures ∙ c.valued-3.ensures.rule in
    let one = c.in_ok-arg.ensures.shape (ap is_global c.help.ensures ∙ c.valued.ensures.global) ∙ ap₂ with_rule refl define in
    let two = c.in_ok-arg-2.ensures.shape (ap is_global c.help-2.ensures ∙ c.valued-2.ensures.global) ∙ ap₂ with_rule one undefine in
    let own = ap is_global c.help-3.ensures ∙ c.valued-3.ensures.global in
    IfOk-weaker c.arg-3.result _ _ (λ r adds. adds.shape own ∙ ap₂ with_rule two directory) c.arg-3.ensures

pub returns-clause-local : goal.returns-clause-local
returns-clause-local c =
    let define : c.help.result.global ≡ false = ap is_global c.help.ensures ∙ c.valued.ensures.global in
    let undefine : c.help-2.result.global ≡ false = ap is_global c.help-2.ensures ∙ c.valued-2.ensures.global in
    let directory : c.help-3.result.global ≡ false = ap is_global c.help-3.ensures ∙ c.valued-3.ensures.global in
    let one = c.in_ok-arg.ensures.globals ∙ local-more _ _ define in
    let two = c.in_ok-arg-2.ensures.globals ∙ local-more _ _ undefine ∙ one in
    IfOk-weaker c.arg-3.result _ _ (λ r adds. adds.globals ∙ local-more _ _ directory ∙ two) c.arg-3.ensures
