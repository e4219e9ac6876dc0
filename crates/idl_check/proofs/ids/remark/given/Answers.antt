use Rattle.std.proofs.Common.{List, ◌∷◌, [], map, ◌∙◌}
use Rattle.std.specs.Prelude.{option_to_list}
use Rattle.idl_check.proofs.PragmaLaws.RemarkLemmas.{one-code, unless-added}
use Rattle.idl_check.specs.ids.About.{Said}
use Rattle.idl_check.specs.ids.Identifying.{changed}
use Rattle.idl_check.specs.tables.Codes.{faults_by}
use Rattle.idl_check.specs.tables.Rules.{is_given, is_id}
use Rattle.idl_entity.specs.declared.identity.Fixed.TheVariants.{Id}
use Rattle.idl_env.specs.declared.additions.addition.Addition.{Addition}
use Rattle.idl_env.specs.declared.additions.addition.Addition.TheVariants.{Identifies}
use Rattle.idl_env.specs.declared.additions.addition.Step.TheVariants.{Stays}
use Rattle.idl_fault.specs.declared.code.Code.TheVariants.{RepeatedId}
use Rattle.idl_unit.specs.TokenRules.{fault_at}
use Rattle.idl_unit.specs.declared.fault.Fault.{Fault}
use Rattle.idl_check.proofs.ids.remark.given.Goals as goal

pub returns : goal.returns
returns c = λ at.
    let text = c.args.text.now in
    let path = c.args.path.now in
    let d = c.args.before.now in
    let again = c.in_ok-is_again.is_again in
    let adds = option_to_list c.in_ok-adds.adds in
    let said : List Fault → List Addition → Said = λ faults more. record { faults = faults; additions = more; step = Stays } in
    (λ i. said (map (fault_at at) (option_to_list (c.first_code.ensures i))) adds)
    ∙ (λ i. said (one-code at again RepeatedId i) adds)
    ∙ (λ i. said (faults_by at ((c.in_ok-is_again.ensures i, RepeatedId) ∷ [])) (option_to_list (c.in_ok-adds.ensures i)))
    ∙ unless-added (is_id text) (faults_by at ((is_given text path d, RepeatedId) ∷ [])) (Identifies path (changed (Id text) d))
