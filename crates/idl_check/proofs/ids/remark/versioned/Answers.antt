use Rattle.std.proofs.Common.{List, ◌∷◌, [], map, ◌∙◌}
use Rattle.std.specs.Prelude.{option_to_list}
use Rattle.idl_check.proofs.PragmaLaws.RemarkLemmas.{one-code}
use Rattle.idl_check.specs.ids.About.{Said}
use Rattle.idl_check.specs.tables.Codes.{faults_by}
use Rattle.idl_env.specs.declared.additions.addition.Addition.{Addition}
use Rattle.idl_env.specs.declared.additions.addition.Step.TheVariants.{Stays}
use Rattle.idl_fault.specs.declared.code.Code.TheVariants.{RepeatedVersion}
use Rattle.idl_unit.specs.TokenRules.{fault_at}
use Rattle.idl_unit.specs.declared.fault.Fault.{Fault}
use Rattle.idl_check.proofs.ids.remark.versioned.Goals as goal

pub returns : goal.returns
returns c = λ at.
    let again = c.is_fixed.result in
    let adds = c.in_ok-addition.addition ∷ [] in
    let said : List Fault → List Addition → Said = λ faults more. record { faults = faults; additions = more; step = Stays } in
    (λ i. said (map (fault_at at) (option_to_list (c.first_code.ensures i))) adds)
    ∙ (λ i. said (one-code at again RepeatedVersion i) adds)
    ∙ (λ i. said (faults_by at ((c.is_fixed.ensures i, RepeatedVersion) ∷ [])) (c.in_ok-addition.ensures i ∷ []))
