use Rattle.std.proofs.Common.{◌≡◌, None, Some, ◌+◌, ◌∷◌, ◌++◌, [], map, sym, ap, ◌∙◌, arith}
use Rattle.std.proofs.lemmas.Result.{IfOk-weaker}
use Rattle.std.specs.Prelude.{option_to_list}
use Rattle.idl_check.proofs.PragmaLaws.PragmaLemmas.{name-first, verdict-faulty, verdict-sound}
use Rattle.idl_check.specs.ids.About.{with_faults}
use Rattle.idl_check.specs.ids.Remarks.{remarked}
use Rattle.idl_check.specs.tables.Codes.{faults_by}
use Rattle.idl_fault.specs.declared.code.Code.TheVariants.{BadIdText}
use Rattle.idl_unit.specs.Faults.{least_fault}
use Rattle.idl_unit.specs.TokenRules.{fault_at}
use Rattle.idl_check.proofs.ids.pragmas.judged.Goals as goal

pub returns-in-Some : goal.returns-in-Some
returns-in-Some c =
    let at = c.args.at in
    let more = faults_by (at + 1) ((c.args.is_bad, BadIdText) ∷ []) in
    let fault = fault_at at c.in-Some.code in
    let least = ap (λ o. least_fault (map (fault_at at) (option_to_list o) ++ more)) c.in-Some.is ∙ name-first fault at c.args.is_bad (omega arith) in
    IfOk-weaker c.refused.result _ _
    (λ v gives. gives ∙ sym (verdict-faulty (with_faults more (remarked at c.args.remark)) fault least))
    c.refused.ensures

pub returns-then-is_bad : goal.returns-then-is_bad
returns-then-is_bad c =
    let at = c.args.at in
    let more = faults_by (at + 1) ((c.args.is_bad, BadIdText) ∷ []) in
    let fault = fault_at (at + 1) BadIdText in
    let least : least_fault (map (fault_at at) (option_to_list c.args.remark.code) ++ more) ≡ Some fault =
    λ i. least_fault (map (fault_at at) (option_to_list (c.in_default.is i)) ++ faults_by (at + 1) ((c.if-is_bad.true i, BadIdText) ∷ [])) in
    IfOk-weaker c.refused-then-is_bad.result _ _
    (λ v gives. gives ∙ sym (verdict-faulty (with_faults more (remarked at c.args.remark)) fault least))
    c.refused-then-is_bad.ensures

pub returns : goal.returns
returns c =
    let at = c.args.at in
    let more = faults_by (at + 1) ((c.args.is_bad, BadIdText) ∷ []) in
    let least : least_fault (map (fault_at at) (option_to_list c.args.remark.code) ++ more) ≡ None =
    λ i. least_fault (map (fault_at at) (option_to_list (c.in_default.is i)) ++ faults_by (at + 1) ((c.if-is_bad.false i, BadIdText) ∷ [])) in
    IfOk-weaker c.told.result _ _
    (λ v gives. gives ∙ sym (verdict-sound (with_faults more (remarked at c.args.remark)) least))
    c.told.ensures
