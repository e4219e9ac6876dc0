use Rattle.std.proofs.Common.{◌∷◌, ◌++◌, [], Some, ap, sym, ◌∙◌}
use Rattle.idl_check.proofs.Faults.LeastFault.{least-none}
use Rattle.idl_check.proofs.Visits.JudgeLemmas.{least_fault-more}
use Rattle.idl_unit.specs.Faults.{least_fault}
use Rattle.idl_unit.specs.TokenRules.{token_faults}
use Rattle.idl_check.proofs.walk.judge.first_fault.Goals as goal

pub returns-in-Some : goal.returns-in-Some
returns-in-Some c =
    let faults = token_faults c.args.tokens.now in
    least_fault-more faults c.in-Some.fault c.args.opening (sym c.token_fault.ensures.least ∙ c.in-Some.is) ∙ ap Some (sym c.lesser.ensures)

pub returns-in-None : goal.returns-in-None
returns-in-None c =
    let none = least-none (token_faults c.args.tokens.now) (sym c.token_fault.ensures.least ∙ c.in-None.is) in
    ap (λ faults. least_fault (faults ++ c.args.opening ∷ [])) none
