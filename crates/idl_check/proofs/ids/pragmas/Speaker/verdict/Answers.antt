use Rattle.std.proofs.Common.{◌≡◌, None, Some, sym, ap, ◌∙◌}
use Rattle.std.proofs.lemmas.Result.{IfErr-at_err, IfOk-at_ok, IfOk-weaker}
use Rattle.idl_check.proofs.PragmaLaws.PragmaLemmas.{judged-refused, judged-spoken}
use Rattle.idl_check.proofs.Visits.VisitLemmas.{runs_over}
use Rattle.idl_env.specs.Facts.{answers}
use Rattle.idl_parse.specs.Parse.{pragma_faults}
use Rattle.idl_tree.specs.Pragma.{pragma_of}
use Rattle.idl_tree.specs.declared.pragma.Pragma.{Pragma}
use Rattle.idl_unit.specs.Faults.{least_fault}
use Rattle.idl_unit.specs.declared.fault.Fault.{Fault}
use Rattle.idl_check.proofs.ids.pragmas.Speaker.verdict.Goals as goal

pub said-requires : goal.said-requires
said-requires c =
    let is = IfOk-at_ok (λ (p : Pragma). pragma_of c.as_slice.result.now ≡ Some p) c.in-Ok.is c.in_ok-pragma.ensures.pragma in
    ap pragma_of (sym c.as_slice.ensures) ∙ is

pub returns-in-Ok : goal.returns-in-Ok
returns-in-Ok c =
    let bank = answers c.args.self.env.now in
    let tokens = c.args.self.tokens.now in
    let inside = c.args.self.inside in
    let scopes = c.args.self.scopes.now in
    let log = c.args.log.now in
    let formed = ap pragma_of (sym c.as_slice.ensures) ∙ IfOk-at_ok (λ (p : Pragma). pragma_of c.as_slice.result.now ≡ Some p) c.in-Ok.is c.in_ok-pragma.ensures.pragma in
    let rules = IfOk-at_ok (λ (p : Pragma). least_fault (pragma_faults c.as_slice.result.now inside) ≡ None) c.in-Ok.is c.in_ok-pragma.ensures.rules in
    let none = ap (λ ts. least_fault (pragma_faults ts inside)) (sym c.as_slice.ensures) ∙ rules in
    IfOk-weaker c.said.result _ _ (λ v gives turns more. gives turns more ∙ judged-spoken bank turns tokens inside scopes c.in-Ok.pragma log none formed) c.said.ensures

pub returns-in-Err : goal.returns-in-Err
returns-in-Err c =
    let bank = answers c.args.self.env.now in
    let tokens = c.args.self.tokens.now in
    let inside = c.args.self.inside in
    let scopes = c.args.self.scopes.now in
    let log = c.args.log.now in
    let least = IfErr-at_err (λ (f : Fault). least_fault (pragma_faults c.as_slice.result.now inside) ≡ Some f) c.in-Err.is c.in_ok-pragma.ensures.fault in
    let told = ap (λ ts. least_fault (pragma_faults ts inside)) (sym c.as_slice.ensures) ∙ least in
    IfOk-weaker c.adding.result _ _
    (λ v gives turns more.
    (λ i. (gives i, log))
    ∙ ap (λ q. runs_over bank q log) (sym (judged-refused turns tokens inside scopes c.in-Err.fault told)))
    c.adding.ensures
