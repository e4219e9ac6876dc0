use Rattle.std.proofs.Common.{◌≡◌, sym, ap, ◌∙◌}
use Rattle.std.proofs.lemmas.Result.{IfOk-weaker}
use Rattle.idl_check.proofs.Visits.JudgeLemmas.{unit_tree-spelled}
use Rattle.idl_check.proofs.Visits.VisitLemmas.{runs_over}
use Rattle.idl_check.specs.walk.Verdict.{by_tree, refused}
use Rattle.idl_env.specs.Facts.{answers}
use Rattle.idl_check.proofs.walk.judge.Judge.verdict.Goals as goal

pub by_names-requires : goal.by_names-requires
by_names-requires c =
    unit_tree-spelled c.args.self.tokens.now c.args.self.scopes.now c.in-Ok.tree (sym c.in_ok-tree.ensures ∙ c.in-Ok.is)

pub returns-in-Ok : goal.returns-in-Ok
returns-in-Ok c =
    let bank = answers c.args.self.env.now in
    let tokens = c.args.self.tokens.now in
    let scopes = c.args.self.scopes.now in
    let is = sym c.in-Ok.is ∙ c.in_ok-tree.ensures in
    IfOk-weaker c.by_names.result _ _
    (λ v given turns more. given turns more ∙ ap (λ r. runs_over bank (by_tree turns tokens scopes r) c.args.log.now) is)
    c.by_names.ensures

pub returns-in-Err : goal.returns-in-Err
returns-in-Err c =
    let bank = answers c.args.self.env.now in
    let tokens = c.args.self.tokens.now in
    let scopes = c.args.self.scopes.now in
    let is = sym c.in-Err.is ∙ c.in_ok-tree.ensures in
    IfOk-weaker c.refused.result (λ v. (v, c.refused.new.log) ≡ runs_over bank (refused tokens c.in-Err.fault) c.args.log.now) _
    (λ v given turns more. given ∙ ap (λ r. runs_over bank (by_tree turns tokens scopes r) c.args.log.now) is)
    c.refused.ensures
