use Rattle.std.proofs.Common.{sym, ◌∙◌}
use Rattle.std.proofs.lemmas.Result.{IfOk-weaker}
use Rattle.idl_check.proofs.Visits.JudgeLemmas.{unit_tree-spelled}
use Rattle.idl_check.proofs.Visits.NamesLemmas.{names-refused, names-treed}
use Rattle.idl_env.specs.Facts.{answers}
use Rattle.idl_check.proofs.walk.judge.Judge.names.Goals as goal

pub names_of_sites-requires : goal.names_of_sites-requires
names_of_sites-requires c =
    unit_tree-spelled c.args.self.tokens.now c.args.self.scopes.now c.in-Ok.tree (sym c.in_ok-tree.ensures ∙ c.in-Ok.is)

pub returns-in-Ok : goal.returns-in-Ok
returns-in-Ok c =
    let bank = answers c.args.self.env.now in
    let tokens = c.args.self.tokens.now in
    let scopes = c.args.self.scopes.now in
    let is = sym c.in_ok-tree.ensures ∙ c.in-Ok.is in
    IfOk-weaker c.names_of_sites.result _ _
    (λ names given turns more. given turns more ∙ sym (names-treed turns bank tokens scopes c.in-Ok.tree is))
    c.names_of_sites.ensures

pub returns-in-Err : goal.returns-in-Err
returns-in-Err c = λ turns more.
    let bank = answers c.args.self.env.now in
    let is = sym c.in_ok-tree.ensures ∙ c.in-Err.is in
    c.new.ensures.items ∙ sym (names-refused turns bank c.args.self.tokens.now c.args.self.scopes.now c.in-Err._fault is)
