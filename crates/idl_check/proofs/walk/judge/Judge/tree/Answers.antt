use Rattle.std.proofs.Common.{◌++◌, ◌-◌, [], Err, length, sym, ap, ◌∙◌}
use Rattle.idl_check.proofs.Visits.JudgeLemmas.{first_faults-opening, tree-found, tree-read, tree-ruled, tree-stopped}
use Rattle.idl_unit.specs.Faults.{least_fault}
use Rattle.idl_unit.specs.TokenRules.{token_faults}
use Rattle.idl_check.proofs.walk.judge.Judge.tree.Goals as goal

pub returns-in-Some : goal.returns-in-Some
returns-in-Some c =
    let tokens = c.args.self.tokens.now in
    let scopes = c.args.self.scopes.now in
    let told = ap (λ more. least_fault (token_faults tokens ++ more)) (sym c.in-Some.ensures) ∙ c.first_fault.ensures in
    sym (tree-ruled tokens scopes c.first_fault.result told)

pub returns-in-Ok : goal.returns-in-Ok
returns-in-Ok c =
    let tokens = c.args.self.tokens.now in
    let scopes = c.args.self.scopes.now in
    let told = ap least_fault (first_faults-opening tokens scopes [] c.in-Ok.ensures.rules (rw c.in_default.is at c.opening_fault.ensures)) in
    sym (tree-read tokens scopes c.in-Ok.tree told c.in-Ok.ensures.tree)

pub returns-in-Err-Rule : goal.returns-in-Err-Rule
returns-in-Err-Rule c =
    let tokens = c.args.self.tokens.now in
    let scopes = c.args.self.scopes.now in
    let rule = rw c.in-Err-Rule.field-0-is at c.in-Err-Rule.ensures.fault in
    sym (tree-found tokens scopes c.in-Err-Rule.fault (rw c.in_default.is at c.opening_fault.ensures) rule)

pub returns-in-Err-NoTree : goal.returns-in-Err-NoTree
returns-in-Err-NoTree c =
    let tokens = c.args.self.tokens.now in
    let scopes = c.args.self.scopes.now in
    let stops = rw c.in-Err-NoTree.field-0-is at c.in-Err-NoTree.ensures.fault in
    let told = ap least_fault (first_faults-opening tokens scopes [] stops.0 (rw c.in_default.is at c.opening_fault.ensures)) in
    ap Err c.no_tree.ensures ∙ sym (tree-stopped tokens scopes (length tokens - c.in-Err-NoTree.left) told stops.1)
