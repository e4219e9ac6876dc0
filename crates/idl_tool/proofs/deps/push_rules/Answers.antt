use Rattle.std.proofs.Common.{◌∙◌, ℕ, All, IsTrue, List, subst}
use Rattle.idl_tool.specs.make_rules.Make.{is_make_name}
use Rattle.idl_tool.proofs.DepsLemmas.{rules-readable}
use Rattle.idl_tool.proofs.deps.push_rules.Goals as goal

pub returns-clause-readable : goal.returns-clause-readable
returns-clause-readable c =
    let deps = c.args.deps.now in
    let files = c.args.sources.now.files in
    let root = c.args.root.now in
    let names = subst (λ (ns : List (List ℕ)). All (λ (n : List ℕ). IsTrue (is_make_name n)) ns) (c.deref.ensures.value ∙ c.in_ok-asked.ensures) c.in_ok-refuse_names.ensures in
    rules-readable deps files root _ c.in_ok-push_target_of.ensures.readable names
