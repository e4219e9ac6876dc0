use Rattle.std.proofs.Common.{◌∙◌, ℕ, List, ap}
use Rattle.idl_changes.specs.Plain.{label_of}
use Rattle.idl_repo.specs.declared.details.type_code_tree.CaseTree.{CaseTree}
use Rattle.idl_changes.proofs.labels.Labels.label_of.Goals as goal

pub returns : goal.returns
returns c =
    c.in_ok-label.ensures c.self.inside.names.now c.self.invariant.0
    ∙ ap (λ (both : List (List ℕ) × List CaseTree). label_of both.0 c.args.text.now) c.self.view_is
