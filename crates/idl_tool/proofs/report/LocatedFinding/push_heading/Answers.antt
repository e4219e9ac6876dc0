use Rattle.std.proofs.Common.{◌∙◌, ◌++◌, ℕ, List, ap, append_assoc}
use Rattle.std.proofs.lemmas.Result.{on_ok_weaker}
use Rattle.idl_tool.specs.Report.{beginning, saying}
use Rattle.idl_tool.proofs.report.LocatedFinding.push_heading.Goals as goal

pub returns : goal.returns
returns c =
    let finding = c.args.self.finding.now in
    let says = saying finding c.args.words in
    on_ok_weaker c.push_saying.result
    (λ more. more ∙ ap (λ (t : List ℕ). t ++ says) c.in_ok-push_beginning.ensures ∙ append_assoc c.args.out.now.items (beginning finding c.args.self.column) says)
    c.push_saying.ensures
