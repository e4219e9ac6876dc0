use Rattle.std.proofs.Common.{◌∙◌, ◌++◌, ℕ, List, ap, append_assoc}
use Rattle.std.proofs.lemmas.Result.{on_ok_weaker}
use Rattle.idl_tool.specs.Report.{note_beginning, note_saying}
use Rattle.idl_tool.proofs.report.push_second.Goals as goal

pub returns : goal.returns
returns c =
    let second = c.args.second.now in
    let says = note_saying second in
    on_ok_weaker c.push_reason.result
    (λ more. more ∙ ap (λ (t : List ℕ). t ++ says) c.in_ok-push_note.ensures ∙ append_assoc c.args.out.now.items (note_beginning second.place c.args.column) says)
    c.push_reason.ensures
