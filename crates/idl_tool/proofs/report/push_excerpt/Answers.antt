use Rattle.std.proofs.Common.{◌∙◌, ◌++◌, ◌∷◌, [], ℕ, List, ap, append_assoc, length, true}
use Rattle.std.proofs.lemmas.Result.{on_ok_weaker}
use Rattle.idl_tool.specs.Report.{marks, shown_text}
use Rattle.idl_tool.proofs.ShownLemmas.{grown-on_ok}
use Rattle.idl_tool.proofs.report.push_excerpt.Goals as goal

pub returns : goal.returns
returns c =
    let line = c.args.line.now in
    let out = c.args.out.now.items in
    let shown = shown_text true line in
    let below = marks line c.in-Some.column (length c.args.token.now) in
    let end : List ℕ = 10 ∷ [] in
    let first = c.in_ok-extend_from_slice.ensures.items ∙ ap (λ (t : List ℕ). out ++ t) (c.deref.ensures.value ∙ c.in_ok-shown.ensures) in
    let second = c.in_ok-extend_from_slice-2.ensures.items ∙ ap (λ (t : List ℕ). t ++ end) first in
    let third = c.in_ok-push_marks.ensures ∙ ap (λ (t : List ℕ). t ++ below) second in
    let joined = append_assoc ((out ++ shown) ++ end) below end ∙ ap (λ (t : List ℕ). t ++ (below ++ end)) (append_assoc out shown end) ∙ append_assoc out (shown ++ end) (below ++ end) in
    rw c.in-Some.is (on_ok_weaker c.extend_from_slice-3.result (λ more. more ∙ ap (λ (t : List ℕ). t ++ end) third ∙ joined) (grown-on_ok _ _ c.extend_from_slice-3.result c.extend_from_slice-3.ensures.items))
