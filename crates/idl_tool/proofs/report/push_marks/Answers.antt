use Rattle.std.proofs.Common.{◌≡◌, ◌∙◌, ◌++◌, ℕ, List, ap, append_assoc, arith, flat_map, length, min, take, true}
use Rattle.std.proofs.lemmas.List.{take_min}
use Rattle.std.proofs.lemmas.Result.{on_ok_weaker}
use Rattle.idl_tool.specs.Report.{gap_below, mark_below, marked, shown_text}
use Rattle.idl_tool.proofs.report.push_marks.Goals as goal

pub returns : goal.returns
returns c =
    let line = c.args.line.now in
    let column = c.args.column in
    let out = c.args.out.now.items in
    let end : c.min-end.result ≡ min column (length line) = omega (arith, c.min-end.ensures) in
    let bytes : take c.min-end.result line ≡ take column line = ap (λ n. take n line) end ∙ take_min column line in
    let before = c.deref.ensures.value ∙ c.in_ok-before.ensures ∙ ap (shown_text true) bytes in
    let below = c.deref-2.ensures.value ∙ c.in_ok-below.ensures ∙ ap (shown_text true) c.marked.ensures in
    let gap = flat_map gap_below (shown_text true (take column line)) in
    let carets = flat_map mark_below (shown_text true (marked line column c.args.size)) in
    let first = c.in_ok-push_gap.ensures ∙ ap (λ (t : List ℕ). out ++ flat_map gap_below t) before in
    on_ok_weaker c.push_carets.result
    (λ more. more ∙ ap (λ (t : List ℕ). c.push_gap.new.out.items ++ flat_map mark_below t) below ∙ ap (λ (t : List ℕ). t ++ carets) first ∙ append_assoc out gap carets)
    c.push_carets.ensures
