use Rattle.std.proofs.Common.{◌≡◌, ◌∙◌, ◌++◌, ap, arith, length, min, take}
use Rattle.std.proofs.lemmas.List.{take_min}
use Rattle.bstr.specs.Utf8.{decoded}
use Rattle.idl_tool.specs.Report.{shown_piece}
use Rattle.idl_tool.proofs.report.push_first.Goals as goal

pub returns-clause-shown : goal.returns-clause-shown
returns-clause-shown c =
    let text = c.args.text.now in
    let out = c.args.out.now.items in
    let size = c.decode-character.result.1 in
    let end : c.min-end.result ≡ min size (length text) = omega (arith, c.min-end.ensures) in
    let bytes : take c.min-end.result text ≡ take size text = ap (λ n. take n text) end ∙ take_min size text in
    c.in_ok-push_piece.ensures
    ∙ (λ i. out ++ shown_piece c.args.is_line (c.decode-character.ensures.char i) (bytes i))
    ∙ (λ i. out ++ shown_piece c.args.is_line (decoded text).char (take (c.decode-character.ensures.size i) text))
