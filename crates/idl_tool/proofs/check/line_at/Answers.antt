use Rattle.std.proofs.Common.{◌≡◌, ◌∙◌, ℕ, List, None, Some, ap, sym}
use Rattle.std.specs.FinMap as finite
use Rattle.std.specs.Option.{option_and_then, option_copied}
use Rattle.idl_tool.specs.Checked.{numbered_line}
use Rattle.idl_tool.proofs.check.line_at.Goals as goal

pub returns-in-Some : goal.returns-in-Some
returns-in-Some c =
    let files = c.args.columns.now in
    let place = c.args.place.now in
    let got : finite.get files place.file ≡ Some c.in-Some.lines.now = sym (c.file.ensures ∙ ap (finite.get files) c.as_bytes.ensures.bytes) ∙ ap option_copied c.in-Some.is in
    c.numbered_line.ensures ∙ sym (ap (option_and_then (λ (ls : List (List ℕ)). numbered_line ls place.line)) got)

pub returns-in-None : goal.returns-in-None
returns-in-None c =
    let files = c.args.columns.now in
    let place = c.args.place.now in
    let got : finite.get files place.file ≡ None = sym (c.file.ensures ∙ ap (finite.get files) c.as_bytes.ensures.bytes) ∙ ap option_copied c.in-None.is in
    sym (ap (option_and_then (λ (ls : List (List ℕ)). numbered_line ls place.line)) got)
