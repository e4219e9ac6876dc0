use Rattle.std.proofs.Common.{◌≡◌, ◌∙◌, drop, ap}
use Rattle.std.proofs.lemmas.List.{take_rest}
use Rattle.idl_editor.specs.Positions.{end_size}
use Rattle.idl_editor.proofs.PositionLemmas.{whole-is}
use Rattle.idl_editor.proofs.position.whole_size.Goals as goal

pub returns-clause-value : goal.returns-clause-value
returns-clause-value c =
    let text = c.args.text.now in
    let size = c.line_size-size.result in
    let ends : c.end_size.result ≡ end_size (drop size text) = c.end_size.ensures.value ∙ ap end_size (take_rest text size) in
    whole-is text size c.end_size.result c.line_size-size.ensures.value ends
