use Rattle.std.proofs.Common.{◌≡◌, ◌∙◌, ◌+◌, ◌++◌, length, take, slice_range, ap}
use Rattle.idl_source.specs.texts.Cut.{cut_lines}
use Rattle.idl_editor.specs.declared.splice.LineSplice.{LineSplice}
use Rattle.idl_editor.proofs.SpliceLemmas.{splice-lines}
use Rattle.idl_editor.proofs.splice.splice_of.Goals as goal

pub returns : goal.returns
returns c =
    let text = c.args.text.now in
    let range = c.args.range in
    let whole = c.whole_around-whole.result in
    let splice : LineSplice = record { span = record { from = c.line_count.result + 1; del = c.line_count-2.result }; lines = c.in_ok-lines.lines } in
    let from : c.line_count.result + 1 ≡ length (cut_lines (take whole.from text)) + 1 = ap (λ n. n + 1) c.line_count.ensures.count in
    let del : c.line_count-2.result ≡ length (cut_lines (slice_range text whole.from whole.to)) = c.line_count-2.ensures.count in
    let lines : c.in_ok-lines.lines.items ≡ cut_lines ((slice_range text whole.from range.from ++ c.args.new.now) ++ slice_range text range.to whole.to) =
    c.in_ok-lines.ensures
    ∙ ap cut_lines (c.deref.ensures.value ∙ c.in_ok-extend_from_slice-2.ensures.items
    ∙ ap (λ t. t ++ slice_range text range.to whole.to) (c.in_ok-extend_from_slice.ensures.items ∙ ap (λ t. t ++ c.args.new.now) c.in_ok-middle.ensures.items)) in
    splice-lines text c.args.new.now range whole splice c.requires.ordered c.whole_around-whole.ensures from del lines
