use Rattle.std.proofs.Common.{◌≡◌, ◌∙◌, ◌++◌, ◌∷◌, [], ap, sym, append_assoc, length, rules}
use Rattle.idl_base.specs.Spans.{pieces}
use Rattle.idl_base.specs.declared.texts.ByteRange.{ByteRange}
use Rattle.idl_source.proofs.LinesLemmas.{lines-more, lines-one, pieces-one}
use Rattle.idl_source.proofs.texts.lines.Lines.add.Goals as goal

pub invariant_of-self-in_err-push : goal.invariant_of-self-in_err-push
invariant_of-self-in_err-push c =
    let inside = c.self.inside in
    rw c.in_ok-extend_from_slice.ensures.items (rw c.in_err-push.ensures.items (lines-more inside.bytes.items c.args.line.now inside.spans.items c.self.invariant))

pub invariant_of-self-2 : goal.invariant_of-self-2
invariant_of-self-2 c =
    let inside = c.self.inside in
    let span : ByteRange = record { from = c.len-from.result; to = c.len-to.result } in
    let from : c.len-from.result ≡ length inside.bytes.items = search rules in
    let after : c.len-to.result ≡ length c.extend_from_slice.new.self.items = search rules in
    let to : c.len-to.result ≡ length (inside.bytes.items ++ c.args.line.now) = after ∙ ap length c.in_ok-extend_from_slice.ensures.items in
    rw c.in_ok-extend_from_slice.ensures.items (rw c.in_ok-push.ensures.items (lines-one inside.bytes.items c.args.line.now inside.spans.items span from to c.requires c.self.invariant))

pub returns : goal.returns
returns c =
    let inside = c.self.inside in
    let line = c.args.line.now in
    let span : ByteRange = record { from = c.len-from.result; to = c.len-to.result } in
    let from : c.len-from.result ≡ length inside.bytes.items = search rules in
    let after : c.len-to.result ≡ length c.extend_from_slice.new.self.items = search rules in
    let to : c.len-to.result ≡ length (inside.bytes.items ++ line) = after ∙ ap length c.in_ok-extend_from_slice.ensures.items in
    let step = pieces-one inside.bytes.items line inside.spans.items span from to c.self.invariant in
    rw c.in_ok-extend_from_slice.ensures.items (rw c.in_ok-push.ensures.items
    (ap (λ ps. inside.lines.items ++ ps) step ∙ sym (append_assoc inside.lines.items (pieces inside.bytes.items inside.spans.items) (line ∷ [])) ∙ ap (λ lines. lines ++ line ∷ []) c.self.view_is))
