use Rattle.std.proofs.Common.{◌≡◌, ◌∙◌, ◌∷◌, ◌++◌, [], ap, length, rules}
use Rattle.idl_base.specs.Spans.{pieces}
use Rattle.idl_base.specs.declared.texts.ByteRange.{ByteRange}
use Rattle.idl_root.specs.Printed.{entry_over}
use Rattle.idl_root.proofs.PrintLemmas.{rows-one}
use Rattle.idl_root.proofs.compiling.printing.RowBuffer.push.Goals as goal

pub returns-in_ok-push-clause-rows : goal.returns-in_ok-push-clause-rows
returns-in_ok-push-clause-rows c =
    let e = entry_over c.args.name.now.0 c.args.name.now.1 in
    let old = c.args.self.now in
    let bytes = c.push_entry.new.buffer.items in
    let span : ByteRange = record { from = c.len-from.result; to = c.len-to.result } in
    let more : c.push.new.self.items ≡ old.spans.items ++ span ∷ [] = search rules in
    let from : c.len-from.result ≡ length old.bytes.items = search rules in
    let to : c.len-to.result ≡ length bytes = search rules in
    ap (pieces bytes) more
    ∙ (rows-one e c.in_ok-has_row.field-0 old.bytes.items bytes old.spans.items span c.in_ok-has_row.ensures c.if-has_row.true c.requires from to).1
