use Rattle.std.proofs.Common.{◌≡◌, ◌∙◌, ◌++◌, ◌+◌, ap, arith, length, replicate}
use Rattle.idl_lex.specs.tokens.Logical.{placed}
use Rattle.idl_lex.specs.bytes.Text.{front}
use Rattle.idl_lex.proofs.LogicalLemmas.{join-more, join-last}
use Rattle.idl_lex.proofs.tokens.logical.join.Goals as goal

pub lines-preserved : goal.lines-preserved
lines-preserved c =
    let line = c.index-lines-i.result in
    let inv = c.lines.invariant in
    let more = c.lines-test.true in
    let part : c.front-front.result.now ≡ front line = c.front-front.ensures ∙ ap front c.as_bytes.ensures.bytes in
    let bytes : c.extend_from_slice.new.self.items ≡ c.lines.bytes.items ++ front line =
    c.in_ok-extend_from_slice.ensures.items ∙ ap (λ bs. c.lines.bytes.items ++ bs) part in
    let numbers : c.push_number.new.numbers.items ≡ c.lines.numbers.items ++ replicate (length (front line)) (c.args.number + c.lines.i) =
    c.in_ok-push_number.ensures ∙ ap (λ bs. c.lines.numbers.items ++ replicate (length bs) (c.args.number + c.lines.i)) part in
    let step = join-more c.args.lines.now c.args.number c.lines.i line c.lines.numbers.items c.lines.bytes.items more c.index-lines-i.is inv.numbered in
    record {
      within = omega (arith, more);
      numbered = rw bytes (rw numbers step.numbered);
      text = rw bytes (rw numbers (step.text ∙ inv.text));
    }

pub returns : goal.returns
returns c =
    let line = c.index-lines-i-2.result in
    let inv = c.lines.invariant in
    let bytes = c.in_ok-from_vec.ensures ∙ c.in_ok-extend_from_slice-2.ensures.items ∙ ap (λ bs. c.lines.bytes.items ++ bs) c.as_bytes-2.ensures.bytes in
    ap (λ bs. placed c.lines.numbers.items (c.args.number + c.lines.i) bs) bytes
    ∙ join-last c.args.lines.now c.args.number c.lines.i line c.lines.numbers.items c.lines.bytes.items inv.within c.lines-test.false c.index-lines-i-2.is inv.numbered
    ∙ inv.text
