use Rattle.std.proofs.Common.{◌≡◌, [], drop, arith, length-drop}
use Rattle.std.proofs.lemmas.List.{nil_from_length}
use Rattle.idl_editor.proofs.CutLemmas.{count-all, count_left}
use Rattle.idl_editor.proofs.splice.line_count.Goals as goal

pub returns-then-begun-clause-count : goal.returns-then-begun-clause-count
returns-then-begun-clause-count c =
    let bytes = c.args.bytes.now in
    let none : drop c.loop-byte.byte-index bytes ≡ [] = nil_from_length (drop c.loop-byte.byte-index bytes) (omega (arith, length-drop c.loop-byte.byte-index bytes)) in
    let left : count_left c.loop-byte.begun (drop c.loop-byte.byte-index bytes) ≡ 1 = λ i. count_left (c.if-begun.true i) (none i) in
    omega (arith, left, c.loop-byte.invariant.count, count-all bytes)

pub returns-else-begun-clause-count : goal.returns-else-begun-clause-count
returns-else-begun-clause-count c =
    let bytes = c.args.bytes.now in
    let none : drop c.loop-byte.byte-index bytes ≡ [] = nil_from_length (drop c.loop-byte.byte-index bytes) (omega (arith, length-drop c.loop-byte.byte-index bytes)) in
    let left : count_left c.loop-byte.begun (drop c.loop-byte.byte-index bytes) ≡ 0 = λ i. count_left (c.if-begun.false i) (none i) in
    omega (arith, left, c.loop-byte.invariant.count, count-all bytes)
