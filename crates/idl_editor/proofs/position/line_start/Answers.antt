use Rattle.std.proofs.Common.{◌≡◌, ◌∙◌, ◌+◌, ◌-◌, ◌<◌, drop, length, ap, arith, length-drop, zero-add}
use Rattle.std.proofs.lemmas.List.{take_rest}
use Rattle.idl_editor.specs.Positions.{line_start, whole_size}
use Rattle.idl_editor.proofs.PositionLemmas.{start-past, start-step, start-zero}
use Rattle.idl_editor.proofs.position.line_start.Goals as goal

pub lines-init : goal.lines-init
lines-init c =
    let all : c.args.line - 0 ≡ c.args.line = omega arith in
    record {
      within = omega arith;
      value = zero-add (line_start (c.args.line - 0) c.args.text.now) ∙ ap (λ n. line_start n c.args.text.now) all;
    }

pub returns-then-start-text-clause-value : goal.returns-then-start-text-clause-value
returns-then-start-text-clause-value c =
    let past = start-past (c.args.line - c.lines.done) c.lines.start c.args.text.now (omega arith) in
    omega (arith, past, c.lines.invariant.value)

pub lines-preserved : goal.lines-preserved
lines-preserved c =
    let text = c.args.text.now in
    let start = c.lines.start in
    let size : c.whole_size-start.result ≡ whole_size (drop start text) = c.whole_size-start.ensures.value ∙ ap whole_size (take_rest text start) in
    let more : c.lines.done < c.args.line = omega arith in
    let step = start-step c.args.line c.lines.done start text more in
    let next : line_start (c.args.line - (c.lines.done + 1)) (drop (start + c.whole_size-start.result) text) ≡ line_start (c.args.line - (c.lines.done + 1)) (drop (start + whole_size (drop start text)) text) =
    λ i. line_start (c.args.line - (c.lines.done + 1)) (drop (start + size i) text) in
    record {
      within = omega (arith, c.whole_size-start.ensures.within, ap length (take_rest text start), length-drop start text, c.lines.invariant.within);
      value = omega (arith, step, next, size, c.lines.invariant.value);
    }

pub returns-clause-value : goal.returns-clause-value
returns-clause-value c =
    let none : c.args.line - c.lines.done ≡ 0 = omega arith in
    let zero = ap (λ n. line_start n (drop c.lines.start c.args.text.now)) none ∙ start-zero (drop c.lines.start c.args.text.now) in
    omega (arith, zero, c.lines.invariant.value)
