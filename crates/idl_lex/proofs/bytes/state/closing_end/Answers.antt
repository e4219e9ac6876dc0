use Rattle.std.proofs.Common.{◌∙◌, ◌+◌, drop, ap, sym}
use Rattle.idl_lex.specs.bytes.Scan.{closing_end}
use Rattle.idl_lex.proofs.KindLaws.HeaderLemmas.{ended_at, ended_at-greater, ended_at-next, ended_at-end}
use Rattle.idl_lex.proofs.bytes.state.closing_end.Goals as goal
use Rattle.idl_lex.proofs.bytes.state.closing_end.Goals.{then-b-eq62, else-b-eq62}

pub loop-i-preserved : goal.loop-i-preserved
loop-i-preserved c =
    let bytes = c.args.bytes.now in
    let i = c.loop-i.i in
    let rest = closing_end (drop (i + 1) bytes) in
    elim c.if-b-eq62.branch [
      | then-b-eq62 w ↦ ap (λ end. ended_at end (i + 1) rest) w.end-is ∙ ended_at-greater bytes c.loop-i.end i c.loop-i-test.true w.if-b-eq62.true ∙ c.loop-i.invariant
      | else-b-eq62 w ↦ ap (λ end. ended_at end (i + 1) rest) w.end-is ∙ ended_at-next bytes c.loop-i.end i c.loop-i-test.true w.if-b-eq62.false ∙ c.loop-i.invariant
    ]

pub returns : goal.returns
returns c = sym (ended_at-end c.args.bytes.now c.loop-i.end c.loop-i.i c.loop-i-test.false) ∙ c.loop-i.invariant
