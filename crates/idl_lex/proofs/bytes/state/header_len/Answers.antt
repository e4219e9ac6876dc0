use Rattle.std.proofs.Common.{◌∙◌, ◌+◌, ap, sym}
use Rattle.std.specs.Option.{option_map}
use Rattle.idl_lex.proofs.CountLemmas.{counted-suc}
use Rattle.idl_lex.proofs.PieceLemmas.{header_len-newline, header_len-greater, header_len-next, header_len-end}
use Rattle.idl_lex.proofs.bytes.state.header_len.Goals as goal

pub returns-then-b-eq-NEWLINE-clause-len : goal.returns-then-b-eq-NEWLINE-clause-len
returns-then-b-eq-NEWLINE-clause-len c =
    sym (ap (option_map (λ n. c.loop-i.i + n)) (header_len-newline c.args.rest.now c.loop-i.i c.loop-i-test.true c.if-b-eq-NEWLINE.true)) ∙ c.loop-i.invariant

pub returns-then-b-eq62-clause-len : goal.returns-then-b-eq62-clause-len
returns-then-b-eq62-clause-len c =
    sym (ap (option_map (λ n. c.loop-i.i + n)) (header_len-greater c.args.rest.now c.loop-i.i c.loop-i-test.true c.if-b-eq62.true)) ∙ c.loop-i.invariant

pub loop-i-preserved : goal.loop-i-preserved
loop-i-preserved c =
    sym (ap (option_map (λ n. c.loop-i.i + n)) (header_len-next c.args.rest.now c.loop-i.i c.loop-i-test.true c.if-b-eq-NEWLINE.false c.if-b-eq62.false)
    ∙ counted-suc c.loop-i.i _)
    ∙ c.loop-i.invariant

pub returns-clause-len : goal.returns-clause-len
returns-clause-len c =
    sym (ap (option_map (λ n. c.loop-i.i + n)) (header_len-end c.args.rest.now c.loop-i.i c.loop-i-test.false)) ∙ c.loop-i.invariant
