use Rattle.std.proofs.Common.{◌∙◌, ◌+◌, ap, arith, sym}
use Rattle.std.specs.Option.{option_map}
use Rattle.idl_lex.proofs.KindLaws.LiteralLemmas.{closing-after-escaped, closing-after-plain, closing-found, closing-end}
use Rattle.idl_lex.proofs.kinds.literal.closing.Goals as goal
use Rattle.idl_lex.proofs.kinds.literal.closing.Goals.{then-is_escaped, else-is_escaped+else-rest-i}

pub returns-then-rest-i-clause-len : goal.returns-then-rest-i-clause-len
returns-then-rest-i-clause-len c =
    sym (closing-found c.args.quote c.bytes.is_escaped c.args.rest.now c.bytes.i c.bytes-test.true c.if-is_escaped.false c.if-rest-i.true) ∙ c.bytes.invariant.same

pub bytes-preserved : goal.bytes-preserved
bytes-preserved c =
    let lt = c.bytes-test.true in
    record {
      within = omega (arith, lt);
      same = elim c.if-is_escaped.branch [
        | then-is_escaped w ↦ closing-after-escaped c.args.quote c.bytes.is_escaped c.if-is_escaped.is_escaped c.args.rest.now c.bytes.i lt w.if-is_escaped.true w.is_escaped-is
            ∙ c.bytes.invariant.same
        | else-is_escaped+else-rest-i w ↦ closing-after-plain c.args.quote c.bytes.is_escaped c.if-is_escaped.is_escaped c.args.rest.now c.bytes.i lt w.if-is_escaped.false w.if-rest-i.false w.is_escaped-is
            ∙ c.bytes.invariant.same
      ];
    }

pub returns-clause-len : goal.returns-clause-len
returns-clause-len c =
    sym (ap (option_map (λ n. c.bytes.i + n)) (closing-end c.args.quote c.bytes.is_escaped c.args.rest.now c.bytes.i c.bytes-test.false)) ∙ c.bytes.invariant.same
