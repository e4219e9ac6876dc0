use Rattle.std.proofs.Common.{◌≡◌, ◌∙◌, ◌+◌, ◌*◌, ap, arith, drop, get_or, sym}
use Rattle.std.proofs.lemmas.List.{drop_more, drop_all}
use Rattle.idl_lex.specs.bytes.Byte.{digit_value}
use Rattle.idl_lex.specs.kinds.Number.{number}
use Rattle.idl_lex.proofs.KindLaws.NumberLemmas.{continued, le-continued}
use Rattle.idl_lex.proofs.kinds.number.number.Goals as goal

pub returns-in-None-clause-none : goal.returns-in-None-clause-none
returns-in-None-clause-none c =
    let base = c.args.base in
    let digits = c.args.digits.now in
    let value = c.loop-b.value in
    let i = c.loop-b.b-index in
    let next = value * base + digit_value (get_or digits i 0) in
    let same : continued base next (drop (i + 1) digits) ≡ number base digits =
    ap (continued base value) (sym (drop_more digits i 0 c.loop-b-test.true)) ∙ c.loop-b.invariant.same in
    let least = le-continued base next (drop (i + 1) digits) c.requires in
    omega (arith, same, least, c.in-None.ensures.none, c.digit_value.ensures.value)

pub returns-clause-some : goal.returns-clause-some
returns-clause-some c =
    sym (ap (continued c.args.base c.loop-b.value) (drop_all c.loop-b.b-index c.args.digits.now c.loop-b-test.false)) ∙ c.loop-b.invariant.same
