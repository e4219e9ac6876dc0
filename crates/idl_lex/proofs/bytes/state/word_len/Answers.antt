use Rattle.std.proofs.Common.{◌∙◌, arith, sym}
use Rattle.idl_lex.specs.declared.bytes.state.Inside.TheVariants.{Word}
use Rattle.idl_lex.proofs.PieceLemmas.{taken-end}
use Rattle.idl_lex.proofs.KindLaws.WordLemmas.{taken-word-more, taken-word-stop}
use Rattle.idl_lex.proofs.bytes.state.word_len.Goals as goal

pub returns-then-not-is_word_byte-clause-len : goal.returns-then-not-is_word_byte-clause-len
returns-then-not-is_word_byte-clause-len c =
    let stop = taken-word-stop c.args.bytes.now c.loop-i.i c.loop-i-test.true (sym c.is_word_byte.ensures ∙ c.if-not-is_word_byte.true) in
    let inv = c.loop-i.invariant in
    omega (arith, stop, inv)

pub loop-i-preserved : goal.loop-i-preserved
loop-i-preserved c =
    let more = taken-word-more c.args.bytes.now c.loop-i.i c.loop-i-test.true (sym c.is_word_byte.ensures ∙ c.if-not-is_word_byte.false) in
    let inv = c.loop-i.invariant in
    omega (arith, more, inv)

pub returns-clause-len : goal.returns-clause-len
returns-clause-len c =
    let end = taken-end Word c.args.bytes.now c.loop-i.i c.loop-i-test.false in
    let inv = c.loop-i.invariant in
    omega (arith, end, inv)
