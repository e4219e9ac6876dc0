use Rattle.std.proofs.Common.{◌<◌, ◌+◌, ◌-◌, ◌*◌, ◌∙◌, ap, sym, arith, drop, get_or, length}
use Rattle.std.proofs.lemmas.List.{drop_more}
use Rattle.idl_syntax.proofs.VersionLemmas.{number_from, number-from, from-digit, from-large}
use Rattle.idl_syntax.proofs.version.version_number.Goals as goal

pub returns-then-value-gt-MAX_NUMBER : goal.returns-then-value-gt-MAX_NUMBER
returns-then-value-gt-MAX_NUMBER c =
    let bytes = c.args.bytes.now in
    let i = c.loop-b.b-index in
    let b = get_or bytes i 0 in
    let some : 0 < length bytes = omega arith in
    let large : 65535 < c.loop-b.value * 10 + (b - 48) = omega arith in
    sym (number-from bytes some
    ∙ c.loop-b.invariant.0
    ∙ ap (number_from c.loop-b.value) (drop_more bytes i 0 (omega arith))
    ∙ from-digit c.loop-b.value b (drop (i + 1) bytes) (sym c.is_digit.ensures ∙ c.if-not-is_digit.false)
    ∙ from-large (c.loop-b.value * 10 + (b - 48)) (drop (i + 1) bytes) large)
