use Rattle.std.proofs.Common.{◌≡◌, ◌∙◌, [], ap, arith, length, length-drop, sym}
use Rattle.std.proofs.lemmas.List.{take_rest}
use Rattle.idl_lex.proofs.ColumnLemmas.{left_of-next, left_of-none, no_lines}
use Rattle.idl_lex.specs.bytes.Columns.{bytes_left}
use Rattle.idl_lex.proofs.bytes.text_left.TextLeft.split_first.Goals as goal

pub returns-in_default : goal.returns-in_default
returns-in_default c =
    let passed : bytes_left c.lines.here ≡ [] = c.is_passed.ensures.0 c.lines-test.true in
    sym c.lines.invariant.text ∙ left_of-none c.lines.here c.lines.later.now passed (no_lines c.lines.later.now c.in_default.len_below)

pub lines-preserved : goal.lines-preserved
lines-preserved c =
    let later = c.lines.later.now in
    let rest = take_rest later 1 in
    let passed : bytes_left c.lines.here ≡ [] = c.is_passed.ensures.0 c.lines-test.true in
    let new = c.new-here.ensures in
    record {
      text =
          left_of-next c.lines.here c.new-here.result c.next-item.result later _ passed c.in-len1-up.len_at_least c.next-item.is rest new.number new.all
          ∙ c.lines.invariant.text;
      few = omega (arith, c.lines.invariant.few, c.in-len1-up.len_at_least, new.number, ap length rest, length-drop 1 later);
    }
