use Rattle.std.proofs.Common.{◌≡◌, ◌+◌, ◌-◌, ◌<◌, length, drop, arith}
use Rattle.bstr.specs.Utf8.{decoded, pieces}
use Rattle.idl_editor.specs.Columns.{run_size, units}
use Rattle.idl_editor.proofs.ColumnLemmas.{piece-size, piece-units, piece-within, run-end, run-more, run-stops}
use Rattle.idl_editor.proofs.column.column_of.Goals as goal

pub returns-then-units-left-clause-value : goal.returns-then-units-left-clause-value
returns-then-units-left-clause-value c =
    let line = c.args.line.now in
    let within : c.pieces.column < length line = omega arith in
    let taken = piece-units c.args.encoding line c.pieces.column c.decode-character.result.1 c.units-units.result c.decode-character.result.0 c.decode-character.ensures.char c.decode-character.ensures.size c.units-units.ensures.value in
    let stops = run-stops c.args.encoding c.pieces.left c.pieces.column line within (omega (arith, taken)) in
    omega (arith, stops, c.pieces.invariant.value)

pub overflow_add-column : goal.overflow_add-column
overflow_add-column c =
    let line = c.args.line.now in
    let size = piece-size line c.pieces.column c.decode-character.result.1 c.decode-character.ensures.size in
    let fits = piece-within line c.pieces.column (omega arith) in
    omega (arith, size, fits.1)

pub pieces-smaller : goal.pieces-smaller
pieces-smaller c =
    let line = c.args.line.now in
    let size = piece-size line c.pieces.column c.decode-character.result.1 c.decode-character.ensures.size in
    let fits = piece-within line c.pieces.column (omega arith) in
    let less : length line - (c.pieces.column + c.decode-character.result.1) < length line - c.pieces.column = omega (arith, size, fits.0, fits.1) in
    less

pub pieces-preserved : goal.pieces-preserved
pieces-preserved c =
    let line = c.args.line.now in
    let column = c.pieces.column in
    let piece = decoded (drop column line) in
    let within : column < length line = omega arith in
    let size = piece-size line column c.decode-character.result.1 c.decode-character.ensures.size in
    let taken = piece-units c.args.encoding line column c.decode-character.result.1 c.units-units.result c.decode-character.result.0 c.decode-character.ensures.char c.decode-character.ensures.size c.units-units.ensures.value in
    let fits = piece-within line column within in
    let more = run-more c.args.encoding c.pieces.left column line within (omega (arith, taken)) in
    let next : run_size c.args.encoding (c.pieces.left - c.units-units.result) (pieces (drop (column + c.decode-character.result.1) line))
    ≡ run_size c.args.encoding (c.pieces.left - units c.args.encoding piece) (pieces (drop (column + piece.size) line)) =
    λ i. run_size c.args.encoding (c.pieces.left - taken i) (pieces (drop (column + size i) line)) in
    record {
      within = omega (arith, size, fits.1);
      value = omega (arith, more, next, size, c.pieces.invariant.value);
    }

pub returns-clause-value : goal.returns-clause-value
returns-clause-value c =
    let ends = run-end c.args.encoding c.pieces.left c.pieces.column c.args.line.now (omega arith) in
    omega (arith, ends, c.pieces.invariant.value)
