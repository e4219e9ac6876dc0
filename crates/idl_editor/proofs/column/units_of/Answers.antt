use Rattle.std.proofs.Common.{◌≡◌, ◌+◌, ◌-◌, ◌<◌, length, drop, arith}
use Rattle.bstr.specs.Utf8.{decoded, pieces}
use Rattle.idl_editor.specs.Columns.{run_units}
use Rattle.idl_editor.proofs.ColumnLemmas.{piece-size, piece-units, piece-within, units-end, units-more}
use Rattle.idl_editor.proofs.column.units_of.Goals as goal

pub overflow_add-count : goal.overflow_add-count
overflow_add-count c =
    let bytes = c.args.bytes.now in
    let size = piece-size bytes c.pieces.column c.decode-character.result.1 c.decode-character.ensures.size in
    let fits = piece-within bytes c.pieces.column (omega arith) in
    let few = c.units-count.ensures.few (omega (arith, size, fits.0)) in
    omega (arith, size, fits.1, few, c.pieces.invariant.few)

pub overflow_add-column : goal.overflow_add-column
overflow_add-column c =
    let bytes = c.args.bytes.now in
    let size = piece-size bytes c.pieces.column c.decode-character.result.1 c.decode-character.ensures.size in
    let fits = piece-within bytes c.pieces.column (omega arith) in
    omega (arith, size, fits.1)

pub pieces-smaller : goal.pieces-smaller
pieces-smaller c =
    let bytes = c.args.bytes.now in
    let size = piece-size bytes c.pieces.column c.decode-character.result.1 c.decode-character.ensures.size in
    let fits = piece-within bytes c.pieces.column (omega arith) in
    let less : length bytes - (c.pieces.column + c.decode-character.result.1) < length bytes - c.pieces.column = omega (arith, size, fits.0, fits.1) in
    less

pub pieces-preserved : goal.pieces-preserved
pieces-preserved c =
    let bytes = c.args.bytes.now in
    let column = c.pieces.column in
    let piece = decoded (drop column bytes) in
    let within : column < length bytes = omega arith in
    let size = piece-size bytes column c.decode-character.result.1 c.decode-character.ensures.size in
    let taken = piece-units c.args.encoding bytes column c.decode-character.result.1 c.units-count.result c.decode-character.result.0 c.decode-character.ensures.char c.decode-character.ensures.size c.units-count.ensures.value in
    let fits = piece-within bytes column within in
    let few = c.units-count.ensures.few (omega (arith, size, fits.0)) in
    let more = units-more c.args.encoding column bytes within in
    let next : run_units c.args.encoding (pieces (drop (column + c.decode-character.result.1) bytes)) ≡ run_units c.args.encoding (pieces (drop (column + piece.size) bytes)) =
    λ i. run_units c.args.encoding (pieces (drop (column + size i) bytes)) in
    record {
      within = omega (arith, size, fits.1);
      few = omega (arith, few, c.pieces.invariant.few);
      value = omega (arith, more, next, taken, c.pieces.invariant.value);
    }

pub returns : goal.returns
returns c =
    let ends = units-end c.args.encoding c.pieces.column c.args.bytes.now (omega arith) in
    omega (arith, ends, c.pieces.invariant.value)
