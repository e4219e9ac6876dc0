use Rattle.std.proofs.Common.{sym, subst, ◌∙◌, true≢false}
use Rattle.idl_disk.specs.Extent.{Measures}
use Rattle.idl_disk.specs.Reading.{ArePastLimits}
use Rattle.idl_disk.proofs.ReadingLemmas.{all-read, consumed-none, got-of, goes-on-in, none-in, passed-in, past-read}
use Rattle.idl_disk.proofs.reading.read_file.Goals as goal

pub returns-then-count-eq0 : goal.returns-then-count-eq0
returns-then-count-eq0 g c =
    let here = c.pieces.invariant in
    let read = c.in_ok-count.ensures.bytes in
    all-read (g.R.Read.remaining c.args.reader.now) (g.R.Read.remaining c.read_piece.new.reader) c.pieces.bytes.items c.in_ok-text.text.items
    (consumed-none _ (g.R.Read.remaining c.pieces.reader) _ c.pieces.bytes.items c.read_piece.new.piece c.in_ok-count.count here.1 read.0 c.if-count-eq0.true)
    (read.1 c.if-count-eq0.true) here.2 c.in_ok-text.ensures

pub returns-then-is_over : goal.returns-then-is_over
returns-then-is_over g c =
    let here = c.pieces.invariant in
    let bytes = c.pieces.bytes.items in
    let piece = c.read_piece.new.piece in
    let count = c.in_ok-count.count in
    let w = c.add-within.result in
    let new = c.extend_from_slice.new.self.items in
    let got = got-of bytes piece new count w c.in_ok-extend_from_slice.ensures.items c.add-within.ensures.within in
    let measured = subst (λ l. Measures l c.add-within.new.self) (sym got) (c.add-within.ensures.measures bytes here.0) in
    let past = (c.is_over.ensures.over new measured).0 c.if-is_over.true in
    past-read (g.R.Read.remaining c.args.reader.now) new past
    (passed-in (g.R.Read.remaining c.args.reader.now) (g.R.Read.remaining c.pieces.reader) (g.R.Read.remaining c.read_piece.new.reader) bytes piece new count w
    here.1 c.in_ok-count.ensures.bytes.0 got c.add-within.ensures.within past here.2 (c.add-within.ensures.first bytes here.0))

pub pieces-preserved : goal.pieces-preserved
pieces-preserved g c =
    let here = c.pieces.invariant in
    let bytes = c.pieces.bytes.items in
    let piece = c.read_piece.new.piece in
    let count = c.in_ok-count.count in
    let w = c.add-within.result in
    let new = c.extend_from_slice.new.self.items in
    let got = got-of bytes piece new count w c.in_ok-extend_from_slice.ensures.items c.add-within.ensures.within in
    let measured = subst (λ l. Measures l c.add-within.new.self) (sym got) (c.add-within.ensures.measures bytes here.0) in
    let not_past : ArePastLimits new → ⊥ = λ past. true≢false (sym ((c.is_over.ensures.over new measured).1 past) ∙ c.if-is_over.false) in (
      measured,
      goes-on-in (g.R.Read.remaining c.args.reader.now) (g.R.Read.remaining c.pieces.reader) (g.R.Read.remaining c.read_piece.new.reader) bytes piece new count w
          here.1 c.in_ok-count.ensures.bytes.0 got (c.add-within.ensures.end bytes here.0) not_past,
      none-in bytes piece new count w got c.add-within.ensures.within not_past here.2 (c.add-within.ensures.first bytes here.0),
    )
