use Rattle.std.proofs.Common.{◌≡◌, ◌<◌, ◌++◌, ◌∷◌, ◌∙◌, ◌+◌, [], ap, sym, subst, arith, rules, length, take}
use Rattle.std.proofs.lemmas.List.{nil_from_length, take_all}
use Rattle.idl_session.specs.Reading.{IsReading}
use Rattle.idl_session.specs.Streams.{Stream, stream_of}
use Rattle.idl_loader.proofs.ReplyLemmas.{on_err}
use Rattle.idl_session.proofs.SearchLemmas.{whole-line, line-before, newline-behind, line-all}
use Rattle.idl_session.proofs.StreamLemmas.{fed-taken, fed-nearer, reading-more, reading-newline, reading-end, reading-fails}
use Rattle.idl_session.proofs.line_buffer.read_line.Goals as goal

pub returns-in_err-fill-clause-fails : goal.returns-in_err-fill-clause-fails
returns-in_err-fill-clause-fails g c = on_err c.from_residual.result (reading-fails g.row.N _ _ _ c.parts.line c.parts.any c.parts.invariant.reading c.in_err-fill.ensures.none)

pub returns-then-is_empty-clause-line : goal.returns-then-is_empty-clause-line
returns-then-is_empty-clause-line g c =
    let count : length c.bytes-bytes.result.now ≡ 0 = search rules in
    let none : c.fill.new.self.bytes ≡ [] = sym c.bytes-bytes.ensures ∙ nil_from_length c.bytes-bytes.result.now count in
    let over = c.in_ok-fill.ensures.end none in
    reading-end g.row.N _ _ _ c.parts.line c.parts.any c.parts.invariant.reading over.0 over.1

pub extend-requires : goal.extend-requires
extend-requires g c = (search rules, line-before c.bytes-bytes.result.now c.in-Some.place (omega (arith, c.in-Some.ensures.0.high)) c.in-Some.ensures.0.before)

pub returns-in-Some-clause-line : goal.returns-in-Some-clause-line
returns-in-Some-clause-line g c =
    let bytes = c.bytes-bytes.result.now in
    let place = c.in-Some.place in
    let first = c.in-Some.ensures in
    let some : 0 < length c.fill.new.self.bytes = omega (arith, first.0.high, ap length c.bytes-bytes.ensures) in
    let old = stream_of (g.S.Source.remaining c.args.source.now) c.args.feed.now in
    let rest = g.S.Source.remaining c.fill.new.source in
    let reading = subst (λ (s : Stream). IsReading g.row.N old s c.parts.line c.parts.any) (c.in_ok-fill.ensures.same some) c.parts.invariant.reading in
    let one_line = line-all (take place bytes) (line-before bytes place (omega (arith, first.0.high)) first.0.before) in
    let front = ap (take (place + 1)) (sym c.bytes-bytes.ensures) ∙ newline-behind bytes place first.0.high first.1 in
    reading-newline g.row.N old (stream_of rest c.fill.new.self) (stream_of rest c.take.new.self) c.parts.line c.extend.new.self c.parts.any (take place bytes) reading
    (fed-taken rest c.fill.new.self c.take.new.self (place + 1) (take place bytes ++ 10 ∷ []) front c.take.ensures) one_line c.extend.ensures

pub extend-requires-in-parts : goal.extend-requires-in-parts
extend-requires-in-parts g c = (search rules, whole-line c.bytes-bytes.result.now c.in_default.ensures)

pub parts-preserved : goal.parts-preserved
parts-preserved g c =
    let bytes = c.bytes-bytes.result.now in
    let more : 0 < length bytes = search rules in
    let some : 0 < length c.fill.new.self.bytes = omega (arith, more, ap length c.bytes-bytes.ensures) in
    let old = stream_of (g.S.Source.remaining c.args.source.now) c.args.feed.now in
    let rest = g.S.Source.remaining c.fill.new.source in
    let reading = subst (λ (s : Stream). IsReading g.row.N old s c.parts.line c.parts.any) (c.in_ok-fill.ensures.same some) c.parts.invariant.reading in
    let one_line = line-all bytes (whole-line bytes c.in_default.ensures) in
    let all = ap (take (length bytes)) (sym c.bytes-bytes.ensures) ∙ take_all (length bytes) bytes (omega arith) in
    let nearer = fed-nearer (g.S.Source.reads_left c.fill.new.source) (length bytes) c.fill.new.self c.take-in-parts.new.self more some c.take-in-parts.ensures in
    record {
      reading = reading-more g.row.N old (stream_of rest c.fill.new.self) (stream_of rest c.take-in-parts.new.self) c.parts.line c.extend-in-parts.new.self c.parts.any bytes reading
          (fed-taken rest c.fill.new.self c.take-in-parts.new.self (length bytes) bytes all c.take-in-parts.ensures) one_line c.extend-in-parts.ensures more;
      nearer = omega (arith, nearer, c.in_ok-fill.ensures.nearer, c.parts.invariant.nearer);
      moved = λ _. omega (arith, nearer, c.in_ok-fill.ensures.nearer, c.parts.invariant.nearer);
      failures = c.in_ok-fill.ensures.ok ∙ c.parts.invariant.failures;
    }
