use Rattle.std.proofs.Common.{◌∷◌, ◌++◌, ◌∙◌, ◌+◌, ap, sym, arith, take, []}
use Rattle.idl_session.proofs.AnnouncedLemmas.{gathers-kept}
use Rattle.idl_session.proofs.SearchLemmas.{line-before, newline-behind, line-all}
use Rattle.idl_session.proofs.StreamLemmas.{fed-taken, whole_line-taken}
use Rattle.idl_session.specs.Lines.{line_within}
use Rattle.idl_session.specs.Streams.{stream_of}
use Rattle.idl_session.proofs.announced.take_whole.Goals as goal

pub returns-clause-taken : goal.returns-clause-taken
returns-clause-taken c = λ rest.
    let bytes = c.bytes-bytes.result.now in
    let place = c.in-Some.place in
    let first = c.in-Some.ensures in
    let line = take place bytes in
    let one_line = line-all line (line-before bytes place (omega (arith, first.0.high)) first.0.before) in
    let front = ap (take (place + 1)) (sym c.bytes-bytes.ensures) ∙ newline-behind bytes place first.0.high first.1 in
    let taken = fed-taken rest c.args.feed.now c.take.new.self (place + 1) (line ++ 10 ∷ []) front c.take.ensures in
    let took = whole_line-taken 4096 _ (stream_of rest c.take.new.self) line taken one_line in
    gathers-kept _ _ (line_within 4096 line) _ c.args.announced.now c.take_line.new.announced took c.within_limit.ensures c.take_line.ensures
